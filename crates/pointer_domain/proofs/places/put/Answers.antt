use Rattle.std.proofs.Common.{◌≡◌, Some, slice_get, sym, refl, ap, subst, ◌∙◌, arith}
use Rattle.std.proofs.lemmas.Option.{slice_get_within}
use Rattle.pointer_domain.specs.Parts.{lower}
use Rattle.pointer_domain.proofs.Placed.{put_at, put_before, are_at}
use Rattle.pointer_domain.proofs.places.put.Goals as goal

pub join-requires : goal.join-requires
join-requires c =
    let there = subst (λ xs. slice_get xs c.lower_places-place.result ≡ Some (c.args.new.0, c.in-Some.old)) c.deref-2.ensures.value c.in-Some.ensures.there in
    (are_at c.args.places.now.items c.lower_places-place.result (c.args.new.0, c.in-Some.old) c.requires.places there).size ∙ sym c.requires.new.size

pub index_mut-requires : goal.index_mut-requires
index_mut-requires c =
    let low = slice_get_within c.deref-2.result.now c.lower_places-place.result (c.args.new.0, c.in-Some.old) c.in-Some.ensures.there in
    omega (arith, low, c.deref-2.ensures.len)

pub returns-in-Some : goal.returns-in-Some
returns-in-Some c =
    let there = subst (λ xs. slice_get xs c.lower_places-place.result ≡ Some (c.args.new.0, c.in-Some.old)) c.deref-2.ensures.value c.in-Some.ensures.there in
    let at : c.lower_places-place.result ≡ lower c.args.places.now.items c.args.new.0 = c.lower_places-place.ensures.count ∙ ap (λ xs. lower xs c.args.new.0) c.deref.ensures.value in
    let found = subst (λ k. slice_get c.args.places.now.items k ≡ Some (c.args.new.0, c.in-Some.old)) at there in
    rw (at, c.join.ensures) (sym (put_at c.args.places.now.items c.args.new (c.args.new.0, c.in-Some.old) found refl))

pub returns-in_ok-insert-in-None : goal.returns-in_ok-insert-in-None
returns-in_ok-insert-in-None c =
    let at : c.lower_places-place.result ≡ lower c.args.places.now.items c.args.new.0 = c.lower_places-place.ensures.count ∙ ap (λ xs. lower xs c.args.new.0) c.deref.ensures.value in
    c.in_ok-insert-in-None.ensures.items ∙ rw at (sym (put_before c.args.places.now.items c.args.new (λ place there. c.in-None.ensures.absent place (rw (c.deref-2.ensures.value, at) there))))
