-- One term more.
use Rattle.std.proofs.Common.{rules, ◌≡◌, ◌++◌, ◌∷◌, [], ℤ, FitsSigned, get_or, subst, length}
use Rattle.std.specs.Prelude.{slice_set}
use Rattle.std.specs.Int.{w128}
use Rattle.std.proofs.lemmas.Int.{to_z-of_z}
use Rattle.dual_check.proofs.Turned.{put_next}
use Rattle.dual_check.proofs.by_columns.push_row.Goals as goal

pub loop-term-preserved : goal.loop-term-preserved
loop-term-preserved c =
    let lists = c.loop-term.lists in
    let t = c.in-Some.term.now in
    let fits : FitsSigned w128 t.1 = search rules in
    let next : c.push_number.new.lists ≡ slice_set lists t.0 (get_or lists t.0 [] ++ (c.args.row, t.1) ∷ []) =
    subst (λ (z : ℤ). c.push_number.new.lists ≡ slice_set lists t.0 (get_or lists t.0 [] ++ (c.args.row, z) ∷ [])) (to_z-of_z w128 t.1 fits) c.in_ok-push_number.ensures in
    put_next (length c.args.lists.now) c.args.row c.args.lists.now lists c.push_number.new.lists t c.in-Some.others.now c.loop-term.rest.now c.args.terms.now c.loop-term.invariant c.in-Some.ensures.cases.0 next
