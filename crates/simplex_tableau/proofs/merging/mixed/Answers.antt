-- A turn merges the next place; a number that does not fit ends the merge; without a next place all is merged.
use Rattle.std.proofs.Common.{◌≡◌, Some, None}
use Rattle.simplex_tableau.specs.Merging.{mixed_number, head_number, next_of}
use Rattle.simplex_tableau.proofs.MergeLaws.{merge_wide, merge_goes, merge_ends}
use Rattle.simplex_tableau.proofs.merging.mixed.Goals as goal

pub returns-in_default-number_of : goal.returns-in_default-number_of
returns-in_default-number_of c =
    let place : next_of c.loop-place.first.now c.loop-place.second.now ≡ Some c.in-Some.place = cc (c.next_place.ensures, c.in-Some.is) in
    let none : mixed_number c.args.a c.args.b (head_number c.loop-place.first.now c.in-Some.place) (head_number c.loop-place.second.now c.in-Some.place) ≡ None =
    cc (c.number_of.ensures, c.in_default-number_of.is, c.first_number-x.ensures, c.first_number-y.ensures) in
    merge_wide c.args.a c.args.b c.args.f.now c.args.h.now c.loop-place.out.items c.loop-place.first.now c.loop-place.second.now c.in-Some.place c.loop-place.invariant place none

pub loop-place-preserved : goal.loop-place-preserved
loop-place-preserved c =
    let place : next_of c.loop-place.first.now c.loop-place.second.now ≡ Some c.in-Some.place = cc (c.next_place.ensures, c.in-Some.is) in
    let number : mixed_number c.args.a c.args.b (head_number c.loop-place.first.now c.in-Some.place)
    (head_number c.loop-place.second.now c.in-Some.place) ≡ Some c.in-Some-number_of.number =
    cc (c.number_of.ensures, c.in-Some-number_of.is, c.first_number-x.ensures, c.first_number-y.ensures) in
    let goes = merge_goes c.args.a c.args.b c.args.f.now c.args.h.now c.loop-place.out.items c.loop-place.first.now c.loop-place.second.now c.in-Some.place c.in-Some-number_of.number c.loop-place.invariant place number in
    rw (c.in_ok-push_number.ensures, c.after-first.ensures, c.after-second.ensures) goes

pub returns : goal.returns
returns c =
    let none : next_of c.loop-place.first.now c.loop-place.second.now ≡ None = cc (c.next_place.ensures, c.in_default.is) in
    merge_ends c.args.a c.args.b c.args.f.now c.args.h.now c.loop-place.out.items c.loop-place.first.now c.loop-place.second.now c.loop-place.invariant none
