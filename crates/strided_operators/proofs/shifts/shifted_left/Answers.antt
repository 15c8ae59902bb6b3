use Rattle.std.proofs.Common.{◌≡◌, ◌≤◌, ◌-◌, arith, sym, ◌∙◌, true, false}
use Rattle.std.specs.Prelude.{◌-ℤ◌, int_le}
use Rattle.std.proofs.lemmas.Int.{ints}
use Rattle.progressions.specs.Progressions.{IsPlaced, full}
use Rattle.strided_rules.specs.PlacedLaws.{norm_placed}
use Rattle.strided_operators.specs.Limits.{CanPlace}
use Rattle.strided_operators.proofs.Shifted.{IsShifted, round_shift, low_shift, shifted, near_fits, shifted_places}
use Rattle.strided_operators.proofs.shifts.shifted_left.Goals as goal

-- the numbers of the rest, shifted
low_placed : (c : goal.After-power-else-at_most) → IsPlaced (c.args.size - c.args.bits) c.normed-low.result
low_placed c =
    let some : 1 ≤ c.args.size - c.args.bits = omega (arith, c.requires.below) in
    rw c.normed-low.ensures (norm_placed (c.args.size - c.args.bits) c.args.p.now some c.requires.p.progression)

low_shifted : (c : goal.After-power-else-at_most) → IsShifted c.args.bits c.normed-low.result
low_shifted c = shifted c.args.size c.args.bits c.normed-low.result c.requires.below c.requires.most (low_placed c)

pub multiples-multiples-requires-clause-lo : goal.multiples-multiples-requires-clause-lo
multiples-multiples-requires-clause-lo c = rw c.power-else-at_most.ensures.value (near_fits _ (low_shifted c).lo)

pub multiples-multiples-requires-clause-hi : goal.multiples-multiples-requires-clause-hi
multiples-multiples-requires-clause-hi c = rw c.power-else-at_most.ensures.value (near_fits _ (low_shifted c).hi)

pub multiples-multiples-requires-clause-step : goal.multiples-multiples-requires-clause-step
multiples-multiples-requires-clause-step c = rw c.power-else-at_most.ensures.value (near_fits _ (low_shifted c).step)

multiples_place : (c : goal.After-multiples-1) → CanPlace c.multiples-multiples.result
multiples_place c =
    let some : 1 ≤ c.args.size - c.args.bits = omega (arith, c.requires.below) in
    let placed : IsPlaced (c.args.size - c.args.bits) c.normed-low.result = rw c.normed-low.ensures (norm_placed (c.args.size - c.args.bits) c.args.p.now some c.requires.p.progression) in
    rw (c.multiples-multiples.ensures, c.power-else-at_most.ensures.value)
    (shifted_places c.args.bits c.normed-low.result placed.progression (shifted c.args.size c.args.bits c.normed-low.result c.requires.below c.requires.most placed))

pub normed-requires-clause-order : goal.normed-requires-clause-order
normed-requires-clause-order c = (multiples_place c).progression.order

pub normed-requires-clause-low : goal.normed-requires-clause-low
normed-requires-clause-low c = (multiples_place c).low

pub normed-requires-clause-high : goal.normed-requires-clause-high
normed-requires-clause-high c = (multiples_place c).high

pub returns-then-at_most : goal.returns-then-at_most
returns-then-at_most c =
    let round : int_le (full (c.args.size - c.args.bits)) (c.args.p.now.hi -ℤ c.args.p.now.lo) ≡ true = cc in
    c.whole.ensures ∙ sym (round_shift c.args.size c.args.bits c.args.p.now c.requires.below (omega (arith, ints, round)))

pub returns-else-at_most : goal.returns-else-at_most
returns-else-at_most c =
    let once : int_le (full (c.args.size - c.args.bits)) (c.args.p.now.hi -ℤ c.args.p.now.lo) ≡ false = cc in
    rw (c.normed.ensures, c.multiples-multiples.ensures, c.power-else-at_most.ensures.value, c.normed-low.ensures)
    (low_shift c.args.size c.args.bits c.args.p.now c.requires.below (omega (arith, ints, once)))
