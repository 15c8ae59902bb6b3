-- Halves of an area that is no point.
use Rattle.std.proofs.Common.{◌≡◌, suc, List, [], ◌∷◌, ◌++◌, All, ◌⊎◌, inl, inr, sym, ap, subst, ◌∙◌, arith}
use Rattle.std.specs.Prelude.{ℤ, pos, negsuc, ◌+ℤ◌}
use Rattle.std.specs.Int.RustNames.{unsigned_abs}
use lib.IntN.{◌-ℤ◌}
use lib.Signed.{◌<ℤ◌}
use Rattle.std.proofs.lemmas.Int.{ints, by_lt_z}
use Rattle.std.proofs.lemmas.List.Elements.{All-nil, All-cons}
use Rattle.worst_inputs.specs.declared.area.Range.{Range}
use Rattle.worst_inputs.specs.Most.{most_by}
use Rattle.worst_inputs.specs.Areas.{Area, width_of, IsIn, IsInside, IsRange, IsPoint, IsPartOf, IsPart}
use Rattle.worst_inputs.specs.Boxes.{Halves, lower_of, upper_of}
use Rattle.worst_inputs.proofs.Parts.{part_at, inside_at, range_at}

no_size : (z : ℤ) → unsigned_abs z ≡ 0 → z ≡ pos 0
no_size (pos n) e = ap pos e
no_size (negsuc n) e = absurd (let f : suc n ≡ 0 = e in omega arith)

-- a range without width has one number
no_width : (range : Range) → width_of range ≡ 0 → range.low ≡ range.high
no_width range e = let z = no_size (range.high -ℤ range.low) e in omega (arith, ints)

-- an area without width is a point
pub flat : (area : Area) → most_by width_of area ≡ 0 → IsPoint area
flat [] e = All-nil (λ (range : Range). range.low ≡ range.high)
flat (range ∷ area) e =
    let here : width_of range ≡ 0 = omega arith in
    let there : most_by width_of area ≡ 0 = omega arith in
    All-cons (λ (r : Range). r.low ≡ r.high) range area (no_width range here) (flat area there)

module _ (area : Area) (halves : Halves area) (ranges : All IsRange area) (more : IsPoint area → ⊥) where
  whole : All IsRange (halves.before ++ halves.range ∷ halves.after)
  whole = subst (λ (a : Area). All IsRange a) halves.widest.is ranges

  is_range : IsRange halves.range
  is_range = range_at halves.before halves.range halves.after whole

  -- its widest range has two numbers
  apart : halves.range.low <ℤ halves.range.high
  apart = by_lt_z halves.range.low halves.range.high (λ less. less) (λ over.
      let ordered = is_range.ordered in
      let same : halves.range.high -ℤ halves.range.low ≡ pos 0 = omega (arith, ints) in
      absurd (more (flat area (sym halves.widest.most ∙ ap unsigned_abs same))))

  lower_range : IsPartOf halves.range (record { low = halves.range.low; high = halves.middle })
  lower_range = let less = apart in let half = halves.half in record { ordered = omega (arith, ints); least = omega (arith, ints); most = omega (arith, ints) }

  upper_range : IsPartOf halves.range (record { low = halves.middle +ℤ pos 1; high = halves.range.high })
  upper_range = let less = apart in let half = halves.half in record { ordered = omega (arith, ints); least = omega (arith, ints); most = omega (arith, ints) }

  -- both halves are parts
  pub lower_part : IsPart area (lower_of halves)
  lower_part = subst (λ (a : Area). IsPart a (lower_of halves)) (sym halves.widest.is) (part_at halves.before halves.range (record { low = halves.range.low; high = halves.middle }) halves.after whole lower_range)

  pub upper_part : IsPart area (upper_of halves)
  upper_part = subst (λ (a : Area). IsPart a (upper_of halves)) (sym halves.widest.is) (part_at halves.before halves.range (record { low = halves.middle +ℤ pos 1; high = halves.range.high }) halves.after whole upper_range)

  one_of_two : (number : ℤ) → IsIn halves.range number
      → IsIn (record { low = halves.range.low; high = halves.middle }) number
      ⊎ IsIn (record { low = halves.middle +ℤ pos 1; high = halves.range.high }) number
  one_of_two number within = by_lt_z halves.middle number
      (λ over. inr (record { least = omega (arith, ints); most = within.most }))
      (λ under. inl (record { least = within.least; most = under }))

  -- each input is inside one of them
  pub inside_one : (input : List ℤ) → IsInside area input
      → IsInside (lower_of halves) input ⊎ IsInside (upper_of halves) input
  inside_one input within =
      inside_at halves.before halves.range (record { low = halves.range.low; high = halves.middle }) (record { low = halves.middle +ℤ pos 1; high = halves.range.high }) halves.after one_of_two input
      (subst (λ (a : Area). IsInside a input) halves.widest.is within)
