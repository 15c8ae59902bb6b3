-- Parts of areas, and their inputs.
use Rattle.std.proofs.Common.{List, [], ◌∷◌, ◌++◌, All, ◌⊎◌, inl, inr, arith}
use Rattle.std.specs.Prelude.{ℤ}
use Rattle.std.proofs.lemmas.Int.{ints}
use Rattle.std.proofs.lemmas.List.Elements.{All-nil, All-cons, All-head, All-tail}
use lib.Signed.{≤ℤ_refl}
use Rattle.worst_inputs.specs.declared.area.Range.{Range}
use Rattle.worst_inputs.specs.Areas.{Area, IsIn, IsInside, IsRange, IsPartOf, IsPart}

-- an area is part of itself
pub part_itself : (area : Area) → All IsRange area → IsPart area area
part_itself [] ranges = tt
part_itself (range ∷ area) ranges = (
  record { ordered = (All-head IsRange range area ranges).ordered; least = ≤ℤ_refl range.low; most = ≤ℤ_refl range.high },
  part_itself area (All-tail IsRange range area ranges),
)

-- a part of a part is a part
pub part_farther : (a b c : Area) → IsPart a b → IsPart b c → IsPart a c
part_farther [] [] [] h k = tt
part_farther [] [] (z ∷ c) h k = absurd k
part_farther [] (y ∷ b) c h k = absurd h
part_farther (x ∷ a) [] c h k = absurd h
part_farther (x ∷ a) (y ∷ b) [] h k = absurd k
part_farther (x ∷ a) (y ∷ b) (z ∷ c) h k =
    let first = h.0 in let second = k.0 in
    (record { ordered = k.0.ordered; least = omega (arith, ints); most = omega (arith, ints) }, part_farther a b c h.1 k.1)

-- an input inside a part is inside the area
pub part_inside : (area part : Area) (input : List ℤ) → IsPart area part → IsInside part input → IsInside area input
part_inside [] [] [] h k = tt
part_inside [] [] (z ∷ input) h k = absurd k
part_inside [] (y ∷ part) input h k = absurd h
part_inside (x ∷ area) [] input h k = absurd h
part_inside (x ∷ area) (y ∷ part) [] h k = absurd k
part_inside (x ∷ area) (y ∷ part) (z ∷ input) h k =
    let first = h.0 in let second = k.0 in
    (record { least = omega (arith, ints); most = omega (arith, ints) }, part_inside area part input h.1 k.1)

-- the ranges of a part are ranges
pub part_ranges : (area part : Area) → All IsRange area → IsPart area part → All IsRange part
part_ranges [] [] ranges h = All-nil IsRange
part_ranges [] (y ∷ part) ranges h = absurd h
part_ranges (x ∷ area) [] ranges h = absurd h
part_ranges (x ∷ area) (y ∷ part) ranges h =
    let first = h.0 in let range = All-head IsRange x area ranges in
    All-cons IsRange y part (record { ordered = h.0.ordered; least = omega (arith, ints); most = omega (arith, ints) }) (part_ranges area part (All-tail IsRange x area ranges) h.1)

-- ---- one range changed

-- a part of one range makes a part
pub part_at : (before : Area) (range part : Range) (after : Area) → All IsRange (before ++ range ∷ after)
    → IsPartOf range part → IsPart (before ++ range ∷ after) (before ++ part ∷ after)
part_at [] range part after ranges h = (h, part_itself after (All-tail IsRange range after ranges))
part_at (first ∷ before) range part after ranges h = (
  record { ordered = (All-head IsRange first (before ++ range ∷ after) ranges).ordered; least = ≤ℤ_refl first.low; most = ≤ℤ_refl first.high },
  part_at before range part after (All-tail IsRange first (before ++ range ∷ after) ranges) h,
)

-- where each number of the range is in one of two, each input is inside one of two areas
pub inside_at : (before : Area) (range lower upper : Range) (after : Area)
    → ((number : ℤ) → IsIn range number → IsIn lower number ⊎ IsIn upper number)
    → (input : List ℤ) → IsInside (before ++ range ∷ after) input → IsInside (before ++ lower ∷ after) input ⊎ IsInside (before ++ upper ∷ after) input
inside_at [] range lower upper after either [] within = absurd within
inside_at [] range lower upper after either (number ∷ input) within = elim (either number within.0) [ inl low ↦ inl (low, within.1) | inr high ↦ inr (high, within.1) ]
inside_at (first ∷ before) range lower upper after either [] within = absurd within
inside_at (first ∷ before) range lower upper after either (number ∷ input) within =
    elim (inside_at before range lower upper after either input within.1) [ inl low ↦ inl (within.0, low) | inr high ↦ inr (within.0, high) ]

-- the ranges before and after
pub range_at : (before : Area) (range : Range) (after : Area) → All IsRange (before ++ range ∷ after) → IsRange range
range_at [] range after ranges = All-head IsRange range after ranges
range_at (first ∷ before) range after ranges = range_at before range after (All-tail IsRange first (before ++ range ∷ after) ranges)
