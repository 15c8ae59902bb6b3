-- Tables keep the laws of bounders.
use Rattle.std.proofs.Common.{◌≡◌, ◌≤◌, ◌<◌, ◌+◌, ◌-◌, ℕ, zero, suc, List, [], ◌∷◌, length, length-take, length-drop, get_or, take, drop, slice_get, max, Some, refl, sym, ap, subst, ◌∙◌, arith}
use Rattle.std.specs.Prelude.{ℤ, pos, negsuc, ◌≤ℤ◌, slice_range}
use Rattle.std.specs.Int.RustNames.{unsigned_abs}
use lib.Signed.{◌<ℤ◌}
use Rattle.std.proofs.lemmas.Int.{ints}
use Rattle.std.proofs.lemmas.List.{get_or-take, get_or-drop, drop_more}
use Rattle.std.proofs.lemmas.List.Elements.{All-head}
use Rattle.std.proofs.lemmas.Option.{slice_get-get_or}
use Rattle.worst_inputs.specs.declared.area.Range.{Range}
use Rattle.worst_inputs.specs.declared.bounder.Bounded.{Bounded}
use Rattle.worst_inputs.specs.declared.bounder.Bounded.TheVariants.{At, Left}
use Rattle.worst_inputs.specs.Areas.{Area, IsInside, IsPoint, IsPart}
use Rattle.worst_inputs.specs.Bounders.{CostsAtMost, CostsExactly, IsBounding}
use Rattle.base_tests.specs.BoundTables.{with_bound, told_of_all, told_of, IsOfTable, HasCost, table_bounding}

at_is : (bound other : ℕ) → At bound ≡ At other → bound ≡ other
at_is bound other e = cc

at_not : (bound scope : ℕ) → At bound ≡ Left scope → ⊥
at_not bound scope e = cc

-- an entry with its bound
record IsAt (entry : Bounded) (most : ℕ) : Type 0 where
  bound : ℕ
  is : entry ≡ At bound
  low : bound ≤ most

-- what is told of a bound more
more_told : (bound : ℕ) (told : Bounded) (most : ℕ) → with_bound bound told ≡ At most
    → (other : ℕ) × (told ≡ At other) × (max bound other ≡ most)
more_told bound (At other) most e = (other, refl, at_is (max bound other) most e)
more_told bound (Left scope) most e = absurd (at_not most scope (sym e))

-- where all are told, each entry has a bound, no greater
each_told : (entries : List Bounded) (most : ℕ) → told_of_all entries ≡ At most → (k : ℕ) (d : Bounded)
    → k < length entries → IsAt (get_or entries k d) most
each_told [] most e k d low = absurd (omega arith)
each_told (At bound ∷ entries) most e zero d low = let more = more_told bound (told_of_all entries) most e in let m = more.2 in record { bound = bound; is = refl; low = omega arith }
each_told (At bound ∷ entries) most e (suc k) d low =
    let more = more_told bound (told_of_all entries) most e in
    let m = more.2 in
    let there = each_told entries more.0 more.1 k d (omega arith) in
    let l = there.low in
    record { bound = there.bound; is = there.is; low = omega arith }
each_told (Left scope ∷ entries) most e k d low = absurd (at_not most scope (sym e))

-- a number from 0 on
natural : (number : ℤ) → pos 0 ≤ℤ number → number ≡ pos (unsigned_abs number)
natural (pos n) h = refl
natural (negsuc n) h = absurd (let k : pos 0 ≤ℤ negsuc n = h in omega (arith, ints))

-- what is told of one entry
alone : (entry : Bounded) (bound : ℕ) → told_of_all (entry ∷ []) ≡ At bound → entry ≡ At bound
alone (At other) bound e = let m = at_is (max other 0) bound e in ap At (omega arith)
alone (Left scope) bound e = absurd (at_not bound scope (sym e))

single : (entries : List Bounded) (low : ℕ) → low < length entries
    → slice_range entries low (low + 1) ≡ get_or entries low (At 0) ∷ []
single entries low within =
    let one : low + 1 - low ≡ 1 = omega arith in
    ap (λ (n : ℕ). take n (drop low entries)) one ∙ ap (take 1) (drop_more entries low (At 0) within)

module _ (entries : List Bounded) where
  part_suits : (area part : Area) → IsOfTable entries area → IsPart area part → IsOfTable entries part
  part_suits area part suits is = from part (subst (λ (a : Area). IsPart a part) suits.one is)
    where
      from : (part : Area) → IsPart (suits.range ∷ []) part → IsOfTable entries part
      from [] is = absurd is
      from (range ∷ []) is = let first = is.0 in let l = suits.least in let m = suits.most in record { range = range; one = refl; least = omega (arith, ints); ordered = first.ordered; most = omega (arith, ints) }
      from (range ∷ other ∷ rest) is = absurd is.1

  -- the one number of an input
  record IsOne (range : Range) (input : List ℤ) : Type 0 where
    number : ℕ
    one : input ≡ pos number ∷ []
    least : range.low ≤ℤ pos number
    most : pos number ≤ℤ range.high

  one_of : (range : Range) (input : List ℤ) → pos 0 ≤ℤ range.low → IsInside (range ∷ []) input → IsOne range input
  one_of range [] least inside = absurd inside
  one_of range (number ∷ []) least inside =
      let first = inside.0 in
      let n = natural number (omega (arith, ints)) in
      record {
        number = unsigned_abs number;
        one = ap (λ (z : ℤ). z ∷ []) n;
        least = subst (λ (z : ℤ). range.low ≤ℤ z) n first.least;
        most = subst (λ (z : ℤ). z ≤ℤ range.high) n first.most;
      }
  one_of range (number ∷ other ∷ rest) least inside = absurd inside.1

  -- what the table tells of a number of the range
  entry_at : (range : Range) (bound number : ℕ) → pos 0 ≤ℤ range.low → range.high <ℤ pos (length entries)
      → told_of_all (slice_range entries (unsigned_abs range.low) (unsigned_abs range.high + 1)) ≡ At bound
      → range.low ≤ℤ pos number → pos number ≤ℤ range.high → (cost : ℕ) × (slice_get entries number ≡ Some (At cost)) × (cost ≤ bound)
  entry_at range bound number least most told above below =
      let low = natural range.low least in
      let high = natural range.high (omega (arith, ints)) in
      let first : unsigned_abs range.low ≤ number = omega (arith, ints) in
      let last : number ≤ unsigned_abs range.high = omega (arith, ints) in
      let within : unsigned_abs range.high < length entries = omega (arith, ints) in
      let a = length-take (unsigned_abs range.high + 1 - unsigned_abs range.low) (drop (unsigned_abs range.low) entries) in
      let b = length-drop (unsigned_abs range.low) entries in
      let there = each_told (slice_range entries (unsigned_abs range.low) (unsigned_abs range.high + 1)) bound told (number - unsigned_abs range.low) (At 0) (omega arith) in
      let place : unsigned_abs range.low + (number - unsigned_abs range.low) ≡ number = omega arith in
      let same : get_or (slice_range entries (unsigned_abs range.low) (unsigned_abs range.high + 1)) (number - unsigned_abs range.low) (At 0) ≡ get_or entries number (At 0) =
      get_or-take (unsigned_abs range.high + 1 - unsigned_abs range.low) (drop (unsigned_abs range.low) entries) (number - unsigned_abs range.low) (At 0) (omega arith)
      ∙ get_or-drop (unsigned_abs range.low) entries (number - unsigned_abs range.low) (At 0) ∙ ap (λ (n : ℕ). get_or entries n (At 0)) place in
      (there.bound, slice_get-get_or entries number (At 0) (omega arith) ∙ ap Some (sym same ∙ there.is), there.low)

  -- the table tells one cost of an input
  one_cost : (input : List ℤ) (cost other : ℕ) → HasCost entries input cost → HasCost entries input other → cost ≡ other
  one_cost input cost other h k =
      let inputs : pos h.number ∷ [] ≡ pos k.number ∷ [] = sym h.one ∙ k.one in
      let numbers : h.number ≡ k.number = cc in
      let both : Some (At cost) ≡ Some (At other) = sym h.at ∙ ap (slice_get entries) numbers ∙ k.at in
      cc

  bounds : (area : Area) (bound : ℕ) (input : List ℤ) → IsOfTable entries area → At bound ≡ told_of entries area
      → IsInside area input → CostsAtMost (HasCost entries) input bound
  bounds area bound input suits told inside =
      let one = one_of suits.range input suits.least (subst (λ (a : Area). IsInside a input) suits.one inside) in
      let there = entry_at suits.range bound one.number suits.least suits.most (sym (told ∙ ap (told_of entries) suits.one)) one.least one.most in
      let has : HasCost entries input there.0 = record { number = one.number; one = one.one; at = there.1 } in
      record { some = (there.0, has); most = λ cost is. let same = one_cost input cost there.0 is has in let low = there.2 in omega arith }

  point_exact : (area : Area) (bound : ℕ) (input : List ℤ) → IsOfTable entries area → IsPoint area
      → At bound ≡ told_of entries area → IsInside area input → CostsExactly (HasCost entries) input bound
  point_exact area bound input suits point told inside =
      let range = suits.range in
      let low : ℕ = unsigned_abs range.low in
      let same : range.low ≡ range.high = All-head (λ (r : Range). r.low ≡ r.high) range [] (subst (λ (a : Area). IsPoint a) suits.one point) in
      let first = natural range.low suits.least in
      let least = suits.least in
      let most = suits.most in
      let within : low < length entries = omega (arith, ints) in
      let one = one_of range input suits.least (subst (λ (a : Area). IsInside a input) suits.one inside) in
      let it : one.number ≡ low = let a = one.least in let b = one.most in omega (arith, ints) in
      let here : told_of_all (slice_range entries low (low + 1)) ≡ At bound =
      ap (λ (z : ℤ). told_of_all (slice_range entries low (unsigned_abs z + 1))) same ∙ sym (told ∙ ap (told_of entries) suits.one) in
      let entry : get_or entries low (At 0) ≡ At bound = alone (get_or entries low (At 0)) bound (ap told_of_all (sym (single entries low within)) ∙ here) in
      let has : HasCost entries input bound = record {
        number = one.number;
        one = one.one;
        at = ap (slice_get entries) it ∙ slice_get-get_or entries low (At 0) within ∙ ap Some entry;
      } in
      record { is = has; only = λ other is. one_cost input other bound is has }

pub table_is_bounding : (entries : List Bounded) → IsBounding (table_bounding entries)
table_is_bounding entries = record {
  part_suits = part_suits entries;
  one_answer = λ area first second suits h k. h ∙ sym k;
  bounds = bounds entries;
  point_exact = point_exact entries;
}
