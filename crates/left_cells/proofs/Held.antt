-- Why cells hold what is said.
use Rattle.std.specs.Prelude.{ℤ, ◌+ℤ◌, ◌-ℤ◌, length, IfSome, IsSomeAnd, ◌↔◌}
use lib.Signed.{◌≤ℤ◌}
use Rattle.std.specs.Int.{w128, int_rem_euclid}
use Rattle.std.specs.Int.RustNames.{FitsSigned}
use Rattle.std.proofs.Common.{◌≡◌, ◌⊎◌, inl, inr, to_z, of_z, ℕ, pos, negsuc, neg_ℤ, ◌<◌, ◌^◌, true, List, [], ◌∷◌, Option, Some, None, Result, Ok, Err, refl, sym, ap, subst, ◌∙◌, arith}
use Rattle.std.proofs.lemmas.Int.{ints, to_z-of_z}
use Rattle.std.proofs.lemmas.Nat.{pow_pos}
use Rattle.alf_ops.specs.declared.history.Value.{Value}
use Rattle.alf_ops.specs.declared.history.Value.TheVariants.{Int, Ptr}
use Rattle.alf_ops.specs.declared.history.RunFault.{RunFault}
use Rattle.alf_ops.specs.declared.history.FrameShape.{FrameShape}
use Rattle.alf_ops.specs.Histories.{load}
use Rattle.alf_ops.specs.TwosComplement.{word}
use Rattle.strided_rules.specs.Strides.{Stride, Covers as CoversWord}
use Rattle.strided_rules.specs.PlacedLaws.{same_word}
use Rattle.progressions.specs.Progressions.{full}
use Rattle.whole_numbers.specs.Numbers.{Divides}
use Rattle.whole_numbers.specs.DivisionLaws.{rest_range, rest_divides}
use Rattle.whole_numbers.specs.MultipleLaws.{divides_same, divides_difference, divides_zero, divides_itself}
use Rattle.pointer_rules.specs.AbstractValues.{AbstractValue, Covers, offsets_in}
use Rattle.pointer_rules.specs.Covering.{IsValue}
use Rattle.memory_rules.specs.Covers.{IsCellSize}
use Rattle.memory_rules.specs.Memories.{Mem, MemSized, joined_values}
use Rattle.memory_rules.specs.AbstractSets.{abstract_sets}
use Rattle.memory_rules.specs.Addresses.{load_at, IsLoadFault, TellsLoad}
use Rattle.memory_rules.specs.AddressLaws.{loads_at}
use Rattle.transfer_rules.specs.StandingLaws.{pointer_is, pointer_told}
use Rattle.abstract_memory.specs.OnlyCells.{pointer_to}
use Rattle.transfer_rules.specs.RemainsLaws.{no_fault}
use Rattle.alf_check.specs.declared.rows.InputRow.{InputRow}
use Rattle.domain_core.specs.declared.fault_set.FaultSet.{FaultSet}
use Rattle.domain_core.specs.FaultSets.{has_fault, no_faults}
use Rattle.left_cells.specs.Cells.{IsBetween, HoldsBetween, EachHoldsBetween, IsRangeOf, IsSmallRange, IsSpan, IsWholeRange, EachHoldsInside}

-- a value without pointers is the word of a number between the ends of its words
pub value_between : (size : ℕ) (v : AbstractValue) (words : Stride) (own : Value) → IsValue size v → v.places ≡ []
    → v.words ≡ Some words → Covers v own → IsBetween size words.numbers.lo words.numbers.hi own
value_between size v words (Int bits_size bits) is none some covers =
    let there : (words.size ≡ bits_size) × CoversWord words bits = subst (λ (o : Option Stride). IsSomeAnd o (λ w. (w.size ≡ bits_size) × CoversWord w bits)) some covers in
    let sized : words.size ≡ size = subst (λ (o : Option Stride). IfSome o (λ w. w.size ≡ size)) some is.sized.words in
    let member = there.1 in
    let of_size : word size member.number ≡ bits = ap (λ (s : ℕ). word s member.number) (sym sized) ∙ member.word in
    record {
      number = member.number;
      least = member.has.least;
      most = member.has.most;
      is = ap (λ (s : ℕ). Int s bits) (sym there.0 ∙ sized) ∙ ap (Int size) (sym of_size);
    }
value_between size v words (Ptr frame offset) is none some covers = absurd (pointed (subst (λ (places : List (ℕ × Stride)). IsSomeAnd (offsets_in places frame) (λ offsets. CoversWord offsets offset)) none covers))
  where
    pointed : IsSomeAnd (let o : Option Stride = None in o) (λ offsets. CoversWord offsets offset) → ⊥
    pointed h = elim h [ ]

-- the words of a value without pointers
pub words_between : (size : ℕ) (v : AbstractValue) (found : Option Stride) → IsValue size v → v.places ≡ []
    → v.words ≡ found
    → IfSome found (λ words. (own : Value) → Covers v own → IsBetween size words.numbers.lo words.numbers.hi own)
words_between size v None is none some = tt
words_between size v (Some words) is none some = λ own covers. value_between size v words own is none some covers

pub none_of : {A : Type 0} (xs : List A) → length xs ≡ 0 → xs ≡ []
none_of [] e = refl
none_of (x ∷ xs) e = absurd (omega (arith, e))

-- the ends of a range are numbers of the machine
pub fits : (z : ℤ) → neg_ℤ (pos (2 ^ 64)) ≤ℤ z → z ≤ℤ pos (2 ^ 64) → FitsSigned w128 z
fits (pos n) low high = record { sfits = omega (arith, ints, high) }
fits (negsuc n) low high = record { sfits = omega (arith, ints, low) }

pub low_small : (row : InputRow) → IsSmallRange row → row.low ≤ℤ pos (2 ^ 64)
low_small row small = omega (arith, ints, small.ordered, small.most)

pub high_large : (row : InputRow) → IsSmallRange row → neg_ℤ (pos (2 ^ 64)) ≤ℤ row.high
high_large row small = omega (arith, ints, small.ordered, small.least)

pub low_fits : (row : InputRow) → IsSmallRange row → FitsSigned w128 row.low
low_fits row small = let high : row.low ≤ℤ pos (2 ^ 64) = omega (arith, ints, small.ordered, small.most) in fits row.low small.least high

pub high_fits : (row : InputRow) → IsSmallRange row → FitsSigned w128 row.high
high_fits row small = let low : neg_ℤ (pos (2 ^ 64)) ≤ℤ row.high = omega (arith, ints, small.ordered, small.least) in fits row.high low small.most

-- what a load gives that tells no fault
pub each_between : (rows : List FrameShape) (m : Mem abstract_sets) (frame offset size : ℕ) (v : AbstractValue) (low high : ℤ) → offset < 2 ^ 32 → MemSized abstract_sets m
    → IsCellSize size → Some v ≡ joined_values abstract_sets None (load_at rows m (pointer_to frame offset) size)
    → ((fault : RunFault) → IsLoadFault rows m (pointer_to frame offset) size fault → ⊥)
    → ((own : Value) → Covers v own → IsBetween size low high own)
    → EachHoldsBetween rows m frame offset size low high
each_between rows m frame offset size v low high small sized cell is none between history sound covers =
    go (load rows history (Ptr frame offset) size) refl
    (loads_at rows m history (pointer_to frame offset) (Ptr frame offset) size sound sized covers cell (pointer_is frame offset small) (pointer_told ⊥ frame offset small).covers)
  where
    go : (r : Result Value RunFault) → load rows history (Ptr frame offset) size ≡ r
        → TellsLoad rows m (pointer_to frame offset) size r → HoldsBetween rows history frame offset size low high
    go (Err fault) gives told = absurd (none fault told)
    go (Ok own) gives told =
        let b = between own (subst (λ (o : Option AbstractValue). IsSomeAnd o (λ set. Covers set own)) (sym is) told) in
        record { number = b.number; least = b.least; most = b.most; holds = gives ∙ ap (λ (x : Value). Ok x) b.is }

-- and so of words that are found
pub found_between : (rows : List FrameShape) (m : Mem abstract_sets) (frame offset size : ℕ) (v : AbstractValue) → offset < 2 ^ 32 → MemSized abstract_sets m
    → IsCellSize size → Some v ≡ joined_values abstract_sets None (load_at rows m (pointer_to frame offset) size)
    → ((fault : RunFault) → IsLoadFault rows m (pointer_to frame offset) size fault → ⊥)
    → (found : Option Stride) → IfSome found (λ words. (own : Value) → Covers v own → IsBetween size words.numbers.lo words.numbers.hi own)
    → IfSome found (λ words. EachHoldsBetween rows m frame offset size words.numbers.lo words.numbers.hi)
found_between rows m frame offset size v small sized cell is none None between = tt
found_between rows m frame offset size v small sized cell is none (Some words) between =
    each_between rows m frame offset size v words.numbers.lo words.numbers.hi small sized cell is none between

-- no fault is told where the set is empty
pub none_told : (rows : List FrameShape) (m : Mem abstract_sets) (at : AbstractValue) (size : ℕ) (faults : FaultSet) → faults ≡ no_faults
    → ((fault : RunFault) → (has_fault faults fault ≡ true) ↔ IsLoadFault rows m at size fault)
    → (fault : RunFault) → IsLoadFault rows m at size fault → ⊥
none_told rows m at size faults empty told fault is = no_fault fault (subst (λ (s : FaultSet). has_fault s fault ≡ true) empty ((told fault).1 is))

-- a range inside that of the row
pub inside_row : (row : InputRow) (least most : ℤ) → row.low ≤ℤ least → most ≤ℤ row.high → IsRangeOf row least most
inside_row row least most low high number above below = (number, record { least = omega (arith, ints, low, above); most = omega (arith, ints, high, below) }, refl)

-- a range inside that of the row once it is moved up by 2 to the size, as that of unsigned words above half
pub moved_inside_row : (row : InputRow) (least most : ℤ) → row.low ≤ℤ (least +ℤ full row.size)
    → (most +ℤ full row.size) ≤ℤ row.high → IsRangeOf row least most
moved_inside_row row least most low high number above below =
    let w = row.size in
    let own : ℤ = number +ℤ full w in
    let apart : Divides (full w) (number -ℤ own) =
    divides_same (full w) (pos 0 -ℤ full w) (number -ℤ own) (omega (arith, ints)) (divides_difference (full w) (pos 0) (full w) (divides_zero (full w)) (divides_itself (full w))) in
    (own, record { least = omega (arith, ints, low, above); most = omega (arith, ints, high, below) }, same_word w number own apart)

-- a range moved up so
pub moved_row : (row : InputRow) (least most by : ℤ) → (by ≡ pos 0) ⊎ (by ≡ full row.size) → (row.low -ℤ by) ≤ℤ least
    → most ≤ℤ (row.high -ℤ by) → IsRangeOf row least most
moved_row row least most by (inl none) low high = inside_row row least most (omega (arith, ints, none, low)) (omega (arith, ints, none, high))
moved_row row least most by (inr all) low high = moved_inside_row row least most (omega (arith, ints, all, low)) (omega (arith, ints, all, high))

-- any range, inside one that has every word
pub whole_row : (row : InputRow) (least most : ℤ) → IsWholeRange row → IsRangeOf row least most
whole_row row least most every number above below =
    let w = row.size in
    let z : ℤ = number -ℤ row.low in
    let rest : ℤ = int_rem_euclid z (full w) in
    let range = rest_range z (2 ^ w) (pow_pos w) in
    let own : ℤ = row.low +ℤ rest in
    let apart : Divides (full w) (number -ℤ own) =
    divides_same (full w) (z -ℤ rest) (number -ℤ own) (omega (arith, ints)) (rest_divides z (2 ^ w) (pow_pos w)) in
    (own, record { least = omega (arith, ints, range.0); most = omega (arith, ints, range.1, every) }, same_word w number own apart)

-- an end of a range, less a span, is a number of the machine
wide : (z : ℤ) → neg_ℤ (pos (2 ^ 65)) ≤ℤ z → z ≤ℤ pos (2 ^ 65) → FitsSigned w128 z
wide (pos n) low high = record { sfits = omega (arith, ints, high) }
wide (negsuc n) low high = record { sfits = omega (arith, ints, low) }

module _ (size : ℕ) (z by : ℤ) (z_fits : FitsSigned w128 z) (by_fits : FitsSigned w128 by) (low : neg_ℤ (pos (2 ^ 64)) ≤ℤ z) (high : z ≤ℤ pos (2 ^ 64))
    (span : IsSpan size by) where
  less_fits : FitsSigned w128 (z -ℤ by)
  less_fits =
      let least = span.least in
      let most = span.most in
      wide (z -ℤ by) (omega (arith, ints, low, most)) (omega (arith, ints, high, least))

  both_are : (to_z w128 (of_z w128 z) -ℤ to_z w128 (of_z w128 by)) ≡ (z -ℤ by)
  both_are = ap (λ (x : ℤ). x -ℤ to_z w128 (of_z w128 by)) (to_z-of_z w128 z z_fits) ∙ ap (λ (y : ℤ). z -ℤ y) (to_z-of_z w128 by by_fits)

  pub no_overflow : FitsSigned w128 (to_z w128 (of_z w128 z) -ℤ to_z w128 (of_z w128 by))
  no_overflow = subst (FitsSigned w128) (sym both_are) less_fits

  pub less_is : to_z w128 (of_z w128 (to_z w128 (of_z w128 z) -ℤ to_z w128 (of_z w128 by))) ≡ (z -ℤ by)
  less_is = ap (λ (x : ℤ). to_z w128 (of_z w128 x)) both_are ∙ to_z-of_z w128 (z -ℤ by) less_fits

-- a cell between such numbers holds one inside the range
pub each_inside : (rows : List FrameShape) (m : Mem abstract_sets) (row : InputRow) (least most : ℤ) → IsRangeOf row least most
    → EachHoldsBetween rows m row.frame row.offset row.size least most → EachHoldsInside rows m row
each_inside rows m row least most range each history sound covers =
    let h = each history sound covers in
    let own = range h.number h.least h.most in
    record { number = own.0; within = own.1; holds = h.holds ∙ ap (λ (bits : ℕ). Ok (Int row.size bits)) own.2 }
