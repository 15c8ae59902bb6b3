-- Why bytes read alike.
use Rattle.std.specs.Prelude.{ℤ, IfSome, IsSomeAnd, ◌↔◌, ◌≤ℤ◌, is_some}
use Rattle.std.proofs.Common.{◌≡◌, ℕ, ◌<◌, ◌^◌, true, false, List, Option, Some, None, Result, Ok, Err, refl, sym, ap, subst, ◌∙◌, arith, to_z, of_z}
use Rattle.std.proofs.lemmas.Int.{ints, to_z-of_z}
use Rattle.std.specs.Int.{w128}
use Rattle.std.specs.Int.RustNames.{FitsSigned}
use Rattle.std.proofs.lemmas.Bool.{false≢true}
use Rattle.alf_ops.specs.declared.history.Value.{Value}
use Rattle.alf_ops.specs.declared.history.Value.TheVariants.{Int, Ptr}
use Rattle.alf_ops.specs.declared.history.RunFault.{RunFault}
use Rattle.alf_ops.specs.declared.history.RunFault.TheVariants.{Uninit}
use Rattle.alf_ops.specs.declared.history.FrameShape.{FrameShape}
use Rattle.alf_ops.specs.Histories.{load}
use Rattle.alf_ops.specs.TwosComplement.{word}
use Rattle.domain_core.specs.declared.fault_set.FaultSet.{FaultSet}
use Rattle.domain_core.specs.FaultSets.{has_fault, no_faults, with_fault}
use Rattle.strided_rules.specs.Strides.{Stride}
use Rattle.pointer_rules.specs.AbstractValues.{AbstractValue, Covers}
use Rattle.memory_rules.specs.Memories.{Mem, MemSized, joined_values}
use Rattle.memory_rules.specs.AbstractSets.{abstract_sets}
use Rattle.memory_rules.specs.Addresses.{load_at, IsLoadFault, TellsLoad}
use Rattle.memory_rules.specs.AddressLaws.{loads_at}
use Rattle.transfer_rules.specs.RemainsLaws.{one_alone}
use Rattle.transfer_rules.specs.StandingLaws.{pointer_is, pointer_told}
use Rattle.abstract_memory.specs.OnlyCells.{pointer_to}
use Rattle.left_cells.specs.Cells.{EachHoldsBetween}
use Rattle.left_cells.specs.Bytes.{EachIsUnset, IsLone, ReadAlikeIn}

-- a load that gives no value, and tells that nothing was stored and no other fault
pub each_unset : (rows : List FrameShape) (m : Mem abstract_sets) (frame byte : ℕ) (faults : FaultSet) → byte < 2 ^ 32 → MemSized abstract_sets m
    → None ≡ joined_values abstract_sets None (load_at rows m (pointer_to frame byte) 8)
    → ((fault : RunFault) → (has_fault faults fault ≡ true) ↔ IsLoadFault rows m (pointer_to frame byte) 8 fault)
    → faults ≡ with_fault no_faults Uninit → EachIsUnset rows m frame byte
each_unset rows m frame byte faults small sized none told only history sound covers =
    go (load rows history (Ptr frame byte) 8) refl
    (loads_at rows m history (pointer_to frame byte) (Ptr frame byte) 8 sound sized covers (omega arith, refl, omega arith) (pointer_is frame byte small) (pointer_told ⊥ frame byte small).covers)
  where
    go : (r : Result Value RunFault) → load rows history (Ptr frame byte) 8 ≡ r
        → TellsLoad rows m (pointer_to frame byte) 8 r → load rows history (Ptr frame byte) 8 ≡ Err Uninit
    go (Err fault) gives is =
        let one : has_fault (with_fault no_faults Uninit) fault ≡ true = subst (λ (s : FaultSet). has_fault s fault ≡ true) only ((told fault).1 is) in
        gives ∙ ap (λ (k : RunFault). Err k) (one_alone Uninit fault one)
    go (Ok own) gives is = absurd (empty (subst (λ (o : Option AbstractValue). IsSomeAnd o (λ set. Covers set own)) (sym none) is))
      where
        empty : IsSomeAnd (let o : Option AbstractValue = None in o) (λ set. Covers set own) → ⊥
        empty h = elim h [ ]

-- bytes in which nothing was stored
pub both_unset : (rows others : List FrameShape) (m n : Mem abstract_sets) (frame byte : ℕ) → EachIsUnset rows m frame byte
    → EachIsUnset others n frame byte → ReadAlikeIn rows others m n frame byte
both_unset rows others m n frame byte first second a b a_sound b_sound a_covers b_covers = first a a_sound a_covers ∙ sym (second b b_sound b_covers)

one_number : (low high number n : ℤ) → low ≡ number → high ≡ number → low ≤ℤ n → n ≤ℤ high → n ≡ number
one_number low high number n least most above below = omega (arith, ints, least, most, above, below)

-- bytes of one number
pub both_lone : (rows others : List FrameShape) (m n : Mem abstract_sets) (frame byte : ℕ) (first second : Option Stride)
    → IfSome first (λ words. EachHoldsBetween rows m frame byte 8 words.numbers.lo words.numbers.hi)
    → IfSome second (λ words. EachHoldsBetween others n frame byte 8 words.numbers.lo words.numbers.hi)
    → IsLone first second → ReadAlikeIn rows others m n frame byte
both_lone rows others m n frame byte first second of_first of_second lone a b a_sound b_sound a_covers b_covers =
    let words = lone.words in
    let rest = lone.others in
    let one = subst (λ (o : Option Stride). IfSome o (λ w. EachHoldsBetween rows m frame byte 8 w.numbers.lo w.numbers.hi)) lone.first of_first a a_sound a_covers in
    let two = subst (λ (o : Option Stride). IfSome o (λ w. EachHoldsBetween others n frame byte 8 w.numbers.lo w.numbers.hi)) lone.second of_second b b_sound b_covers in
    let first_is = one_number words.numbers.lo words.numbers.hi lone.number one.number lone.one.least lone.one.most one.least one.most in
    let second_is = one_number rest.numbers.lo rest.numbers.hi lone.number two.number lone.two.least lone.two.most two.least two.most in
    let same : one.number ≡ two.number = first_is ∙ sym second_is in
    one.holds ∙ ap (λ (number : ℤ). Ok (Int 8 (word 8 number))) same ∙ sym two.holds

pub none_is : {A : Type 0} (o : Option A) → is_some o ≡ false → None ≡ o
none_is None e = refl
none_is (Some a) e = absurd (false≢true (sym e))

-- two numbers of the machine that are one word
pub same_number : (a b : ℤ) → FitsSigned w128 a → FitsSigned w128 b → of_z w128 a ≡ of_z w128 b → a ≡ b
same_number a b a_fits b_fits e = sym (to_z-of_z w128 a a_fits) ∙ ap (to_z w128) e ∙ to_z-of_z w128 b b_fits
