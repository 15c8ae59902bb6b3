-- Laws of loads that are joined onto what was loaded before.
--   onto_more       results one after the other
--   faults_told     exactly the faults that were there or are among these are told
use Rattle.std.specs.Prelude.{Contains, ◌↔◌, slice_get}
use Rattle.std.proofs.Common.{◌≡◌, ◌≢◌, ◌⊎◌, inl, inr, sym, subst, ◌∙◌, ap, ℕ, suc, true, List, [], ◌∷◌, ◌++◌, Option, Some, Result, Ok, Err, refl, arith}
use Rattle.std.proofs.lemmas.Bool.{cases_eq}
use Rattle.std.proofs.lemmas.Option.{same_Some}
use Rattle.alf_ops.specs.declared.history.RunFault.{RunFault}
use Rattle.alf_ops.specs.declared.history.RunFault.TheVariants.{Divide, Uninit, Mixed, Bounds, Dead, Kind, Pointers}
use Rattle.domain_core.specs.declared.fault_set.FaultSet.{FaultSet}
use Rattle.domain_core.specs.FaultSets.{has_fault, with_fault}
use Rattle.domain_core.specs.FaultLaws.{is_new, is_kept}
use Rattle.pointer_rules.specs.AbstractValues.{AbstractValue, joined}
use Rattle.memory_rules.specs.AbstractSets.{abstract_sets}
use Rattle.memory_rules.specs.Frames.{either}
use Rattle.memory_rules.specs.Memories.{joined_values, faults_of}
use Rattle.memory_rules.specs.MemoryCoveringLaws.{contains_none, contains_first, contains_cases}
use Rattle.frame_memory.specs.declared.loaded.Loaded.{Loaded}
use Rattle.frame_memory.specs.LoadedResults.{with_faults, onto}

-- ---- results

values_more : (value : Option AbstractValue) (xs ys : List (Result AbstractValue RunFault))
    → joined_values abstract_sets value (xs ++ ys) ≡ joined_values abstract_sets (joined_values abstract_sets value xs) ys
values_more value [] ys = refl
values_more value (Ok set ∷ xs) ys = values_more (either joined value (Some set)) xs ys
values_more value (Err fault ∷ xs) ys = values_more value xs ys

faults_more : (set : FaultSet) (xs ys : List (Result AbstractValue RunFault))
    → with_faults set (faults_of abstract_sets (xs ++ ys)) ≡ with_faults (with_faults set (faults_of abstract_sets xs)) (faults_of abstract_sets ys)
faults_more set [] ys = refl
faults_more set (Ok value ∷ xs) ys = faults_more set xs ys
faults_more set (Err fault ∷ xs) ys = faults_more (with_fault set fault) xs ys

-- results one after the other
pub onto_more : (before : Loaded) (xs ys : List (Result AbstractValue RunFault))
    → onto before (xs ++ ys) ≡ onto (onto before xs) ys
onto_more before xs ys = λ i. record { value = values_more before.value xs ys i; faults = faults_more before.faults xs ys i }

-- ---- faults

abbrev number : RunFault → ℕ
number Divide = 0
number Uninit = 1
number Mixed = 2
number Bounds = 3
number Dead = 4
number Kind = 5
number Pointers = 6

abbrev kinds : List RunFault
kinds = Divide ∷ Uninit ∷ Mixed ∷ Bounds ∷ Dead ∷ Kind ∷ Pointers ∷ []

numbered : (kind : RunFault) → slice_get kinds (number kind) ≡ Some kind
numbered Divide = refl
numbered Uninit = refl
numbered Mixed = refl
numbered Bounds = refl
numbered Dead = refl
numbered Kind = refl
numbered Pointers = refl

same_or_not : (a b : RunFault) → (a ≡ b) ⊎ (a ≢ b)
same_or_not a b = elim (cases_eq (number a) (number b)) [
  | inl same ↦ inl (same_Some a b (sym (numbered a) ∙ (ap (λ (n : ℕ). slice_get kinds n) same ∙ numbered b)))
  | inr apart ↦ inr (λ e. apart (ap number e))
]

-- a fault that is in a set with one more, and one that stays
one_more : (set : FaultSet) (fault sought : RunFault) → has_fault (with_fault set fault) sought ≡ true
    → (sought ≡ fault) ⊎ (has_fault set sought ≡ true)
one_more set fault sought h = elim (same_or_not fault sought) [
  | inl same ↦ inl (sym same)
  | inr apart ↦ inr (sym (is_kept set fault sought apart) ∙ h)
]

stays : (set : FaultSet) (fault sought : RunFault) → has_fault set sought ≡ true
    → has_fault (with_fault set fault) sought ≡ true
stays set fault sought h = elim (same_or_not fault sought) [
  | inl same ↦ subst (λ (k : RunFault). has_fault (with_fault set fault) k ≡ true) same (is_new set fault)
  | inr apart ↦ is_kept set fault sought apart ∙ h
]

told_before : (set : FaultSet) (faults : List RunFault) (sought : RunFault) → has_fault set sought ≡ true
    → has_fault (with_faults set faults) sought ≡ true
told_before set [] sought h = h
told_before set (fault ∷ faults) sought h = told_before (with_fault set fault) faults sought (stays set fault sought h)

told_among : (set : FaultSet) (faults : List RunFault) (sought : RunFault) → Contains faults sought
    → has_fault (with_faults set faults) sought ≡ true
told_among set [] sought among = absurd (contains_none sought among)
told_among set (fault ∷ faults) sought among = elim (contains_cases fault faults sought among) [
  | inl same ↦ told_before (with_fault set fault) faults sought (subst (λ (k : RunFault). has_fault (with_fault set fault) k ≡ true) (sym same) (is_new set fault))
  | inr rest ↦ told_among (with_fault set fault) faults sought rest
]

contains_later : (fault : RunFault) (faults : List RunFault) (sought : RunFault) → Contains faults sought
    → Contains (fault ∷ faults) sought
contains_later fault faults sought among = (suc among.0, omega (arith, among.1), among.2)

told_only : (set : FaultSet) (faults : List RunFault) (sought : RunFault)
    → has_fault (with_faults set faults) sought ≡ true
    → (has_fault set sought ≡ true) ⊎ Contains faults sought
told_only set [] sought h = inl h
told_only set (fault ∷ faults) sought h = elim (told_only (with_fault set fault) faults sought h) [
  | inl told ↦ elim (one_more set fault sought told) [
    | inl same ↦ inr (subst (λ (k : RunFault). Contains (fault ∷ faults) k) (sym same) (contains_first fault faults))
    | inr earlier ↦ inl earlier
  ]
  | inr later ↦ inr (contains_later fault faults sought later)
]

-- exactly the faults that were there or are among these
pub faults_told : (set : FaultSet) (faults : List RunFault) (sought : RunFault)
    → (has_fault (with_faults set faults) sought ≡ true) ↔ ((has_fault set sought ≡ true) ⊎ Contains faults sought)
faults_told set faults sought = (told_only set faults sought, either_told)
  where
    either_told : (has_fault set sought ≡ true) ⊎ Contains faults sought
        → has_fault (with_faults set faults) sought ≡ true
    either_told (inl h) = told_before set faults sought h
    either_told (inr among) = told_among set faults sought among
