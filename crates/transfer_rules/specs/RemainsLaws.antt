-- What is left tells the results of runs.
--   HasNone set, HasOnly set fault       no fault is in the set; no other fault is
--   LeftTold Sharp P r                   something is left, of which P holds; where Sharp holds there is no
--       fault
--   FaultTold Sharp r fault              the fault is told; where Sharp holds nothing is left, and no other
--       fault is told
--   Answers Sharp P r result             the one or the other, by the result of a run
--   IfLeft P r                           P holds of what is left
--   left_on, fault_on, fault_stops, answers_on, keeps_on   of what goes on
use Rattle.std.specs.Prelude.{IfSome, ◌||◌, Contains}
use Rattle.std.proofs.Common.{◌≡◌, Bool, true, false, List, [], ◌∷◌, Option, None, Some, Result, Ok, Err, refl, sym, ap, ◌∙◌, inl, inr, ◌⊎◌, subst}
use Rattle.std.proofs.lemmas.Bool.{false≢true, or_left, or_right}
use Rattle.std.proofs.lemmas.Option.{none-some}
use Rattle.lists.specs.MemberLaws.{no_member, first_member, further_member, first_or_further}
use Rattle.alf_ops.specs.declared.history.RunFault.{RunFault}
use Rattle.alf_ops.specs.declared.history.RunFault.TheVariants.{Divide, Uninit, Mixed, Bounds, Dead, Kind, Pointers}
use Rattle.domain_core.specs.declared.fault_set.FaultSet.{FaultSet}
use Rattle.domain_core.specs.FaultSets.{has_fault, no_faults, with_fault, either}
use Rattle.domain_core.specs.FaultLaws.{is_empty, is_new, is_united}
use Rattle.transfer_rules.specs.Remains.{Remains, all_left, with_faults, onward, goes_on}
use Rattle.transfer_rules.specs.AddressFaults.{fault_set}

-- no fault is in the set
abbrev pub HasNone : FaultSet → Type 0
HasNone set = (kind : RunFault) → has_fault set kind ≡ true → ⊥

-- no other fault is in the set
abbrev pub HasOnly : FaultSet → RunFault → Type 0
HasOnly set fault = (kind : RunFault) → has_fault set kind ≡ true → kind ≡ fault

-- something is left, of which P holds
pub record LeftTold {A : Type 0} (Sharp : Type 0) (P : A → Type 0) (r : Remains A) : Type 0 where
  pub value : A
  pub is : r.left ≡ Some value
  pub holds : P value
  pub none : Sharp → HasNone r.faults

-- the fault is told
pub record FaultTold {A : Type 0} (Sharp : Type 0) (r : Remains A) (fault : RunFault) : Type 0 where
  pub told : has_fault r.faults fault ≡ true
  pub alone : Sharp → r.left ≡ None
  pub one : Sharp → HasOnly r.faults fault

-- the one or the other, by the result of a run
abbrev pub Answers : {A C : Type 0} → Type 0 → (A → C → Type 0) → Remains A → Result C RunFault → Type 0
Answers Sharp P r (Ok c) = LeftTold Sharp (λ a. P a c) r
Answers Sharp P r (Err fault) = FaultTold Sharp r fault

-- P holds of what is left
abbrev pub IfLeft : {A : Type 0} → (A → Type 0) → Remains A → Type 0
IfLeft P r = IfSome r.left P

-- ---- sets of faults

pub no_fault : HasNone no_faults
no_fault kind e = false≢true (sym (is_empty kind) ∙ e)

or_cases : (a b : Bool) → (a || b) ≡ true → (a ≡ true) ⊎ (b ≡ true)
or_cases true b e = inl refl
or_cases false b e = inr e

pub in_either : (a b : FaultSet) (kind : RunFault) → has_fault (either a b) kind ≡ true
    → (has_fault a kind ≡ true) ⊎ (has_fault b kind ≡ true)
in_either a b kind e = or_cases (has_fault a kind) (has_fault b kind) (sym (is_united a b kind) ∙ e)

pub in_first : (a b : FaultSet) (kind : RunFault) → has_fault a kind ≡ true → has_fault (either a b) kind ≡ true
in_first a b kind e = is_united a b kind ∙ or_left (has_fault a kind) (has_fault b kind) e

pub in_second : (a b : FaultSet) (kind : RunFault) → has_fault b kind ≡ true → has_fault (either a b) kind ≡ true
in_second a b kind e = is_united a b kind ∙ or_right (has_fault a kind) (has_fault b kind) e

pub none_in_either : (a b : FaultSet) → HasNone a → HasNone b → HasNone (either a b)
none_in_either a b first second kind e = elim (in_either a b kind e) [
  | inl h ↦ first kind h
  | inr h ↦ second kind h
]

pub only_in_either : (a b : FaultSet) (fault : RunFault) → HasOnly a fault → HasOnly b fault
    → HasOnly (either a b) fault
only_in_either a b fault first second kind e = elim (in_either a b kind e) [
  | inl h ↦ first kind h
  | inr h ↦ second kind h
]

pub none_is_only : (a : FaultSet) (fault : RunFault) → HasNone a → HasOnly a fault
none_is_only a fault none kind e = absurd (none kind e)

-- a set by its faults
abbrev set_of : Bool → Bool → Bool → Bool → Bool → Bool → Bool → FaultSet
set_of divide uninit mixed bounds dead kind pointers =
    record { divide = divide; uninit = uninit; mixed = mixed; bounds = bounds; dead = dead; kind = kind; pointers = pointers }

-- two sets with the same faults are one
pub same_faults : (a b : FaultSet) → ((kind : RunFault) → has_fault a kind ≡ has_fault b kind) → a ≡ b
same_faults a b same =
    ap (λ (x : Bool). set_of x a.uninit a.mixed a.bounds a.dead a.kind a.pointers) (same Divide)
    ∙ ap (λ (x : Bool). set_of b.divide x a.mixed a.bounds a.dead a.kind a.pointers) (same Uninit)
    ∙ ap (λ (x : Bool). set_of b.divide b.uninit x a.bounds a.dead a.kind a.pointers) (same Mixed)
    ∙ ap (λ (x : Bool). set_of b.divide b.uninit b.mixed x a.dead a.kind a.pointers) (same Bounds)
    ∙ ap (λ (x : Bool). set_of b.divide b.uninit b.mixed b.bounds x a.kind a.pointers) (same Dead)
    ∙ ap (λ (x : Bool). set_of b.divide b.uninit b.mixed b.bounds b.dead x a.pointers) (same Kind)
    ∙ ap (λ (x : Bool). set_of b.divide b.uninit b.mixed b.bounds b.dead b.kind x) (same Pointers)

pub truth : (a b : Bool) → (a ≡ true → b ≡ true) → (b ≡ true → a ≡ true) → a ≡ b
truth true true to from = refl
truth true false to from = sym (to refl)
truth false true to from = from refl
truth false false to from = refl

-- a set without a fault is the empty one
pub none_is_empty : (a : FaultSet) → HasNone a → a ≡ no_faults
none_is_empty a none = same_faults a no_faults (λ kind. truth (has_fault a kind) (has_fault no_faults kind) (λ e. absurd (none kind e)) (λ e. absurd (no_fault kind e)))

-- the set of one fault
with_itself : (fault : RunFault) → has_fault (with_fault no_faults fault) fault ≡ true
with_itself fault = is_new no_faults fault

pub one_alone : (fault : RunFault) → HasOnly (with_fault no_faults fault) fault
one_alone Divide Divide e = refl
one_alone Uninit Uninit e = refl
one_alone Mixed Mixed e = refl
one_alone Bounds Bounds e = refl
one_alone Dead Dead e = refl
one_alone Kind Kind e = refl
one_alone Pointers Pointers e = refl
one_alone _ _ e = absurd (false≢true e)

pub only_is_one : (a : FaultSet) (fault : RunFault) → has_fault a fault ≡ true → HasOnly a fault
    → a ≡ with_fault no_faults fault
only_is_one a fault there only =
    same_faults a (with_fault no_faults fault) (λ kind. truth (has_fault a kind) (has_fault (with_fault no_faults fault) kind)
    (λ e. subst (λ (k : RunFault). has_fault (with_fault no_faults fault) k ≡ true) (sym (only kind e)) (with_itself fault))
    (λ e. subst (λ (k : RunFault). has_fault a k ≡ true) (sym (one_alone fault kind e)) there))

-- ---- sets of lists

with_cases : (set : FaultSet) (fault kind : RunFault) → has_fault (with_fault set fault) kind ≡ true
    → (fault ≡ kind) ⊎ (has_fault set kind ≡ true)
with_cases set Divide Divide e = inl refl
with_cases set Uninit Uninit e = inl refl
with_cases set Mixed Mixed e = inl refl
with_cases set Bounds Bounds e = inl refl
with_cases set Dead Dead e = inl refl
with_cases set Kind Kind e = inl refl
with_cases set Pointers Pointers e = inl refl
with_cases set _ _ e = inr e

with_kept : (set : FaultSet) (fault kind : RunFault) → has_fault set kind ≡ true
    → has_fault (with_fault set fault) kind ≡ true
with_kept set Divide Divide e = refl
with_kept set Uninit Uninit e = refl
with_kept set Mixed Mixed e = refl
with_kept set Bounds Bounds e = refl
with_kept set Dead Dead e = refl
with_kept set Kind Kind e = refl
with_kept set Pointers Pointers e = refl
with_kept set _ _ e = e

pub in_set : (faults : List RunFault) (kind : RunFault) → Contains faults kind
    → has_fault (fault_set faults) kind ≡ true
in_set [] kind among = no_member kind among
in_set (fault ∷ faults) kind among = first_or_further fault faults kind among
    (λ same. subst (λ (k : RunFault). has_fault (with_fault (fault_set faults) fault) k ≡ true) same (is_new (fault_set faults) fault))
    (λ rest. with_kept (fault_set faults) fault kind (in_set faults kind rest))

pub from_set : (faults : List RunFault) (kind : RunFault) → has_fault (fault_set faults) kind ≡ true
    → Contains faults kind
from_set [] kind e = absurd (no_fault kind e)
from_set (fault ∷ faults) kind e = elim (with_cases (fault_set faults) fault kind e) [
  | inl same ↦ subst (λ (k : RunFault). Contains (fault ∷ faults) k) same (first_member fault faults)
  | inr rest ↦ further_member fault faults kind (from_set faults kind rest)
]

-- ---- what goes on

pub all_told : {A : Type 0} (Sharp : Type 0) (P : A → Type 0) (a : A) → P a → LeftTold Sharp P (all_left a)
all_told Sharp P a holds = record { value = a; is = refl; holds = holds; none = λ sharp. no_fault }

more_left : {A : Type 0} (Sharp : Type 0) (P : A → Type 0) (faults : FaultSet) (r : Remains A)
    → (Sharp → HasNone faults) → LeftTold Sharp P r → LeftTold Sharp P (with_faults faults r)
more_left Sharp P faults r none told = record {
  value = told.value;
  is = told.is;
  holds = told.holds;
  none = λ sharp. none_in_either faults r.faults (none sharp) (told.none sharp);
}

more_fault : {A : Type 0} (Sharp : Type 0) (faults : FaultSet) (r : Remains A) (fault : RunFault)
    → (Sharp → HasNone faults) → FaultTold Sharp r fault → FaultTold Sharp (with_faults faults r) fault
more_fault Sharp faults r fault none told = record {
  told = in_second faults r.faults fault told.told;
  alone = told.alone;
  one = λ sharp. only_in_either faults r.faults fault (none_is_only faults fault (none sharp)) (told.one sharp);
}

pub left_on : {A B : Type 0} (Sharp : Type 0) (P : A → Type 0) (Q : B → Type 0) (r : Remains A) (further : A → Remains B) (told : LeftTold Sharp P r)
    → LeftTold Sharp Q (further told.value) → LeftTold Sharp Q (goes_on r further)
left_on Sharp P Q r further told rest = rw told.is (more_left Sharp Q r.faults (further told.value) told.none rest)

pub fault_on : {A B : Type 0} (Sharp : Type 0) (P : A → Type 0) (r : Remains A) (further : A → Remains B) (fault : RunFault) (told : LeftTold Sharp P r)
    → FaultTold Sharp (further told.value) fault → FaultTold Sharp (goes_on r further) fault
fault_on Sharp P r further fault told rest = rw told.is (more_fault Sharp r.faults (further told.value) fault told.none rest)

pub fault_stops : {A B : Type 0} (Sharp : Type 0) (r : Remains A) (further : A → Remains B) (fault : RunFault)
    → FaultTold Sharp r fault → FaultTold Sharp (goes_on r further) fault
fault_stops {A} Sharp r further fault told = go r.left refl
  where
    go : (o : Option A) → r.left ≡ o → FaultTold Sharp (onward r.faults o further) fault
    go None e = record { told = told.told; alone = λ sharp. refl; one = told.one }
    go (Some a) e = record {
      told = in_first r.faults (further a).faults fault told.told;
      alone = λ sharp. absurd (none-some a (sym (told.alone sharp) ∙ e));
      one = λ sharp. absurd (none-some a (sym (told.alone sharp) ∙ e));
    }

pub answers_on : {A B C : Type 0} (Sharp : Type 0) (P : A → Type 0) (Q : B → C → Type 0) (r : Remains A) (further : A → Remains B) (result : Result C RunFault) → LeftTold Sharp P r
    → ((a : A) → r.left ≡ Some a → P a → Answers Sharp Q (further a) result) → Answers Sharp Q (goes_on r further) result
answers_on Sharp P Q r further (Ok c) told rest = left_on Sharp P (λ b. Q b c) r further told (rest told.value told.is told.holds)
answers_on Sharp P Q r further (Err fault) told rest = fault_on Sharp P r further fault told (rest told.value told.is told.holds)

-- what holds of what is left
pub keeps_on : {A B : Type 0} (P : A → Type 0) (Q : B → Type 0) (r : Remains A) (further : A → Remains B) → IfLeft P r
    → ((a : A) → P a → IfLeft Q (further a)) → IfLeft Q (goes_on r further)
keeps_on {A} P Q r further kept rest = go r.left kept
  where
    go : (o : Option A) → IfSome o P → IfSome (onward r.faults o further).left Q
    go None kept = tt
    go (Some a) kept = rest a kept
