-- The nodes with an alarm, as they are marked.
use Rattle.std.proofs.Common.{inl, inr, ◌≡◌, ◌==◌, ◌<◌, ◌≤◌, ◌+◌, ℕ, zero, suc, Bool, true, false, List, [], ◌∷◌, ◌++◌, get_or, length, refl, ap, ◌∙◌, arith}
use Rattle.std.specs.Prelude.{◌||◌, slice_set}
use Rattle.std.specs.List.{flat_map, range_with_len}
use Rattle.std.proofs.lemmas.List.{get_or-set_same, get_or-set_other}
use Rattle.std.proofs.lemmas.Bool.{eq-eqb, ne_eqb, cases_eq}
use Rattle.flow_facts.specs.declared.fact.Fact.{Fact}
use Rattle.ipet_rows.specs.Columns.{Column, is_alarm_at, has_alarm}
use Rattle.dual_check.specs.Terms.{fault_if}

-- a node more without a mark
pub none_more : (marks : List Bool) (n : ℕ) → ((m : ℕ) → get_or marks m false ≡ false)
    → get_or (marks ++ false ∷ []) n false ≡ false
none_more [] zero none = refl
none_more [] (suc n) none = refl
none_more (m ∷ marks) zero none = none 0
none_more (m ∷ marks) (suc n) none = none_more marks n (λ k. none (suc k))

-- nothing is marked
pub same : (a : Bool) → a ≡ (a || false)
same true = refl
same false = refl

always : (a : Bool) → true ≡ (a || true)
always true = refl
always false = refl

-- a node of the list
pub marked : (old new : List Bool) (node n : ℕ) → node < length old → new ≡ slice_set old node true
    → get_or new n false ≡ (get_or old n false || n == node)
marked old new node n low is = elim (cases_eq n node) [
  | inl e ↦ ap (λ ms. get_or ms n false) is ∙ rw (e, eq-eqb node node refl) (get_or-set_same old node true false low ∙ always (get_or old node false))
  | inr d ↦ ap (λ ms. get_or ms n false) is ∙ get_or-set_other old node n true false d ∙ rw (ne_eqb n node d) (same (get_or old n false))
]

-- and one past it
pub past : (old new : List Bool) (node n : ℕ) → length old ≤ node → n < length old → new ≡ old
    → get_or new n false ≡ (get_or old n false || n == node)
past old new node n far low is = ap (λ ms. get_or ms n false) is ∙ rw (ne_eqb n node (λ one. omega (arith, one, far, low))) (same (get_or old n false))

-- ---- alarms

step : (a b later : Bool) → ((a || b) || later) ≡ (a || (b || later))
step true b later = refl
step false b later = refl

pub alarms_more : (old new : List Bool) (f : Fact) (fs all : List Fact) (n : ℕ)
    → (get_or old n false || has_alarm (f ∷ fs) n) ≡ has_alarm all n
    → get_or new n false ≡ (get_or old n false || is_alarm_at n f) → (get_or new n false || has_alarm fs n) ≡ has_alarm all n
alarms_more old new f fs all n is next = ap (λ a. a || has_alarm fs n) next ∙ step (get_or old n false) (is_alarm_at n f) (has_alarm fs n) ∙ is

pub alarms_begun : (marks : List Bool) (all : List Fact) (n : ℕ) → ((m : ℕ) → get_or marks m false ≡ false)
    → (get_or marks n false || has_alarm all n) ≡ has_alarm all n
alarms_begun marks all n none = ap (λ a. a || has_alarm all n) (none n)

pub alarms_all : (marks : List Bool) (all : List Fact) (n : ℕ)
    → (get_or marks n false || has_alarm [] n) ≡ has_alarm all n → get_or marks n false ≡ has_alarm all n
alarms_all marks all n is = same (get_or marks n false) ∙ is

-- the faults of marked nodes are those of nodes with an alarm
faults_same : (end b k : ℕ) (p q : ℕ → Bool) → ((n : ℕ) → n < b + k → p n ≡ q n) → flat_map (λ n. fault_if end n (p n)) (range_with_len b k) ≡ flat_map (λ n. fault_if end n (q n)) (range_with_len b k)
faults_same end b zero p q each = refl
faults_same end b (suc k) p q each =
    ap (λ (v : Bool). fault_if end b v ++ flat_map (λ n. fault_if end n (p n)) (range_with_len (b + 1) k)) (each b (omega arith))
    ∙ ap (λ (cs : List Column). fault_if end b (q b) ++ cs) (faults_same end (b + 1) k p q (λ n low. each n (omega (arith, low))))

pub faults_marked : (end : ℕ) (marks : List Bool) (facts : List Fact) (old out : List Column)
    → ((n : ℕ) → n < end → get_or marks n false ≡ has_alarm facts n)
    → out ≡ old ++ flat_map (λ n. fault_if end n (get_or marks n false)) (range_with_len 0 end) → out ≡ old ++ flat_map (λ n. fault_if end n (has_alarm facts n)) (range_with_len 0 end)
faults_marked end marks facts old out each is =
    is ∙ ap (λ (cs : List Column). old ++ cs) (faults_same end 0 end (λ n. get_or marks n false) (λ n. has_alarm facts n) (λ n low. each n (omega (arith, low))))
