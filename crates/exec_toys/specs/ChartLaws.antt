-- The laws of flow charts and of spans.
--   span_is_order     spans are a lattice
--   chart_is_machine  a flow chart is a machine
use Rattle.std.proofs.Common.{◌≡◌, ◌<◌, ◌≤◌, ◌-◌, ℕ, Bool, true, false, List, [], ◌∷◌, length, Contains, refl, sym, subst, ◌∙◌, arith}
use Rattle.std.specs.Prelude.{nat_lt, not, ◌||◌}
use Rattle.std.proofs.lemmas.Bool.{ltb-true, ltb-false, lt-ltb, le-ltb}
use Rattle.std.proofs.lemmas.List.Elements.{Contains-append_left, Contains-append_right}
use Rattle.lists.specs.MemberLaws.{first_member}
use Rattle.lists.specs.TestLaws.{by_test}
use Rattle.alf_ops.specs.declared.history.RunFault.{RunFault}
use Rattle.alf_ops.specs.declared.history.RunFault.TheVariants.{Divide, Uninit, Mixed, Bounds, Dead, Kind, Pointers}
use Rattle.domain_core.specs.declared.fault_set.FaultSet.{FaultSet}
use Rattle.domain_core.specs.FaultSets.{has_fault, no_faults, with_fault, either}
use Rattle.domain_core.specs.FaultLaws.{is_new, is_united}
use Rattle.domain_core.specs.Orders.{IsOrder}
use Rattle.domain_core.specs.Machines.{IsMachine}
use Rattle.exec_toys.specs.declared.span.Span.{Span}
use Rattle.exec_toys.specs.declared.fork.Way.{Way}
use Rattle.exec_toys.specs.declared.fork.Way.TheVariants.{Goes, Fails}
use Rattle.exec_toys.specs.declared.fork.Fork.{Fork}
use Rattle.exec_toys.specs.Charts.{way_of, lowered, low_part, high_part, next_if, faults_if, next_of, faults_of, span_order, chart_machine}

pub span_is_order : IsOrder Span span_order
span_is_order = record {
  itself = λ a. (omega arith, omega arith);
  farther = λ a b c h k. let (hl, hm) = h in let (kl, km) = k in (omega arith, omega arith);
  left = λ a b h. (omega arith, omega arith);
  right = λ a b h. (omega arith, omega arith);
}

-- A number of the span and the way that it takes.

abbrev IsIn : Span → ℕ → Type 0
IsIn t c = (t.least ≤ c) × (c ≤ t.most)

-- the parts of a span have the numbers that take a way
low_has : (t : Span) (limit c : ℕ) → IsIn t c → c < limit → IsIn (low_part t limit) c
low_has t limit c (low, high) under = (low, omega arith)

high_has : (t : Span) (limit c : ℕ) → IsIn t c → limit ≤ c → IsIn (high_part t limit) c
high_has t limit c (low, high) over = (omega arith, high)

-- so much less
less_has : (t : Span) (less c : ℕ) → IsIn t c → IsIn (lowered t less) (c - less)
less_has t less c (low, high) = (omega arith, omega arith)

-- what a way gives
gives : (way : Way) (t : Span) (k less : ℕ) → way ≡ Goes k less → Contains (next_if true way t) (k, lowered t less)
gives way t k less is = subst (λ (w : Way). Contains (next_if true w t) (k, lowered t less)) (sym is) (first_member (k, lowered t less) [])

fails_so : (way : Way) (fault : RunFault) → way ≡ Fails fault → has_fault (faults_if true way) fault ≡ true
fails_so way fault is = subst (λ (w : Way). has_fault (faults_if true w) fault ≡ true) (sym is) (is_new no_faults fault)

-- the successor of a number that takes a way
finds : (fork : Fork) (t : Span) (c k less : ℕ) → IsIn t c → way_of fork c ≡ Goes k less
    → (u : Span) × Contains (next_of fork t) (k, u) × IsIn u (c - less)
finds fork t c k less within is =
    let (low, high) = within in
    let firsts : List (ℕ × Span) = next_if (nat_lt t.least fork.limit) fork.below (low_part t fork.limit) in
    let others : List (ℕ × Span) = next_if (not (nat_lt t.most fork.limit)) fork.above (high_part t fork.limit) in
    by_test (nat_lt c fork.limit)
    (λ under.
    let below : c < fork.limit = ltb-true c fork.limit under in
    let way : fork.below ≡ Goes k less = rw under at is in
    let some : nat_lt t.least fork.limit ≡ true = lt-ltb t.least fork.limit (omega arith) in
    let u : Span = lowered (low_part t fork.limit) less in
    (u, Contains-append_left firsts others (k, u) (rw some (gives fork.below (low_part t fork.limit) k less way)), less_has (low_part t fork.limit) less c (low_has t fork.limit c within below)))
    (λ over.
    let above : fork.limit ≤ c = ltb-false c fork.limit over in
    let way : fork.above ≡ Goes k less = rw over at is in
    let some : nat_lt t.most fork.limit ≡ false = le-ltb t.most fork.limit (omega arith) in
    let u : Span = lowered (high_part t fork.limit) less in
    (u, Contains-append_right firsts others (k, u) (rw some (gives fork.above (high_part t fork.limit) k less way)), less_has (high_part t fork.limit) less c (high_has t fork.limit c within above)))

-- what is in one of two sets is in both together
in_first : (a b : FaultSet) (fault : RunFault) → has_fault a fault ≡ true → has_fault (either a b) fault ≡ true
in_first a b fault there = is_united a b fault ∙ rw there refl

in_second : (a b : FaultSet) (fault : RunFault) → has_fault b fault ≡ true → has_fault (either a b) fault ≡ true
in_second a b fault there = is_united a b fault ∙ rw there (or_true (has_fault a fault))
  where
    or_true : (v : Bool) → (v || true) ≡ true
    or_true true = refl
    or_true false = refl

-- the fault of a number that takes a way
tells : (fork : Fork) (t : Span) (c : ℕ) (fault : RunFault) → IsIn t c → way_of fork c ≡ Fails fault
    → has_fault (faults_of fork t) fault ≡ true
tells fork t c fault within is =
    let (low, high) = within in
    let firsts : FaultSet = faults_if (nat_lt t.least fork.limit) fork.below in
    let others : FaultSet = faults_if (not (nat_lt t.most fork.limit)) fork.above in
    by_test (nat_lt c fork.limit)
    (λ under.
    let below : c < fork.limit = ltb-true c fork.limit under in
    let way : fork.below ≡ Fails fault = rw under at is in
    let some : nat_lt t.least fork.limit ≡ true = lt-ltb t.least fork.limit (omega arith) in
    in_first firsts others fault (rw some (fails_so fork.below fault way)))
    (λ over.
    let above : fork.limit ≤ c = ltb-false c fork.limit over in
    let way : fork.above ≡ Fails fault = rw over at is in
    let some : nat_lt t.most fork.limit ≡ false = le-ltb t.most fork.limit (omega arith) in
    in_second firsts others fault (rw some (fails_so fork.above fault way)))

-- Spans of one number.

abbrev IsAlone : Span → ℕ → Type 0
IsAlone t c = (t.least ≡ c) × (t.most ≡ c)

-- its one successor, and no fault
alone_goes : (fork : Fork) (t : Span) (c k less : ℕ) → IsAlone t c → way_of fork c ≡ Goes k less
    → (u : Span) × (next_of fork t ≡ (k, u) ∷ []) × (faults_of fork t ≡ no_faults) × IsAlone u (c - less)
alone_goes fork t c k less (low, high) is =
    by_test (nat_lt c fork.limit)
    (λ under.
    let below : c < fork.limit = ltb-true c fork.limit under in
    let way : fork.below ≡ Goes k less = rw under at is in
    let some : nat_lt t.least fork.limit ≡ true = lt-ltb t.least fork.limit (omega arith) in
    let none : nat_lt t.most fork.limit ≡ true = lt-ltb t.most fork.limit (omega arith) in
    (lowered (low_part t fork.limit) less, rw (some, none, way) refl, rw (some, none, way) refl, (omega arith, omega arith)))
    (λ over.
    let above : fork.limit ≤ c = ltb-false c fork.limit over in
    let way : fork.above ≡ Goes k less = rw over at is in
    let none : nat_lt t.least fork.limit ≡ false = le-ltb t.least fork.limit (omega arith) in
    let some : nat_lt t.most fork.limit ≡ false = le-ltb t.most fork.limit (omega arith) in
    (lowered (high_part t fork.limit) less, rw (some, none, way) refl, rw (some, none, way) refl, (omega arith, omega arith)))

-- its one fault, and no successor
alone_fails : (fork : Fork) (t : Span) (c : ℕ) (fault : RunFault) → IsAlone t c → way_of fork c ≡ Fails fault
    → (next_of fork t ≡ []) × (faults_of fork t ≡ with_fault no_faults fault)
alone_fails fork t c fault (low, high) is =
    by_test (nat_lt c fork.limit)
    (λ under.
    let below : c < fork.limit = ltb-true c fork.limit under in
    let way : fork.below ≡ Fails fault = rw under at is in
    let some : nat_lt t.least fork.limit ≡ true = lt-ltb t.least fork.limit (omega arith) in
    let none : nat_lt t.most fork.limit ≡ true = lt-ltb t.most fork.limit (omega arith) in
    (rw (some, none, way) refl, rw (some, none, way) (with_none fault)))
    (λ over.
    let above : fork.limit ≤ c = ltb-false c fork.limit over in
    let way : fork.above ≡ Fails fault = rw over at is in
    let none : nat_lt t.least fork.limit ≡ false = le-ltb t.least fork.limit (omega arith) in
    let some : nat_lt t.most fork.limit ≡ false = le-ltb t.most fork.limit (omega arith) in
    (rw (some, none, way) refl, rw (some, none, way) (none_with fault)))
  where
    with_none : (fault : RunFault) → either (with_fault no_faults fault) no_faults ≡ with_fault no_faults fault
    with_none Divide = refl
    with_none Uninit = refl
    with_none Mixed = refl
    with_none Bounds = refl
    with_none Dead = refl
    with_none Kind = refl
    with_none Pointers = refl

    none_with : (fault : RunFault) → either no_faults (with_fault no_faults fault) ≡ with_fault no_faults fault
    none_with Divide = refl
    none_with Uninit = refl
    none_with Mixed = refl
    none_with Bounds = refl
    none_with Dead = refl
    none_with Kind = refl
    none_with Pointers = refl

-- A flow chart is a machine.
pub chart_is_machine : (forks : List Fork) (span : Span) → IsMachine Span ℕ span_order (chart_machine forks span)
chart_is_machine forks span = record {
  first_fits = tt;
  next_fits = λ n k t u fits has node. tt;
  joined_fits = λ n t u f g. tt;
  fits_alike = λ n t u f g. tt;
  above_covers = λ t u c under covered. let (l, h) = under in let (low, high) = covered in (omega arith, omega arith);
  first_covers = λ c starts. starts;
  next_covers = λ n k t c d fits covered (less, (fork, found, way), node, same).
      let (u, has, within) = finds fork t c k less covered way in
      (u, rw found has, rw same within);
  end_follows = λ n t c fits covered (less, (fork, found, way)).
      let (u, has, within) = finds fork t c (length forks) less covered way in
      (u, rw found has);
  fault_told = λ n t c fault fits covered (fork, found, way). rw found (tells fork t c fault covered way);
  sharp_covers = λ t c sharp. let (low, high) = sharp in (omega arith, omega arith);
  first_sharp = λ c starts only. let (low, high) = starts in (only span.least (omega arith, omega arith), only span.most (omega arith, omega arith));
  next_sharp = λ n k t c d fits sharp (less, (fork, found, way), node, same).
      let (u, one, none, alone) = alone_goes fork t c k less sharp way in
      (u, rw found one, rw found none, rw same alone);
  end_sharp = λ n t c fits sharp (less, (fork, found, way)).
      let (u, one, none, alone) = alone_goes fork t c (length forks) less sharp way in
      (u, rw found one, rw found none);
  fault_sharp = λ n t c fault fits sharp (fork, found, way). let (none, told) = alone_fails fork t c fault sharp way in (rw found none, rw found told);
}
