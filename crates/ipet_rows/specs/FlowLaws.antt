-- What the steps of a run weigh.
--   weigh_plus, weigh_minus, weigh_times   sums of weights
--   left          a run leaves each node as often as it is there
--   entered_at    and enters it as often, but that it begins at node 0
--   flow_is       so the flow of each node is 0, and that of node 0 is 1
--   worth_is      the costs of the steps are the run's cost
use Rattle.std.proofs.Common.{◌≡◌, ◌<◌, ◌+◌, ◌==◌, ℕ, ℤ, pos, Bool, true, false, List, [], ◌∷◌, cond, length, refl, ap, sym, ◌∙◌, subst, arith}
use Rattle.std.specs.Prelude.{◌+ℤ◌, ◌-ℤ◌, ◌*ℤ◌, slice_index}
use Rattle.std.proofs.lemmas.Bool.{ne_eqb}
use Rattle.std.proofs.lemmas.Int.{ints}
use Rattle.std.proofs.lemmas.List.Sums.{sum_by-cons}
use Rattle.whole_numbers.specs.MultipleLaws.{sum_times}
use Rattle.domain_core.specs.Outlines.{Shape}
use Rattle.domain_core.specs.Traces.{IsTrace}
use Rattle.flow_facts.specs.Facts.{places}
use Rattle.ipet_rows.specs.Columns.{Column}
use Rattle.ipet_rows.specs.Weights.{one_if, leaves, enters}
use Rattle.ipet_rows.specs.Rows.{cost_of}
use Rattle.ipet_rows.specs.Uses.{edges_used, steps_of, run_cost}
use Rattle.ipet_rows.specs.UseLaws.{weigh}

-- ---- sums of weights

pub weigh_plus : (f g : Column → ℤ) (steps : List Column)
    → weigh (λ c. f c +ℤ g c) steps ≡ weigh f steps +ℤ weigh g steps
weigh_plus f g [] = refl
weigh_plus f g (s ∷ steps) = omega (arith, ints, weigh_plus f g steps)

pub weigh_minus : (f g : Column → ℤ) (steps : List Column)
    → weigh (λ c. f c -ℤ g c) steps ≡ weigh f steps -ℤ weigh g steps
weigh_minus f g [] = refl
weigh_minus f g (s ∷ steps) = omega (arith, ints, weigh_minus f g steps)

pub weigh_times : (k : ℤ) (f : Column → ℤ) (steps : List Column) → weigh (λ c. k *ℤ f c) steps ≡ k *ℤ weigh f steps
weigh_times k f [] = omega (arith, ints)
weigh_times k f (s ∷ steps) = omega (arith, ints, weigh_times k f steps, sum_times (f s) (weigh f steps) k)

-- ---- nodes

-- one place more
pub place_more : (n m : ℕ) (past : List ℕ) → pos (places n (m ∷ past)) ≡ one_if (n == m) +ℤ pos (places n past)
place_more n m past = ap pos (sum_by-cons (λ k. cond (n == k) 1 0) m past) ∙ by (n == m)
  where
    by : (v : Bool) → pos (cond v 1 0 + places n past) ≡ one_if v +ℤ pos (places n past)
    by true = omega (arith, ints)
    by false = omega (arith, ints)

-- edges leave all nodes but the newest
edges_left : (n k : ℕ) (past : List ℕ) → weigh (λ c. leaves n c) (edges_used (k ∷ past)) ≡ pos (places n past)
edges_left n k [] = refl
edges_left n k (m ∷ past) = ap (λ (z : ℤ). one_if (n == m) +ℤ z) (edges_left n m past) ∙ sym (place_more n m past)

-- a run leaves each node as often as it is there
pub left : (o : Shape) (fault : Bool) (n k : ℕ) (past : List ℕ)
    → weigh (λ c. leaves n c) (steps_of o fault (k ∷ past)) ≡ pos (places n (k ∷ past))
left o fault n k past = ap (λ (z : ℤ). one_if (n == k) +ℤ z) (edges_left n k past) ∙ sym (place_more n k past)

-- edges enter all nodes but the first, which is node 0
edges_entered : (o : Shape) (n k : ℕ) (past : List ℕ) → IsTrace o (k ∷ past)
    → weigh (λ c. enters n c) (edges_used (k ∷ past)) +ℤ one_if (n == 0) ≡ pos (places n (k ∷ past))
edges_entered o n k [] first =
    let more = place_more n k [] in
    let none : pos (places n []) ≡ pos 0 = refl in
    subst (λ (j : ℕ). pos 0 +ℤ one_if (n == j) ≡ pos (places n (k ∷ []))) first (omega (arith, ints, more, none))
edges_entered o n k (m ∷ past) trace =
    let rest = edges_entered o n m past trace.2 in
    let more = place_more n k (m ∷ past) in
    omega (arith, ints, rest, more)

-- a run enters each node of the outline as often as it is there, but that it begins at node 0
pub entered_at : (o : Shape) (fault : Bool) (n k : ℕ) (past : List ℕ) → IsTrace o (k ∷ past) → n < length o.own
    → weigh (λ c. enters n c) (steps_of o fault (k ∷ past)) +ℤ one_if (n == 0) ≡ pos (places n (k ∷ past))
entered_at o fault n k past trace low =
    let rest = edges_entered o n k past trace in
    let other : (n == length o.own) ≡ false = ne_eqb n (length o.own) (λ e. omega arith) in
    rw other (omega (arith, ints, rest))

-- the flow of each node is 0, and that of node 0 is 1
pub flow_is : (o : Shape) (fault : Bool) (n k : ℕ) (past : List ℕ) → IsTrace o (k ∷ past) → n < length o.own
    → weigh (λ c. leaves n c -ℤ enters n c) (steps_of o fault (k ∷ past)) ≡ one_if (n == 0)
flow_is o fault n k past trace low =
    let out = left o fault n k past in
    let into = entered_at o fault n k past trace low in
    weigh_minus (λ c. leaves n c) (λ c. enters n c) (steps_of o fault (k ∷ past)) ∙ omega (arith, ints, out, into)

-- ---- costs

edges_cost : (costs : List ℕ) (k : ℕ) (past : List ℕ)
    → weigh (λ c. pos (cost_of costs c)) (edges_used (k ∷ past)) ≡ pos (run_cost costs past)
edges_cost costs k [] = refl
edges_cost costs k (m ∷ past) =
    ap (λ (z : ℤ). pos (slice_index costs m) +ℤ z) (edges_cost costs m past)
    ∙ sym (ap pos (sum_by-cons (λ n. slice_index costs n) m past) ∙ apart_sum (slice_index costs m) (run_cost costs past))
  where
    apart_sum : (a b : ℕ) → pos (a + b) ≡ pos a +ℤ pos b
    apart_sum a b = omega (arith, ints)

-- the costs of the steps are the run's cost
pub worth_is : (o : Shape) (fault : Bool) (costs : List ℕ) (k : ℕ) (past : List ℕ)
    → weigh (λ c. pos (cost_of costs c)) (steps_of o fault (k ∷ past)) ≡ pos (run_cost costs (k ∷ past))
worth_is o fault costs k past =
    ap (λ (z : ℤ). pos (slice_index costs k) +ℤ z) (edges_cost costs k past)
    ∙ sym (ap pos (sum_by-cons (λ n. slice_index costs n) k past) ∙ apart_sum (slice_index costs k) (run_cost costs past))
  where
    apart_sum : (a b : ℕ) → pos (a + b) ≡ pos a +ℤ pos b
    apart_sum a b = omega (arith, ints)
