-- What a run costs, node by node.
--   cost_is      a run costs each node's cost times its visits, added up
use Rattle.std.proofs.Common.{◌≡◌, ◌<◌, ◌+◌, ◌*◌, ◌==◌, ℕ, List, [], ◌∷◌, Bool, cond, Contains, sym, ap, ◌∙◌, arith}
use Rattle.std.specs.Prelude.{slice_index}
use Rattle.std.proofs.lemmas.Bool.{eqb-true}
use Rattle.std.proofs.lemmas.List.Sums.{sum_by-cons}
use Rattle.lists.specs.MemberLaws.{first_member, further_member}
use Rattle.lists.specs.TestLaws.{by_test}
use Rattle.ipet_rows.specs.Uses.{run_cost}
use Rattle.recorder_rules.specs.Spans.{visits}
use Rattle.report_soundness.specs.ReportTold.{sum_below}
use Rattle.report_soundness.specs.BelowLaws.{sum_same, sum_both, sum_none, sum_one}

-- one visit more of the node m
more_visits : (c : ℕ → ℕ) (m : ℕ) (nodes : List ℕ) (n : ℕ)
    → c n * visits n (m ∷ nodes) ≡ c n * visits n nodes + cond (n == m) (c m) 0
more_visits c m nodes n = by_test (n == m)
    (λ hit. let same : n ≡ m = eqb-true n m hit in
    ap (λ (v : Bool). c n * cond v (visits n nodes + 1) (visits n nodes)) hit ∙ times_more (c n) (visits n nodes) ∙ ap (λ (k : ℕ). c n * visits n nodes + k) (ap c same)
    ∙ sym (ap (λ (v : Bool). c n * visits n nodes + cond v (c m) 0) hit))
    (λ miss. ap (λ (v : Bool). c n * cond v (visits n nodes + 1) (visits n nodes)) miss ∙ no_more (c n * visits n nodes)
    ∙ sym (ap (λ (v : Bool). c n * visits n nodes + cond v (c m) 0) miss))
  where
    times_more : (a b : ℕ) → a * (b + 1) ≡ a * b + a
    times_more a b = omega arith

    no_more : (a : ℕ) → a ≡ a + 0
    no_more a = omega arith

-- a run costs each node's cost times its visits, added up
pub cost_is : (costs nodes : List ℕ) (k : ℕ) → ((n : ℕ) → Contains nodes n → n < k)
    → run_cost costs nodes ≡ sum_below (λ n. slice_index costs n * visits n nodes) k
cost_is costs [] k low =
    sym (sum_same (λ n. slice_index costs n * visits n []) (λ n. 0) k (λ n less. times_none (slice_index costs n)) ∙ sum_none k)
  where
    times_none : (a : ℕ) → a * 0 ≡ 0
    times_none a = omega arith
cost_is costs (m ∷ nodes) k low =
    let c : ℕ → ℕ = λ n. slice_index costs n in
    let first : run_cost costs (m ∷ nodes) ≡ c m + run_cost costs nodes = sum_by-cons (λ n. slice_index costs n) m nodes in
    let rest : run_cost costs nodes ≡ sum_below (λ n. c n * visits n nodes) k = cost_is costs nodes k (λ n there. low n (further_member m nodes n there)) in
    let each : sum_below (λ n. c n * visits n (m ∷ nodes)) k ≡ sum_below (λ n. c n * visits n nodes + cond (n == m) (c m) 0) k =
    sum_same (λ n. c n * visits n (m ∷ nodes)) (λ n. c n * visits n nodes + cond (n == m) (c m) 0) k (λ n less. more_visits c m nodes n) in
    let both : sum_below (λ n. c n * visits n nodes + cond (n == m) (c m) 0) k ≡ sum_below (λ n. c n * visits n nodes) k + sum_below (λ n. cond (n == m) (c m) 0) k =
    sum_both (λ n. c n * visits n nodes) (λ n. cond (n == m) (c m) 0) k in
    let one : sum_below (λ n. cond (n == m) (c m) 0) k ≡ c m = sum_one m (c m) k (low m (first_member m nodes)) in
    omega (arith, first, rest, each, both, one)
