-- One more node of a trace.
use Rattle.std.proofs.Common.{◌≡◌, ◌≢◌, ◌<◌, ◌+◌, ℕ, get_or, cond, ◌==◌, List, [], ◌∷◌, ◌++◌, length, set, Some, refl, ap, sym, ◌∙◌, length-set, get_or-set_other, arith, rules}
use Rattle.std.proofs.lemmas.List.Sums.{sum_by_push}
use Rattle.std.proofs.lemmas.Grind.{get_or_default_zero, get_or-set_at}
use Rattle.lists.specs.TestLaws.{by_test}
use Rattle.flow_graph.specs.Nodes.{Node}
use Rattle.alf_interp.specs.Traces.{AreNumbersOf, IsNodeAt, places_of, last_of, cost_of}
use Rattle.alf_interp.specs.Counts.{AreCounts}

-- its number stands where the node does
pub numbers_push : (nodes : List Node) (trace : List ℕ) (run : List Node) (n : ℕ) (node : Node)
    → AreNumbersOf nodes trace run → IsNodeAt nodes n node
    → AreNumbersOf nodes (trace ++ n ∷ []) (run ++ node ∷ [])
numbers_push nodes [] [] n node are is = (is, tt)
numbers_push nodes [] (x ∷ run) n node are is = absurd are
numbers_push nodes (m ∷ trace) [] n node are is = absurd are
numbers_push nodes (m ∷ trace) (x ∷ run) n node are is = (are.0, numbers_push nodes trace run n node are.1 is)

places_push : (trace : List ℕ) (at n : ℕ) → places_of (trace ++ at ∷ []) n ≡ places_of trace n + cond (at == n) 1 0
places_push trace at n = sum_by_push (λ m. cond (m == n) 1 0) trace at

-- it is counted once more
pub counts_push : (nodes : List Node) (trace counts : List ℕ) (at one : ℕ) → at < length counts
    → one ≡ get_or counts at one → AreCounts nodes trace counts
    → AreCounts nodes (trace ++ at ∷ []) (set counts at (one + 1))
counts_push nodes trace counts at one within is count =
    let zero_is : one ≡ get_or counts at 0 = is ∙ get_or_default_zero counts at one within in
    record {
      one_each = length-set counts at (one + 1) ∙ count.one_each;
      each = λ n less.
          let low : n < length counts = simp length-set at less in
          let before = count.each n low in
          let more = places_push trace at n in
          by_test (at == n)
          (λ e.
          let same : at ≡ n = search rules in
          let there = get_or-set_at counts at n (one + 1) 0 (sym same) within in
          let old : get_or counts at 0 ≡ get_or counts n 0 = ap (λ (k : ℕ). get_or counts k 0) same in
          let grown : places_of (trace ++ at ∷ []) n ≡ places_of trace n + 1 = rw e at more in
          omega arith)
          (λ e.
          let other : n ≢ at = search rules in
          let kept = get_or-set_other counts at n (one + 1) 0 other in
          let same : places_of (trace ++ at ∷ []) n ≡ places_of trace n + 0 = rw e at more in
          omega arith);
    }

-- its cost is added
pub cost_push : (costs trace : List ℕ) (at : ℕ)
    → cost_of costs (trace ++ at ∷ []) ≡ cost_of costs trace + get_or costs at 0
cost_push costs trace at = sum_by_push (λ n. get_or costs n 0) trace at

-- it is the last
pub last_push : (trace : List ℕ) (at : ℕ) → last_of (trace ++ at ∷ []) ≡ Some at
last_push [] at = refl
last_push (n ∷ []) at = refl
last_push (n ∷ m ∷ trace) at = last_push (m ∷ trace) at
