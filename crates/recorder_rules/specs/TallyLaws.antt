-- The laws of recorders of counts in executions, once for what any of them counts.
--   step_within, step_wider   a step keeps what the span and the book cover
--   step_sharp, step_exact    and nothing else is there
--   end_wider, end_exact      the same at the end of a run
--   tally_is_recording        all laws
use Rattle.std.proofs.Common.{◌≡◌, ◌≢◌, ℕ, ◌+◌, ◌<◌, ◌≤◌, List, [], ◌∷◌, length, get_or, map, Option, Some, None, Bool, true, false, not, ◌&&◌, ◌==◌, cond, inl, inr, refl, sym, ap, ◌∙◌, subst, arith}
use Rattle.std.proofs.lemmas.List.{get_or-replicate, length-replicate}
use Rattle.std.proofs.lemmas.Bool.{eqb-true}
use Rattle.lists.specs.TestLaws.{by_test}
use Rattle.domain_core.specs.Outlines.{Outlined, Shape, shape_of, is_held, IsOutline}
use Rattle.domain_core.specs.Stretches.{with_closed}
use Rattle.domain_core.specs.Executions.{open_execution, closed_executions}
use Rattle.domain_core.specs.Recordings.{IsRecording}
use Rattle.recorder_rules.specs.Generated.{generated}
use Rattle.recorder_rules.specs.GeneratedLaws.{length-generated, at-generated}
use Rattle.recorder_rules.specs.Spans.{visits, IsWithin, collected, IsWider, spread_of, span_of, greatest}
use Rattle.recorder_rules.specs.SpanLaws.{low_or_over, wider_itself, wider_farther, collected_wider, collected_each, below_greatest, greatest_least}
use Rattle.recorder_rules.specs.TotalRules.{span_at, spread_at, span_order, AllWider}
use Rattle.recorder_rules.specs.TotalLaws.{past_end, greatest_spans_of, within_inside}
use Rattle.recorder_rules.specs.TallyRules.{Tally, Ledger, key_at, is_at, leaves, is_within, span_after, spread_after, open_count, closed_counts, all_counts, IsTally, IsTallied, IsSummed, IsSharpTally, IsExactTally, spans_gone, spreads_gone, spreads_ended, tally_recording}

-- ---- one number, by what holds the nodes

-- the step to k: the execution goes on where the scope holds k (hk), and hn says whether it holds the node before
step_within : (hk hn entered : Bool) (k m : ℕ) (e : List ℕ) (s : ℕ × ℕ) → (m == k) ≡ entered
    → (hk ≡ false → entered ≡ false) → (hn ≡ false → e ≡ []) → IsWithin (visits m e) s
    → IsWithin (visits m (cond hk (k ∷ e) [])) (span_after (hn && not hk) entered s)
step_within true true true k m e s is held none within = rw is (let p = within.0 in let q = within.1 in (omega arith, omega arith))
step_within true true false k m e s is held none within = rw is within
step_within true false true k m e s is held none within = rw is (let p = within.0 in let q = within.1 in (omega arith, omega arith))
step_within true false false k m e s is held none within = rw is within
step_within false hn true k m e s is held none within = absurd (let bad : true ≡ false = held refl in cc)
step_within false true false k m e s is held none within = (omega arith, omega arith)
step_within false false false k m e s is held none within = subst (λ (xs : List ℕ). IsWithin (visits m xs) s) (none refl) within

step_sharp : (hk hn entered : Bool) (k m : ℕ) (e : List ℕ) (s : ℕ × ℕ) → (m == k) ≡ entered
    → (hk ≡ false → entered ≡ false) → (hn ≡ false → e ≡ []) → s ≡ (visits m e, visits m e)
    → span_after (hn && not hk) entered s ≡ (visits m (cond hk (k ∷ e) []), visits m (cond hk (k ∷ e) []))
step_sharp true true true k m e s is held none same = rw (is, same) refl
step_sharp true true false k m e s is held none same = rw (is, same) refl
step_sharp true false true k m e s is held none same = rw (is, same) refl
step_sharp true false false k m e s is held none same = rw (is, same) refl
step_sharp false hn true k m e s is held none same = absurd (let bad : true ≡ false = held refl in cc)
step_sharp false true false k m e s is held none same = refl
step_sharp false false false k m e s is held none same = same ∙ ap (λ (xs : List ℕ). (visits m xs, visits m xs)) (none refl)

-- counts of executions, where one more is over
counts_closed : (m : ℕ) (e : List ℕ) (es : List (List ℕ)) → e ≢ []
    → map (λ x. visits m x) (with_closed e es) ≡ visits m e ∷ map (λ x. visits m x) es
counts_closed m [] es some = absurd (some refl)
counts_closed m (n ∷ e) es some = refl

-- an execution that is over is collected
end_wider : (hn : Bool) (m : ℕ) (e : List ℕ) (es : List (List ℕ)) (s : ℕ × ℕ) (t : Option (ℕ × ℕ))
    → (hn ≡ false → e ≡ []) → (hn ≡ true → e ≢ []) → IsWithin (visits m e) s
    → IsWider (spread_of (map (λ x. visits m x) es)) t → IsWider (spread_of (map (λ x. visits m x) (with_closed e es))) (spread_after hn t s)
end_wider true m e es s t none some within wider =
    subst (λ (xs : List ℕ). IsWider (spread_of xs) (collected t s)) (sym (counts_closed m e es (some refl)))
    (collected_each (spread_of (map (λ x. visits m x) es)) t (visits m e, visits m e) s wider within)
end_wider false m e es s t none some within wider = subst (λ (xs : List ℕ). IsWider (spread_of (map (λ x. visits m x) (with_closed xs es))) t) (sym (none refl)) wider

end_exact : (hn : Bool) (m : ℕ) (e : List ℕ) (es : List (List ℕ)) (s : ℕ × ℕ) (t : Option (ℕ × ℕ))
    → (hn ≡ false → e ≡ []) → (hn ≡ true → e ≢ []) → s ≡ (visits m e, visits m e)
    → t ≡ spread_of (map (λ x. visits m x) es) → spread_after hn t s ≡ spread_of (map (λ x. visits m x) (with_closed e es))
end_exact true m e es s t none some same is = rw (counts_closed m e es (some refl), is, same) refl
end_exact false m e es s t none some same is = is ∙ ap (λ (xs : List ℕ). spread_of (map (λ x. visits m x) (with_closed xs es))) (sym (none refl))

step_wider : (hk hn : Bool) (m : ℕ) (e : List ℕ) (es : List (List ℕ)) (s : ℕ × ℕ) (t : Option (ℕ × ℕ))
    → (hn ≡ false → e ≡ []) → (hn ≡ true → e ≢ []) → IsWithin (visits m e) s
    → IsWider (spread_of (map (λ x. visits m x) es)) t → IsWider (spread_of (map (λ x. visits m x) (cond hk es (with_closed e es)))) (spread_after (hn && not hk) t s)
step_wider true true m e es s t none some within wider = wider
step_wider true false m e es s t none some within wider = wider
step_wider false true m e es s t none some within wider = end_wider true m e es s t none some within wider
step_wider false false m e es s t none some within wider = end_wider false m e es s t none some within wider

step_exact : (hk hn : Bool) (m : ℕ) (e : List ℕ) (es : List (List ℕ)) (s : ℕ × ℕ) (t : Option (ℕ × ℕ))
    → (hn ≡ false → e ≡ []) → (hn ≡ true → e ≢ []) → s ≡ (visits m e, visits m e)
    → t ≡ spread_of (map (λ x. visits m x) es) → spread_after (hn && not hk) t s ≡ spread_of (map (λ x. visits m x) (cond hk es (with_closed e es)))
step_exact true true m e es s t none some same is = is
step_exact true false m e es s t none some same is = is
step_exact false true m e es s t none some same is = end_exact true m e es s t none some same is
step_exact false false m e es s t none some same is = end_exact false m e es s t none some same is

-- ---- along a trace

-- the scope holds the newest node, or no execution of it is open
open_none : (o : Shape) (t n : ℕ) (past : List ℕ) → is_held o t n ≡ false → open_execution o t (n ∷ past) ≡ []
open_none o t n past out = rw out refl

open_some : (o : Shape) (t n : ℕ) (past : List ℕ) → is_held o t n ≡ true → open_execution o t (n ∷ past) ≢ []
open_some o t n past held none = let bad : n ∷ open_execution o t past ≡ [] = sym (rw held refl) ∙ none in cc

-- what is not held is not entered
not_entered : (o : Shape) (t m k : ℕ) → is_held o t m ≡ true → is_held o t k ≡ false → (m == k) ≡ false
not_entered o t m k held out =
    by_test (m == k) (λ is. absurd (let same : m ≡ k = eqb-true m k is in let bad : true ≡ false = sym held ∙ ap (λ (n : ℕ). is_held o t n) same ∙ out in cc)) (λ clear. clear)

module _ (o : Shape) (w : Tally) (is : IsTally o w) (i t m : ℕ) (scope : key_at w.scopes i ≡ Some t) (node : key_at w.nodes i ≡ Some m) where
  held : is_held o t m ≡ true
  held = is.held i t m scope node

  left_by : (n k : ℕ) → leaves o (key_at w.scopes i) n k ≡ (is_held o t n && not (is_held o t k))
  left_by n k = ap (λ (key : Option ℕ). leaves o key n k) scope

  entered_by : (k : ℕ) → is_at (key_at w.nodes i) k ≡ (m == k)
  entered_by k = ap (λ (key : Option ℕ). is_at key k) node

  within_by : (n : ℕ) → is_within o (key_at w.scopes i) n ≡ is_held o t n
  within_by n = ap (λ (key : Option ℕ). is_within o key n) scope

  gone_within : (n k : ℕ) (past : List ℕ) (s : ℕ × ℕ) → IsWithin (open_count o t m (n ∷ past)) s
      → IsWithin (open_count o t m (k ∷ n ∷ past))
      (span_after (leaves o (key_at w.scopes i) n k) (is_at (key_at w.nodes i) k) s)
  gone_within n k past s within =
      rw (left_by n k, entered_by k)
      (step_within (is_held o t k) (is_held o t n) (m == k) k m (open_execution o t (n ∷ past)) s refl (not_entered o t m k held) (open_none o t n past) within)

  gone_sharp : (n k : ℕ) (past : List ℕ) (s : ℕ × ℕ) → s ≡ (open_count o t m (n ∷ past), open_count o t m (n ∷ past))
      → span_after (leaves o (key_at w.scopes i) n k) (is_at (key_at w.nodes i) k) s ≡ (open_count o t m (k ∷ n ∷ past), open_count o t m (k ∷ n ∷ past))
  gone_sharp n k past s same =
      rw (left_by n k, entered_by k)
      (step_sharp (is_held o t k) (is_held o t n) (m == k) k m (open_execution o t (n ∷ past)) s refl (not_entered o t m k held) (open_none o t n past) same)

  gone_wider : (n k : ℕ) (past : List ℕ) (s : ℕ × ℕ) (u : Option (ℕ × ℕ)) → IsWithin (open_count o t m (n ∷ past)) s
      → IsWider (spread_of (closed_counts o t m (n ∷ past))) u
      → IsWider (spread_of (closed_counts o t m (k ∷ n ∷ past))) (spread_after (leaves o (key_at w.scopes i) n k) u s)
  gone_wider n k past s u within wider =
      rw (left_by n k)
      (step_wider (is_held o t k) (is_held o t n) m (open_execution o t (n ∷ past)) (closed_executions o t (n ∷ past)) s u (open_none o t n past) (open_some o t n past) within wider)

  gone_exact : (n k : ℕ) (past : List ℕ) (s : ℕ × ℕ) (u : Option (ℕ × ℕ))
      → s ≡ (open_count o t m (n ∷ past), open_count o t m (n ∷ past)) → u ≡ spread_of (closed_counts o t m (n ∷ past))
      → spread_after (leaves o (key_at w.scopes i) n k) u s ≡ spread_of (closed_counts o t m (k ∷ n ∷ past))
  gone_exact n k past s u same is_spread =
      rw (left_by n k)
      (step_exact (is_held o t k) (is_held o t n) m (open_execution o t (n ∷ past)) (closed_executions o t (n ∷ past)) s u (open_none o t n past) (open_some o t n past) same is_spread)

  ended_wider : (n : ℕ) (past : List ℕ) (s : ℕ × ℕ) (u : Option (ℕ × ℕ)) → IsWithin (open_count o t m (n ∷ past)) s
      → IsWider (spread_of (closed_counts o t m (n ∷ past))) u
      → IsWider (spread_of (all_counts o t m (n ∷ past))) (spread_after (is_within o (key_at w.scopes i) n) u s)
  ended_wider n past s u within wider =
      rw (within_by n)
      (end_wider (is_held o t n) m (open_execution o t (n ∷ past)) (closed_executions o t (n ∷ past)) s u (open_none o t n past) (open_some o t n past) within wider)

  ended_exact : (n : ℕ) (past : List ℕ) (s : ℕ × ℕ) (u : Option (ℕ × ℕ))
      → s ≡ (open_count o t m (n ∷ past), open_count o t m (n ∷ past)) → u ≡ spread_of (closed_counts o t m (n ∷ past))
      → spread_after (is_within o (key_at w.scopes i) n) u s ≡ spread_of (all_counts o t m (n ∷ past))
  ended_exact n past s u same is_spread =
      rw (within_by n)
      (end_exact (is_held o t n) m (open_execution o t (n ∷ past)) (closed_executions o t (n ∷ past)) s u (open_none o t n past) (open_some o t n past) same is_spread)

  -- the beginning is a step from no trace
  first_sharp : span_after false (is_at (key_at w.nodes i) 0) (0, 0) ≡ (open_count o t m (0 ∷ []), open_count o t m (0 ∷ []))
  first_sharp = rw (entered_by 0) (step_sharp (is_held o t 0) false (m == 0) 0 m [] (0, 0) refl (not_entered o t m 0 held) (λ _. refl) refl)

  first_closed : closed_counts o t m (0 ∷ []) ≡ []
  first_closed = by_test (is_held o t 0) (λ is_in. rw is_in refl) (λ out. rw out refl)

-- ---- all numbers

-- a span after a step is at most one more
after_more : (left entered : Bool) (s : ℕ × ℕ) (g : ℕ) → s.0 ≤ g → s.1 ≤ g
    → ((span_after left entered s).0 ≤ g + 1) × ((span_after left entered s).1 ≤ g + 1)
after_more true true s g low high = (omega arith, omega arith)
after_more true false s g low high = (omega arith, omega arith)
after_more false true s g low high = (omega arith, omega arith)
after_more false false s g low high = (omega arith, omega arith)

after_wider : (left : Bool) (t : Option (ℕ × ℕ)) (s : ℕ × ℕ) → IsWider t (spread_after left t s)
after_wider true t s = collected_wider t s
after_wider false t s = wider_itself t

-- a list of spreads after each went on has at least what it had
generated_wider : (b : List (Option (ℕ × ℕ))) (left : ℕ → Bool) (s : ℕ → ℕ × ℕ)
    → AllWider b (generated (length b) (λ i. spread_after (left i) (spread_at b i) (s i)))
generated_wider b left s i =
    elim (low_or_over i (length b)) [
      | inl low ↦
          subst (λ (t : Option (ℕ × ℕ)). IsWider (spread_at b i) t)
          (sym (at-generated (length b) (λ j. spread_after (left j) (spread_at b j) (s j)) i None low))
          (after_wider (left i) (spread_at b i) (s i))
      | inr over ↦ subst (λ (t : Option (ℕ × ℕ)). IsWider t (spread_at (generated (length b) (λ j. spread_after (left j) (spread_at b j) (s j))) i)) (sym (past_end b i None over)) tt
    ]

-- where nothing is counted, nothing is left and nothing ends
nothing_left : (o : Shape) (key : Option ℕ) (n k : ℕ) (t : Option (ℕ × ℕ)) (s : ℕ × ℕ) → key ≡ None → t ≡ None
    → spread_after (leaves o key n k) t s ≡ None
nothing_left o key n k t s none empty = rw (none, empty) refl

nothing_ends : (o : Shape) (key : Option ℕ) (n : ℕ) (t : Option (ℕ × ℕ)) (s : ℕ × ℕ) → key ≡ None → t ≡ None
    → spread_after (is_within o key n) t s ≡ None
nothing_ends o key n t s none empty = rw (none, empty) refl

-- no span of the beginning is above 1
first_most : (entered : Bool)
    → ((cond {A = ℕ × ℕ} entered (1, 1) (0, 0)).0 ≤ 1) × ((cond {A = ℕ × ℕ} entered (1, 1) (0, 0)).1 ≤ 1)
first_most true = (omega arith, omega arith)
first_most false = (omega arith, omega arith)

module _ (w : Outlined → Tally) (tallied : (o : Outlined) → IsOutline (shape_of o) → IsTally (shape_of o) (w o)) where
  first_at : (o : Outlined) (i : ℕ) → i < length (w o).scopes
      → span_at ((tally_recording w).first o) i ≡ cond (is_at (key_at (w o).nodes i) 0) (1, 1) (0, 0)
  first_at o i low = at-generated (length (w o).scopes) (λ j. cond (is_at (key_at (w o).nodes j) 0) (1, 1) (0, 0)) i (0, 0) low

  gone_at : (o : Shape) (v : Tally) (r : List (ℕ × ℕ)) (n k i : ℕ) → i < length r
      → span_at (spans_gone o v r n k) i
      ≡ span_after (leaves o (key_at v.scopes i) n k) (is_at (key_at v.nodes i) k) (span_at r i)
  gone_at o v r n k i low = at-generated (length r) (λ j. span_after (leaves o (key_at v.scopes j) n k) (is_at (key_at v.nodes j) k) (span_at r j)) i (0, 0) low

  book_at : (o : Shape) (v : Tally) (r : List (ℕ × ℕ)) (b : List (Option (ℕ × ℕ))) (n k i : ℕ) → i < length b
      → spread_at (spreads_gone o v r b n k) i
      ≡ spread_after (leaves o (key_at v.scopes i) n k) (spread_at b i) (span_at r i)
  book_at o v r b n k i low = at-generated (length b) (λ j. spread_after (leaves o (key_at v.scopes j) n k) (spread_at b j) (span_at r j)) i None low

  ended_at : (o : Shape) (v : Tally) (r : List (ℕ × ℕ)) (b : List (Option (ℕ × ℕ))) (n i : ℕ) → i < length b
      → spread_at (spreads_ended o v r b n) i
      ≡ spread_after (is_within o (key_at v.scopes i) n) (spread_at b i) (span_at r i)
  ended_at o v r b n i low = at-generated (length b) (λ j. spread_after (is_within o (key_at v.scopes j) n) (spread_at b j) (span_at r j)) i None low

  sharp_within : (c : ℕ) (s : ℕ × ℕ) → s ≡ (c, c) → IsWithin c s
  sharp_within c s same = subst (λ (u : ℕ × ℕ). IsWithin c u) (sym same) (omega arith, omega arith)

  begun : (o : Outlined) (i t m : ℕ) → IsOutline (shape_of o) → i < length (w o).scopes → key_at (w o).scopes i ≡ Some t
      → key_at (w o).nodes i ≡ Some m
      → span_at ((tally_recording w).first o) i ≡ (open_count (shape_of o) t m (0 ∷ []), open_count (shape_of o) t m (0 ∷ []))
  begun o i t m ok low scope node = first_at o i low ∙ first_sharp (shape_of o) (w o) (tallied o ok) i t m scope node

  -- the greatest number after a step
  gone_greatest : (o : Shape) (v : Tally) (r : List (ℕ × ℕ)) (n k : ℕ)
      → greatest (spans_gone o v r n k) ≤ greatest r + 1
  gone_greatest o v r n k = greatest_least (spans_gone o v r n k) (greatest r + 1) (λ i within.
      let low : i < length r = (let e = length-generated (length r) (λ j. span_after (leaves o (key_at v.scopes j) n k) (is_at (key_at v.nodes j) k) (span_at r j)) in omega arith) in
      let below = below_greatest r i low in
      subst (λ (s : ℕ × ℕ). (s.0 ≤ greatest r + 1) × (s.1 ≤ greatest r + 1)) (sym (gone_at o v r n k i low))
      (after_more (leaves o (key_at v.scopes i) n k) (is_at (key_at v.nodes i) k) (span_at r i) (greatest r) below.0
      below.1))

  first_greatest : (o : Outlined) → greatest ((tally_recording w).first o) ≤ 1
  first_greatest o = greatest_least ((tally_recording w).first o) 1 (λ i within.
      let low : i < length (w o).scopes =
      (let e : length ((tally_recording w).first o) ≡ length (w o).scopes =
      length-generated (length (w o).scopes) (λ j. cond (is_at (key_at (w o).nodes j) 0) (1, 1) (0, 0)) in
      omega arith) in
      subst (λ (s : ℕ × ℕ). (s.0 ≤ 1) × (s.1 ≤ 1)) (sym (first_at o i low)) (first_most (is_at (key_at (w o).nodes i) 0)))

  -- spans and books of one outline
  spans_length : (o : Shape) (v : Tally) (r : List (ℕ × ℕ)) (n k : ℕ) → length (spans_gone o v r n k) ≡ length r
  spans_length o v r n k = length-generated (length r) (λ j. span_after (leaves o (key_at v.scopes j) n k) (is_at (key_at v.nodes j) k) (span_at r j))

  book_length : (o : Shape) (v : Tally) (r : List (ℕ × ℕ)) (b : List (Option (ℕ × ℕ))) (n k : ℕ)
      → length (spreads_gone o v r b n k) ≡ length b
  book_length o v r b n k = length-generated (length b) (λ j. spread_after (leaves o (key_at v.scopes j) n k) (spread_at b j) (span_at r j))

  ended_length : (o : Shape) (v : Tally) (r : List (ℕ × ℕ)) (b : List (Option (ℕ × ℕ))) (n : ℕ)
      → length (spreads_ended o v r b n) ≡ length b
  ended_length o v r b n = length-generated (length b) (λ j. spread_after (is_within o (key_at v.scopes j) n) (spread_at b j) (span_at r j))

  -- what a step leaves, with the tally of the book or that of the outline
  gone_covers_by : (o : Outlined) (v : Tally) (r : List (ℕ × ℕ)) (b : List (Option (ℕ × ℕ))) (n k : ℕ) (past : List ℕ)
      → IsOutline (shape_of o) → v ≡ w o → length r ≡ length (w o).scopes → length b ≡ length (w o).scopes
      → IsTallied (shape_of o) (w o) r b (n ∷ past) → IsTallied (shape_of o) (w o) (spans_gone (shape_of o) v r n k) (spreads_gone (shape_of o) v r b n k) (k ∷ n ∷ past)
  gone_covers_by o v r b n k past ok same len_r len_b covered =
      subst (λ (u : Tally). IsTallied (shape_of o) (w o) (spans_gone (shape_of o) u r n k) (spreads_gone (shape_of o) u r b n k) (k ∷ n ∷ past)) (sym same) (λ i t m low scope node.
      let here = covered i t m low scope node in
      let within = gone_within (shape_of o) (w o) (tallied o ok) i t m scope node n k past (span_at r i) here.0 in
      let wider = gone_wider (shape_of o) (w o) (tallied o ok) i t m scope node n k past (span_at r i) (spread_at b i) here.0 here.1 in (
        subst (λ (s : ℕ × ℕ). IsWithin (open_count (shape_of o) t m (k ∷ n ∷ past)) s) (sym (gone_at (shape_of o) (w o) r n k i (omega arith))) within,
        subst (λ (u : Option (ℕ × ℕ)). IsWider (spread_of (closed_counts (shape_of o) t m (k ∷ n ∷ past))) u) (sym (book_at (shape_of o) (w o) r b n k i (omega arith))) wider,
      ))

  finished_by : (o : Outlined) (v : Tally) (r : List (ℕ × ℕ)) (b : List (Option (ℕ × ℕ))) (n : ℕ) (past : List ℕ)
      → IsOutline (shape_of o) → v ≡ w o → length b ≡ length (w o).scopes
      → IsTallied (shape_of o) (w o) r b (n ∷ past) → IsSummed (shape_of o) (w o) (spreads_ended (shape_of o) v r b n) (n ∷ past)
  finished_by o v r b n past ok same len_b covered =
      subst (λ (u : Tally). IsSummed (shape_of o) (w o) (spreads_ended (shape_of o) u r b n) (n ∷ past)) (sym same) (λ i t m low scope node.
      let here = covered i t m low scope node in
      subst (λ (u : Option (ℕ × ℕ)). IsWider (spread_of (all_counts (shape_of o) t m (n ∷ past))) u) (sym (ended_at (shape_of o) (w o) r b n i (omega arith)))
      (ended_wider (shape_of o) (w o) (tallied o ok) i t m scope node n past (span_at r i) (spread_at b i) here.0 here.1))

  sharp_by : (o : Outlined) (v : Tally) (r : List (ℕ × ℕ)) (b : List (Option (ℕ × ℕ))) (n k : ℕ) (past : List ℕ)
      → IsOutline (shape_of o) → v ≡ w o → length r ≡ length (w o).scopes → length b ≡ length (w o).scopes
      → IsSharpTally (shape_of o) (w o) r b (n ∷ past) → IsSharpTally (shape_of o) (w o) (spans_gone (shape_of o) v r n k) (spreads_gone (shape_of o) v r b n k) (k ∷ n ∷ past)
  sharp_by o v r b n k past ok same len_r len_b sharp =
      subst (λ (u : Tally). IsSharpTally (shape_of o) (w o) (spans_gone (shape_of o) u r n k) (spreads_gone (shape_of o) u r b n k) (k ∷ n ∷ past)) (sym same) (record {
        spans = λ i t m low scope node.
            gone_at (shape_of o) (w o) r n k i (omega arith)
            ∙ gone_sharp (shape_of o) (w o) (tallied o ok) i t m scope node n k past (span_at r i)
            (sharp.spans i t m low scope node);
        spreads = λ i t m low scope node. book_at (shape_of o) (w o) r b n k i (omega arith)
            ∙ gone_exact (shape_of o) (w o) (tallied o ok) i t m scope node n k past (span_at r i) (spread_at b i) (sharp.spans i t m low scope node) (sharp.spreads i t m low scope node);
        elsewhere = λ i low none.
            book_at (shape_of o) (w o) r b n k i (omega arith)
            ∙ nothing_left (shape_of o) (key_at (w o).scopes i) n k (spread_at b i) (span_at r i) none
            (sharp.elsewhere i low none);
      })

  exact_by : (o : Outlined) (v : Tally) (r : List (ℕ × ℕ)) (b : List (Option (ℕ × ℕ))) (n : ℕ) (past : List ℕ)
      → IsOutline (shape_of o) → v ≡ w o → length b ≡ length (w o).scopes
      → IsSharpTally (shape_of o) (w o) r b (n ∷ past) → IsExactTally (shape_of o) (w o) (spreads_ended (shape_of o) v r b n) (n ∷ past)
  exact_by o v r b n past ok same len_b sharp =
      subst (λ (u : Tally). IsExactTally (shape_of o) (w o) (spreads_ended (shape_of o) u r b n) (n ∷ past)) (sym same) (record {
        spreads = λ i t m low scope node. ended_at (shape_of o) (w o) r b n i (omega arith)
            ∙ ended_exact (shape_of o) (w o) (tallied o ok) i t m scope node n past (span_at r i) (spread_at b i) (sharp.spans i t m low scope node) (sharp.spreads i t m low scope node);
        elsewhere = λ i low none.
            ended_at (shape_of o) (w o) r b n i (omega arith)
            ∙ nothing_ends (shape_of o) (key_at (w o).scopes i) n (spread_at b i) (span_at r i) none
            (sharp.elsewhere i low none);
      })

  pub tally_is_recording : IsRecording (List (ℕ × ℕ)) Ledger span_order (tally_recording w)
  tally_is_recording = record {
    first_is_of = λ o suited. length-generated (length (w o).scopes) (λ j. cond (is_at (key_at (w o).nodes j) 0) (1, 1) (0, 0));
    first_length = λ o suited. first_greatest o;
    first_book_is_of = λ o suited. (refl, length-replicate (length (w o).scopes) None);
    gone_is_of = λ o r b n k is edge low. record {
      suited = is.suited;
      recorder = spans_length (shape_of o) b.tally r n k ∙ is.recorder;
      book = (is.book.0, book_length (shape_of o) b.tally r b.spreads n k ∙ is.book.1);
    };
    gone_length = λ o r b n k is edge low. gone_greatest (shape_of o) b.tally r n k;
    finished_is_of = λ o r b n is low. (is.book.0, ended_length (shape_of o) b.tally r b.spreads n ∙ is.book.1);
    alike = λ o r s suited of_r of_s. of_r ∙ sym of_s;
    joined_is_of = λ o r s suited of_r of_s. length-generated (length r) (λ i. span_of (get_or r i (0, 0)) (get_or s i (0, 0))) ∙ of_r;
    joined_length = λ r s same. greatest_spans_of r s same;
    grows_itself = λ b i. wider_itself (spread_at b.spreads i);
    grows_farther = λ a b c first second i. wider_farther (spread_at a.spreads i) (spread_at b.spreads i) (spread_at c.spreads i) (first i) (second i);
    gone_grows = λ o r b n k is edge low. generated_wider b.spreads (λ i. leaves (shape_of o) (key_at b.tally.scopes i) n k) (λ i. span_at r i);
    finished_grows = λ o r b n is low. generated_wider b.spreads (λ i. is_within (shape_of o) (key_at b.tally.scopes i) n) (λ i. span_at r i);
    covers_grown = λ o r a b past grows covered i t m low scope node.
        let here = covered i t m low scope node in
        (here.0, wider_farther (spread_of (closed_counts (shape_of o) t m past)) (spread_at a.spreads i) (spread_at b.spreads i) here.1 (grows i));
    sums_up_grown = λ o a b past grows summed i t m low scope node.
        wider_farther (spread_of (all_counts (shape_of o) t m past)) (spread_at a.spreads i) (spread_at b.spreads i)
        (summed i t m low scope node) (grows i);
    above_covers = λ o r s b past under covered i t m low scope node.
        let here = covered i t m low scope node in
        (within_inside (open_count (shape_of o) t m past) i r s under here.0, here.1);
    first_covers = λ o b suited book_is i t m low scope node. (
      sharp_within (open_count (shape_of o) t m (0 ∷ [])) (span_at ((tally_recording w).first o) i) (begun o i t m suited.kept low scope node),
      subst (λ (counts : List ℕ). IsWider (spread_of counts) (spread_at b.spreads i)) (sym (first_closed (shape_of o) (w o) (tallied o suited.kept) i t m scope node)) tt,
    );
    gone_covers = λ o r b n k past is walk covered. gone_covers_by o b.tally r b.spreads n k past is.suited.kept is.book.0 is.recorder is.book.1 covered;
    finished_covers = λ o r b n past is walk covered. finished_by o b.tally r b.spreads n past is.suited.kept is.book.0 is.book.1 covered;
    first_sharp = λ o suited. record {
      spans = λ i t m low scope node. begun o i t m suited.kept low scope node;
      spreads = λ i t m low scope node.
          get_or-replicate (length (w o).scopes) i None None low
          ∙ ap (λ (counts : List ℕ). spread_of counts)
          (sym (first_closed (shape_of o) (w o) (tallied o suited.kept) i t m scope node));
      elsewhere = λ i low none. get_or-replicate (length (w o).scopes) i None None low;
    };
    gone_sharp = λ o r b n k past is walk sharp. sharp_by o b.tally r b.spreads n k past is.suited.kept is.book.0 is.recorder is.book.1 sharp;
    finished_sharp = λ o r b n past is walk sharp. exact_by o b.tally r b.spreads n past is.suited.kept is.book.0 is.book.1 sharp;
  }
