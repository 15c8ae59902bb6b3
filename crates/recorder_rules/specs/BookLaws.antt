-- What a book tells of a run that was collected.
--   header_visits      the places of a header are its visits
--   loop_bounds        what a book of loops has of a scope bounds the header's places in each execution
--   count_bounds       what a book of counts has of a counted node bounds its visits in each execution of its scope
--   total_bounds       what a book of totals has of a node bounds its visits in the run
--   loop_least, loop_most, count_least, count_most   of one run alone the least and the greatest are those of two executions
use Rattle.std.proofs.Common.{◌≡◌, ◌<◌, ◌+◌, ℕ, List, [], ◌∷◌, Option, None, Some, Bool, true, cond, length, reverse, Contains, refl, sym, ap, ◌∙◌, subst, arith}
use Rattle.lists.specs.ImageLaws.{image, mapped}
use Rattle.domain_core.specs.Outlines.{Outlined, Shape, shape_of, header_of, IsOutline}
use Rattle.domain_core.specs.Executions.{IsExecution, executions, header_count, is_header}
use Rattle.domain_core.specs.ExecutionLaws.{found_execution, execution_found}
use Rattle.recorder_rules.specs.GeneratedLaws.{length-generated, at-generated}
use Rattle.recorder_rules.specs.Spans.{visits, IsWithin, IsWider}
use Rattle.recorder_rules.specs.SpanLaws.{spread_has, spread_attained}
use Rattle.recorder_rules.specs.TotalRules.{spread_at, total_recording}
use Rattle.recorder_rules.specs.TallyRules.{Tally, Ledger, key_at, all_counts, IsSummed, IsExactTally}
use Rattle.recorder_rules.specs.LoopRules.{own_of, is_counted, counted_scope, counted_node, loop_tally, count_tally, loop_recording, count_recording}

-- the places of a header are its visits
pub header_visits : (o : Shape) (t : ℕ) (e : List ℕ) → visits (header_of o.scopes t) e ≡ header_count o t e
header_visits o t [] = refl
header_visits o t (n ∷ e) = ap (λ (c : ℕ). cond (is_header o t n) (c + 1) c) (header_visits o t e)

-- what is there is a span with the count in it
pub record Bounds (spread : Option (ℕ × ℕ)) (c : ℕ) : Type 0 where
  pub span : ℕ × ℕ
  pub is : spread ≡ Some span
  pub within : IsWithin c span

module _ (o : Shape) (ok : IsOutline o) (w : Tally) (b : List (Option (ℕ × ℕ))) (past : List ℕ) (i t m : ℕ) (low : i < length w.scopes) (scope : key_at w.scopes i ≡ Some t) (node : key_at w.nodes i ≡ Some m) where
  -- each execution has its count in what the book has
  tally_bounds : (e : List ℕ) → IsSummed o w b past → IsExecution o t (reverse past) (reverse e)
      → Bounds (spread_at b i) (visits m e)
  tally_bounds e summed is =
      let found = spread_has (all_counts o t m past) (spread_at b i) (visits m e) (summed i t m low scope node) (image (λ (x : List ℕ). visits m x) (executions o t past) e (execution_found o ok t past e is)) in
      record { span = found.0; is = found.1; within = found.2 }

  -- a count of the list is that of an execution
  counted_in : (c : ℕ) → Contains (all_counts o t m past) c
      → (e : List ℕ) × IsExecution o t (reverse past) (reverse e) × (visits m e ≡ c)
  counted_in c there = let found = mapped (λ (x : List ℕ). visits m x) (executions o t past) c there in (found.0, found_execution o ok t past found.0 found.1, found.2)

  tally_least : (s : ℕ × ℕ) → IsExactTally o w b past → spread_at b i ≡ Some s
      → (e : List ℕ) × IsExecution o t (reverse past) (reverse e) × (visits m e ≡ s.0)
  tally_least s exact is = counted_in s.0 (spread_attained (all_counts o t m past) s (sym (exact.spreads i t m low scope node) ∙ is)).0

  tally_most : (s : ℕ × ℕ) → IsExactTally o w b past → spread_at b i ≡ Some s
      → (e : List ℕ) × IsExecution o t (reverse past) (reverse e) × (visits m e ≡ s.1)
  tally_most s exact is = counted_in s.1 (spread_attained (all_counts o t m past) s (sym (exact.spreads i t m low scope node) ∙ is)).1

module _ (o : Outlined) (ok : IsOutline (shape_of o)) (b : Ledger) (past : List ℕ) where
  scope_low : (t : ℕ) → t < length o.scopes → t < length (loop_tally o).scopes
  scope_low t low = let e : length (loop_tally o).scopes ≡ length o.scopes = length-generated (length o.scopes) (λ s. Some s) in omega arith

  scope_key : (t : ℕ) → t < length o.scopes → key_at (loop_tally o).scopes t ≡ Some t
  scope_key t low = at-generated (length o.scopes) (λ s. Some s) t None low

  header_key : (t : ℕ) → t < length o.scopes → key_at (loop_tally o).nodes t ≡ Some (header_of o.scopes t)
  header_key t low = at-generated (length o.scopes) (λ s. Some (header_of o.scopes s)) t None low

  -- what a book of loops has of a scope bounds each execution
  pub loop_bounds : (t : ℕ) (e : List ℕ) → loop_recording.sums_up o b past → t < length o.scopes
      → IsExecution (shape_of o) t (reverse past) (reverse e)
      → Bounds (spread_at b.spreads t) (header_count (shape_of o) t e)
  loop_bounds t e summed low is =
      subst (λ (c : ℕ). Bounds (spread_at b.spreads t) c) (header_visits (shape_of o) t e)
      (tally_bounds (shape_of o) ok (loop_tally o) b.spreads past t t (header_of o.scopes t) (scope_low t low) (scope_key t low) (header_key t low) e summed is)

  -- of one run alone the least is that of an execution
  pub loop_least : (t : ℕ) (s : ℕ × ℕ) → loop_recording.exact o b past → t < length o.scopes
      → spread_at b.spreads t ≡ Some s
      → (e : List ℕ) × IsExecution (shape_of o) t (reverse past) (reverse e) × (header_count (shape_of o) t e ≡ s.0)
  loop_least t s exact low is =
      let found = tally_least (shape_of o) ok (loop_tally o) b.spreads past t t (header_of o.scopes t) (scope_low t low) (scope_key t low) (header_key t low) s exact is in
      (found.0, found.1, sym (header_visits (shape_of o) t found.0) ∙ found.2)

  -- and so is the greatest
  pub loop_most : (t : ℕ) (s : ℕ × ℕ) → loop_recording.exact o b past → t < length o.scopes
      → spread_at b.spreads t ≡ Some s
      → (e : List ℕ) × IsExecution (shape_of o) t (reverse past) (reverse e) × (header_count (shape_of o) t e ≡ s.1)
  loop_most t s exact low is =
      let found = tally_most (shape_of o) ok (loop_tally o) b.spreads past t t (header_of o.scopes t) (scope_low t low) (scope_key t low) (header_key t low) s exact is in
      (found.0, found.1, sym (header_visits (shape_of o) t found.0) ∙ found.2)

  node_low : (n : ℕ) → n < length o.nodes → n < length (count_tally o).scopes
  node_low n low = let e : length (count_tally o).scopes ≡ length o.nodes = length-generated (length o.nodes) (counted_scope (shape_of o)) in omega arith

  own_key : (n : ℕ) → n < length o.nodes → is_counted (shape_of o) n ≡ true
      → key_at (count_tally o).scopes n ≡ Some (own_of (shape_of o) n)
  own_key n low is = at-generated (length o.nodes) (counted_scope (shape_of o)) n None low ∙ ap (λ (v : Bool). cond v (Some (own_of (shape_of o) n)) None) is

  self_key : (n : ℕ) → n < length o.nodes → is_counted (shape_of o) n ≡ true → key_at (count_tally o).nodes n ≡ Some n
  self_key n low is = at-generated (length o.nodes) (counted_node (shape_of o)) n None low ∙ ap (λ (v : Bool). cond v (Some n) None) is

  -- what a book of counts has of a counted node bounds each execution of its scope
  pub count_bounds : (n : ℕ) (e : List ℕ) → count_recording.sums_up o b past → n < length o.nodes
      → is_counted (shape_of o) n ≡ true → IsExecution (shape_of o) (own_of (shape_of o) n) (reverse past) (reverse e)
      → Bounds (spread_at b.spreads n) (visits n e)
  count_bounds n e summed low counted is =
      tally_bounds (shape_of o) ok (count_tally o) b.spreads past n (own_of (shape_of o) n) n (node_low n low) (own_key n low counted) (self_key n low counted) e summed is

  pub count_least : (n : ℕ) (s : ℕ × ℕ) → count_recording.exact o b past → n < length o.nodes
      → is_counted (shape_of o) n ≡ true → spread_at b.spreads n ≡ Some s
      → (e : List ℕ) × IsExecution (shape_of o) (own_of (shape_of o) n) (reverse past) (reverse e) × (visits n e ≡ s.0)
  count_least n s exact low counted is =
      tally_least (shape_of o) ok (count_tally o) b.spreads past n (own_of (shape_of o) n) n (node_low n low) (own_key n low counted) (self_key n low counted) s exact is

  pub count_most : (n : ℕ) (s : ℕ × ℕ) → count_recording.exact o b past → n < length o.nodes
      → is_counted (shape_of o) n ≡ true → spread_at b.spreads n ≡ Some s
      → (e : List ℕ) × IsExecution (shape_of o) (own_of (shape_of o) n) (reverse past) (reverse e) × (visits n e ≡ s.1)
  count_most n s exact low counted is =
      tally_most (shape_of o) ok (count_tally o) b.spreads past n (own_of (shape_of o) n) n (node_low n low) (own_key n low counted) (self_key n low counted) s exact is

-- what a book of totals has of a node bounds its visits in the run
pub total_bounds : (o : Outlined) (b : List (Option (ℕ × ℕ))) (past : List ℕ) (n : ℕ) → total_recording.sums_up o b past
    → n < length o.nodes → Bounds (spread_at b n) (visits n past)
total_bounds o b past n summed low = by_spread (spread_at b n) (summed n low)
  where
    by_spread : (t : Option (ℕ × ℕ)) → IsWider (Some (visits n past, visits n past)) t → Bounds t (visits n past)
    by_spread None wider = elim wider [ ]
    by_spread (Some s) wider = record { span = s; is = refl; within = wider }
