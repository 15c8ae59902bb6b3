-- Laws of loop rules.
--   loop_is_recording, count_is_recording   the laws
--   key_low        what is read out of a generated list of keys is there
--   loop_lengths   as many scopes as nodes are counted
use Rattle.std.proofs.Common.{◌≡◌, ℕ, ◌<◌, List, Option, Some, None, Bool, true, false, cond, length, sym, ◌∙◌, subst, arith, inl, inr}
use Rattle.domain_core.specs.Outlines.{Outlined, Shape, shape_of, is_held, header_of, IsOutline, here}
use Rattle.domain_core.specs.OutlineLaws.{is_holder}
use Rattle.domain_core.specs.Recordings.{IsRecording}
use Rattle.recorder_rules.specs.Generated.{generated}
use Rattle.recorder_rules.specs.GeneratedLaws.{length-generated, at-generated}
use Rattle.recorder_rules.specs.SpanLaws.{low_or_over}
use Rattle.recorder_rules.specs.TotalRules.{span_order}
use Rattle.recorder_rules.specs.TotalLaws.{past_end}
use Rattle.recorder_rules.specs.TallyRules.{Ledger, key_at, IsTally}
use Rattle.recorder_rules.specs.TallyLaws.{tally_is_recording}
use Rattle.recorder_rules.specs.LoopRules.{own_of, is_counted, loop_tally, counted_scope, counted_node, count_tally, loop_recording, count_recording}

-- ---- laws

-- what is read out of a generated list of keys is there
pub key_low : (n : ℕ) (f : ℕ → Option ℕ) (i k : ℕ) → key_at (generated n f) i ≡ Some k → (i < n) × (f i ≡ Some k)
key_low n f i k is =
    elim (low_or_over i n) [
      | inl low ↦ (low, sym (at-generated n f i None low) ∙ is)
      | inr over ↦ absurd (let none : key_at (generated n f) i ≡ None = past_end (generated n f) i None (let e = length-generated n f in omega arith) in let bad : Some k ≡ None = sym is ∙ none in cc)
    ]

pub some_one : (a b : ℕ) → Some a ≡ Some b → a ≡ b
some_one a b same = cc

-- as many scopes as nodes are counted
pub loop_lengths : (o : Outlined) → length (loop_tally o).scopes ≡ length (loop_tally o).nodes
loop_lengths o = length-generated (length o.scopes) (λ t. Some t) ∙ sym (length-generated (length o.scopes) (λ t. Some (header_of o.scopes t)))

pub count_lengths : (o : Outlined) → length (count_tally o).scopes ≡ length (count_tally o).nodes
count_lengths o = length-generated (length o.nodes) (counted_scope (shape_of o)) ∙ sym (length-generated (length o.nodes) (counted_node (shape_of o)))

loop_tallied : (o : Outlined) → IsOutline (shape_of o) → IsTally (shape_of o) (loop_tally o)
loop_tallied o ok = record {
  same_length = loop_lengths o;
  held = λ i t m scope node.
      let first = key_low (length o.scopes) (λ s. Some s) i t scope in
      let second = key_low (length o.scopes) (λ s. Some (header_of o.scopes s)) i m node in
      let same : i ≡ t = some_one i t first.1 in
      let header : header_of o.scopes i ≡ m = some_one (header_of o.scopes i) m second.1 in
      let there : is_held (shape_of o) i (header_of o.scopes i) ≡ true = is_holder (shape_of o) ok i (header_of o.scopes i) (ok.headers_held i first.0) in
      subst (λ (n : ℕ). is_held (shape_of o) n m ≡ true) same (subst (λ (n : ℕ). is_held (shape_of o) i n ≡ true) header there);
}

-- where a node is counted, its own scope and itself are so
counted_are : (o : Shape) (n t m : ℕ) → counted_scope o n ≡ Some t → counted_node o n ≡ Some m
    → (own_of o n ≡ t) × (n ≡ m)
counted_are o n t m scope node = by_counted (is_counted o n) scope node
  where
    by_counted : (v : Bool) → cond v (Some (own_of o n)) None ≡ Some t → cond v (Some n) None ≡ Some m
        → (own_of o n ≡ t) × (n ≡ m)
    by_counted true first second = (some_one (own_of o n) t first, some_one n m second)
    by_counted false first second = absurd (let nothing : Option ℕ = None in let bad : nothing ≡ Some t = first in cc)

count_tallied : (o : Outlined) → IsOutline (shape_of o) → IsTally (shape_of o) (count_tally o)
count_tallied o ok = record {
  same_length = count_lengths o;
  held = λ i t m scope node.
      let first = key_low (length o.nodes) (counted_scope (shape_of o)) i t scope in
      let second = key_low (length o.nodes) (counted_node (shape_of o)) i m node in
      let both = counted_are (shape_of o) i t m first.1 second.1 in
      let there : is_held (shape_of o) (own_of (shape_of o) i) i ≡ true = is_holder (shape_of o) ok (own_of (shape_of o) i) i here in
      subst (λ (n : ℕ). is_held (shape_of o) n m ≡ true) both.0 (subst (λ (n : ℕ). is_held (shape_of o) (own_of (shape_of o) i) n ≡ true) both.1 there);
}

pub loop_is_recording : IsRecording (List (ℕ × ℕ)) Ledger span_order loop_recording
loop_is_recording = tally_is_recording loop_tally loop_tallied

pub count_is_recording : IsRecording (List (ℕ × ℕ)) Ledger span_order count_recording
count_is_recording = tally_is_recording count_tally count_tallied
