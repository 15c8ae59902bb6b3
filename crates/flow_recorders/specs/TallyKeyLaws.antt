-- Laws of tally keys.
--   loop_keys, count_keys    those of `EachHeader` and `OtherNodes` are
use Rattle.std.proofs.Common.{◌≡◌, ◌<◌, ℕ, Option, None, Some, Bool, true, false, cond, length, map, sym, ◌∙◌, subst, arith}
use Rattle.std.proofs.lemmas.List.{length-map}
use Rattle.domain_core.specs.declared.outline.NodeRow.{NodeRow}
use Rattle.domain_core.specs.Outlines.{Outlined, Shape, IsOutline, shape_of, header_of}
use Rattle.recorder_rules.specs.Generated.{generated}
use Rattle.recorder_rules.specs.GeneratedLaws.{length-generated}
use Rattle.recorder_rules.specs.TotalLaws.{node_low}
use Rattle.recorder_rules.specs.LoopRules.{is_counted, own_of, counted_scope, counted_node, loop_tally, count_tally}
use Rattle.recorder_rules.specs.LoopRuleLaws.{key_low, some_one}
use Rattle.flow_recorders.specs.Chained.{KeysBelow}
use Rattle.flow_recorders.specs.ClimbLaws.{own_low}
use Rattle.flow_recorders.specs.TallyKeys.{AreKeys}

-- keys that are given one by one
below_by : (n m : ℕ) (f : ℕ → Option ℕ) → ((i k : ℕ) → i < n → f i ≡ Some k → k < m) → KeysBelow (generated n f) m
below_by n m f low i k is =
    let there = key_low n f i k is in
    low i k there.0 there.1

where_some : (v : Bool) (a b : ℕ) → cond v (Some a) None ≡ Some b → a ≡ b
where_some true a b is = some_one a b is
where_some false a b is = absurd (let nothing : Option ℕ = None in let bad : nothing ≡ Some b = is in cc)

-- a counted node's keys are its own scope and itself
counted_own : (o : Shape) (n t : ℕ) → counted_scope o n ≡ Some t → own_of o n ≡ t
counted_own o n t is = where_some (is_counted o n) (own_of o n) t is

counted_self : (o : Shape) (n m : ℕ) → counted_node o n ≡ Some m → n ≡ m
counted_self o n m is = where_some (is_counted o n) n m is

pub loop_keys : (o : Outlined) → IsOutline (shape_of o) → AreKeys o (loop_tally o)
loop_keys o kept = record {
  scopes = below_by (length o.scopes) (length o.scopes) (λ t. Some t) (λ i k low is. subst (λ (n : ℕ). n < length o.scopes) (some_one i k is) low);
  nodes = below_by (length o.scopes) (length o.nodes) (λ t. Some (header_of o.scopes t)) (λ i k low is.
      subst (λ (n : ℕ). n < length o.nodes) (some_one (header_of o.scopes i) k is) (node_low o (header_of o.scopes i) (kept.headers_within i low)));
  few =
      let few = kept.few_scopes in
      let many = length-generated (length o.scopes) (λ t. Some t) in
      omega arith;
  same_length = length-generated (length o.scopes) (λ t. Some (header_of o.scopes t)) ∙ sym (length-generated (length o.scopes) (λ t. Some t));
}

pub count_keys : (o : Outlined) → IsOutline (shape_of o) → AreKeys o (count_tally o)
count_keys o kept = record {
  scopes = below_by (length o.nodes) (length o.scopes) (counted_scope (shape_of o)) (λ i k low is.
      subst (λ (n : ℕ). n < length o.scopes) (counted_own (shape_of o) i k is) (kept.scopes_within i (own_low o i low)));
  nodes = below_by (length o.nodes) (length o.nodes) (counted_node (shape_of o)) (λ i k low is. subst (λ (n : ℕ). n < length o.nodes) (counted_self (shape_of o) i k is) low);
  few =
      let few = kept.few_nodes in
      let own : length (map (λ (row : NodeRow). row.scope) o.nodes) ≡ length o.nodes = length-map o.nodes (λ (row : NodeRow). row.scope) in
      let many = length-generated (length o.nodes) (counted_scope (shape_of o)) in
      omega arith;
  same_length = length-generated (length o.nodes) (counted_node (shape_of o)) ∙ sym (length-generated (length o.nodes) (counted_scope (shape_of o)));
}
