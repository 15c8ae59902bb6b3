-- What rows weigh, by kinds.
--   weighing_of o k      the weights and the right side of a constraint
--   group_of o g fact    the constraints of a fact in a group
--   constraints_of o facts   the constraints of all rows in their order
--   is_limit_of n k      the constraint says how often a run leaves the node at most
--   node_of, second_node_of, third_node_of   the nodes that a constraint names
use Rattle.std.specs.Prelude.{◌==◌, ◌&&◌, not, ℕ, ℤ, pos, ◌+ℤ◌, ◌-ℤ◌, ◌*ℤ◌, Bool, false, List, [], ◌∷◌, ◌++◌, map, take}
use Rattle.std.specs.List.{flat_map}
use Rattle.domain_core.specs.Outlines.{Shape, header_of, is_held}
use Rattle.flow_facts.specs.declared.fact.Fact.{Fact}
use Rattle.flow_facts.specs.declared.fact.Fact.TheVariants.{Loop, Count, Dead, Total, Pair}
use Rattle.ipet_rows.specs.Columns.{Column, nodes_of}
use Rattle.ipet_rows.specs.Weights.{Weighing, one_if, leaves, enters, equal_to, at_most, most_pairs}
use Rattle.dual_check.specs.declared.constraint.Constraint.{Constraint}
use Rattle.dual_check.specs.declared.constraint.Constraint.TheVariants.{Flow, Most, Least, Limit, Demand, Apart}
use Rattle.dual_check.specs.declared.group.Group.{Group}
use Rattle.dual_check.specs.declared.group.Group.TheVariants.{Loops, Deads, Totals, Pairs, Counts}

-- the column leads to the header from outside the scope
abbrev pub begins_at : Shape → ℕ → ℕ → Column → ℤ
begins_at o s header c = one_if ((header == c.into) && not (is_held o s c.from))

-- the weights and the right side
abbrev pub weighing_of : Shape → Constraint → Weighing
weighing_of o (Flow n) = equal_to (λ c. leaves n c -ℤ enters n c) (one_if (n == 0))
weighing_of o (Most s header n high) = at_most (λ c. leaves n c -ℤ (pos high *ℤ begins_at o s header c)) (pos 0)
weighing_of o (Least s header n low) = at_most (λ c. (pos low *ℤ begins_at o s header c) -ℤ leaves n c) (pos 0)
weighing_of o (Limit n high) = at_most (λ c. leaves n c) (pos high)
weighing_of o (Demand n low) = at_most (λ c. pos 0 -ℤ leaves n c) (pos 0 -ℤ pos low)
weighing_of o (Apart header a b) = at_most (λ c. (leaves a c +ℤ leaves b c) -ℤ leaves header c) (pos 0)

-- each execution of the scope has the node low to high times
abbrev pub between : Shape → ℕ → ℕ → ℕ → ℕ → List Constraint
between o s n low high = Most s (header_of o.scopes s) n high ∷ Least s (header_of o.scopes s) n low ∷ []

-- the constraints of a fact in a group
abbrev pub group_of : Shape → Group → Fact → List Constraint
group_of o Loops (Loop s low high) = between o s (header_of o.scopes s) low high
group_of o Deads (Dead n) = Limit n 0 ∷ []
group_of o Totals (Total n low high) = Limit n high ∷ Demand n low ∷ []
group_of o Pairs (Pair s a b) = Apart (header_of o.scopes s) a b ∷ []
group_of o Counts (Count s n low high) = between o s n low high
group_of o _ _ = []

-- the constraints of all rows in their order
abbrev pub constraints_of : Shape → List Fact → List Constraint
constraints_of o facts =
    map (λ n. Flow n) (nodes_of o)
    ++ (flat_map (λ f. group_of o Loops f) facts
    ++ (flat_map (λ f. group_of o Deads f) facts
    ++ (flat_map (λ f. group_of o Totals f) facts
    ++ (take most_pairs (flat_map (λ f. group_of o Pairs f) facts)
    ++ flat_map (λ f. group_of o Counts f) facts))))

-- the constraint says how often a run leaves the node at most
abbrev pub is_limit_of : ℕ → Constraint → Bool
is_limit_of n (Limit m high) = n == m
is_limit_of n _ = false

-- the nodes that it names
abbrev pub node_of : Constraint → ℕ
node_of (Flow n) = n
node_of (Most s header n high) = n
node_of (Least s header n low) = n
node_of (Limit n high) = n
node_of (Demand n low) = n
node_of (Apart header a b) = a

abbrev pub second_node_of : Constraint → ℕ
second_node_of (Flow n) = n
second_node_of (Most s header n high) = header
second_node_of (Least s header n low) = header
second_node_of (Limit n high) = n
second_node_of (Demand n low) = n
second_node_of (Apart header a b) = b

abbrev pub third_node_of : Constraint → ℕ
third_node_of (Flow n) = n
third_node_of (Most s header n high) = n
third_node_of (Least s header n low) = n
third_node_of (Limit n high) = n
third_node_of (Demand n low) = n
third_node_of (Apart header a b) = header
