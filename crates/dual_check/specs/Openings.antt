-- Openings, and the program with them.
--   place_of p b xs       the place of the first member that passes, the first place being b
--   or_later a b          the first of them that is one
--   opening_of columns ks n   the first row that says how often a run leaves the node at most, and the node's first column
--   openings_of columns ks n  those of the nodes below n that some column leaves
--   costs_of o            the cost of each node
--   system_from o columns ks  the program of these columns and constraints
--   system_of o facts     the program of an outline and a report's facts
use Rattle.std.specs.Prelude.{◌==◌, ◌+◌, ℕ, Bool, List, [], ◌∷◌, map, length, Option, None, Some, if◌then◌else◌}
use Rattle.std.specs.List.{flat_map, range_with_len}
use Rattle.domain_core.specs.declared.outline.NodeRow.{NodeRow}
use Rattle.domain_core.specs.Outlines.{Outlined, shape_of}
use Rattle.flow_facts.specs.declared.fact.Fact.{Fact}
use Rattle.ipet_rows.specs.Columns.{Column, columns_of}
use Rattle.ipet_rows.specs.Rows.{row_of, cost_of, program_of}
use Rattle.dual_check.specs.declared.constraint.Constraint.{Constraint}
use Rattle.dual_check.specs.Systems.{System}
use Rattle.dual_check.specs.Constraints.{weighing_of, constraints_of, is_limit_of}

-- the place of the first member that passes, the first place being b
abbrev pub place_of : {A : Type 0} → (A → Bool) → ℕ → List A → Option ℕ
place_of p b [] = None
place_of p b (x ∷ xs) = if p x then Some b else place_of p (b + 1) xs

-- the first of them that is one
abbrev pub or_later : Option ℕ → Option ℕ → Option ℕ
or_later None later = later
or_later (Some a) later = Some a

-- both, or none
abbrev pub both_of : Option ℕ → Option ℕ → List (ℕ × ℕ)
both_of (Some a) (Some b) = (a, b) ∷ []
both_of _ _ = []

-- the first row that says how often a run leaves the node at most, and the node's first column
abbrev pub opening_of : List Column → List Constraint → ℕ → List (ℕ × ℕ)
opening_of columns ks n = both_of (place_of (λ k. is_limit_of n k) 0 ks) (place_of (λ c. n == c.from) 0 columns)

-- those of the nodes below n that some column leaves
abbrev pub openings_of : List Column → List Constraint → ℕ → List (ℕ × ℕ)
openings_of columns ks n = flat_map (λ m. opening_of columns ks m) (range_with_len 0 n)

-- the cost of each node
abbrev pub costs_of : Outlined → List ℕ
costs_of o = map (λ (row : NodeRow). row.cost) o.nodes

-- the program of these columns and constraints
abbrev pub system_from : Outlined → List Column → List Constraint → System
system_from o columns ks = record {
  program = record { costs = map (λ c. cost_of (costs_of o) c) columns; rows = map (λ k. row_of columns (weighing_of (shape_of o) k)) ks };
  openings = openings_of columns ks (length o.nodes);
}

-- the program of an outline and a report's facts
abbrev pub system_of : Outlined → List Fact → System
system_of o facts = record {
  program = program_of (shape_of o) (costs_of o) facts;
  openings = openings_of (columns_of (shape_of o) facts) (constraints_of (shape_of o) facts) (length o.nodes);
}
