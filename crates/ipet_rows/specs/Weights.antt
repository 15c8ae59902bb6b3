-- The rows of the program, each as a weight of columns and a right side, in six groups.
--   Weighing          an equation or an at-most row: the weights of the columns and the right side
--   leaves n c, enters n c      1 where the column leads from the node, or into it
--   begins o s c      1 where the column leads to the scope's header from outside the scope
--   flow_row n        as often as a run leaves a node it enters it, but that it begins at node 0
--   between_rows o s n low high   each execution of the scope has the node low to high times
--   loop_rows, dead_rows, total_rows, pair_rows, count_rows   the rows of a fact of this kind
--   weighings o facts  all rows in their order
--   most_pairs        so many pairs have a row
use Rattle.std.specs.Prelude.{◌==◌, ◌&&◌, not, ℕ, ℤ, pos, ◌+ℤ◌, ◌-ℤ◌, ◌*ℤ◌, Bool, true, false, List, [], ◌∷◌, ◌++◌, map, take}
use Rattle.std.specs.List.{flat_map}
use Rattle.domain_core.specs.Outlines.{Shape, header_of, is_held}
use Rattle.flow_facts.specs.declared.fact.Fact.{Fact}
use Rattle.flow_facts.specs.declared.fact.Fact.TheVariants.{Loop, Count, Dead, Total, Pair}
use Rattle.ipet_rows.specs.Columns.{Column, nodes_of}

pub record Weighing : Type 0 where
  pub equation : Bool
  pub weight : Column → ℤ
  pub right : ℤ

-- 1 or 0
abbrev pub one_if : Bool → ℤ
one_if true = pos 1
one_if false = pos 0

-- the column leads from the node, or into it
abbrev pub leaves : ℕ → Column → ℤ
leaves n c = one_if (n == c.from)

abbrev pub enters : ℕ → Column → ℤ
enters n c = one_if (n == c.into)

-- the column leads to the scope's header from outside the scope
abbrev pub begins : Shape → ℕ → Column → ℤ
begins o s c = one_if ((header_of o.scopes s == c.into) && not (is_held o s c.from))

abbrev pub equal_to : (Column → ℤ) → ℤ → Weighing
equal_to weight right = record { equation = true; weight = weight; right = right }

abbrev pub at_most : (Column → ℤ) → ℤ → Weighing
at_most weight right = record { equation = false; weight = weight; right = right }

-- ---- the groups

-- as often as a run leaves a node it enters it, but that it begins at node 0
abbrev pub flow_row : ℕ → Weighing
flow_row n = equal_to (λ c. leaves n c -ℤ enters n c) (one_if (n == 0))

-- each execution of the scope has the node low to high times
abbrev pub between_rows : Shape → ℕ → ℕ → ℕ → ℕ → List Weighing
between_rows o s n low high =
    at_most (λ c. leaves n c -ℤ (pos high *ℤ begins o s c)) (pos 0)
    ∷ at_most (λ c. (pos low *ℤ begins o s c) -ℤ leaves n c) (pos 0)
    ∷ []

abbrev pub loop_rows : Shape → Fact → List Weighing
loop_rows o (Loop s low high) = between_rows o s (header_of o.scopes s) low high
loop_rows o _ = []

abbrev pub dead_rows : Fact → List Weighing
dead_rows (Dead n) = at_most (λ c. leaves n c) (pos 0) ∷ []
dead_rows _ = []

abbrev pub total_rows : Fact → List Weighing
total_rows (Total n low high) = at_most (λ c. leaves n c) (pos high) ∷ at_most (λ c. pos 0 -ℤ leaves n c) (pos 0 -ℤ pos low) ∷ []
total_rows _ = []

abbrev pub pair_rows : Shape → Fact → List Weighing
pair_rows o (Pair s a b) = at_most (λ c. (leaves a c +ℤ leaves b c) -ℤ leaves (header_of o.scopes s) c) (pos 0) ∷ []
pair_rows o _ = []

abbrev pub count_rows : Shape → Fact → List Weighing
count_rows o (Count s n low high) = between_rows o s n low high
count_rows o _ = []

-- so many pairs have a row
abbrev pub most_pairs : ℕ
most_pairs = 128

-- all rows in their order
abbrev pub weighings : Shape → List Fact → List Weighing
weighings o facts =
    map (λ n. flow_row n) (nodes_of o)
    ++ (flat_map (λ f. loop_rows o f) facts
    ++ (flat_map (λ f. dead_rows f) facts
    ++ (flat_map (λ f. total_rows f) facts
    ++ (take most_pairs (flat_map (λ f. pair_rows o f) facts)
    ++ flat_map (λ f. count_rows o f) facts))))
