-- How often a run uses each column. A run is the list of its nodes, the newest first, and whether it ended with a
-- fault.
--   steps_of o fault past     the columns that it uses: an edge for each two nodes, and a last one to the end
--   is_same c d               the columns are one
--   uses c steps              how often the column is used
--   column_counts o facts steps   the uses of each column of the program, by its number
--   run_cost costs past       what the run costs
--   IsEnded o facts fault past    a run of the outline that is over, with an alarm for its fault
use Rattle.std.specs.Prelude.{◌≡◌, ◌==◌, ◌&&◌, ℕ, zero, suc, ℤ, pos, Bool, true, false, List, [], ◌∷◌, map, length, count_by, sum_by, Contains, slice_index}
use Rattle.domain_core.specs.Outlines.{Shape}
use Rattle.domain_core.specs.Traces.{IsTrace}
use Rattle.flow_facts.specs.declared.fact.Fact.{Fact}
use Rattle.ipet_rows.specs.Columns.{Column, edge_column, has_alarm}

-- an edge for each two nodes
abbrev pub edges_used : List ℕ → List Column
edges_used [] = []
edges_used (n ∷ []) = []
edges_used (n ∷ m ∷ past) = edge_column (m, n) ∷ edges_used (m ∷ past)

-- the columns that a run uses, the newest first
abbrev pub steps_of : Shape → Bool → List ℕ → List Column
steps_of o fault [] = []
steps_of o fault (n ∷ past) = record { from = n; into = length o.own; fault = fault } ∷ edges_used (n ∷ past)

-- two tests agree
abbrev pub agree : Bool → Bool → Bool
agree true b = b
agree false true = false
agree false false = true

-- the columns are one
abbrev pub is_same : Column → Column → Bool
is_same c d = (c.from == d.from) && ((c.into == d.into) && agree c.fault d.fault)

-- how often the column is used
abbrev pub uses : Column → List Column → ℕ
uses c steps = count_by (λ d. is_same c d) steps

-- the number that a list has at a place, and 0 past its end
abbrev pub number_at : List ℕ → ℕ → ℕ
number_at [] e = 0
number_at (n ∷ ns) zero = n
number_at (n ∷ ns) (suc e) = number_at ns e

-- the uses of each column, by its number
abbrev pub column_counts : List Column → List Column → ℕ → ℤ
column_counts columns steps e = pos (number_at (map (λ c. uses c steps) columns) e)

-- what the run costs
abbrev pub run_cost : List ℕ → List ℕ → ℕ
run_cost costs past = sum_by (λ n. slice_index costs n) past

-- the run ends at its newest node: with a fault for which there is an alarm, or along an edge to the end
abbrev pub EndsAt : Shape → List Fact → Bool → List ℕ → Type 0
EndsAt o facts fault [] = ⊥
EndsAt o facts true (n ∷ past) = has_alarm facts n ≡ true
EndsAt o facts false (n ∷ past) = Contains o.edges (n, length o.own)

-- a run of the outline that is over, with an alarm for its fault
pub record IsEnded (o : Shape) (facts : List Fact) (fault : Bool) (past : List ℕ) : Type 0 where
  pub trace : IsTrace o past
  pub ends : EndsAt o facts fault past
