-- The columns of the program that an outline and facts make: ways that lead on from a node.
--   Column             where it leads from and into, and whether it is a fault
--   edge_column e      the column of an edge
--   fault_column o n   the column of a fault at the node n; it leads to the end
--   has_alarm facts n  a fact is an alarm at the node
--   columns_of o facts the edges, then one fault for each node with an alarm
use Rattle.std.specs.Prelude.{◌==◌, ℕ, Bool, true, false, List, ◌++◌, map, filter, length}
use Rattle.std.specs.List.{list_any, range_with_len}
use Rattle.domain_core.specs.Outlines.{Shape}
use Rattle.flow_facts.specs.declared.fact.Fact.{Fact}
use Rattle.flow_facts.specs.declared.fact.Fact.TheVariants.{Alarm}

pub record Column : Type 0 where
  pub from : ℕ
  pub into : ℕ
  pub fault : Bool

-- the column of an edge
abbrev pub edge_column : ℕ × ℕ → Column
edge_column e = record { from = e.0; into = e.1; fault = false }

-- the column of a fault at the node; the end has the number of nodes as its number
abbrev pub fault_column : Shape → ℕ → Column
fault_column o n = record { from = n; into = length o.own; fault = true }

-- the fact is an alarm at the node
abbrev pub is_alarm_at : ℕ → Fact → Bool
is_alarm_at n (Alarm m fault) = n == m
is_alarm_at n _ = false

abbrev pub has_alarm : List Fact → ℕ → Bool
has_alarm facts n = list_any (λ f. is_alarm_at n f) facts

-- the nodes, numbered from 0
abbrev pub nodes_of : Shape → List ℕ
nodes_of o = range_with_len 0 (length o.own)

-- the edges, then one fault for each node with an alarm
abbrev pub columns_of : Shape → List Fact → List Column
columns_of o facts = map edge_column o.edges ++ map (λ n. fault_column o n) (filter (λ n. has_alarm facts n) (nodes_of o))
