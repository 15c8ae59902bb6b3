-- What is told of a replay is one thing.
--   Differ nodes      no node has two numbers
--   HasOneReplay      two things that are told of one replay are one
use Rattle.std.proofs.Common.{◌≡◌, ◌≢◌, ℕ, List, None, Result, Ok}
use Rattle.std.proofs.lemmas.List.Sums.{sum_by-append}
use Rattle.flow_graph.specs.Nodes.{Node}
use Rattle.alf_interp.specs.Traces.{IsNodeAt}
use Rattle.domain_core.specs.Outlines.{Shape}
use Rattle.report_objections.specs.declared.objection.Objection.TheVariants.{NoCountBound, NoPathBound, NoShape}
use Rattle.report_objections.specs.CountLaws.{most_of}

-- ---- runs

-- no node has two numbers
abbrev pub Differ : List Node → Type 0
Differ nodes = (m n : ℕ) (node : Node) → IsNodeAt nodes m node → IsNodeAt nodes n node → m ≡ n
