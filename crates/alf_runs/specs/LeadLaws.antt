-- Runs go along the edges of the graph.
--   LeadsTo Holds moment       where a run stands next, at a node or at the end, is a goal of which it holds
--   StepsGoAlong               a step leads along an edge: to a node that the edge leads to, or to the end; a fault takes no edge
--   StandsAtKeptNodes          a run that starts at the first node stands at kept nodes alone
--   NodesLeadOn                each node of a run leads to the next
use Rattle.std.specs.Prelude.{◌≡◌, ◌+◌, ℕ, Some, None, ⊤, List}
use Rattle.alf_ops.specs.declared.history.RunEvent.{RunEvent}
use Rattle.alf_check.specs.CheckedPrograms.{NumberedProgram}
use Rattle.flow_graph.specs.Nodes.{Node, Goal, Leads, IsKeptNode, first_node}
use Rattle.alf_runs.specs.Outcomes.{Ended, Faulted, Lost}
use Rattle.alf_runs.specs.Steps.{Moment, At, Over, step}
use Rattle.alf_runs.specs.Runs.{after}

-- where a run stands next, at a node or at the end, is a goal of which it holds; a fault takes no edge
abbrev pub LeadsTo : (Goal → Type 0) → Moment → Type 0
LeadsTo Holds (At node history) = Holds (Some node)
LeadsTo Holds (Over (Ended outputs)) = Holds None
LeadsTo Holds (Over (Faulted fault)) = ⊤
LeadsTo Holds (Over Lost) = ⊤

-- a step leads along an edge
abbrev pub StepsGoAlong : Type 0
StepsGoAlong = (program : NumberedProgram) (node : Node) (history : List RunEvent) → LeadsTo (Leads program node) (step program (At node history))

-- a run that starts at the first node stands at kept nodes alone
abbrev pub StandsAtKeptNodes : Type 0
StandsAtKeptNodes = (program : NumberedProgram) (t : ℕ) (start history : List RunEvent) (node : Node)
    → after program t (At first_node start) ≡ At node history
    → IsKeptNode program node

-- and each of its nodes leads to the next
abbrev pub NodesLeadOn : Type 0
NodesLeadOn = (program : NumberedProgram) (t : ℕ) (moment : Moment) (node next : Node) (before later : List RunEvent)
    → after program t moment ≡ At node before
    → after program (t + 1) moment ≡ At next later
    → Leads program node (Some next)
