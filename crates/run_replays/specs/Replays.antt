-- The one run from given values, held against the lines of a report: what it costs, or the first thing that speaks
-- against the report.
--   Told                          what is told: a cost, or an objection
--   Asks Objects Passes Rest told one thing is asked: what objects is told, and where it passes, the rest tells
--   fault_of outcome              the fault with which a run ends, if with one
--   IsUnshaped o report e         the report has not the form that the outline asks for
--   IsInside rows values k        value k is inside the range of its row
--   IsOutside rows values e       it is not, as the first one
--   AreWithinLines facts trace    no node is there more often than its lines allow
--   Reaches program nodes begin before n   a run goes through the nodes of the list, and then stands at node n
--   IsStop program nodes begin report e    with it this node would be there more often than its line allows
--   LacksAlarm facts trace fault e   the fault of the run has no alarm
--   IsUnmet o report trace e      this line is the first that the run does not meet
--   IsAboveCount report cost e, IsAbovePath report cost e   the run costs more than the bound
--   TellBounds, TellFacts, TellEnd   what the bounds tell of a run that is over, what the lines before them, and what alarms before these
--   TellsReplayedRun program nodes begin o costs report told   what is told of the run from there
--   TellsValues program nodes rows o report values told   what is told of the run from these values, against a report of the right form
--   IsReplayed program nodes rows o report values told   what is told of it against any report
use Rattle.std.specs.Prelude.{◌≡◌, ◌<◌, ◌≤◌, ◌+◌, ℕ, ℤ, List, [], ◌∷◌, ◌++◌, length, position, take, slice_get, All, Contains, Option, None, Some, IfSome, Result, Ok, Err}
use Rattle.alf_ops.specs.declared.history.RunFault.{RunFault}
use Rattle.alf_ops.specs.declared.history.RunEvent.{RunEvent}
use Rattle.alf_check.specs.declared.rows.InputRow.{InputRow}
use Rattle.alf_check.specs.CheckedPrograms.{NumberedProgram}
use Rattle.flow_graph.specs.Nodes.{Node}
use Rattle.alf_runs.specs.Outcomes.{Outcome, Ended, Faulted, Lost}
use Rattle.alf_runs.specs.Steps.{Moment, At}
use Rattle.alf_runs.specs.Runs.{after, trace as passed}
use Rattle.alf_runs.specs.Starts.{IsWithin, AreWithin, start, words_of}
use Rattle.alf_interp.specs.Traces.{IsNodeAt, AreNumbersOf, Runs}
use Rattle.domain_core.specs.Outlines.{Outlined, Shape, shape_of}
use Rattle.flow_facts.specs.declared.fact.Fact.{Fact}
use Rattle.flow_facts.specs.declared.fact.Fact.TheVariants.{Alarm}
use Rattle.flow_facts.specs.declared.report.BoundWord.{BoundWord}
use Rattle.flow_facts.specs.Facts.{places, Meets}
use Rattle.flow_facts.specs.Reports.{Reported}
use Rattle.ipet_rows.specs.Uses.{run_cost}
use Rattle.report_soundness.specs.ReportTold.{costs_of}
use Rattle.report_soundness.specs.Exact.{IsLast}
use Rattle.report_soundness.specs.Runs.{HasAlarm}
use Rattle.report_objections.specs.declared.objection.Objection.{Objection}
use Rattle.report_objections.specs.declared.objection.Objection.TheVariants.{NoShape, Outside, NoAlarm, NoFact, NoCountBound, NoPathBound}
use Rattle.report_objections.specs.Shaping.{tells_total, IsShaped}
use Rattle.report_objections.specs.Objecting.{first_line}
use Rattle.report_objections.specs.CountLaws.{most_of}

-- ---- what is told

-- a cost, or an objection
abbrev pub Told : Type 0
Told = Result ℕ Objection

-- one thing is asked: what objects is told, and where it passes, the rest tells
pub data Asks (Objects : Objection → Type 0) (Passes : Type 0) (Rest : Told → Type 0) (told : Told) : Type 0 where
  objects : (e : Objection) → Objects e → told ≡ Err e → Asks Objects Passes Rest told
  passes : Passes → Rest told → Asks Objects Passes Rest told

-- ---- the report, and the values

-- the report has not the form that the outline asks for
pub record IsUnshaped (o : Outlined) (report : Reported) (e : Objection) : Type 0 where
  pub shapeless : IsShaped o report → ⊥
  pub is : e ≡ NoShape

-- value k is inside the range of its row
pub record IsInside (rows : List InputRow) (values : List ℤ) (k : ℕ) : Type 0 where
  pub row : InputRow
  pub value : ℤ
  pub row_is : slice_get rows k ≡ Some row
  pub value_is : slice_get values k ≡ Some value
  pub within : IsWithin row value

-- it is the first that is not
pub record IsOutside (rows : List InputRow) (values : List ℤ) (e : Objection) : Type 0 where
  pub k : ℕ
  pub row : InputRow
  pub value : ℤ
  pub row_is : slice_get rows k ≡ Some row
  pub value_is : slice_get values k ≡ Some value
  pub outside : IsWithin row value → ⊥
  pub before : (j : ℕ) → j < k → IsInside rows values j
  pub is : e ≡ Outside k

-- ---- a run that stops

-- no node is there more often than its lines allow
abbrev pub AreWithinLines : List Fact → List ℕ → Type 0
AreWithinLines facts trace = (n : ℕ) → places n trace ≤ most_of n facts

-- a run goes through the nodes of the list, and then stands at node n
pub record Reaches (program : NumberedProgram) (nodes : List Node) (begin : Moment) (before : List ℕ)
    (n : ℕ) : Type 0 where
  pub node : Node
  pub history : List RunEvent
  pub numbers : AreNumbersOf nodes before (passed program (length before) begin)
  pub stands : after program (length before) begin ≡ At node history
  pub number : IsNodeAt nodes n node

-- with it the node would be there more often than its line, the `dead` or the `total` line, allows; so far no node is
pub record IsStop (program : NumberedProgram) (nodes : List Node) (begin : Moment) (report : Reported)
    (e : Objection) : Type 0 where
  pub before : List ℕ
  pub node : ℕ
  pub place : ℕ
  pub reaches : Reaches program nodes begin before node
  pub within : AreWithinLines report.facts before
  pub above : most_of node report.facts < places node (before ++ node ∷ [])
  pub place_is : position (λ f. tells_total node f) report.facts ≡ Some place
  pub is : e ≡ NoFact (first_line report + place)

-- ---- a run that is over

-- the fault with which a run ends, if with one
abbrev pub fault_of : Outcome → Option RunFault
fault_of (Ended outputs) = None
fault_of (Faulted fault) = Some fault
fault_of Lost = None

-- the fault of the run has no alarm
pub record LacksAlarm (facts : List Fact) (trace : List ℕ) (fault : Option RunFault) (e : Objection) : Type 0 where
  pub node : ℕ
  pub kind : RunFault
  pub faults : fault ≡ Some kind
  pub last : IsLast trace node
  pub lacks : Contains facts (Alarm node kind) → ⊥
  pub is : e ≡ NoAlarm node kind

-- this line is the first that the run does not meet
pub record IsUnmet (o : Shape) (report : Reported) (trace : List ℕ) (e : Objection) : Type 0 where
  pub place : ℕ
  pub fact : Fact
  pub there : slice_get report.facts place ≡ Some fact
  pub before : All (Meets o trace) (take place report.facts)
  pub unmet : Meets o trace fact → ⊥
  pub is : e ≡ NoFact (first_line report + place)

-- the run costs more than the count bound
pub record IsAboveCount (report : Reported) (cost : ℕ) (e : Objection) : Type 0 where
  pub above : report.count_bound < cost
  pub is : e ≡ NoCountBound

-- it costs more than the path bound
pub record IsAbovePath (report : Reported) (cost : ℕ) (e : Objection) : Type 0 where
  pub bound : ℕ × BoundWord
  pub bound_is : report.path_bound ≡ Some bound
  pub above : bound.0 < cost
  pub is : e ≡ NoPathBound

-- what the bounds tell, the count bound first: where both hold, the cost
abbrev pub TellBounds : Reported → ℕ → Told → Type 0
TellBounds report cost =
    Asks (IsAboveCount report cost) (cost ≤ report.count_bound)
    (Asks (IsAbovePath report cost) (IfSome report.path_bound (λ b. cost ≤ b.0)) (λ told. told ≡ Ok cost))

-- what the lines tell, and then the bounds
abbrev pub TellFacts : Shape → List ℕ → Reported → List ℕ → Told → Type 0
TellFacts o costs report trace = Asks (IsUnmet o report trace) (All (Meets o trace) report.facts) (TellBounds report (run_cost costs trace))

-- what the alarms tell, and then the lines
abbrev pub TellEnd : Shape → List ℕ → Reported → List ℕ → Option RunFault → Told → Type 0
TellEnd o costs report trace fault = Asks (LacksAlarm report.facts trace fault) (HasAlarm report.facts trace fault) (TellFacts o costs report trace)

-- what is told of the run from there: it stops where a node passes its line, and else is over
pub data TellsReplayedRun (program : NumberedProgram) (nodes : List Node) (begin : Moment) (o : Shape) (costs : List ℕ)
    (report : Reported) (told : Told) : Type 0 where
  stops : (e : Objection) → IsStop program nodes begin report e → told ≡ Err e
      → TellsReplayedRun program nodes begin o costs report told
  ends : (trace : List ℕ) (outcome : Outcome) → Runs program nodes begin trace outcome
      → AreWithinLines report.facts trace → TellEnd o costs report trace (fault_of outcome) told
      → TellsReplayedRun program nodes begin o costs report told

-- what is told of the run from these values against a report of the right form
abbrev pub TellsValues : NumberedProgram → List Node → List InputRow → Outlined → Reported → List ℤ → Told → Type 0
TellsValues program nodes rows o report values =
    Asks (IsOutside rows values) (AreWithin rows values) (TellsReplayedRun program nodes (start program rows (words_of rows values)) (shape_of o) (costs_of o) report)

-- what is told of the run from these values
abbrev pub IsReplayed : NumberedProgram → List Node → List InputRow → Outlined → Reported → List ℤ → Told → Type 0
IsReplayed program nodes rows o report values = Asks (IsUnshaped o report) (IsShaped o report) (TellsValues program nodes rows o report values)
