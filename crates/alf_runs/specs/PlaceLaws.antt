-- Laws on where runs of checked programs stand.
--   StartIsPlace    a run starts where the law of places holds
--   StepKeepsPlace  and a step from such a place leads to another, or to an end that some rule gives
--   EachPlace       so it holds wherever a run stands
--   NeverLost       no run is ever without a rule
--   InputsAreWords  the words of inputs inside the ranges are below 2 to the sizes of their cells
use Rattle.std.specs.Prelude.{◌≡◌, ◌≢◌, ℕ, ℤ, List, ⊤}
use Rattle.alf_ops.specs.declared.history.RunEvent.{RunEvent}
use Rattle.alf_check.specs.declared.rows.InputRow.{InputRow}
use Rattle.alf_check.specs.CheckedPrograms.{NumberedProgram}
use Rattle.alf_check.specs.Kept.{IsKept}
use Rattle.flow_graph.specs.Nodes.{Node, first_node}
use Rattle.alf_runs.specs.Outcomes.{Ended, Faulted, Lost}
use Rattle.alf_runs.specs.Steps.{Moment, At, Over, step}
use Rattle.alf_runs.specs.Runs.{after}
use Rattle.alf_runs.specs.Starts.{start, start_history, AreWithin, words_of}
use Rattle.alf_runs.specs.Places.{IsPlace, AreWords}

-- at a node the law of places holds, and an end is one that some rule gives
abbrev pub IsPlaced : NumberedProgram → Moment → Type 0
IsPlaced program (At node history) = IsPlace program node history
IsPlaced program (Over (Ended outputs)) = ⊤
IsPlaced program (Over (Faulted fault)) = ⊤
IsPlaced program (Over Lost) = ⊥

abbrev pub StartIsPlace : Type 0
StartIsPlace = (program : NumberedProgram) (rows : List InputRow) (words : List ℕ)
    → IsKept program
    → AreWords rows words
    → IsPlace program first_node (start_history program rows words)

abbrev pub StepKeepsPlace : Type 0
StepKeepsPlace = (program : NumberedProgram) (node : Node) (history : List RunEvent)
    → IsKept program
    → IsPlace program node history
    → IsPlaced program (step program (At node history))

abbrev pub EachPlace : Type 0
EachPlace = (program : NumberedProgram) (rows : List InputRow) (words : List ℕ) (t : ℕ) (node : Node) (history : List RunEvent)
    → IsKept program
    → AreWords rows words
    → after program t (start program rows words) ≡ At node history
    → IsPlace program node history

abbrev pub NeverLost : Type 0
NeverLost = (program : NumberedProgram) (rows : List InputRow) (words : List ℕ) (t : ℕ)
    → IsKept program
    → AreWords rows words
    → after program t (start program rows words) ≢ Over Lost

abbrev pub InputsAreWords : Type 0
InputsAreWords = (rows : List InputRow) (numbers : List ℤ) → AreWithin rows numbers → AreWords rows (words_of rows numbers)
