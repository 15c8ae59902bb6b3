-- Where runs start, and with what.
--   with_inputs rows words history    the history after each row's cell holds its word
--   start_history program rows words  the history at the start: what global frames hold at first, the root entered, and the words of the input rows
--   start program rows words          the start of a run, at the root's entry
--   AreWithin rows numbers            each number lies in the range of its row
--   words_of rows numbers             the word of each number, in two's complement
--   IsStart program rows moment       a start of the program with inputs inside the ranges of these rows
use Rattle.std.specs.Prelude.{◌≡◌, ℕ, ℤ, List, [], ◌∷◌}
use Rattle.std.specs.List.{AllZip}
use lib.Signed.{◌≤ℤ◌}
use Rattle.alf_ops.specs.declared.history.Value.TheVariants.{Int}
use Rattle.alf_ops.specs.declared.history.RunEvent.{RunEvent}
use Rattle.alf_ops.specs.declared.history.RunEvent.TheVariants.{Store}
use Rattle.alf_ops.specs.TwosComplement.{word}
use Rattle.alf_check.specs.declared.rows.InputRow.{InputRow}
use Rattle.alf_check.specs.CheckedPrograms.{NumberedProgram}
use Rattle.flow_graph.specs.Nodes.{first_node}
use Rattle.alf_runs.specs.Entering.{with_inits, entered}
use Rattle.alf_runs.specs.Steps.{Moment, At}

-- each row's cell holds its word: the words are stored in order
abbrev pub with_inputs : List InputRow → List ℕ → List RunEvent → List RunEvent
with_inputs [] words history = history
with_inputs (row ∷ rows) [] history = history
with_inputs (row ∷ rows) (bits ∷ words) history = with_inputs rows words (Store row.frame row.offset row.size (Int row.size bits) ∷ history)

-- the history at the start: what global frames hold at first, the root entered without arguments, and the words of the
-- input rows
abbrev pub start_history : NumberedProgram → List InputRow → List ℕ → List RunEvent
start_history program rows words = with_inputs rows words (entered program program.root [] (with_inits program.inits []))

-- the start of a run, at the root's entry
abbrev pub start : NumberedProgram → List InputRow → List ℕ → Moment
start program rows words = At first_node (start_history program rows words)

-- ---- inputs inside the ranges

-- the number lies in the range of its row
pub record IsWithin (row : InputRow) (number : ℤ) : Type 0 where
  pub least : row.low ≤ℤ number
  pub most : number ≤ℤ row.high

-- there is one number for each row, inside its range
abbrev pub AreWithin : List InputRow → List ℤ → Type 0
AreWithin rows numbers = AllZip IsWithin rows numbers

-- the word of each number: the number modulo 2 to the size of its row's cell
abbrev pub words_of : List InputRow → List ℤ → List ℕ
words_of [] numbers = []
words_of (row ∷ rows) [] = []
words_of (row ∷ rows) (number ∷ numbers) = word row.size number ∷ words_of rows numbers

-- a start of the program with inputs inside the ranges of these rows
pub record IsStart (program : NumberedProgram) (rows : List InputRow) (moment : Moment) : Type 0 where
  pub numbers : List ℤ
  pub within : AreWithin rows numbers
  pub starts : moment ≡ start program rows (words_of rows numbers)
