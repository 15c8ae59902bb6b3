-- Rows that give one input alone.
--   AreLone rows                each range has one number
--   lone_start program rows     the start with these numbers
--   IsAlone, HasLoneStart       such rows give this start and no other
use Rattle.std.specs.Prelude.{All, ℤ}
use Rattle.std.proofs.Common.{◌≡◌, List, map}
use Rattle.alf_check.specs.declared.rows.InputRow.{InputRow}
use Rattle.alf_check.specs.CheckedPrograms.{NumberedProgram}
use Rattle.alf_runs.specs.Steps.{Moment, At}
use Rattle.alf_runs.specs.Starts.{words_of, start, IsStart}

-- each range has one number
abbrev pub AreLone : List InputRow → Type 0
AreLone rows = All (λ (row : InputRow). row.low ≡ row.high) rows

-- these numbers
abbrev pub lows : List InputRow → List ℤ
lows rows = map (λ (row : InputRow). row.low) rows

-- the start with these numbers
abbrev pub lone_start : NumberedProgram → List InputRow → Moment
lone_start program rows = start program rows (words_of rows (lows rows))

-- such rows give this start and no other
pub record IsAlone (program : NumberedProgram) (rows : List InputRow) : Type 0 where
  pub is : IsStart program rows (lone_start program rows)
  pub only : (moment : Moment) → IsStart program rows moment → moment ≡ lone_start program rows

abbrev pub HasLoneStart : Type 0
HasLoneStart = (program : NumberedProgram) (rows : List InputRow) → AreLone rows → IsAlone program rows
