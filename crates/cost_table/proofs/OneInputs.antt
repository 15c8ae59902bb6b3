-- An inputs file has one answer.
--   inputs_one   it has
use Rattle.std.proofs.Common.{◌≡◌, ◌∙◌, List, Result, Ok, Err, ap, sym}
use Rattle.alf_check.specs.declared.rows.InputRow.{InputRow}
use Rattle.alf_check.specs.CheckedPrograms.{NumberedProgram}
use Rattle.cost_table.specs.declared.fault.TableFault.{TableFault}
use Rattle.cost_table.specs.Inputs.{HasCells, IsInRange, input_entries, input_entry, input_judging, rows_in}
use Rattle.cost_table.specs.Laws.{AnswersInputs, InputsHaveOneAnswer}
use Rattle.cost_table.proofs.OneFault.{IsFair, one_list, one_refusal, one_wrong, right_or_refused, right_or_wrong}

-- entries are judged fairly
fair : (program : NumberedProgram) → IsFair (input_judging program)
fair program = record {
  apart = λ before k datum fault right wrong. right_or_wrong input_entry (λ entry. IsInRange entry.1) (HasCells program (rows_in program before)) k datum fault right wrong;
  one = λ before k datum f g a b. one_wrong input_entry (λ entry. IsInRange entry.1) (HasCells program (rows_in program before)) k datum f g a b;
}

-- an inputs file has one answer
pub inputs_one : InputsHaveOneAnswer
inputs_one bytes program = answers
  where
    answers : (a b : Result (List InputRow) TableFault) → AnswersInputs bytes program a → AnswersInputs bytes program b
        → a ≡ b
    answers (Ok rows) (Ok more) m n = ap Ok (m.all ∙ ap (rows_in program) (one_list bytes input_entries m.entries n.entries m.told n.told) ∙ sym n.all)
    answers (Ok rows) (Err f) m r = absurd (right_or_refused bytes input_entries (input_judging program) m.entries f (fair program) m.told m.right r)
    answers (Err f) (Ok rows) r m = absurd (right_or_refused bytes input_entries (input_judging program) m.entries f (fair program) m.told m.right r)
    answers (Err f) (Err g) r s = ap Err (one_refusal bytes input_entries (input_judging program) f g (fair program) r s)
