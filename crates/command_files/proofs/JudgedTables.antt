-- What a file of inputs or of costs means is its only meaning.
use Rattle.std.proofs.Common.{◌≡◌, ◌≢◌, ℕ, List, Result, Ok, Err, None, Some, codes, refl, ap, sym, ◌∙◌}
use Rattle.alf_check.specs.CheckedPrograms.{NumberedProgram}
use Rattle.alf_check.specs.declared.rows.InputRow.{InputRow}
use Rattle.cost_table.specs.declared.fault.TableFault.{TableFault}
use Rattle.cost_table.specs.declared.fault.TableFault.TheVariants as faults
use Rattle.cost_table.specs.CostTables.{CostTable}
use Rattle.cost_table.specs.Costs.{MeansCosts, RefusesCosts}
use Rattle.cost_table.specs.Inputs.{MeansInputs, RefusesInputs}
use Rattle.cost_table.specs.Laws.{IsOne, AnswersInputs, AnswersCosts}
use Rattle.command_plans.specs.Outcome.{Outcome, Source, AreAlikeResults, refused}
use Rattle.command_plans.specs.Work.{IsOnly, alike}
use Rattle.answer_texts.specs.TableLines.{table_line}
use Rattle.command_files.specs.Tables.{InputsMean, CostsMean}

-- a fault with a line is no want of memory
pub not_memory : (role : List ℕ) (fault : TableFault) (text : List ℕ) → table_line role fault ≡ Some text
    → fault ≢ faults.Memory
not_memory role fault text line e = let none : Some text ≡ None = sym line ∙ ap (table_line role) e in cc

-- two lines of one fault
pub lines_one : (role : List ℕ) (fault other : TableFault) (text : List ℕ) (o : Outcome) → fault ≡ other
    → table_line role fault ≡ Some text → table_line role other ≡ Some o.text → o.cause ≡ Source
    → refused text ≡ o
lines_one role fault other text o same line told cause =
    let both : Some text ≡ Some o.text = sym line ∙ ap (table_line role) same ∙ told in
    let is : o.text ≡ text = cc in
    λ i. record { cause = sym cause i; text = sym is i }

module _ (bytes : List ℕ) (program : NumberedProgram) (one : IsOne (AnswersInputs bytes program)) where
  rows_one : (a b : List InputRow) → MeansInputs bytes program a → MeansInputs bytes program b → a ≡ b
  rows_one a b h k = let same : ◌≡◌ {A = Result (List InputRow) TableFault} (Ok a) (Ok b) = one (Ok a) (Ok b) h k in cc

  refusals_one : (f g : TableFault) → RefusesInputs bytes program f → RefusesInputs bytes program g → f ≡ g
  refusals_one f g h k = let same : ◌≡◌ {A = Result (List InputRow) TableFault} (Err f) (Err g) = one (Err f) (Err g) h k in cc

  rows_not : (a : List InputRow) (f : TableFault) → MeansInputs bytes program a → RefusesInputs bytes program f → ⊥
  rows_not a f h k = let same : ◌≡◌ {A = Result (List InputRow) TableFault} (Ok a) (Err f) = one (Ok a) (Err f) h k in cc

  pub rows_only : (rows : List InputRow) → MeansInputs bytes program rows → IsOnly (InputsMean bytes program) (Ok rows)
  rows_only rows h = record { means = h; only = only }
    where
      only : (y : Result (List InputRow) Outcome) → InputsMean bytes program y → AreAlikeResults (Ok rows) y
      only (Ok other) k = rows_one rows other h k
      only (Err o) k = rows_not rows k.fault h k.refuses

  pub inputs_refused_only : (fault : TableFault) (text : List ℕ) → RefusesInputs bytes program fault
      → table_line (codes "inputs") fault ≡ Some text
      → IsOnly (InputsMean bytes program) (Err (refused text))
  inputs_refused_only fault text h line = record { means = record { fault = fault; refuses = h; line = line; cause = refl }; only = only }
    where
      only : (y : Result (List InputRow) Outcome) → InputsMean bytes program y → AreAlikeResults (Err (refused text)) y
      only (Ok rows) k = rows_not rows fault k h
      only (Err o) k = alike (refused text) o (lines_one (codes "inputs") fault k.fault text o (refusals_one fault k.fault h k.refuses) line k.line k.cause)

module _ (bytes : List ℕ) (program : NumberedProgram) (one : IsOne (AnswersCosts bytes program)) where
  costs_one : (a b : CostTable) → MeansCosts bytes program a → MeansCosts bytes program b → a ≡ b
  costs_one a b h k = let same : ◌≡◌ {A = Result CostTable TableFault} (Ok a) (Ok b) = one (Ok a) (Ok b) h k in cc

  cost_refusals_one : (f g : TableFault) → RefusesCosts bytes program f → RefusesCosts bytes program g → f ≡ g
  cost_refusals_one f g h k = let same : ◌≡◌ {A = Result CostTable TableFault} (Err f) (Err g) = one (Err f) (Err g) h k in cc

  costs_not : (a : CostTable) (f : TableFault) → MeansCosts bytes program a → RefusesCosts bytes program f → ⊥
  costs_not a f h k = let same : ◌≡◌ {A = Result CostTable TableFault} (Ok a) (Err f) = one (Ok a) (Err f) h k in cc

  pub costs_only : (costs : CostTable) → MeansCosts bytes program costs → IsOnly (CostsMean bytes program) (Ok costs)
  costs_only costs h = record { means = h; only = only }
    where
      only : (y : Result CostTable Outcome) → CostsMean bytes program y → AreAlikeResults (Ok costs) y
      only (Ok other) k = costs_one costs other h k
      only (Err o) k = costs_not costs k.fault h k.refuses

  pub costs_refused_only : (fault : TableFault) (text : List ℕ) → RefusesCosts bytes program fault
      → table_line (codes "costs") fault ≡ Some text
      → IsOnly (CostsMean bytes program) (Err (refused text))
  costs_refused_only fault text h line = record { means = record { fault = fault; refuses = h; line = line; cause = refl }; only = only }
    where
      only : (y : Result CostTable Outcome) → CostsMean bytes program y → AreAlikeResults (Err (refused text)) y
      only (Ok costs) k = costs_not costs fault k h
      only (Err o) k = alike (refused text) o (lines_one (codes "costs") fault k.fault text o (cost_refusals_one fault k.fault h k.refuses) line k.line k.cause)
