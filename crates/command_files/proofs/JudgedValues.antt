-- What the bytes of a values file mean is their only meaning.
--   values_only, values_refused_only   the numbers, and the line of the file's fault
use Rattle.std.proofs.Common.{◌≡◌, ℕ, ℤ, List, Result, Ok, Err, Some, codes, refl}
use Rattle.cost_table.specs.declared.fault.TableFault.{TableFault}
use Rattle.cost_table.specs.Laws.{IsOne, AnswersValues}
use Rattle.cost_table.specs.RunValues.{MeansValues, RefusesValues}
use Rattle.command_plans.specs.Outcome.{Outcome, AreAlikeResults, refused}
use Rattle.command_plans.specs.Work.{IsOnly, alike}
use Rattle.answer_texts.specs.TableLines.{table_line}
use Rattle.command_files.specs.Values.{ValuesMean}
use Rattle.command_files.proofs.JudgedTables.{lines_one}

module _ (bytes : List ℕ) (n : ℕ) (one : IsOne (AnswersValues bytes n)) where
  values_one : (a b : List ℤ) → MeansValues bytes n a → MeansValues bytes n b → a ≡ b
  values_one a b h k = let same : ◌≡◌ {A = Result (List ℤ) TableFault} (Ok a) (Ok b) = one (Ok a) (Ok b) h k in cc

  refusals_one : (f g : TableFault) → RefusesValues bytes n f → RefusesValues bytes n g → f ≡ g
  refusals_one f g h k = let same : ◌≡◌ {A = Result (List ℤ) TableFault} (Err f) (Err g) = one (Err f) (Err g) h k in cc

  values_not : (a : List ℤ) (f : TableFault) → MeansValues bytes n a → RefusesValues bytes n f → ⊥
  values_not a f h k = let same : ◌≡◌ {A = Result (List ℤ) TableFault} (Ok a) (Err f) = one (Ok a) (Err f) h k in cc

  pub values_only : (values : List ℤ) → MeansValues bytes n values → IsOnly (ValuesMean bytes n) (Ok values)
  values_only values h = record { means = h; only = only }
    where
      only : (y : Result (List ℤ) Outcome) → ValuesMean bytes n y → AreAlikeResults (Ok values) y
      only (Ok other) k = values_one values other h k
      only (Err o) k = values_not values k.fault h k.refuses

  pub values_refused_only : (fault : TableFault) (text : List ℕ) → RefusesValues bytes n fault
      → table_line (codes "values") fault ≡ Some text
      → IsOnly (ValuesMean bytes n) (Err (refused text))
  values_refused_only fault text h line = record { means = record { fault = fault; refuses = h; line = line; cause = refl }; only = only }
    where
      only : (y : Result (List ℤ) Outcome) → ValuesMean bytes n y → AreAlikeResults (Err (refused text)) y
      only (Ok values) k = values_not values fault k h
      only (Err o) k = alike (refused text) o (lines_one (codes "values") fault k.fault text o (refusals_one fault k.fault h k.refuses) line k.line k.cause)
