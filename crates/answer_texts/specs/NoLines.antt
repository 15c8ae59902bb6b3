-- The lines of reports that are not accepted, and of runs that a report holds of.
--   numbered_line words k    the line of a number, after these words
--   objection_line objection   the line that tells what speaks against a report
--   holds_line cost          the line of a run that a report holds of, and what it costs
use Rattle.std.specs.Prelude.{ℕ, List, [], ◌∷◌, ◌++◌, codes, decimal}
use Rattle.report_objections.specs.declared.objection.Objection.{Objection}
use Rattle.report_objections.specs.declared.objection.Objection.TheVariants as objections
use Rattle.answer_texts.specs.FaultWords.{fault_word}

-- the line of a number, after these words
abbrev pub numbered_line : List ℕ → ℕ → List ℕ
numbered_line words k = words ++ (32 ∷ (decimal k ++ 10 ∷ []))

-- the line of a run that a report holds of, and what it costs
abbrev pub holds_line : ℕ → List ℕ
holds_line cost = numbered_line (codes "holds cost") cost

-- the line that tells what speaks against a report
abbrev pub objection_line : Objection → List ℕ
objection_line objections.NoCertificate = codes "no cert\n"
objection_line objections.NoShape = codes "no shape\n"
objection_line (objections.NoEvent k) = numbered_line (codes "no event") k
objection_line (objections.NoEnd scope) = numbered_line (codes "no left") scope
objection_line (objections.NoAlarm n fault) =
    codes "no alarm " ++ (decimal n ++ (32 ∷ (fault_word fault ++ 10 ∷ [])))
objection_line (objections.NoFact line) = numbered_line (codes "no fact") line
objection_line objections.NoCountBound = codes "no count-bound\n"
objection_line (objections.Negative row) = numbered_line (codes "no negative") row
objection_line (objections.Wide row) = numbered_line (codes "no wide") row
objection_line (objections.Column column) = numbered_line (codes "no column") column
objection_line (objections.Bound value) = numbered_line (codes "no bound") value
objection_line (objections.Outside k) = numbered_line (codes "no outside") k
objection_line objections.NoPathBound = codes "no path-bound\n"
