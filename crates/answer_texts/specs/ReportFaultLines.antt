-- Lines of texts that leave the grammar of reports.
--   place_line words place         the line of a place, after these words
--   report_fault_line departure    the line of a departure
use Rattle.std.specs.Prelude.{ℕ, List, [], ◌∷◌, ◌++◌, codes}
use Rattle.flow_base.specs.declared.place.Place.{Place}
use Rattle.fact_words.specs.Numbers.{Syntax, Number}
use Rattle.fact_text.specs.Language.{Departure}
use Rattle.program_files.specs.FaultLines.{place_text}

-- the line of a place, after these words
abbrev pub place_line : List ℕ → Place → List ℕ
place_line words place = words ++ (32 ∷ (place_text place ++ 10 ∷ []))

-- the line of a departure
abbrev pub report_fault_line : Departure → List ℕ
report_fault_line (Syntax place) = place_line (codes "fault 60 syntax") place
report_fault_line (Number place) = place_line (codes "fault 61 number") place
