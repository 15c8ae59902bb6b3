-- Lines that tell where a text of C departs from the grammar.
--   unit_limit_line which count   the line of a quantity that passes its limit
--   unit_line departure           the line of a departure
use Rattle.std.specs.Prelude.{ℕ, List, [], ◌∷◌, ◌++◌, codes, decimal}
use Rattle.flow_base.specs.declared.place.Which.{Which}
use Rattle.c_text.specs.Language.{Departure, SyntaxAt, NumberAt, OutsideAt, LimitOf}
use Rattle.program_files.specs.FaultLines.{which_word, place_text}

-- the line of a quantity that passes its limit
abbrev pub unit_limit_line : Which → ℕ → List ℕ
unit_limit_line which count = codes "fault 93 limit " ++ (which_word which ++ (codes " " ++ (decimal count ++ 10 ∷ [])))

abbrev pub unit_line : Departure → List ℕ
unit_line (SyntaxAt place) = codes "fault 90 syntax " ++ (place_text place ++ 10 ∷ [])
unit_line (NumberAt place) = codes "fault 91 number " ++ (place_text place ++ 10 ∷ [])
unit_line (OutsideAt place word) = codes "fault 92 profile " ++ (place_text place ++ (codes " \"" ++ (word ++ codes "\"\n")))
unit_line (LimitOf which count) = unit_limit_line which count
