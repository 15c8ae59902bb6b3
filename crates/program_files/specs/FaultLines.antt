-- Lines that tell where a text departs from the grammar.
--   which_word which        the word of a quantity that has a limit
--   limit_line which count  the line of a quantity that passes its limit
--   fault_line departure    the line of a departure
use Rattle.std.specs.Prelude.{ℕ, List, [], ◌∷◌, ◌++◌, codes, decimal}
use Rattle.flow_base.specs.declared.place.Place.{Place}
use Rattle.flow_base.specs.declared.place.Which.{Which}
use Rattle.flow_base.specs.declared.place.Which.TheVariants.{Bytes, Depth, Functions, Frames, FrameBytes, AllBytes, Nodes, Edges, Parens, Nesting, Elements, Statements, Tasks}
use Rattle.alf_text.specs.Language.{Departure, Syntax, Number, OutOfProfile, Limit}

-- the word of a quantity that has a limit
abbrev pub which_word : Which → List ℕ
which_word Bytes = codes "bytes"
which_word Depth = codes "depth"
which_word Functions = codes "functions"
which_word Frames = codes "frames"
which_word FrameBytes = codes "frame-bytes"
which_word AllBytes = codes "all-bytes"
which_word Nodes = codes "nodes"
which_word Edges = codes "edges"
which_word Parens = codes "parens"
which_word Nesting = codes "nesting"
which_word Elements = codes "elements"
which_word Statements = codes "statements"
which_word Tasks = codes "tasks"

-- the line and the column
abbrev pub place_text : Place → List ℕ
place_text place = decimal place.line ++ (codes " " ++ decimal place.column)

-- the line of a quantity that passes its limit
abbrev pub limit_line : Which → ℕ → List ℕ
limit_line which count = codes "fault 13 limit " ++ (which_word which ++ (codes " " ++ (decimal count ++ 10 ∷ [])))

abbrev pub fault_line : Departure → List ℕ
fault_line (Syntax place) = codes "fault 10 syntax " ++ (place_text place ++ 10 ∷ [])
fault_line (Number place) = codes "fault 11 number " ++ (place_text place ++ 10 ∷ [])
fault_line (OutOfProfile place word) = codes "fault 12 profile " ++ (place_text place ++ (codes " \"" ++ (word ++ codes "\"\n")))
fault_line (Limit which count) = limit_line which count
