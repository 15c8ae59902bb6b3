-- What the code's values stand for.
--   within_of code          the program, and the function whose code is lowered
--   Makes before after f    what is put: after any items that follow, f of these stands after what was there before
use Rattle.std.specs.Prelude.{◌≡◌, List, ◌++◌, map}
use Rattle.alf_program.specs.declared.program.Item.{Item}
use Rattle.alf_program.specs.Tree.{BodyItem, item_of}
use Rattle.c_lowered.specs.Conditions.{Within}
use Rattle.object_layout.specs.Views.{program_in}
use Rattle.condition_lowering.specs.declared.code.Code.{Code}

abbrev pub within_of : Code → Within
within_of code = record { program = program_in code.table.now; function = code.function }

-- after any items that follow, f of these stands after what was there before
abbrev pub Makes : List Item → List Item → (List BodyItem → List BodyItem) → Type 0
Makes before after f = (rest : List BodyItem) → map item_of after ++ rest ≡ map item_of before ++ f rest
