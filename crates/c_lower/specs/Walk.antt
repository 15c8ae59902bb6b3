-- What a walk over a unit's text makes of its functions.
--   funcs_from program f file xs   the functions that are defined in what is left of the text, lowered, from this number on
--   HasFewNumbers program x        64 bits have the number of each label and of each call of a function that is defined here
--   HaveFewNumbers program xs      so it is with each
use Rattle.std.specs.Prelude.{ℕ, ◌<◌, ◌^◌, List, [], ◌∷◌, ⊤}
use Rattle.alf_program.specs.Tree as alf
use Rattle.c_unit.specs.Tree.{ExternalTree, Declaration, Definition, statements_of}
use Rattle.c_rules.specs.Units.{File}
use Rattle.c_meaning.specs.Objects.{Program, functions_in}
use Rattle.c_lowered.specs.Statements.{labels_in_all, calls_in_all}
use Rattle.c_lowered.specs.Programs.{lowered_from}

abbrev pub funcs_from : Program → ℕ → File → List ExternalTree → List alf.Function
funcs_from program f file xs = lowered_from program f (functions_in file xs)

abbrev pub HasFewNumbers : Program → ExternalTree → Type 0
HasFewNumbers program (Declaration first o ds) = ⊤
HasFewNumbers program (Definition first o name params body) =
    (labels_in_all (statements_of body) < 2 ^ 64) × (calls_in_all program (statements_of body) < 2 ^ 64)

abbrev pub HaveFewNumbers : Program → List ExternalTree → Type 0
HaveFewNumbers program [] = ⊤
HaveFewNumbers program (x ∷ xs) = HasFewNumbers program x × HaveFewNumbers program xs
