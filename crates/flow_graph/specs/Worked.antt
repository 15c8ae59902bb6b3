-- A program, to be worked out.
--   one_call   `main` calls `f` in its block 0, and then switches between its blocks 1 and 2; `f` has one block
use Rattle.std.specs.Prelude.{ℕ, false, List, [], ◌∷◌, Some, None, codes}
use Rattle.alf_program.specs.Tree.{Number}
use Rattle.alf_check.specs.CheckedPrograms.{NumberedBlock, BlockEnding, Switch, Call, Return, NumberedFunction, NumberedProgram}

abbrev block : BlockEnding → NumberedBlock
block ending = record { statements = []; ending = ending }

abbrev function : List ℕ → List NumberedBlock → NumberedFunction
function name blocks = record { name = name; args = []; frames = []; inits = []; blocks = blocks }

-- the root is the second function
abbrev pub one_call : NumberedProgram
one_call = record {
  frames = [];
  funcs = function (codes "f") (block (Return None) ∷ [])
      ∷ function (codes "main") (block (Call 0 [] None 1) ∷ block (Switch (Number (record { signed = false; size = 8; bits = 5 })) ((5, 1) ∷ []) 2) ∷ block (Return None) ∷ [])
      ∷ [];
  inits = [];
  exports = [];
  root = 1;
}
