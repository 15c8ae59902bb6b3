-- A program that is laid out: `f` has a block that goes on to the next, one that jumps and one that switches, and `main`
-- has one that calls and one that returns.
--   switch     the switch between two blocks of `one_call`
--   laid_out   the program, of which `main` is the root
use Rattle.std.specs.Prelude.{ℕ, List, [], ◌∷◌, None, codes, unwrap_or}
use Rattle.alf_check.specs.CheckedPrograms.{NumberedStatement, Null, NumberedBlock, BlockEnding, Fall, Jump, Call, Return, NumberedFunction, NumberedProgram}
use Rattle.flow_graph.specs.Nodes.{ending_at}
use Rattle.flow_graph.specs.Worked.{one_call}

abbrev block : List NumberedStatement → BlockEnding → NumberedBlock
block statements ending = record { statements = statements; ending = ending }

abbrev function : List ℕ → List NumberedBlock → NumberedFunction
function name blocks = record { name = name; args = []; frames = []; inits = []; blocks = blocks }

abbrev pub switch : BlockEnding
switch = unwrap_or (ending_at one_call 1 1) (Return None)

abbrev pub laid_out : NumberedProgram
laid_out = record {
  frames = [];
  funcs = function (codes "f") (block (Null ∷ Null ∷ []) (Fall 1) ∷ block (Null ∷ []) (Jump 0)
      ∷ block [] switch ∷ [])
      ∷ function (codes "main") (block (Null ∷ []) (Call 0 [] None 1) ∷ block [] (Return None) ∷ [])
      ∷ [];
  inits = [];
  exports = [];
  root = 1;
}
