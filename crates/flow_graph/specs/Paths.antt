-- Call paths of a program.
--   IsCall program f b         block b of function f ends with a call
--   IsCallPath program path    each block of the path is a call of the function there
--   functions_on program path  the functions on a call path, the newest first and the root last
--   next_of ending             the block after a call
--   IsPlaced program node      the node has a call path, and its block is one of the function there
use Rattle.std.specs.Prelude.{◌≡◌, ◌<◌, ℕ, List, [], ◌∷◌, length, Option, None, Some}
use Rattle.alf_program.specs.Tree.{NumberedExpression}
use Rattle.alf_check.specs.CheckedPrograms.{NumberedProgram, BlockEnding, Fall, Jump, Switch, Call, Return, blocks_at}
use Rattle.flow_graph.specs.Nodes.{Node, ending_at, function_at}

-- block b of function f ends with a call
pub record IsCall (program : NumberedProgram) (f b : ℕ) : Type 0 where
  pub callee : ℕ
  pub args : List NumberedExpression
  pub result : Option (ℕ × ℕ)
  pub next : ℕ
  pub ends : ending_at program f b ≡ Some (Call callee args result next)

-- each block of the path is a call of the function there
abbrev pub IsCallPath : NumberedProgram → List ℕ → Type 0
IsCallPath program [] = Unit {0}
IsCallPath program (b ∷ path) = IsCall program (function_at program path) b × IsCallPath program path

-- the functions on a call path, the newest first and the root last
abbrev pub functions_on : NumberedProgram → List ℕ → List ℕ
functions_on program [] = program.root ∷ []
functions_on program (b ∷ path) = function_at program (b ∷ path) ∷ functions_on program path

-- the block after a call
abbrev pub next_of : Option BlockEnding → ℕ
next_of None = 0
next_of (Some (Fall next)) = 0
next_of (Some (Jump to)) = 0
next_of (Some (Switch value targets others)) = 0
next_of (Some (Call f args result next)) = next
next_of (Some (Return value)) = 0

-- the function has the block, and each has an entry
abbrev pub HasBlock : NumberedProgram → ℕ → Option ℕ → Type 0
HasBlock program f None = Unit {0}
HasBlock program f (Some b) = b < length (blocks_at program f)

-- the node has a call path, and its block is one of the function there
pub record IsPlaced (program : NumberedProgram) (node : Node) : Type 0 where
  pub path : IsCallPath program node.path
  pub function : function_at program node.path < length program.funcs
  pub block : HasBlock program (function_at program node.path) node.block
