-- What holds wherever a run of a checked program stands.
--   functions_on program path            the functions on a call path, the newest first and the root last
--   IsCall program path b                block b of the instance is a call
--   IsCallPath program path              each block of the path is a call of the instance that it stands in
--   HasPlace program path place          the instance has this block; each has an entry
--   IsOwnedAlong program path owner      the frames of this owner are global or of a function on the path
--   ActiveAlong program path history     these frames are active, and no others are
--   IsPlace program node history         what holds where a run stands
--   AreWords rows words                  there is one word for each input row, below 2 to the size of its cell
use Rattle.std.specs.Prelude.{◌≡◌, ◌↔◌, ◌<◌, ◌^◌, ℕ, true, List, [], ◌∷◌, Option, Some, None, Contains, ⊤}
use Rattle.std.specs.List.{AllZip}
use Rattle.alf_ops.specs.declared.history.RunEvent.{RunEvent}
use Rattle.alf_ops.specs.Histories.{is_active, IsSoundHistory}
use Rattle.alf_program.specs.Tree.{NumberedExpression}
use Rattle.alf_check.specs.declared.rows.InputRow.{InputRow}
use Rattle.alf_check.specs.CheckedPrograms.{NumberedProgram, Call}
use Rattle.alf_check.specs.Kept.{IsBlockOf}
use Rattle.flow_graph.specs.Nodes.{Node, ending_at, function_at}

-- the functions on a call path, the newest first and the root last
abbrev pub functions_on : NumberedProgram → List ℕ → List ℕ
functions_on program [] = program.root ∷ []
functions_on program (b ∷ path) = function_at program (b ∷ path) ∷ functions_on program path

-- block b of the instance is a call
pub record IsCall (program : NumberedProgram) (path : List ℕ) (b : ℕ) : Type 0 where
  pub func : ℕ
  pub args : List NumberedExpression
  pub result : Option (ℕ × ℕ)
  pub next : ℕ
  pub calls : ending_at program (function_at program path) b ≡ Some (Call func args result next)

-- each block of the path is a call of the instance that it stands in
abbrev pub IsCallPath : NumberedProgram → List ℕ → Type 0
IsCallPath program [] = ⊤
IsCallPath program (b ∷ path) = IsCall program path b × IsCallPath program path

-- the instance has this block; each has an entry
abbrev pub HasPlace : NumberedProgram → List ℕ → Option ℕ → Type 0
HasPlace program path None = ⊤
HasPlace program path (Some b) = IsBlockOf program (function_at program path) b

-- the frames of this owner are global or of a function on the path
abbrev pub IsOwnedAlong : NumberedProgram → List ℕ → Option ℕ → Type 0
IsOwnedAlong program path None = ⊤
IsOwnedAlong program path (Some function) = Contains (functions_on program path) function

-- the active frames are the global ones and those of the functions on the path
abbrev pub ActiveAlong : NumberedProgram → List ℕ → List RunEvent → Type 0
ActiveAlong program path history = (owner : Option ℕ) → (is_active owner history ≡ true) ↔ IsOwnedAlong program path owner

-- what holds where a run stands: its path is one of calls, the place is there, the active frames are those along the
-- path, and each value stored has its size
pub record IsPlace (program : NumberedProgram) (node : Node) (history : List RunEvent) : Type 0 where
  pub calls : IsCallPath program node.path
  pub there : HasPlace program node.path node.block
  pub active : ActiveAlong program node.path history
  pub sound : IsSoundHistory history

-- the word is below 2 to the size of the row's cell
abbrev pub IsWord : InputRow → ℕ → Type 0
IsWord row word = word < 2 ^ row.size

-- there is one word for each input row, below 2 to the size of its cell
abbrev pub AreWords : List InputRow → List ℕ → Type 0
AreWords rows words = AllZip IsWord rows words
