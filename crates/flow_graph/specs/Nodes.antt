-- Nodes of a program that is expanded by its calls, and where they lead.
--   Node                      a call path and the entry of a function, or one of its blocks
--   ending_at program f b     how block b of function f ends, where there is one
--   function_at program path  the function to which a call path leads
--   Goal                      a node, or the end of the program
--   Leads program node goal   an edge leads from the node to the goal
--   first_node                the entry of the function that the program starts with
--   IsKeptNode program node   a walk along edges leads from the first node to it
use Rattle.std.specs.Prelude.{◌≡◌, ℕ, List, [], ◌∷◌, map, ◌⊎◌, Option, None, Some, Contains, slice_get}
use Rattle.std.specs.Option.{option_map}
use Rattle.alf_check.specs.CheckedPrograms.{NumberedProgram, NumberedBlock, BlockEnding, Fall, Jump, Switch, Call, Return, blocks_at}

-- The path has the blocks of the calls that lead to the function, the newest call first. A node
-- without a block is the function's entry.
pub record Node : Type 0 where
  pub path : List ℕ
  pub block : Option ℕ

-- a node, or the end of the program, which is None
abbrev pub Goal : Type 0
Goal = Option Node

abbrev pub entry_node : List ℕ → Node
entry_node path = record { path = path; block = None }

abbrev pub block_node : List ℕ → ℕ → Node
block_node path b = record { path = path; block = Some b }

-- how block b of function f ends
abbrev pub ending_at : NumberedProgram → ℕ → ℕ → Option BlockEnding
ending_at program f b = option_map (λ (block : NumberedBlock). block.ending) (slice_get (blocks_at program f) b)

-- the function that a block with this end calls, if it calls one
abbrev pub callee_of : Option BlockEnding → ℕ
callee_of None = 0
callee_of (Some (Fall next)) = 0
callee_of (Some (Jump to)) = 0
callee_of (Some (Switch value targets others)) = 0
callee_of (Some (Call f args result next)) = f
callee_of (Some (Return value)) = 0

-- the function to which a call path leads
abbrev pub function_at : NumberedProgram → List ℕ → ℕ
function_at program [] = program.root
function_at program (b ∷ path) = callee_of (ending_at program (function_at program path) b)

-- a switch leads to the block of each target, and to the one for all other words
abbrev pub IsTarget : List (ℕ × ℕ) → ℕ → ℕ → Type 0
IsTarget targets others to = (to ≡ others) ⊎ Contains (map (λ (target : ℕ × ℕ). target.1) targets) to

-- a return leads to the block after the call
abbrev pub BackLeads : List ℕ → Option BlockEnding → Goal → Type 0
BackLeads path None goal = ⊥
BackLeads path (Some (Fall next)) goal = ⊥
BackLeads path (Some (Jump to)) goal = ⊥
BackLeads path (Some (Switch value targets others)) goal = ⊥
BackLeads path (Some (Call f args result next)) goal = goal ≡ Some (block_node path next)
BackLeads path (Some (Return value)) goal = ⊥

-- a return of the function that the program starts with leads to the end
abbrev pub ReturnLeads : NumberedProgram → List ℕ → Goal → Type 0
ReturnLeads program [] goal = goal ≡ None
ReturnLeads program (b ∷ path) goal = BackLeads path (ending_at program (function_at program path) b) goal

-- where block b leads, by how it ends
abbrev pub EndLeads : NumberedProgram → List ℕ → ℕ → Option BlockEnding → Goal → Type 0
EndLeads program path b None goal = ⊥
EndLeads program path b (Some (Fall next)) goal = goal ≡ Some (block_node path next)
EndLeads program path b (Some (Jump to)) goal = goal ≡ Some (block_node path to)
EndLeads program path b (Some (Switch value targets others)) goal = (to : ℕ) × IsTarget targets others to × (goal ≡ Some (block_node path to))
EndLeads program path b (Some (Call f args result next)) goal = goal ≡ Some (entry_node (b ∷ path))
EndLeads program path b (Some (Return value)) goal = ReturnLeads program path goal

-- an entry leads to the first block
abbrev pub PlaceLeads : NumberedProgram → List ℕ → Option ℕ → Goal → Type 0
PlaceLeads program path None goal = goal ≡ Some (block_node path 0)
PlaceLeads program path (Some b) goal = EndLeads program path b (ending_at program (function_at program path) b) goal

-- an edge leads from the node to the goal
abbrev pub Leads : NumberedProgram → Node → Goal → Type 0
Leads program node goal = PlaceLeads program node.path node.block goal

abbrev pub first_node : Node
first_node = entry_node []

-- the nodes that are kept: those to which a walk leads from the first node
pub data IsKeptNode (program : NumberedProgram) : Node → Type 0 where
  first : IsKeptNode program first_node
  goes_on : (node next : Node) → IsKeptNode program node → Leads program node (Some next) → IsKeptNode program next
