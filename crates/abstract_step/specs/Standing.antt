-- Where a step is made: a node of the graph of a program.
--   HereParts                   the program, its graph, and the number of the node
--   IsHere parts firsts         there is a node of this number, the graph is that of the program, and these are the first edges from its nodes
--   place_of here, path_at here, function_here here   the node, its call path, and its function
--   StandsAt here block ending  its block is this one, and ends so
--   IsSwitchAt, IsCallAt, IsReturnAt   its block ends with this switch, with this call, or with a return
--   GoesBackTo here block       it returns to this block of the caller
--   IsTaken path value          what is returned has the size of a cell, if there is a call that it goes back to
use Rattle.std.specs.Prelude.{◌≡◌, ◌<◌, ℕ, List, [], ◌∷◌, length, Option, Some, IfSome}
use Rattle.alf_program.specs.Tree.{NumberedExpression}
use Rattle.alf_check.specs.CheckedPrograms.{CheckedParts, BlockEnding, Switch, Call, Return, seen}
use Rattle.alf_check.specs.Kept.{IsKept, KeepsEnding}
use Rattle.flow_graph.specs.Nodes.{Node, ending_at, function_at}
use Rattle.flow_graph.specs.Numbering.{GraphParts, IsGraph}
use Rattle.flow_graph.specs.Expansions.{node_number}
use Rattle.flow_graph.specs.Paths.{IsPlaced}
use Rattle.flow_graph.specs.Edges.{AreFirstEdges}
use Rattle.pointer_rules.specs.AbstractValues.{AbstractValue}
use Rattle.step_statements.specs.Typed.{IsStorable}

pub record HereParts : Type 0 where
  pub checked : CheckedParts
  pub graph : GraphParts
  pub node : ℕ

-- the parts belong together
pub record IsHere (parts : HereParts) (firsts : List ℕ) : Type 0 where
  pub keeps : IsKept (seen parts.checked)
  pub is_graph : IsGraph (seen parts.checked) parts.graph
  pub are_firsts : AreFirstEdges parts.graph firsts
  pub low : parts.node < length parts.graph.nodes

-- the node, its call path, and its function
abbrev pub place_of : HereParts → Node
place_of here = node_number here.graph here.node

abbrev pub path_at : HereParts → List ℕ
path_at here = (place_of here).path

abbrev pub function_here : HereParts → ℕ
function_here here = function_at (seen here.checked) (path_at here)

-- its block is this one, and ends so
pub record StandsAt (here : HereParts) (block : ℕ) (ending : BlockEnding) : Type 0 where
  pub kept : IsKept (seen here.checked)
  pub placed : IsPlaced (seen here.checked) (place_of here)
  pub at : (place_of here).block ≡ Some block
  pub ends : ending_at (seen here.checked) (function_here here) block ≡ Some ending
  pub keeps : KeepsEnding (seen here.checked) (function_here here) block ending

-- its block ends with this switch
pub record IsSwitchAt (here : HereParts) (value : NumberedExpression) (targets : List (ℕ × ℕ))
    (others : ℕ) : Type 0 where
  pub block : ℕ
  pub stands : StandsAt here block (Switch value targets others)

-- with this call
pub record IsCallAt (here : HereParts) (f : ℕ) (args : List NumberedExpression) : Type 0 where
  pub block : ℕ
  pub to : Option (ℕ × ℕ)
  pub next : ℕ
  pub stands : StandsAt here block (Call f args to next)

-- with a return
pub record IsReturnAt (here : HereParts) : Type 0 where
  pub block : ℕ
  pub value : Option NumberedExpression
  pub stands : StandsAt here block (Return value)

-- it returns to this block of the caller
pub record GoesBackTo (here : HereParts) (block : ℕ) : Type 0 where
  pub rest : List ℕ
  pub path_is : path_at here ≡ block ∷ rest
  pub returns : IsReturnAt here

-- what is returned has the size of a cell, if there is a call that it goes back to
abbrev pub IsTaken : List ℕ → Option AbstractValue → Type 0
IsTaken [] value = Unit {0}
IsTaken (b ∷ path) value = IfSome value IsStorable
