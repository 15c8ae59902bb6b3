-- Runs of small programs, worked out by hand: how each ends, its nodes and its cost.
--   ComesTo program start steps nodes outcome total   the run is over after so many steps, and has these nodes and this outcome and cost
--   CallsTwice            a function is called twice, and each call passes its entry and its block
--   FaultsUnset, FaultsPartlySet    a load of bytes in which nothing was stored is the fault uninit
--   FaultsAtPartOfPointer           a load of a part of a pointer is the fault mixed
--   ReadsLowestFirst      a word is read byte by byte, the lowest first
--   FaultsDangling        a load from a frame of a function that was left is the fault dead
--   FaultsOutside         a result that does not fit where it goes is the fault bounds
--   FaultsAtPointer       a switch on a pointer is the fault kind
--   GivesBack             an input is there at the start, and an exported frame that holds nothing gives none
--   LeavesFirst           the root is left before the exported frames are loaded: a frame of its own holds nothing
--   StandsLast            an input stands after what its cell holds at first
--   StoresInOrder         of two stores of a block the later one is read
--   FallsToTheDefault     a switch takes the first target of the word, else the default
use Rattle.std.specs.Prelude.{◌≡◌, ℕ, true, false, List, [], ◌∷◌, Some, None, pos, negsuc}
use Rattle.alf_ops.specs.declared.operator.Op.TheVariants.{Add, UMul, ZExt, Select}
use Rattle.alf_ops.specs.declared.history.Value.TheVariants.{Int}
use Rattle.alf_ops.specs.declared.history.RunFault.TheVariants.{Uninit, Mixed, Kind, Dead, Bounds}
use Rattle.alf_program.specs.Tree.{NumberedExpression, Number, Address, Load, Apply, expressions_of}
use Rattle.alf_check.specs.declared.rows.FrameRow.{FrameRow}
use Rattle.alf_check.specs.declared.rows.InitRow.{InitRow}
use Rattle.alf_check.specs.declared.rows.InputRow.{InputRow}
use Rattle.alf_check.specs.CheckedPrograms.{NumberedStatement, Store, BlockEnding, Switch, Call, Return, NumberedBlock, NumberedFunction, NumberedProgram}
use Rattle.flow_graph.specs.Nodes.{Node, entry_node, block_node}
use Rattle.alf_runs.specs.Outcomes.{Outcome, Ended, Faulted}
use Rattle.alf_runs.specs.Steps.{Moment, Over}
use Rattle.alf_runs.specs.Runs.{after, trace, cost_of}
use Rattle.alf_runs.specs.Starts.{start, words_of}

-- ---- how the programs are written

abbrev word : ℕ → ℕ → NumberedExpression
word size bits = Number (record { signed = false; size = size; bits = bits })

-- the 32 bits at the start of a frame
abbrev content : ℕ → NumberedExpression
content frame = Load 32 (Address frame 0)

abbrev global : FrameRow
global = record { owner = None; name = []; bits = 32 }

abbrev local : ℕ → FrameRow
local f = record { owner = Some f; name = []; bits = 32 }

abbrev block : List NumberedStatement → BlockEnding → NumberedBlock
block statements ending = record { statements = statements; ending = ending }

abbrev function : List ℕ → List ℕ → List NumberedBlock → NumberedFunction
function args frames blocks = record { name = []; args = args; frames = frames; inits = []; blocks = blocks }

-- the first function is the root
abbrev program : List FrameRow → List InitRow → List ℕ → List NumberedFunction → NumberedProgram
program frames inits exports funcs = record { frames = frames; funcs = funcs; inits = inits; exports = exports; root = 0 }

-- a block costs 1, an entry 10
abbrev cost : Node → ℕ
cost node = elim node.block as (λ _. ℕ) [ None ↦ 10 | Some b ↦ 1 ]

-- the run comes to this outcome after so many steps, and has these nodes before it
pub record ComesTo (program : NumberedProgram) (start : Moment) (steps : ℕ) (nodes : List Node) (outcome : Outcome)
    (total : ℕ) : Type 0 where
  pub over : after program steps start ≡ Over outcome
  pub passes : trace program steps start ≡ nodes
  pub costs : cost_of cost (trace program steps start) ≡ total

-- ---- two calls of one function

-- main calls f with 4 and then with what r holds, and keeps both results in r; f adds 1
abbrev two_calls : NumberedProgram
two_calls = program (global ∷ local 1 ∷ []) [] (0 ∷ []) (
    function [] [] (
    block [] (Call 1 (word 32 4 ∷ []) (Some (0, 0)) 1)
    ∷ block [] (Call 1 (content 0 ∷ []) (Some (0, 0)) 2)
    ∷ block [] (Return (Some (content 0)))
    ∷ []
    )
    ∷ function (1 ∷ []) (1 ∷ []) (block [] (Return (Some (Apply Add (32 ∷ []) (expressions_of (content 1 ∷ word 32 1 ∷ word 1 0 ∷ []))))) ∷ [])
    ∷ []
    )

-- it returns 6 and leaves 6 in r, after eight nodes: in each call the called function's entry and its block
abbrev pub CallsTwice : Type 0
CallsTwice = ComesTo two_calls (start two_calls [] []) 8
    (entry_node [] ∷ block_node [] 0 ∷ entry_node (0 ∷ []) ∷ block_node (0 ∷ []) 0 ∷ block_node [] 1 ∷ entry_node (1 ∷ []) ∷ block_node (1 ∷ []) 0 ∷ block_node [] 2 ∷ [])
    (Ended (record { returned = Some (Int 32 6); globals = Some (Int 32 6) ∷ [] })) 35

-- ---- loads

-- a switch on what i holds, in which nothing was stored
abbrev unset : NumberedProgram
unset = program (global ∷ []) [] [] (function [] [] (block [] (Switch (content 0) [] 1) ∷ block [] (Return None) ∷ []) ∷ [])

abbrev pub FaultsUnset : Type 0
FaultsUnset = ComesTo unset (start unset [] []) 2 (entry_node [] ∷ block_node [] 0 ∷ []) (Faulted Uninit) 11

-- 32 bits are loaded of which 8 were stored
abbrev partly_set : NumberedProgram
partly_set = program (global ∷ []) [] [] (function [] [] (block (Store (Address 0 0) (word 8 5) ∷ []) (Return (Some (content 0))) ∷ []) ∷ [])

abbrev pub FaultsPartlySet : Type 0
FaultsPartlySet = ComesTo partly_set (start partly_set [] []) 2 (entry_node [] ∷ block_node [] 0 ∷ []) (Faulted Uninit) 11

-- 8 bits of a pointer are loaded
abbrev part_of_pointer : NumberedProgram
part_of_pointer = program (global ∷ []) [] [] (function [] [] (block (Store (Address 0 0) (Address 0 0) ∷ []) (Return (Some (Load 8 (Address 0 0)))) ∷ []) ∷ [])

abbrev pub FaultsAtPartOfPointer : Type 0
FaultsAtPartOfPointer = ComesTo part_of_pointer (start part_of_pointer [] []) 2 (entry_node [] ∷ block_node [] 0 ∷ []) (Faulted Mixed) 11

-- w holds 258; its two low bytes are read through a pointer, the lowest times 256
abbrev low_byte : ℕ → NumberedExpression
low_byte offset = Apply ZExt (8 ∷ 32 ∷ []) (expressions_of (Load 8 (Apply Add (32 ∷ []) (expressions_of (content 1 ∷ word 32 offset ∷ word 1 0 ∷ []))) ∷ []))

abbrev bytes_of_word : NumberedProgram
bytes_of_word = program (global ∷ local 0 ∷ []) (record { frame = 0; offset = 0; num = record { signed = true; size = 32; bits = 258 } } ∷ []) (0 ∷ []) (
    function [] (1 ∷ []) (
    block (Store (Address 1 0) (Address 0 0) ∷ []) (Return (Some (Apply Add (32 ∷ []) (expressions_of (
    Apply Select (64 ∷ 0 ∷ 31 ∷ []) (expressions_of (Apply UMul (32 ∷ 32 ∷ []) (expressions_of (low_byte 0 ∷ word 32 256 ∷ [])) ∷ []))
    ∷ low_byte 1
    ∷ word 1 0
    ∷ []
    )))))
    ∷ []
    )
    ∷ []
    )

abbrev pub ReadsLowestFirst : Type 0
ReadsLowestFirst = ComesTo bytes_of_word (start bytes_of_word [] []) 2 (entry_node [] ∷ block_node [] 0 ∷ [])
    (Ended (record { returned = Some (Int 32 513); globals = Some (Int 32 258) ∷ [] })) 11

-- ---- calls and what they leave

-- f gives a pointer to its own frame, and main loads through it
abbrev dangling : NumberedProgram
dangling = program (global ∷ local 1 ∷ []) [] [] (
    function [] [] (block [] (Call 1 [] (Some (0, 0)) 1) ∷ block [] (Return (Some (Load 32 (content 0)))) ∷ [])
    ∷ function [] (1 ∷ []) (block [] (Return (Some (Address 1 0))) ∷ [])
    ∷ []
    )

abbrev pub FaultsDangling : Type 0
FaultsDangling = ComesTo dangling (start dangling [] []) 5 (entry_node [] ∷ block_node [] 0 ∷ entry_node (0 ∷ []) ∷ block_node (0 ∷ []) 0 ∷ block_node [] 1 ∷ []) (Faulted Dead) 23

-- the result of a call does not fit where it goes: the run ends at the return of the called function
abbrev result_outside : NumberedProgram
result_outside = program (global ∷ []) [] [] (
    function [] [] (block [] (Call 1 [] (Some (0, 2)) 1) ∷ block [] (Return None) ∷ []) ∷ function [] [] (block [] (Return (Some (word 32 1))) ∷ []) ∷ []
    )

abbrev pub FaultsOutside : Type 0
FaultsOutside = ComesTo result_outside (start result_outside [] []) 4 (entry_node [] ∷ block_node [] 0 ∷ entry_node (0 ∷ []) ∷ block_node (0 ∷ []) 0 ∷ []) (Faulted Bounds) 22

-- a pointer is switched on
abbrev on_a_pointer : NumberedProgram
on_a_pointer = program (global ∷ []) [] [] (function [] [] (block [] (Switch (Address 0 0) [] 1) ∷ block [] (Return None) ∷ []) ∷ [])

abbrev pub FaultsAtPointer : Type 0
FaultsAtPointer = ComesTo on_a_pointer (start on_a_pointer [] []) 2 (entry_node [] ∷ block_node [] 0 ∷ []) (Faulted Kind) 11

-- ---- inputs

-- the program returns what i holds, for the input -2; an exported frame in which nothing was stored gives nothing
abbrev input_row : InputRow
input_row = record { frame = 0; offset = 0; size = 32; low = negsuc 2; high = pos 7 }

abbrev given_back : NumberedProgram
given_back = program (global ∷ global ∷ []) [] (1 ∷ []) (function [] [] (block [] (Return (Some (content 0))) ∷ []) ∷ [])

abbrev pub GivesBack : Type 0
GivesBack = ComesTo given_back (start given_back (input_row ∷ []) (words_of (input_row ∷ []) (negsuc 1 ∷ []))) 2 (entry_node [] ∷ block_node [] 0 ∷ [])
    (Ended (record { returned = Some (Int 32 4294967294); globals = None ∷ [] })) 11

-- ---- switches and exports

-- main switches on a word; of two targets with one word the first counts; each block stores its number in the exported
-- frame
abbrev switched : ℕ → NumberedProgram
switched n = program (global ∷ []) [] (0 ∷ []) (
    function [] [] (
    block [] (Switch (word 32 n) ((5, 1) ∷ (6, 2) ∷ (5, 2) ∷ []) 3)
    ∷ block (Store (Address 0 0) (word 32 1) ∷ []) (Return None)
    ∷ block (Store (Address 0 0) (word 32 2) ∷ []) (Return None)
    ∷ block (Store (Address 0 0) (word 32 3) ∷ []) (Return None)
    ∷ []
    )
    ∷ []
    )

-- the run leads to block b, and leaves its number
abbrev LeadsTo : ℕ → ℕ → Type 0
LeadsTo n b = ComesTo (switched n) (start (switched n) [] []) 3 (entry_node [] ∷ block_node [] 0 ∷ block_node [] b ∷ [])
    (Ended (record { returned = None; globals = Some (Int 32 b) ∷ [] })) 12

pub record FallsToTheDefault : Type 0 where
  pub first : LeadsTo 5 1
  pub second : LeadsTo 6 2
  pub none : LeadsTo 7 3

-- the root stores in a frame of its own, and that frame is exported
abbrev own_frame : NumberedProgram
own_frame = program (local 0 ∷ []) [] (0 ∷ []) (function [] (0 ∷ []) (block (Store (Address 0 0) (word 32 5) ∷ []) (Return (Some (content 0))) ∷ []) ∷ [])

abbrev pub LeavesFirst : Type 0
LeavesFirst = ComesTo own_frame (start own_frame [] []) 2 (entry_node [] ∷ block_node [] 0 ∷ [])
    (Ended (record { returned = Some (Int 32 5); globals = None ∷ [] })) 11

-- i holds 5 at first, and an input gives it -2
abbrev given_over : NumberedProgram
given_over = program (global ∷ []) (record { frame = 0; offset = 0; num = record { signed = true; size = 32; bits = 5 } } ∷ []) [] (function [] [] (block [] (Return (Some (content 0))) ∷ []) ∷ [])

abbrev pub StandsLast : Type 0
StandsLast = ComesTo given_over (start given_over (input_row ∷ []) (words_of (input_row ∷ []) (negsuc 1 ∷ []))) 2 (entry_node [] ∷ block_node [] 0 ∷ [])
    (Ended (record { returned = Some (Int 32 4294967294); globals = [] })) 11

-- a block stores 5, and then 6
abbrev stored_twice : NumberedProgram
stored_twice = program (global ∷ []) [] [] (function [] [] (block (Store (Address 0 0) (word 32 5) ∷ Store (Address 0 0) (word 32 6) ∷ []) (Return (Some (content 0))) ∷ []) ∷ [])

abbrev pub StoresInOrder : Type 0
StoresInOrder = ComesTo stored_twice (start stored_twice [] []) 2 (entry_node [] ∷ block_node [] 0 ∷ []) (Ended (record { returned = Some (Int 32 6); globals = [] })) 11
