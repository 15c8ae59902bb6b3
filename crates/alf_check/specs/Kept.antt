-- What every checked program keeps.
--   IsSize size, IsCellSize size   1 to 64 bits; whole bytes from 8 to 64 bits
--   IsWordOf size num        the number has this size, and its word fits it
--   KeepsFrame row           a frame has whole bytes, from 1 to 65,536
--   IsFrameOf rows owner f   frame f is one of this owner
--   SeesFrame rows k f       frame f is global or one of function k
--   HasSize rows k size e    in function k the expression has this size, and each expression in it that of its place
--   InitFits rows owner init what a frame holds at first is of this owner's frame and lies in it
--   KeepsStatement rows k s  a statement that control goes through keeps the rules
--   KeepsEnding program k b end   so does what block b of function k ends with
--   KeepsBlock program k b block  so does the whole block
--   GivesSize rows k size value   a return gives this size, which is 0 without a value
--   KeepsFunction program k function   function k keeps the rules
--   KeepsFrames program      the frames do, and each is where its owner has it
--   KeepsExport rows f       so does an exported frame
--   IsBounded program        its counts are below 2^32 - 1
--   IsWithinLimits program   its functions, frames and bytes of frames are within the limits of a text
--   IsChecked program        the program is one that some text can spell and that passes the checks, with numbers in place of names
--   block_calls program      for each function those that its blocks call
--   IsKept program           the whole program keeps the rules
use Rattle.std.specs.Prelude.{◌≡◌, ◌≢◌, ◌<◌, ◌≤◌, ◌+◌, ◌*◌, ◌/◌, ◌%◌, ◌^◌, ◌⊎◌, ℕ, suc, true, List, [], ◌∷◌, ◌++◌, map, length, All, AllPairs, Contains, Option, Some, None, slice_get}
use Rattle.std.specs.List.{AllZip, flat_map, sum_by}
use Rattle.alf_ops.specs.Table.{result_size, operand_sizes}
use Rattle.alf_program.specs.Writable.{most_functions, most_frames, most_bytes_of_frames, IsWritable}
use Rattle.alf_program.specs.declared.program.Num.{Num}
use Rattle.alf_program.specs.Tree.{NumberedExpression, NumberedExpressions, Number, Address, Load, Apply, Empty, With, WholeProgram}
use Rattle.alf_faults.specs.Sizes.{is_export_size}
use Rattle.alf_check.specs.declared.rows.FrameRow.{FrameRow}
use Rattle.alf_check.specs.declared.rows.InitRow.{InitRow}
use Rattle.alf_check.specs.CheckedPrograms.{NumberedStatement, Null, Store, BlockEnding, Fall, Jump, Switch, Call, Return, NumberedBlock, NumberedFunction, NumberedProgram, blocks_at}
use Rattle.alf_check.specs.Numbered.{numbered}
use Rattle.alf_check.specs.Checking.{Passes, HasRanks}

-- ---- sizes

-- 1 to 64 bits
pub record IsSize (size : ℕ) : Type 0 where
  pub some : 1 ≤ size
  pub most : size ≤ 64

-- whole bytes, from 8 to 64 bits: a cell of memory
pub record IsCellSize (size : ℕ) : Type 0 where
  pub least : 8 ≤ size
  pub most : size ≤ 64
  pub bytes : size % 8 ≡ 0

-- the number has this size, and its word fits it
pub record IsWordOf (size : ℕ) (num : Num) : Type 0 where
  pub same : num.size ≡ size
  pub sized : IsSize size
  pub fits : num.bits < 2 ^ size

-- ---- frames

-- whole bytes, from 1 to 65,536
pub record KeepsFrame (row : FrameRow) : Type 0 where
  pub some : 8 ≤ row.bits
  pub most : row.bits ≤ 524288
  pub bytes : row.bits % 8 ≡ 0

-- frame f is one of this owner: of a function, or global
pub record IsFrameOf (rows : List FrameRow) (owner : Option ℕ) (f : ℕ) : Type 0 where
  pub row : FrameRow
  pub at : slice_get rows f ≡ Some row
  pub owned : row.owner ≡ owner

-- the frame is global or one of function k
abbrev pub IsSeen : ℕ → FrameRow → Type 0
IsSeen k row = (row.owner ≡ None) ⊎ (row.owner ≡ Some k)

-- frame f is one that function k sees
pub record SeesFrame (rows : List FrameRow) (k f : ℕ) : Type 0 where
  pub row : FrameRow
  pub at : slice_get rows f ≡ Some row
  pub seen : IsSeen k row

-- what a frame of this owner holds at first: a word of whole bytes that lies in it
pub record InitFits (rows : List FrameRow) (owner : Option ℕ) (init : InitRow) : Type 0 where
  pub row : FrameRow
  pub at : slice_get rows init.frame ≡ Some row
  pub owned : row.owner ≡ owner
  pub word : IsWordOf init.num.size init.num
  pub cell : IsCellSize init.num.size
  pub lies : 8 * init.offset + init.num.size ≤ row.bits

-- an exported frame is global, and has 8, 16, 32 or 64 bits
pub record KeepsExport (rows : List FrameRow) (f : ℕ) : Type 0 where
  pub row : FrameRow
  pub at : slice_get rows f ≡ Some row
  pub owned : row.owner ≡ None
  pub sized : is_export_size row.bits ≡ true

-- ---- expressions

-- an address has 32 bits, and is one of a frame that the function sees
pub record AddressKeeps (rows : List FrameRow) (k size f offset : ℕ) : Type 0 where
  pub same : 32 ≡ size
  pub offset_fits : offset < 2 ^ 32
  pub sees : SeesFrame rows k f

-- a load is of a cell, from an address
pub record LoadKeeps (size bits : ℕ) (AddressKept : Type 0) : Type 0 where
  pub same : bits ≡ size
  pub cell : IsCellSize bits
  pub address : AddressKept

-- an operator has its result's size, and operands as its row says
pub record OperatorKeeps (size : ℕ) (result : Option ℕ) (OperandsKept : Type 0) : Type 0 where
  pub result_is : result ≡ Some size
  pub sized : IsSize size
  pub operands : OperandsKept

abbrev mutual
  -- in function k the expression has this size, and each expression in it that of its place
  pub HasSize : List FrameRow → ℕ → ℕ → NumberedExpression → Type 0
  HasSize rows k size (Number num) = IsWordOf size num
  HasSize rows k size (Address f offset) = AddressKeeps rows k size f offset
  HasSize rows k size (Load bits at) = LoadKeeps size bits (HasSize rows k 32 at)
  HasSize rows k size (Apply op sizes operands) = OperatorKeeps size (result_size op sizes) (HaveSizes rows k (operand_sizes op sizes) operands)

  pub HaveSizes : List FrameRow → ℕ → List ℕ → NumberedExpressions → Type 0
  HaveSizes rows k [] Empty = Unit {0}
  HaveSizes rows k [] (With operand operands) = ⊥
  HaveSizes rows k (size ∷ sizes) Empty = ⊥
  HaveSizes rows k (size ∷ sizes) (With operand operands) = HasSize rows k size operand × HaveSizes rows k sizes operands

-- in function k the expression gives a cell
pub record HasCellSize (rows : List FrameRow) (k : ℕ) (value : NumberedExpression) : Type 0 where
  pub size : ℕ
  pub cell : IsCellSize size
  pub value_has : HasSize rows k size value

-- ---- blocks

-- a store is of a cell, to an address
pub record StoreKeeps (rows : List FrameRow) (k : ℕ) (to value : NumberedExpression) : Type 0 where
  pub address : HasSize rows k 32 to
  pub stored : HasCellSize rows k value

abbrev pub KeepsStatement : List FrameRow → ℕ → NumberedStatement → Type 0
KeepsStatement rows k Null = Unit {0}
KeepsStatement rows k (Store to value) = StoreKeeps rows k to value

-- function k has a block b
abbrev pub IsBlockOf : NumberedProgram → ℕ → ℕ → Type 0
IsBlockOf program k b = b < length (blocks_at program k)

-- block b goes on to the next, which is there
pub record GoesOn (program : NumberedProgram) (k b next : ℕ) : Type 0 where
  pub next_is : next ≡ suc b
  pub there : IsBlockOf program k next

-- a target has a word of the switch's size, and leads to a block
pub record TargetKeeps (program : NumberedProgram) (k size : ℕ) (target : ℕ × ℕ) : Type 0 where
  pub fits : target.0 < 2 ^ size
  pub there : IsBlockOf program k target.1

-- a switch has a value of some size, targets of this size with words that differ, and a block for all others
pub record SwitchKeeps (program : NumberedProgram) (k : ℕ) (value : NumberedExpression) (targets : List (ℕ × ℕ))
    (others : ℕ) : Type 0 where
  pub size : ℕ
  pub value_has : HasSize program.frames k size value
  pub targets_keep : All (TargetKeeps program k size) targets
  pub apart : AllPairs (λ s t. s.0 ≢ t.0) targets
  pub there : IsBlockOf program k others

-- an argument has the size of its frame, which is a cell's
pub record ArgumentKeeps (rows : List FrameRow) (k f : ℕ) (arg : NumberedExpression) : Type 0 where
  pub row : FrameRow
  pub at : slice_get rows f ≡ Some row
  pub cell : IsCellSize row.bits
  pub value_has : HasSize rows k row.bits arg

-- the address that a result goes to
pub record ResultKeeps (rows : List FrameRow) (k : ℕ) (to : ℕ × ℕ) : Type 0 where
  pub sees : SeesFrame rows k to.0
  pub offset_fits : to.1 < 2 ^ 32

abbrev pub KeepsResult : List FrameRow → ℕ → Option (ℕ × ℕ) → Type 0
KeepsResult rows k None = Unit {0}
KeepsResult rows k (Some to) = ResultKeeps rows k to

-- what a return of function f gives is what a call with this result takes: a cell, or nothing
abbrev pub Gives : List FrameRow → ℕ → Option (ℕ × ℕ) → Option NumberedExpression → Type 0
Gives rows f None None = Unit {0}
Gives rows f None (Some value) = ⊥
Gives rows f (Some to) None = ⊥
Gives rows f (Some to) (Some value) = HasCellSize rows f value

-- it holds of what each return of these blocks gives
abbrev pub EachReturn : (Option NumberedExpression → Type 0) → List NumberedBlock → Type 0
EachReturn Holds blocks = (b : ℕ) (block : NumberedBlock) (value : Option NumberedExpression) → slice_get blocks b ≡ Some block → block.ending ≡ Return value → Holds value

-- a call is of a function that is there, with arguments for its frames, and takes what each of its returns gives
pub record CallKeeps (program : NumberedProgram) (k b f : ℕ) (args : List NumberedExpression) (result : Option (ℕ × ℕ))
    (next : ℕ) : Type 0 where
  pub function : NumberedFunction
  pub at : slice_get program.funcs f ≡ Some function
  pub args_keep : AllZip (ArgumentKeeps program.frames k) function.args args
  pub gives : EachReturn (Gives program.frames f result) function.blocks
  pub result_keeps : KeepsResult program.frames k result
  pub goes_on : GoesOn program k b next

-- a return gives this size, which is 0 without a value
abbrev pub GivesSize : List FrameRow → ℕ → ℕ → Option NumberedExpression → Type 0
GivesSize rows k size None = size ≡ 0
GivesSize rows k size (Some value) = HasSize rows k size value

-- a return gives some size
pub record ReturnKeeps (rows : List FrameRow) (k : ℕ) (value : Option NumberedExpression) : Type 0 where
  pub size : ℕ
  pub gives : GivesSize rows k size value

-- what block b of function k ends with leads to blocks of the function, and keeps the rules
abbrev pub KeepsEnding : NumberedProgram → ℕ → ℕ → BlockEnding → Type 0
KeepsEnding program k b (Fall next) = GoesOn program k b next
KeepsEnding program k b (Jump to) = IsBlockOf program k to
KeepsEnding program k b (Switch value targets others) = SwitchKeeps program k value targets others
KeepsEnding program k b (Call f args result next) = CallKeeps program k b f args result next
KeepsEnding program k b (Return value) = ReturnKeeps program.frames k value

-- block b of function k keeps the rules
pub record KeepsBlock (program : NumberedProgram) (k b : ℕ) (block : NumberedBlock) : Type 0 where
  pub statements : All (KeepsStatement program.frames k) block.statements
  pub ending : KeepsEnding program k b block.ending

-- ---- functions and programs

-- the returns of these blocks of function k give one size
pub record HasOneReturnSize (rows : List FrameRow) (k : ℕ) (blocks : List NumberedBlock) : Type 0 where
  pub size : ℕ
  pub each : EachReturn (GivesSize rows k size) blocks

-- function k keeps the rules
pub record KeepsFunction (program : NumberedProgram) (k : ℕ) (function : NumberedFunction) : Type 0 where
  pub others : List ℕ
  pub arguments_first : function.frames ≡ function.args ++ others
  pub owned : All (IsFrameOf program.frames (Some k)) function.frames
  pub apart : AllPairs (λ f g. f ≢ g) function.frames
  pub inits : All (InitFits program.frames (Some k)) function.inits
  pub some : 0 < length function.blocks
  pub blocks : (b : ℕ) (block : NumberedBlock) → slice_get function.blocks b ≡ Some block → KeepsBlock program k b block
  pub returns : HasOneReturnSize program.frames k function.blocks

-- function k has frame f
pub record HasFrame (program : NumberedProgram) (k f : ℕ) : Type 0 where
  pub function : NumberedFunction
  pub at : slice_get program.funcs k ≡ Some function
  pub among : Contains function.frames f

-- each frame has a size, is one of its owner's, and has a name of its own among those that a function sees
pub record KeepsFrames (program : NumberedProgram) : Type 0 where
  pub each : All KeepsFrame program.frames
  pub own : (f k : ℕ) (row : FrameRow) → slice_get program.frames f ≡ Some row → row.owner ≡ Some k
      → HasFrame program k f
  pub names : (k f g : ℕ) (a b : FrameRow) → slice_get program.frames f ≡ Some a → slice_get program.frames g ≡ Some b
      → IsSeen k a → IsSeen k b → a.name ≡ b.name → f ≡ g

-- the program is one that some text can spell and that passes the checks, with numbers in place of names
pub record IsChecked (program : NumberedProgram) : Type 0 where
  pub whole : WholeProgram
  pub root : List ℕ
  pub writable : IsWritable whole
  pub passes : Passes whole root
  pub numbers : program ≡ numbered whole root

-- the function that a block with this end calls
abbrev pub called_at : BlockEnding → List ℕ
called_at (Fall next) = []
called_at (Jump to) = []
called_at (Switch value targets others) = []
called_at (Call f args result next) = f ∷ []
called_at (Return value) = []

-- the functions that these blocks call
abbrev pub called_in : List NumberedBlock → List ℕ
called_in blocks = flat_map (λ (block : NumberedBlock). called_at block.ending) blocks

-- for each function those that its blocks call
abbrev pub block_calls : NumberedProgram → List (List ℕ)
block_calls program = map (λ (function : NumberedFunction). called_in function.blocks) program.funcs

-- counts are such that 32 bits hold each, and one more
pub record IsBounded (program : NumberedProgram) : Type 0 where
  pub frames : length program.frames < 4294967295
  pub funcs : length program.funcs < 4294967295
  pub exports : length program.exports < 4294967295
  pub blocks : All (λ (function : NumberedFunction). length function.blocks < 4294967295) program.funcs

-- how many bytes a frame has
abbrev pub row_bytes : FrameRow → ℕ
row_bytes row = row.bits / 8

-- the functions, the frames and the bytes of all frames are within the limits
pub record IsWithinLimits (program : NumberedProgram) : Type 0 where
  pub funcs : length program.funcs ≤ most_functions
  pub frames : length program.frames ≤ most_frames
  pub bytes : sum_by row_bytes program.frames ≤ most_bytes_of_frames

-- what every checked program keeps
pub record IsKept (program : NumberedProgram) : Type 0 where
  pub checked : IsChecked program
  pub bounded : IsBounded program
  pub limits : IsWithinLimits program
  pub frames : KeepsFrames program
  pub functions : (k : ℕ) (function : NumberedFunction) → slice_get program.funcs k ≡ Some function
      → KeepsFunction program k function
  pub names : (k j : ℕ) (f g : NumberedFunction) → slice_get program.funcs k ≡ Some f
      → slice_get program.funcs j ≡ Some g → f.name ≡ g.name → k ≡ j
  pub inits : All (InitFits program.frames None) program.inits
  pub exports : All (KeepsExport program.frames) program.exports
  pub root : program.root < length program.funcs
  pub ranked : HasRanks (block_calls program)
