-- Which programs some text spells, said of the programs alone.
--   most_depth, most_functions, most_frames, most_frame_bytes, most_bytes_of_frames   the limits of programs
--   IsName name                  1 to 64 bytes that may stand in a name
--   IsSize size                  1 to 64
--   NumIsWritable num            a number of a size, with a word of that size
--   AddressIsWritable address    the address of a byte: a name, and an offset below 2 to 32
--   AreSizesOf op sizes          what is written between an operator's name and its operands
--   PartsAreWritable e           so everywhere in an expression, however deep it is
--   depth_of e                   how many expressions stand in one another
--   ExpressionIsWritable e       an expression that stands in no other
--   ItemIsWritable item          what stands in an item
--   ends_well items              the last item is a jump, a switch or a return
--   AllocationIsWritable frame   a frame has whole bytes, at least one and not too many
--   InitialIsWritable initial    what a frame holds at first
--   FunctionIsWritable func      what stands in a function
--   frames_of program            the global frames, and then the arguments and declarations of each function
--   IsWritable program           so everywhere in the program, and it is within its limits
-- Whether names belong together and sizes fit one another is not asked here.
use Rattle.std.specs.Prelude.{◌≡◌, ◌≢◌, ◌<◌, ◌≤◌, ◌*◌, ◌/◌, ◌^◌, ◌%◌, ◌++◌, ℕ, suc, Bool, true, false, List, [], ◌∷◌, length, max, drop, slice_index, All, IfSome}
use Rattle.std.specs.List.{flat_map, sum_by}
use Rattle.alf_ops.specs.declared.operator.Op.{Op}
use Rattle.alf_ops.specs.declared.operator.Op.TheVariants.{Select}
use Rattle.alf_ops.specs.Table.{layout_of, size_count, operands_by_layout}
use Rattle.alf_program.specs.declared.program.Num.{Num}
use Rattle.alf_program.specs.Tree.{NamedExpression, NamedExpressions, Number, Address, Load, Apply, Empty, With, Statement, Null, Store, Jump, Switch, Call, Return, BodyItem, Label, Do, Allocation, InitialValue, Function, WholeProgram}

-- ---- limits

-- expressions in one another
abbrev pub most_depth : ℕ
most_depth = 64

abbrev pub most_functions : ℕ
most_functions = 256

abbrev pub most_frames : ℕ
most_frames = 256

-- bytes of one frame
abbrev pub most_frame_bytes : ℕ
most_frame_bytes = 65536

-- bytes of all frames
abbrev pub most_bytes_of_frames : ℕ
most_bytes_of_frames = 1048576

-- ---- names and numbers

-- a byte from the space to the tilde, but no quote and no backslash
pub record IsNameByte (byte : ℕ) : Type 0 where
  pub from_space : 32 ≤ byte
  pub to_tilde : byte ≤ 126
  pub no_quote : byte ≢ 34
  pub no_backslash : byte ≢ 92

pub record IsName (name : List ℕ) : Type 0 where
  pub some : 1 ≤ length name
  pub short : length name ≤ 64
  pub bytes : All IsNameByte name

abbrev pub IsSize : ℕ → Type 0
IsSize size = (1 ≤ size) × (size ≤ 64)

-- a negative number is held by its bits in two's complement, so a word of the size is all that is asked
pub record NumIsWritable (num : Num) : Type 0 where
  pub some : 1 ≤ num.size
  pub small : num.size ≤ 64
  pub fits : num.bits < 2 ^ num.size

pub record AddressIsWritable (address : List ℕ × ℕ) : Type 0 where
  pub name : IsName address.0
  pub offset : address.1 < 2 ^ 32

-- ---- expressions

-- a load is of 1 to 8 whole bytes
pub record IsLoadSize (size : ℕ) : Type 0 where
  pub some : 1 ≤ size
  pub small : size ≤ 64
  pub bytes : size % 8 ≡ 0

-- what is written after the first size: two places of `select`, or a size
abbrev pub IsFurther : Op → ℕ → Type 0
IsFurther Select place = place ≤ 63
IsFurther _ size = IsSize size

-- as many as the operator's row has
pub record AreSizesOf (op : Op) (sizes : List ℕ) : Type 0 where
  pub count : length sizes ≡ size_count (layout_of op)
  pub first : IsSize (slice_index sizes 0)
  pub others : All (IsFurther op) (drop 1 sizes)

-- how many operands an operator has
abbrev pub operand_count : Op → ℕ
operand_count op = length (operands_by_layout (layout_of op) 0 0 0)

-- how many expressions stand in a row
abbrev pub count : NamedExpressions → ℕ
count Empty = 0
count (With e es) = suc (count es)

abbrev mutual
  pub PartsAreWritable : NamedExpression → Type 0
  PartsAreWritable (Number n) = NumIsWritable n
  PartsAreWritable (Address name offset) = AddressIsWritable (name, offset)
  PartsAreWritable (Load size at) = IsLoadSize size × PartsAreWritable at
  PartsAreWritable (Apply op sizes operands) = AreSizesOf op sizes × (count operands ≡ operand_count op) × AllPartsAreWritable operands

  pub AllPartsAreWritable : NamedExpressions → Type 0
  AllPartsAreWritable Empty = Unit {0}
  AllPartsAreWritable (With e es) = PartsAreWritable e × AllPartsAreWritable es

-- how many expressions stand in one another
abbrev mutual
  pub depth_of : NamedExpression → ℕ
  depth_of (Number n) = 1
  depth_of (Address name offset) = 1
  depth_of (Load size at) = suc (depth_of at)
  depth_of (Apply op sizes operands) = suc (most_deep operands)

  pub most_deep : NamedExpressions → ℕ
  most_deep Empty = 0
  most_deep (With e es) = max (depth_of e) (most_deep es)

pub record ExpressionIsWritable (e : NamedExpression) : Type 0 where
  pub parts : PartsAreWritable e
  pub depth : depth_of e ≤ most_depth

-- ---- items

pub record TargetIsWritable (target : Num × List ℕ) : Type 0 where
  pub num : NumIsWritable target.0
  pub label : IsName target.1

abbrev pub StatementIsWritable : Statement → Type 0
StatementIsWritable Null = Unit {0}
StatementIsWritable (Store at value) = ExpressionIsWritable at × ExpressionIsWritable value
StatementIsWritable (Jump label) = IsName label
StatementIsWritable (Switch value targets others) = ExpressionIsWritable value × All TargetIsWritable targets × IsName others
StatementIsWritable (Call label args result) = IsName label × All ExpressionIsWritable args × IfSome result AddressIsWritable
StatementIsWritable (Return value) = IfSome value ExpressionIsWritable

abbrev pub ItemIsWritable : BodyItem → Type 0
ItemIsWritable (Label name) = IsName name
ItemIsWritable (Do statement) = StatementIsWritable statement

-- a jump, a switch or a return
abbrev pub is_ending : BodyItem → Bool
is_ending (Label _) = false
is_ending (Do Null) = false
is_ending (Do (Store _ _)) = false
is_ending (Do (Jump _)) = true
is_ending (Do (Switch _ _ _)) = true
is_ending (Do (Call _ _ _)) = false
is_ending (Do (Return _)) = true

-- the last item is one
abbrev pub ends_well : List BodyItem → Bool
ends_well [] = false
ends_well (last ∷ []) = is_ending last
ends_well (_ ∷ next ∷ others) = ends_well (next ∷ others)

-- ---- frames, functions and programs

pub record AllocationIsWritable (frame : Allocation) : Type 0 where
  pub name : IsName frame.name
  pub some : 1 ≤ frame.bits
  pub bytes : frame.bits % 8 ≡ 0
  pub small : frame.bits ≤ 8 * most_frame_bytes

pub record InitialIsWritable (initial : InitialValue) : Type 0 where
  pub name : IsName initial.name
  pub offset : initial.offset < 2 ^ 32
  pub num : NumIsWritable initial.num

pub record FunctionIsWritable (func : Function) : Type 0 where
  pub name : IsName func.name
  pub args : All AllocationIsWritable func.args
  pub decls : All AllocationIsWritable func.decls
  pub inits : All InitialIsWritable func.inits
  pub items : All ItemIsWritable func.items
  pub ends : ends_well func.items ≡ true

-- the frames of a function
abbrev pub own_frames : Function → List Allocation
own_frames func = func.args ++ func.decls

abbrev pub frames_of : WholeProgram → List Allocation
frames_of program = program.decls ++ flat_map own_frames program.funcs

-- how many bytes a frame has
abbrev pub frame_bytes : Allocation → ℕ
frame_bytes frame = frame.bits / 8

pub record IsWritable (program : WholeProgram) : Type 0 where
  pub exports : All IsName program.exports
  pub labels : All IsName program.labels
  pub decls : All AllocationIsWritable program.decls
  pub inits : All InitialIsWritable program.inits
  pub funcs : All FunctionIsWritable program.funcs
  pub few_functions : length program.funcs ≤ most_functions
  pub few_frames : length (frames_of program) ≤ most_frames
  pub few_bytes : sum_by frame_bytes (frames_of program) ≤ most_bytes_of_frames
