-- Programs with numbers in place of names, without where they lie in memory.
--   NumberedStatement   a statement that control goes through
--   BlockEnding         how a block ends
--   NumberedBlock       statements that follow one another, and how they end
--   NumberedFunction    a function: its name, the frames of its arguments, all its frames with those first, what they hold at first, and its blocks
--   NumberedProgram     a program: its frames, its functions, what global frames hold at first, the frames that it exports, and the function that it starts with
--   blocks_at program f   the blocks of function f
--   CheckedParts        the same in the code's parts
--   term_of, act_of, end_of, block_of, function_in, seen   what the code's values stand for
use Rattle.std.specs.Prelude.{ℕ, List, [], map, Option, slice_get}
use Rattle.std.specs.Option.{option_map, option_map_or}
use Rattle.alf_program.specs.Tree.{NumberedExpression, Number, Address, Load, Apply, expressions_of}
use Rattle.alf_check.specs.declared.rows.FrameRow.{FrameRow}
use Rattle.alf_check.specs.declared.rows.InitRow.{InitRow}
use Rattle.alf_check.specs.declared.rows.FuncParts.{FuncParts}
use Rattle.alf_check.specs.declared.rows.Term.{Term}
use Rattle.alf_check.specs.declared.rows.Term.TheOpen.{Term-F}
use Rattle.alf_check.specs.declared.rows.Term.TheOpen as terms
use Rattle.alf_check.specs.declared.rows.Term.TheFolds.{fold-Term}
use Rattle.alf_check.specs.declared.rows.Act.{Act}
use Rattle.alf_check.specs.declared.rows.Act.TheVariants as acts
use Rattle.alf_check.specs.declared.rows.BlockEnd.{BlockEnd}
use Rattle.alf_check.specs.declared.rows.BlockEnd.TheVariants as ends
use Rattle.alf_check.specs.declared.rows.Block.{Block}

-- a statement that control goes through
pub data NumberedStatement : Type 0 where
  Null : NumberedStatement
  Store : NumberedExpression → NumberedExpression → NumberedStatement

-- how a block ends: it goes on to the next, jumps, switches, calls and then goes on, or returns
pub data BlockEnding : Type 0 where
  Fall : ℕ → BlockEnding
  Jump : ℕ → BlockEnding
  Switch : NumberedExpression → List (ℕ × ℕ) → ℕ → BlockEnding
  Call : ℕ → List NumberedExpression → Option (ℕ × ℕ) → ℕ → BlockEnding
  Return : Option NumberedExpression → BlockEnding

pub record NumberedBlock : Type 0 where
  pub statements : List NumberedStatement
  pub ending : BlockEnding

pub record NumberedFunction : Type 0 where
  pub name : List ℕ
  pub args : List ℕ
  pub frames : List ℕ
  pub inits : List InitRow
  pub blocks : List NumberedBlock

pub record NumberedProgram : Type 0 where
  pub frames : List FrameRow
  pub funcs : List NumberedFunction
  pub inits : List InitRow
  pub exports : List ℕ
  pub root : ℕ

-- the blocks of function f
abbrev pub blocks_at : NumberedProgram → ℕ → List NumberedBlock
blocks_at program f = option_map_or (λ function. function.blocks) (slice_get program.funcs f) []

-- ---- what the code's values stand for

-- the parts of a checked program
pub record CheckedParts : Type 0 where
  pub frames : List FrameRow
  pub funcs : List FuncParts
  pub inits : List InitRow
  pub exports : List ℕ
  pub root : ℕ

abbrev pub term_step : Term-F NumberedExpression → NumberedExpression
term_step (terms.Num n) = Number n
term_step (terms.Addr frame offset) = Address frame offset
term_step (terms.Load size at) = Load size at.value
term_step (terms.Apply op sizes operands) = Apply op sizes.items (expressions_of operands.items)

abbrev pub term_of : Term → NumberedExpression
term_of = fold-Term NumberedExpression term_step

abbrev pub act_of : Act → NumberedStatement
act_of acts.Null = Null
act_of (acts.Store at value) = Store (term_of at) (term_of value)

abbrev pub end_of : BlockEnd → BlockEnding
end_of (ends.Fall next) = Fall next
end_of (ends.Jump to) = Jump to
end_of (ends.Switch value targets others) = Switch (term_of value) targets.items others
end_of (ends.Call func args result next) = Call func (map term_of args.items) result next
end_of (ends.Return value) = Return (option_map term_of value)

abbrev pub block_of : Block → NumberedBlock
block_of block = record { statements = map act_of block.stmts.items; ending = end_of block.end }

abbrev pub function_in : FuncParts → NumberedFunction
function_in parts = record {
  name = parts.row.name;
  args = parts.row.args.items;
  frames = parts.row.frames.items;
  inits = parts.row.inits.items;
  blocks = map block_of parts.blocks.items;
}

-- the program that a checked one is seen as
abbrev pub seen : CheckedParts → NumberedProgram
seen parts = record {
  frames = parts.frames;
  funcs = map function_in parts.funcs;
  inits = parts.inits;
  exports = parts.exports;
  root = parts.root;
}
