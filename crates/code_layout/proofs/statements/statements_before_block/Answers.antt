-- What is left to show of `statements_before_block`.
use Rattle.std.proofs.Common.{◌∙◌, arith}
use Rattle.alf_check.specs.CheckedPrograms.{blocks_at, block_of, seen}
use Rattle.code_layout.specs.Layouts.{statements_in}
use Rattle.code_layout.proofs.Summing.{summed_more}
use Rattle.code_layout.proofs.statements.statements_before_block.Goals as goal

pub loop-b-preserved : goal.loop-b-preserved
loop-b-preserved c = record {
  statements = summed_more statements_in (blocks_at (seen c.args.checked.now) c.args.func) c.loop-b.b c.loop-b.total c.from-total.result (block_of c.block.result.now) c.block.ensures.at (c.from-total.ensures ∙ c.statements_in.ensures)
      c.loop-b.invariant.statements;
  low = (let before = c.loop-b.invariant.low in let one = c.statements_in.type_inv in let same = c.from-total.ensures in omega arith);
}
