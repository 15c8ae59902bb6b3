-- What the loop over the blocks keeps.
use Rattle.std.proofs.Common.{◌≡◌, ◌≤◌, ◌*◌, ◌^◌, take}
use Rattle.std.specs.Prelude.{sum_by}
use Rattle.alf_check.specs.CheckedPrograms.{blocks_at, seen}
use Rattle.code_layout.specs.Layouts.{statements_in}
use Rattle.code_layout.proofs.statements.statements_before_block.Given as goal

abbrev pub invariant-loop-b : goal.invariant-loop-b
invariant-loop-b l = record {
  statements : l.total ≡ sum_by statements_in (take l.b (blocks_at (seen l.checked) l.func));
  low : l.total ≤ l.b * 2 ^ 64;
}
