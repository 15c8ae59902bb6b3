-- What the loop over the functions keeps.
use Rattle.std.proofs.Common.{◌≡◌, ◌≤◌, ◌*◌, ◌^◌, take}
use Rattle.std.specs.Prelude.{sum_by}
use Rattle.alf_check.specs.CheckedPrograms.{seen}
use Rattle.code_layout.specs.Layouts.{statements_of}
use Rattle.code_layout.proofs.statements.statements_before_function.Given as goal

abbrev pub invariant-loop-f : goal.invariant-loop-f
invariant-loop-f l = record {
  statements : l.total ≡ sum_by statements_of (take l.f (seen l.checked).funcs);
  low : l.total ≤ l.f * 2 ^ 96;
}
