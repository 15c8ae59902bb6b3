use Rattle.std.proofs.Common.{◌≡◌, ◌≤◌, map, drop}
use Rattle.alf_program.specs.Tree.{expression_of, expressions_of}
use Rattle.alf_faults.specs.TermSizes.{operands_fit}
use Rattle.alf_faults.proofs.term_sizes.+sizes.Given as goal

abbrev pub invariant-operands_fit-loop-first : goal.invariant-operands_fit-loop-first
invariant-operands_fit-loop-first l = record {
  few : l.place ≤ 3;
  same : operands_fit l.op l.sizes l.place (expressions_of (map expression_of (drop l.first-index l.operands))) ≡ operands_fit l.op l.sizes 0 (expressions_of (map expression_of l.operands));
}
