use Rattle.std.proofs.Common.{rules, arith}
use Rattle.std.proofs.lemmas.Int.{ints}
use Rattle.abstract_step.proofs.InputLaws.{range_up, range_one}
use Rattle.abstract_step.proofs.start.range.Goals as goal
use Rattle.abstract_step.proofs.start.range.Goals.{then-row, else-row}

pub norm-requires-clause-progression : goal.norm-requires-clause-progression
norm-requires-clause-progression c = elim c.if-row.branch [
  | then-row w ↦ range_up c.args.row.now _ _ _ c.requires (search rules) (search rules) (omega (arith, ints, w.if-row.true)) w.step-is
  | else-row w ↦ range_one c.args.row.now _ _ _ c.requires (search rules) (search rules) (omega (arith, ints, w.if-row.false)) w.step-is
]
