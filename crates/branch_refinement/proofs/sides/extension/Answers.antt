use Rattle.std.proofs.Common.{map, arith}
use Rattle.std.proofs.lemmas.List.{length-map}
use Rattle.alf_check.specs.CheckedPrograms.{term_of}
use Rattle.branch_refinement.proofs.Reading.{one_operand}
use Rattle.branch_refinement.proofs.sides.extension.Goals as goal

pub unreachable-requires-in-len2-up : goal.unreachable-requires-in-len2-up
unreachable-requires-in-len2-up c =
    let one = one_operand c.args.op c.args.sizes.now (map term_of c.args.operands.now) c.requires.typed c.requires.extends in
    let long = length-map c.args.operands.now term_of in
    let low = c.in-len2-up.len_at_least in
    absurd (omega (arith, one, long, low))
