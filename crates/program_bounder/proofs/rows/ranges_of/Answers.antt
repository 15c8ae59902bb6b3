use Rattle.std.proofs.Common.{arith, ◌≡◌, ◌∙◌, ap, map, take}
use Rattle.std.proofs.lemmas.Grind.{common_steps}
use Rattle.program_bounder.specs.InputRows.{range_of}
use Rattle.program_bounder.proofs.rows.ranges_of.Goals as goal

pub returns : goal.returns
returns c =
    let all : take c.loop-row.row-index c.args.rows.now ≡ c.args.rows.now = grind (arith, common_steps) in
    c.loop-row.invariant ∙ ap (map range_of) all
