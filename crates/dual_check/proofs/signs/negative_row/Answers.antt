-- The first answer comes at this turn, or none came up to the next.
use Rattle.std.proofs.Common.{◌∙◌, sym, arith, length}
use Rattle.ipet_rows.specs.Verdicts.{sign_at}
use Rattle.ipet_rows.specs.FirstLaws.{first_here}
use Rattle.dual_check.proofs.signs.negative_row.Goals as goal

pub returns-in-Some : goal.returns-in-Some
returns-in-Some c = sym (first_here c.loop-row.row (length c.args.rows.now.program.rows) (sign_at c.args.rows.now.program c.args.multipliers.now) c.in-Some.verdict c.loop-row.invariant (sym c.sign_verdict.ensures ∙ c.in-Some.is) (omega arith))
