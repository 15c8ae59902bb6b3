-- The first answer comes at this turn, or none came up to the next.
use Rattle.std.proofs.Common.{◌∙◌, sym, arith, length}
use Rattle.ipet_rows.specs.Verdicts.{column_at}
use Rattle.ipet_rows.specs.FirstLaws.{first_here}
use Rattle.dual_check.proofs.columns.wrong_column.Goals as goal

pub returns-in-Some : goal.returns-in-Some
returns-in-Some c = sym (first_here c.loop-column.column (length c.args.rows.now.program.costs) (column_at c.args.rows.now.program c.args.scale c.args.multipliers.now) c.in-Some.verdict c.loop-column.invariant (sym c.column_verdict.ensures ∙ c.in-Some.is) (omega arith))
