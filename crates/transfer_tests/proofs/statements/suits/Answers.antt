use Rattle.std.proofs.Common.{refl, sym, length}
use Rattle.std.proofs.lemmas.Bool.{ltb-true}
use Rattle.transfer_tests.proofs.StatementLaws.{argument_of, row_at}
use Rattle.transfer_tests.proofs.statements.suits.Goals as goal

pub returns-then-is_cell : goal.returns-then-is_cell
returns-then-is_cell c = λ yes.
    let found = c.in-Some.ensures.lookup in
    argument_of c.args.rows.now c.args.frame c.in-Some.row.now c.args.value.now
    (row_at c.args.rows.now c.args.frame c.in-Some.row.now (ltb-true c.args.frame (length c.args.rows.now) (sym found.0)) found.1)
    (c.if-is_cell.ensures refl) (c.is_value.ensures yes)
