use Rattle.std.proofs.Common.{List, map, sym, subst}
use Rattle.std.specs.List.{AllByRecursion}
use Rattle.alf_check.specs.declared.rows.Act.{Act}
use Rattle.alf_check.specs.CheckedPrograms.{act_of, seen}
use Rattle.step_statements.specs.Typed.{IsTypedStatement}
use Rattle.transfer_tests.proofs.StatementLaws.{all_typed}
use Rattle.transfer_tests.proofs.statements.run_block.Goals as goal

pub do_statements-requires-clause-typed : goal.do_statements-requires-clause-typed
do_statements-requires-clause-typed c =
    subst (λ (acts : List Act). AllByRecursion IsTypedStatement (map act_of acts)) (sym c.deref.ensures.value)
    (all_typed (seen c.args.checked.now).frames c.args.func (map act_of c.block-block.result.now.stmts.items) c.block-block.ensures.keeps.statements)
