use Rattle.std.proofs.Common.{List, map, sym, subst}
use Rattle.std.specs.List.{AllByRecursion}
use Rattle.alf_check.specs.declared.rows.Act.{Act}
use Rattle.alf_check.specs.CheckedPrograms.{seen, act_of}
use Rattle.step_statements.specs.Typed.{IsTypedStatement}
use Rattle.abstract_step.proofs.EndLaws.{each_typed}
use Rattle.abstract_step.proofs.ending.step_block.Goals as goal

pub do_statements-requires-clause-typed : goal.do_statements-requires-clause-typed
do_statements-requires-clause-typed c =
    subst (λ (acts : List Act). AllByRecursion IsTypedStatement (map act_of acts)) (sym c.deref.ensures.value)
    (each_typed (seen c.checked.result.now).frames c.at.result.func (map act_of c.block-row.result.now.stmts.items) c.block-row.ensures.keeps.statements)
