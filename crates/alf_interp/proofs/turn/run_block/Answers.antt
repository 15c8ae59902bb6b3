use Rattle.std.proofs.Common.{List, map, sym, subst}
use Rattle.std.specs.List.{AllByRecursion}
use Rattle.alf_check.specs.declared.rows.Act.{Act}
use Rattle.alf_check.specs.CheckedPrograms.{seen, act_of}
use Rattle.alf_interp.specs.Typed.{IsTypedStatement}
use Rattle.alf_interp.proofs.Stores.{statements_typed}
use Rattle.alf_interp.proofs.turn.run_block.Goals as goal

pub run_statements-requires-clause-typed : goal.run_statements-requires-clause-typed
run_statements-requires-clause-typed c =
    let acts = c.block-row.result.now.stmts.items in
    subst (λ (as' : List Act). AllByRecursion IsTypedStatement (map act_of as')) (sym c.deref.ensures.value)
    (statements_typed (seen c.args.checked.now).frames c.args.instance.now.func (map act_of acts) c.block-row.ensures.keeps.statements)
