-- An assignment with an operator, where its operands have types.
use Rattle.std.proofs.Common.{sym, ◌∙◌}
use Rattle.c_unit.specs.Tree.{expression_of}
use Rattle.c_faults.proofs.Updates.{update_told}
use Rattle.c_faults.proofs.effects.check_effect.Goals as goal

pub returns-in_ok-other-in-Update : goal.returns-in_ok-other-in-Update
returns-in_ok-other-in-Update c =
    let words = c.args.scopes.now.words in
    let scopes = c.args.scopes.now.scopes in
    let to = c.in-Update.to in
    let told = update_told words c.args.functions.now.names scopes (expression_of to) c.in-Update.op c.in-Update.field-2 (expression_of c.in-Update.operand)
    c.in_ok-wanted-in-Update.wanted c.in_ok-other-in-Update.other (sym c.in_ok-wanted-in-Update.ensures.told) c.in_ok-wanted-in-Update.ensures.typed
    (sym c.in_ok-other-in-Update.ensures.told) c.in_ok-other-in-Update.ensures.typed in
    record { told = rw c.in-Update.is (c.check_update.ensures.told ∙ told) }
