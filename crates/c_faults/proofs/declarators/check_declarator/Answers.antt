-- The function is known once the scope of its parameters is left.
use Rattle.std.proofs.Common.{List, ap, ◌∙◌}
use Rattle.c_unit.specs.declared.external.Parameter.{Parameter}
use Rattle.c_rules.specs.Units.{function_of}
use Rattle.c_scopes.specs.Views.{declared_in, left}
use Rattle.c_faults.proofs.FileLemmas.{head_left}
use Rattle.c_faults.proofs.declarators.check_declarator.Goals as goal

pub returns-in_ok-leave-in-Function-clause-known : goal.returns-in_ok-leave-in-Function-clause-known
returns-in_ok-leave-in-Function-clause-known c =
    let name = c.args.declarator.now.name in
    rw c.in-Function.is
    (c.in_ok-leave-in-Function.ensures ∙ ap left c.in_ok-check_head-in-Function.ensures.known ∙ head_left c.args.given name c.deref.result.now c.args.scopes.now
    ∙ ap (λ (params : List Parameter). declared_in (record { token = name; bound = function_of c.args.given params }) c.args.scopes.now) c.deref.ensures.value)
