use Rattle.std.proofs.Common.{◌<◌, length, rules}
use Rattle.step_statements.proofs.TypedLaws.{later_typed}
use Rattle.step_statements.proofs.evaluating.+evaluate_arguments.Goals as goal

pub evaluate_arguments-requires : goal.evaluate_arguments-requires
evaluate_arguments-requires t c =
    let typed = (later_typed c.in-Some.term.now c.in-Some.others.now c.args.terms.now c.in-Some.ensures.cases.0 c.requires.typed).1 in
    let less : length c.in-Some.others.now < t = search rules in
    (less, (typed, c.requires.kept))
