-- The last byte is looked at, and those before it.
use Rattle.std.proofs.Common.{Bool, ap, sym, ◌∙◌}
use Rattle.std.specs.Prelude.{◌&&◌, not, ◌==◌}
use Rattle.command_plans.proofs.LineLemmas.{with_last}
use Rattle.command_plans.proofs.line.is_line.Goals as goal

pub returns-then-not-contains : goal.returns-then-not-contains
returns-then-not-contains c =
    sym (with_last c.args.text.now c.in-Some.line.now c.in-Some.last.now c.contains.result c.in-Some.ensures.cases.0 c.contains.ensures.value
    ∙ ap (λ (a : Bool). not a && (c.in-Some.last.now == 10)) c.if-not-contains.true)

pub returns-else-not-contains : goal.returns-else-not-contains
returns-else-not-contains c =
    ap not c.if-not-contains.false
    ∙ sym (with_last c.args.text.now c.in-Some.line.now c.in-Some.last.now c.contains.result c.in-Some.ensures.cases.0 c.contains.ensures.value
    ∙ ap (λ (a : Bool). not a && (c.in-Some.last.now == 10)) c.if-not-contains.false)
