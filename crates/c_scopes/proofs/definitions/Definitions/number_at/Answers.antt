-- The text at a token is a name.
use Rattle.std.proofs.Common.{ℕ, List, ap, ◌∙◌}
use Rattle.c_rules.specs.Names.{text_at}
use Rattle.c_scopes.specs.Numbers.{Made, number_named}
use Rattle.c_scopes.proofs.Counting.{named_at}
use Rattle.c_scopes.proofs.definitions.Definitions.number_at.Goals as goal

pub returns : goal.returns
returns c =
    let all = c.args.self.now in
    let text = c.text_at.ensures ∙ ap (λ (made : Made). text_at made.words c.args.token) c.self.view_is in
    c.number_named.ensures ∙ ap (λ (name : List ℕ). number_named all.words all.names name) text ∙ named_at all.words all.names c.args.token
