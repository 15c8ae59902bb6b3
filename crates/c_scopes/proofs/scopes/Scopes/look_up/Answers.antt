-- The newest entry of all is that of the innermost scope that has one.
use Rattle.std.proofs.Common.{◌≡◌, reverse, ◌∙◌, subst}
use Rattle.std.specs.Option.{option_map}
use Rattle.c_rules.specs.Names.{look_up}
use Rattle.c_scopes.specs.Views.{Known, entry_of}
use Rattle.c_scopes.proofs.CutLaws.{looked_up}
use Rattle.c_scopes.proofs.scopes.Scopes.look_up.Goals as goal

pub returns : goal.returns
returns c =
    let row = c.self.inside.row in
    let found = c.find.ensures ∙ looked_up row.words c.args.token row.names (reverse c.self.inside.starts.items) c.self.invariant in
    subst (λ (known : Known). option_map (λ e. entry_of e.now) c.find.result ≡ look_up known.words known.scopes c.args.token) c.self.view_is found
