-- One name more in the innermost scope.
use Rattle.std.proofs.Common.{◌≡◌, refl, reverse, subst}
use Rattle.c_rules.specs.Names.{Entry}
use Rattle.c_scopes.specs.Views.{Known, declared_in, bound_of}
use Rattle.c_scopes.specs.Cuts.{scopes_from}
use Rattle.c_scopes.proofs.CutLaws.{begun_more}
use Rattle.c_scopes.proofs.scopes.Scopes.declare.Goals as goal

pub returns : goal.returns
returns c =
    let row = c.self.inside.row in
    let starts = c.self.inside.starts.items in
    let e : Entry = record { token = c.args.token; bound = bound_of c.args.bound } in
    let more = begun_more e row.names (reverse starts) c.self.invariant in
    subst (λ (known : Known). record { words = c.push.new.self.words; scopes = scopes_from c.push.new.self.names (reverse c.begin.new.starts.items) } ≡ declared_in e known) c.self.view_is
    (rw (c.in_ok-push.ensures.done, c.in_ok-begin.ensures.begun, more) refl)
