-- The newest entry stands in the innermost scope.
use Rattle.std.proofs.Common.{◌≡◌, ◌-◌, ℕ, Option, false, Some, length, ap, sym, ◌∙◌, subst}
use Rattle.std.specs.List.{slice_get}
use Rattle.std.specs.Option.{option_copied}
use Rattle.c_rules.specs.Names.{is_declared, innermost}
use Rattle.c_scopes.specs.Views.{Known}
use Rattle.c_scopes.proofs.CutLaws.{reaches, last_start}
use Rattle.c_scopes.proofs.scopes.Scopes.is_declared.Goals as goal

pub returns-in-None-place : goal.returns-in-None-place
returns-in-None-place c =
    let row = c.self.inside.row in
    let starts = c.self.inside.starts.items in
    let last : slice_get starts (length starts - 1) ≡ Some c.in-Some.start.now = rw (sym c.deref.ensures.value) (sym c.last.ensures.value ∙ ap (λ r. option_copied r) c.in-Some.is) in
    let here = last_start row.words c.args.token row.names starts c.in-Some.start.now last c.self.invariant in
    let place = ap (λ (place : Option ℕ). reaches c.in-Some.start.now place) (sym c.in-None-place.is ∙ c.place.ensures) in
    subst (λ (known : Known). false ≡ is_declared known.words (innermost known.scopes) c.args.token) c.self.view_is (place ∙ sym here)

pub returns-in-Some-place : goal.returns-in-Some-place
returns-in-Some-place c =
    let row = c.self.inside.row in
    let starts = c.self.inside.starts.items in
    let last : slice_get starts (length starts - 1) ≡ Some c.in-Some.start.now = rw (sym c.deref.ensures.value) (sym c.last.ensures.value ∙ ap (λ r. option_copied r) c.in-Some.is) in
    let here = last_start row.words c.args.token row.names starts c.in-Some.start.now last c.self.invariant in
    let place = ap (λ (place : Option ℕ). reaches c.in-Some.start.now place) (sym c.in-Some-place.is ∙ c.place.ensures) in
    subst (λ (known : Known). reaches c.in-Some.start.now (Some c.in-Some-place.place) ≡ is_declared known.words (innermost known.scopes) c.args.token) c.self.view_is (place ∙ sym here)
