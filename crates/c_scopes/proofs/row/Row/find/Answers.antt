-- The place that the table has leads to the newest entry.
use Rattle.std.proofs.Common.{◌≡◌, ◌≤◌, ◌<◌, length, get_or, arith, ap, sym, ◌∙◌, subst, ℕ, List}
use Rattle.c_rules.specs.Names.{named, text_at}
use Rattle.c_scopes.specs.declared.row.Held.{Held}
use Rattle.c_scopes.specs.Rows.{Row, latest}
use Rattle.c_scopes.proofs.RowLaws.{at_place, found_newest, none_at, some_at}
use Rattle.c_scopes.proofs.row.Row.find.Goals as goal

abbrev Leads : List Held → ℕ → Row → Type 0
Leads helds token row = at_place helds (latest row.words row.names (text_at row.words token)) ≡ named row.words token row.names

pub returns-in-None : goal.returns-in-None
returns-in-None c =
    let leads = subst (Leads c.self.inside.names.items c.args.token) c.self.view_is (found_newest c.self.inside.words c.args.token c.self.inside.names.items) in
    ap (at_place c.self.inside.names.items) (sym c.in-None.is ∙ c.place.ensures) ∙ leads

pub returns-in-None-get : goal.returns-in-None-get
returns-in-None-get c =
    let leads = subst (Leads c.self.inside.names.items c.args.token) c.self.view_is (found_newest c.self.inside.words c.args.token c.self.inside.names.items) in
    let here = ap (at_place c.self.inside.names.items) (sym c.in-Some.is ∙ c.place.ensures) ∙ leads in
    let value = c.deref.ensures.value in
    let lookup = c.in-None-get.ensures.lookup in
    let past : length c.self.inside.names.items ≤ c.in-Some.place = rw (sym value) (omega arith) in
    sym (none_at c.self.inside.names.items c.in-Some.place past) ∙ here

pub returns-in-Some-get : goal.returns-in-Some-get
returns-in-Some-get c =
    let leads = subst (Leads c.self.inside.names.items c.args.token) c.self.view_is (found_newest c.self.inside.words c.args.token c.self.inside.names.items) in
    let here = ap (at_place c.self.inside.names.items) (sym c.in-Some.is ∙ c.place.ensures) ∙ leads in
    let value = c.deref.ensures.value in
    let lookup = c.in-Some-get.ensures.lookup in
    let low : c.in-Some.place < length c.self.inside.names.items = rw (sym value) (omega arith) in
    let is : c.in-Some-get.held.now ≡ get_or c.self.inside.names.items c.in-Some.place c.in-Some-get.held.now = rw (sym value) cc in
    sym (some_at c.self.inside.names.items c.in-Some.place c.in-Some-get.held.now low is) ∙ here
