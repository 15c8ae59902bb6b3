-- One name less.
use Rattle.std.proofs.Common.{◌≡◌, ◌-◌, ℕ, List, Some, length, take, ap, sym, ◌∙◌, subst, if◌then◌else◌}
use Rattle.std.specs.List.{slice_get}
use Rattle.std.specs.Option.{option_copied}
use Rattle.std.specs.Str.{bytes_eq}
use Rattle.c_scopes.specs.declared.row.Held.{Held}
use Rattle.c_scopes.specs.Rows.{IsRow, found}
use Rattle.c_scopes.proofs.Ends.{with_last}
use Rattle.c_scopes.proofs.RowLaws.{less_row}
use Rattle.c_scopes.proofs.row.Row.pop.Goals as goal

pub invariant_of-self-2 : goal.invariant_of-self-2
invariant_of-self-2 c =
    let words = c.self.inside.words in
    let table = c.self.inside.table in
    let helds = c.self.inside.names.items in
    let held = c.in-Some.held.now in
    let last : slice_get helds (length helds - 1) ≡ Some held = rw (sym c.deref.ensures.value) (sym c.last.ensures.value ∙ ap (λ r. option_copied r) c.in-Some.is) in
    let whole = with_last helds held last in
    let row = subst (λ (hs : List Held). IsRow words hs table) whole c.self.invariant in
    let text = c.text_at-name.ensures in
    let taken = λ (name : List ℕ). c.in_ok-put_back.ensures.put name ∙ ap (λ (bs : List ℕ). if bytes_eq bs name then held.hidden else found table name) text in
    let count = sym c.deref.ensures.len ∙ ap (λ (hs : List Held). length hs) c.deref.ensures.value in
    rw (c.pop.ensures.rest, count) (less_row words (take (length helds - 1) helds) held table c.put_back.new.table row taken)
