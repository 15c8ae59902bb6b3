-- One name more.
use Rattle.std.proofs.Common.{◌≡◌, List, ℕ, Some, ap, ◌∙◌, length, if◌then◌else◌}
use Rattle.std.specs.Str.{bytes_eq}
use Rattle.std.proofs.lemmas.Map.Text.{hash_map_updates_str}
use Rattle.c_rules.specs.Names.{text_at}
use Rattle.c_scopes.specs.declared.row.Held.{Held}
use Rattle.c_scopes.specs.Rows.{found}
use Rattle.c_scopes.proofs.RowLaws.{more_row}
use Rattle.c_scopes.proofs.row.Row.push.Goals as goal

pub invariant_of-self-2 : goal.invariant_of-self-2
invariant_of-self-2 c =
    let place = length c.as_slice-place.result.now in
    let words = c.self.inside.words in
    let helds = c.self.inside.names.items in
    let table = c.self.inside.table in
    let text = c.text_at-name.ensures in
    let hidden = c.in_ok-hidden.ensures.old ∙ ap (λ (name : List ℕ). found table name) text in
    let after = hash_map_updates_str c.text_at-name.result.now table c.insert.new.self (Some place) c.in_ok-hidden.ensures.updates in
    let count : place ≡ length helds = ap (λ (hs : List Held). length hs) (c.as_slice-place.ensures.value ∙ c.in_ok-reserve.ensures.items) in
    let entered = λ (name : List ℕ). after name ∙ ap (λ (bs : List ℕ). if bytes_eq bs name then Some place else found table name) text
    ∙ ap (λ (n : ℕ). if bytes_eq (text_at words c.args.token) name then Some n else found table name) count in
    rw (c.push_reserved.ensures.items, c.in_ok-reserve.ensures.items)
    (more_row words helds (record { entry = record { token = c.args.token; bound = c.args.bound }; hidden = c.in_ok-hidden.hidden }) table c.insert.new.self c.self.invariant hidden entered)
