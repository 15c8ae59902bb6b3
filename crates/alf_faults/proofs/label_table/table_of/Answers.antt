use Rattle.std.proofs.Common.{◌≡◌, ◌-◌, ◌<◌, ◌∙◌, suc, ap, sym, arith, length, map, Option, ℕ, cond, Some}
use Rattle.alf_program.specs.Tree.{item_of}
use Rattle.alf_faults.specs.Places.{is_label_named}
use Rattle.alf_faults.proofs.Standing.{placed_at}
use Rattle.std.proofs.lemmas.List.{get_or-map, length-map}
use Rattle.alf_faults.proofs.label_table.table_of.Goals as goal

pub loop-place-preserved : goal.loop-place-preserved
loop-place-preserved c = λ name.
    let here : suc (c.loop-place.place - 1) ≡ c.loop-place.place = omega arith in
    let low : c.loop-place.place - 1 < length c.args.items.now = omega arith in
    let item = item_of c.index-items-place.result in
    let low_map : c.loop-place.place - 1 < length (map item_of c.args.items.now) = simp length-map low in
    let is = ap item_of c.index-items-place.is ∙ sym (get_or-map item_of c.args.items.now (c.loop-place.place - 1) c.index-items-place.result item low) in
    let placed = placed_at (is_label_named name) (map item_of c.args.items.now) (c.loop-place.place - 1) item low_map is in
    let more = rw here at placed in
    c.in_ok-note.ensures name ∙ ap (λ (x : Option ℕ). cond (is_label_named name item) (Some (c.loop-place.place - 1)) x) (c.loop-place.invariant name) ∙ sym more
