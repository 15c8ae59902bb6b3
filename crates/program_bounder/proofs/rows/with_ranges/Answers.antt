use Rattle.std.proofs.Common.{◌≡◌, ◌<◌, ◌+◌, List, [], ◌∷◌, ◌++◌, length, drop, ap, ◌∙◌, arith}
use Rattle.alf_check.specs.declared.rows.InputRow.{InputRow}
use Rattle.program_bounder.specs.InputRows.{with_ranges}
use Rattle.program_bounder.proofs.Made.{made_more, made_all}
use Rattle.program_bounder.proofs.rows.with_ranges.Goals as goal

pub loop-place-preserved : goal.loop-place-preserved
loop-place-preserved c =
    let rows = c.args.rows.now in
    let area = c.args.area.now in
    let place = c.loop-place.place in
    let made = c.loop-place.made.items in
    let same : length area ≡ length rows = c.requires in
    let low : place < length rows = c.loop-place-test.true in
    let within : place < length area = omega (arith, same, low) in
    ap (λ (rs : List InputRow). rs ++ with_ranges (drop (place + 1) rows) (drop (place + 1) area))
    (c.in_ok-push.ensures.items ∙ ap (λ (row : InputRow). made ++ row ∷ []) c.with_range.ensures)
    ∙ made_more rows area place made c.loop-place.invariant _ _ low within

pub returns : goal.returns
returns c = made_all c.args.rows.now c.args.area.now c.loop-place.place c.loop-place.made.items c.loop-place.invariant c.loop-place-test.false
