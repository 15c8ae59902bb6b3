use Rattle.std.proofs.Common.{◌≡◌, Some, sym, pos, rules, arith, w64, to_z, of_z, FitsSigned}
use Rattle.std.proofs.lemmas.Int.{ints}
use mir.Syntax.{w128}
use Rattle.alf_check.specs.CheckedPrograms.{seen}
use Rattle.cost_table.specs.Inputs.{input_frame}
use Rattle.cost_table.proofs.Lying.{first_is, found_there, lies_there, lies_small, lies_fits}
use Rattle.cost_table.proofs.input_rows.first_cell.Goals as goal

pub frame_row-row-requires : goal.frame_row-row-requires
frame_row-row-requires c =
    let named : input_frame (seen c.args.checked.now) c.args.name.now ≡ Some c.in_ok-frame.frame = sym (rw c.in_ok-frame.was at c.input_frame.ensures) in
    found_there (seen c.args.checked.now) c.args.name.now c.in_ok-frame.frame named

pub returns-in_default-clause-none : goal.returns-in_default-clause-none
returns-in_default-clause-none c = λ f lies.
    let fits = lies_fits (seen c.args.checked.now) c.args.name.now c.args.cells.now c.args.run c.requires c.keeps.ensures.frames f lies in
    let signed : FitsSigned w64 c.args.cells.now.offset = search rules in
    let large = c.in_default.ensures.none (omega (arith, ints, fits)) in
    omega (arith, ints, fits, large)

pub returns-then-not-lie_within-clause-none : goal.returns-then-not-lie_within-clause-none
returns-then-not-lie_within-clause-none c = λ f lies.
    let named : input_frame (seen c.args.checked.now) c.args.name.now ≡ Some c.in_ok-frame.frame = sym (rw c.in_ok-frame.was at c.input_frame.ensures) in
    let signed : FitsSigned w64 c.args.cells.now.offset = search rules in
    let offset : c.args.cells.now.offset ≡ pos c.in-Some.offset = omega (arith, ints, c.in-Some.ensures.some.0) in
    let small = lies_small (seen c.args.checked.now) c.args.name.now c.args.cells.now c.args.run c.requires c.in_ok-frame.frame c.frame_row-row.result.now c.in-Some.offset f named c.frame_row-row.ensures offset lies in
    omega (arith, small, c.if-not-lie_within.ensures.beyond)

pub returns-clause-lies : goal.returns-clause-lies
returns-clause-lies c =
    let named : input_frame (seen c.args.checked.now) c.args.name.now ≡ Some c.in_ok-frame.frame = sym (rw c.in_ok-frame.was at c.input_frame.ensures) in
    let signed : FitsSigned w64 c.args.cells.now.offset = search rules in
    let low : FitsSigned w64 c.args.cells.now.low = search rules in
    let high : FitsSigned w64 c.args.cells.now.high = search rules in
    let offset : c.args.cells.now.offset ≡ pos c.in-Some.offset = omega (arith, ints, c.in-Some.ensures.some.0) in (
      lies_there (seen c.args.checked.now) c.args.name.now c.args.cells.now c.args.run c.requires c.in_ok-frame.frame c.frame_row-row.result.now c.in-Some.offset named c.frame_row-row.ensures offset c.if-not-lie_within.ensures.within,
      first_is (seen c.args.checked.now) c.args.name.now c.args.cells.now c.args.run c.requires c.in_ok-frame.frame c.in-Some.offset (to_z w128 (of_z w128 c.from.result)) (to_z w128 (of_z w128 c.from-2.result)) offset (omega (arith, ints, c.from.ensures)) (omega (arith, ints, c.from-2.ensures)),
    )
