use Rattle.std.proofs.Common.{refl, sym, subst, arith}
use Rattle.alf_check.specs.CheckedPrograms.{seen}
use Rattle.cost_table.specs.Inputs.{AreApart}
use Rattle.cost_table.proofs.Placed.{Placed, frame_small, room_of, rows_are, free_apart, met_shares, marks_more, keep_more}
use Rattle.cost_table.proofs.input_rows.add_entry.Goals as goal

pub returns-in_default-first_cell-clause-wrong : goal.returns-in_default-first_cell-clause-wrong
returns-in_default-first_cell-clause-wrong c = λ _. (
  refl,
  record {
    entry = (c.in-Some.name.now, c.in-Some.cells);
    has_keys = sym c.in-Some.ensures;
    in_range = record { run = c.in-Some-run_of.run'; is_run = c.in-Some-run_of.ensures.some };
    lacks = λ has. c.in_default-first_cell.ensures.none has.frame has.lies;
  },
)

pub take-requires-clause-frame : goal.take-requires-clause-frame
take-requires-clause-frame c =
    let placed : Placed (seen c.args.checked.now) (c.in-Some.name.now, c.in-Some.cells) c.in-Some-run_of.run' c.in-Some-first_cell.first = record { kept = c.keeps.ensures; is_run = c.in-Some-run_of.ensures.some; lies = c.in-Some-first_cell.ensures.lies.0; first_is = c.in-Some-first_cell.ensures.lies.1 } in
    let small = frame_small (seen c.args.checked.now) (c.in-Some.name.now, c.in-Some.cells) c.in-Some-run_of.run' c.in-Some-first_cell.first placed in
    omega (arith, small)

pub take-requires-clause-cells : goal.take-requires-clause-cells
take-requires-clause-cells c =
    let placed : Placed (seen c.args.checked.now) (c.in-Some.name.now, c.in-Some.cells) c.in-Some-run_of.run' c.in-Some-first_cell.first = record { kept = c.keeps.ensures; is_run = c.in-Some-run_of.ensures.some; lies = c.in-Some-first_cell.ensures.lies.0; first_is = c.in-Some-first_cell.ensures.lies.1 } in
    let small = frame_small (seen c.args.checked.now) (c.in-Some.name.now, c.in-Some.cells) c.in-Some-run_of.run' c.in-Some-first_cell.first placed in
    let room = room_of (seen c.args.checked.now) (c.in-Some.name.now, c.in-Some.cells) c.in-Some-run_of.run' c.in-Some-first_cell.first placed in
    omega (arith, small, room)

pub take-requires-clause-within : goal.take-requires-clause-within
take-requires-clause-within c =
    let placed : Placed (seen c.args.checked.now) (c.in-Some.name.now, c.in-Some.cells) c.in-Some-run_of.run' c.in-Some-first_cell.first = record { kept = c.keeps.ensures; is_run = c.in-Some-run_of.ensures.some; lies = c.in-Some-first_cell.ensures.lies.0; first_is = c.in-Some-first_cell.ensures.lies.1 } in
    let small = frame_small (seen c.args.checked.now) (c.in-Some.name.now, c.in-Some.cells) c.in-Some-run_of.run' c.in-Some-first_cell.first placed in
    let room = room_of (seen c.args.checked.now) (c.in-Some.name.now, c.in-Some.cells) c.in-Some-run_of.run' c.in-Some-first_cell.first placed in
    omega (arith, small, room, c.requires.long)

pub add_rows-requires : goal.add_rows-requires
add_rows-requires c =
    let placed : Placed (seen c.args.checked.now) (c.in-Some.name.now, c.in-Some.cells) c.in-Some-run_of.run' c.in-Some-first_cell.first = record { kept = c.keeps.ensures; is_run = c.in-Some-run_of.ensures.some; lies = c.in-Some-first_cell.ensures.lies.0; first_is = c.in-Some-first_cell.ensures.lies.1 } in
    let small = frame_small (seen c.args.checked.now) (c.in-Some.name.now, c.in-Some.cells) c.in-Some-run_of.run' c.in-Some-first_cell.first placed in
    let room = room_of (seen c.args.checked.now) (c.in-Some.name.now, c.in-Some.cells) c.in-Some-run_of.run' c.in-Some-first_cell.first placed in
    omega (arith, small, room)

pub returns-then-not-take-clause-wrong : goal.returns-then-not-take-clause-wrong
returns-then-not-take-clause-wrong c =
    let placed : Placed (seen c.args.checked.now) (c.in-Some.name.now, c.in-Some.cells) c.in-Some-run_of.run' c.in-Some-first_cell.first = record { kept = c.keeps.ensures; is_run = c.in-Some-run_of.ensures.some; lies = c.in-Some-first_cell.ensures.lies.0; first_is = c.in-Some-first_cell.ensures.lies.1 } in
    let rows = rows_are (seen c.args.checked.now) (c.in-Some.name.now, c.in-Some.cells) c.in-Some-run_of.run' c.in-Some-first_cell.first placed in
    λ _. (
      refl,
      record {
        entry = (c.in-Some.name.now, c.in-Some.cells);
        has_keys = sym c.in-Some.ensures;
        in_range = record { run = c.in-Some-run_of.run'; is_run = c.in-Some-run_of.ensures.some };
        lacks = λ has. met_shares (seen c.args.checked.now) (c.in-Some.name.now, c.in-Some.cells) c.in-Some-run_of.run' c.in-Some-first_cell.first placed c.args.rows.now.items c.args.marks.now c.requires.kept.each c.requires.marked c.if-not-take.ensures.met (subst (AreApart c.args.rows.now.items) rows has.apart);
      },
    )

pub returns-clause-right : goal.returns-clause-right
returns-clause-right c =
    let placed : Placed (seen c.args.checked.now) (c.in-Some.name.now, c.in-Some.cells) c.in-Some-run_of.run' c.in-Some-first_cell.first = record { kept = c.keeps.ensures; is_run = c.in-Some-run_of.ensures.some; lies = c.in-Some-first_cell.ensures.lies.0; first_is = c.in-Some-first_cell.ensures.lies.1 } in
    let rows = rows_are (seen c.args.checked.now) (c.in-Some.name.now, c.in-Some.cells) c.in-Some-run_of.run' c.in-Some-first_cell.first placed in
    record {
      entry = (c.in-Some.name.now, c.in-Some.cells);
      has_keys = sym c.in-Some.ensures;
      in_range = record { run = c.in-Some-run_of.run'; is_run = c.in-Some-run_of.ensures.some };
      there = record {
        frame = c.in-Some-first_cell.first.frame;
        lies = c.in-Some-first_cell.ensures.lies.0;
        apart = subst (AreApart c.args.rows.now.items) (sym rows) (free_apart (seen c.args.checked.now) (c.in-Some.name.now, c.in-Some.cells) c.in-Some-run_of.run' c.in-Some-first_cell.first placed c.args.rows.now.items c.args.marks.now c.requires.kept.each c.requires.marked c.if-not-take.ensures.taken.1);
      };
    }

pub returns-clause-keep : goal.returns-clause-keep
returns-clause-keep c =
    let placed : Placed (seen c.args.checked.now) (c.in-Some.name.now, c.in-Some.cells) c.in-Some-run_of.run' c.in-Some-first_cell.first = record { kept = c.keeps.ensures; is_run = c.in-Some-run_of.ensures.some; lies = c.in-Some-first_cell.ensures.lies.0; first_is = c.in-Some-first_cell.ensures.lies.1 } in
    rw c.in-Ok.ensures (keep_more (seen c.args.checked.now) (c.in-Some.name.now, c.in-Some.cells) c.in-Some-run_of.run' c.in-Some-first_cell.first placed c.args.rows.now.items c.requires.kept (free_apart (seen c.args.checked.now) (c.in-Some.name.now, c.in-Some.cells) c.in-Some-run_of.run' c.in-Some-first_cell.first placed c.args.rows.now.items c.args.marks.now c.requires.kept.each c.requires.marked c.if-not-take.ensures.taken.1))

pub returns-clause-marked : goal.returns-clause-marked
returns-clause-marked c =
    let placed : Placed (seen c.args.checked.now) (c.in-Some.name.now, c.in-Some.cells) c.in-Some-run_of.run' c.in-Some-first_cell.first = record { kept = c.keeps.ensures; is_run = c.in-Some-run_of.ensures.some; lies = c.in-Some-first_cell.ensures.lies.0; first_is = c.in-Some-first_cell.ensures.lies.1 } in
    rw c.in-Ok.ensures (marks_more (seen c.args.checked.now) (c.in-Some.name.now, c.in-Some.cells) c.in-Some-run_of.run' c.in-Some-first_cell.first placed c.args.rows.now.items c.args.marks.now c.take.new.marks c.requires.marked c.if-not-take.ensures.taken.0)
