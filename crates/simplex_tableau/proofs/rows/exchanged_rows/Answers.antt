-- All is freed but the row in which the line then stands.
use Rattle.std.proofs.Common.{rules, length}
use Rattle.simplex_tableau.specs.Stepped.{IsDone}
use Rattle.simplex_tableau.proofs.FreedRows.{stands_in_all}
use Rattle.simplex_tableau.proofs.rows.exchanged_rows.Goals as goal

pub returns : goal.returns
returns c =
    let done : IsDone c.args.place c.args.by c.args.row (length c.as_mut_slice.result.now) c.as_mut_slice.result.now c.free_others.new.rows = search (rules) in
    stands_in_all c.args.place c.args.by c.args.row c.args.rows.items c.as_mut_slice.result.now c.free_others.new.rows c.args.rows.len c.of.result
    c.as_mut_slice.ensures.value (search (rules)) c.requires.row c.of.ensures done
