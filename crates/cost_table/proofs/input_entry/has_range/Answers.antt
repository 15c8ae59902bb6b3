use Rattle.std.proofs.Common.{rules, arith, w64, FitsSigned}
use Rattle.std.proofs.lemmas.Int.{ints}
use Rattle.cost_table.proofs.input_entry.has_range.Goals as goal

pub returns : goal.returns
returns c =
    let low : FitsSigned w64 c.args.cells.now.low = search rules in
    let high : FitsSigned w64 c.args.cells.now.high = search rules in (
      λ t. record {
        ordered = grind (arith, ints);
        least = grind (arith, ints);
        most = grind (arith, ints);
        narrow = grind (arith, ints);
      },
      λ r. grind (arith, ints, r.narrow),
    )
