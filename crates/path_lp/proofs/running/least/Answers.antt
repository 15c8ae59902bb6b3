-- The fractions are read off the tableau.
use Rattle.std.proofs.Common.{rules, ◌≡◌, length}
use Rattle.path_lp.specs.Fractions.{fractions}
use Rattle.path_lp.proofs.FractionLaws.{read_off}
use Rattle.path_lp.proofs.running.least.Goals as goal

pub returns : goal.returns
returns c =
    let made : c.in_ok-fractions.fractions.items ≡ fractions c.args.tableau.now.tableau.rows (length c.args.rows.now.program.costs) 2 = search (rules) in
    record {
      duals = c.requires.handed;
      end = read_off c.args.rows.now.program c.args.tableau.now c.in_ok-fractions.fractions.items c.requires.stands c.requires.none made;
    }
