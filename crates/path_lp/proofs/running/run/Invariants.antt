-- The tableau stands, its multipliers are at hand, and the run from here is the run from the start.
use Rattle.std.proofs.Common.{◌≡◌, ◌-◌}
use Rattle.simplex_rules.specs.PivotRule.{run}
use Rattle.path_lp.specs.Handing.{IsHanded}
use Rattle.path_lp.specs.Stepping.{Stands}
use Rattle.path_lp.proofs.running.run.Given as goal

abbrev pub invariant-loop-made : goal.invariant-loop-made
invariant-loop-made l = record {
  stands : Stands l.rows.program l.tableau;
  handed : IsHanded l.rows.program l.tableau.tableau l.duals.scale l.duals.multipliers.items;
  run : run l.rows.program (l.pivots - l.made) l.made l.tableau.tableau ≡ run l.rows.program l.pivots 0 l.fn.start.tableau;
}
