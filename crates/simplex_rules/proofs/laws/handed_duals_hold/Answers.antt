-- What a run hands out is a dual point that is not wide.
use Rattle.ipet_rows.specs.Firsts.{entry}
use Rattle.simplex_rules.specs.Promise.{handed}
use Rattle.simplex_rules.proofs.RunLemmas.{rule_answers}
use Rattle.simplex_rules.specs.OpeningPlaces.{opening_places, started, ended}
use Rattle.simplex_rules.specs.OpeningPlaceLaws.{opens_lines}
use Rattle.simplex_rules.proofs.HandedLaws.{run_narrow, dual_holds}
use Rattle.simplex_rules.proofs.laws.handed_duals_hold.Goals as goal

pub returns : goal.returns
returns c = λ p os n bound is o narrow low.
    dual_holds p (entry (ended p os n).tableau.objective 1) (handed p (ended p os n).tableau) bound (rule_answers p (opening_places p.rows os) n is (opens_lines p os o)).dual (run_narrow p n 0 (started p os) narrow) low
