-- The laws of runs, over the rows' openings.
use Rattle.std.proofs.Common.{ℤ, subst}
use Rattle.std.specs.Prelude.{◌≤ℤ◌, ◌*ℤ◌}
use Rattle.ipet_rows.specs.Firsts.{entry}
use Rattle.ipet_rows.specs.Duals.{dual_sum}
use Rattle.simplex_rules.specs.Promise.{handed}
use Rattle.simplex_rules.proofs.RunLemmas.{rule_answers}
use Rattle.simplex_rules.proofs.OpeningValueLaws.{rule_most}
use Rattle.simplex_rules.specs.OpeningPlaces.{opening_places, ended}
use Rattle.simplex_rules.specs.OpeningPlaceLaws.{opens_lines}
use Rattle.simplex_rules.proofs.OpeningPlaceLemmas.{opening_worth}
use Rattle.simplex_rules.proofs.ReadOffLaws.{read_off_is}
use Rattle.simplex_rules.proofs.laws.rule_answers.Goals as goal

pub returns-clause-answers : goal.returns-clause-answers
returns-clause-answers c = λ p os n is o. rule_answers p (opening_places p.rows os) n is (opens_lines p os o)

pub returns-clause-point : goal.returns-clause-point
returns-clause-point c = λ p os n point is o least read. read_off_is p (ended p os n) point is (rule_answers p (opening_places p.rows os) n is (opens_lines p os o)) least read

pub returns-clause-most : goal.returns-clause-most
returns-clause-most c = λ p os n is o.
    subst (λ (z : ℤ). dual_sum p (handed p (ended p os n).tableau) ≤ℤ (z *ℤ entry (ended p os n).tableau.objective 1)) (opening_worth p os o) (rule_most p (opening_places p.rows os) n is (opens_lines p os o))
