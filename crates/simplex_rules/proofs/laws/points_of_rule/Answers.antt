-- The laws of tableaus that the rule comes to.
use Rattle.std.proofs.Common.{ℕ, Option, None, subst, arith}
use Rattle.simplex_rules.specs.Tableaus.{held_at, slacks_from}
use Rattle.simplex_rules.specs.PivotRule.{variables_of}
use Rattle.simplex_rules.specs.Choices.{EnteringIs}
use Rattle.simplex_rules.specs.ChoiceLaws.{entering_is}
use Rattle.simplex_rules.specs.HandedOutLaws.{width_above}
use Rattle.simplex_rules.proofs.OpeningLemmas.{opening_right}
use Rattle.simplex_rules.specs.OpeningPlaces.{opening_places}
use Rattle.simplex_rules.specs.OpeningPlaceLaws.{opens_lines}
use Rattle.simplex_rules.proofs.RunLemmas.{least_greatest, some_enters}
use Rattle.simplex_rules.proofs.laws.points_of_rule.Goals as goal

pub returns-clause-right : goal.returns-clause-right
returns-clause-right c = λ p os is o.
    let r = opening_right p (opening_places p.rows os) is (opens_lines p os o) in
    record { sound = r.0; rising = r.1 }

pub returns-clause-greatest : goal.returns-clause-greatest
returns-clause-greatest c = least_greatest

pub returns-clause-enters : goal.returns-clause-enters
returns-clause-enters c = λ p t r x w is right below negative whole meets none.
    let d = (held_at t.rows r).line in
    let all : EnteringIs d t.objective (variables_of p) None = subst (λ (o : Option ℕ). EnteringIs d t.objective (variables_of p) o) none (entering_is d t.objective (variables_of p)) in
    let wide = width_above p.rows (slacks_from p) in
    some_enters p t r x w is right below negative (record { is = λ j least most. all j least (omega (arith, wide, most)) }) whole meets
