-- A row whose basic place is the place has the fraction; one with another is passed over.
use Rattle.std.proofs.Common.{rules, to_z, of_z, ◌≡◌, refl, ◌∙◌, ◌<◌, length, arith}
use Rattle.std.specs.Int.{w128}
use Rattle.std.proofs.lemmas.Int.{to_z-of_z}
use Rattle.simplex_rules.specs.Tableaus.{number_at, basic_at}
use Rattle.path_lp.proofs.FractionLaws.{fraction_here, fraction_more}
use Rattle.path_lp.proofs.reading.fraction.Goals as goal

pub returns-then-place-basic : goal.returns-then-place-basic
returns-then-place-basic c =
    let hs = c.args.tableau.now.tableau.rows in
    let one : to_z w128 (of_z w128 c.number.result) ≡ c.number.result = grind (arith, to_z-of_z) in
    let two : to_z w128 (of_z w128 c.number-then-place-basic.result) ≡ c.number-then-place-basic.result = grind (arith, to_z-of_z) in
    let below : c.loop-row.row < length c.args.tableau.now.tableau.rows = search (rules) in
    let same : c.args.place ≡ basic_at c.args.tableau.now.tableau c.loop-row.row = search (rules) in
    let right : c.number.result ≡ number_at c.args.tableau.now.tableau c.loop-row.row 0 = c.number.ensures ∙ c.number_at.ensures in
    let own : c.number-then-place-basic.result ≡ number_at c.args.tableau.now.tableau c.loop-row.row c.args.place = c.number-then-place-basic.ensures ∙ c.number_at-then-place-basic.ensures in
    rw (one, two) (fraction_here hs c.loop-row.row c.args.place (c.number.result, c.number-then-place-basic.result) below same (rw (right, own) refl) c.loop-row.invariant)

pub loop-row-preserved : goal.loop-row-preserved
loop-row-preserved c =
    let below : c.loop-row.row < length c.args.tableau.now.tableau.rows = search (rules) in
    let other : c.args.place ≡ basic_at c.args.tableau.now.tableau c.loop-row.row → ⊥ = search (rules) in
    fraction_more c.args.tableau.now.tableau.rows c.loop-row.row c.args.place below other c.loop-row.invariant
