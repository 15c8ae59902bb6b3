-- The row and the place are those of the opening, and the tableau is ready for the pivot.
use Rattle.std.proofs.Common.{rules, ◌≡◌, ◌∙◌, ◌+◌, ◌<◌, sym, suc, Some, true, length, arith}
use Rattle.std.proofs.lemmas.Bool.{false≢true}
use Rattle.simplex_rules.specs.Tableaus.{held_at}
use Rattle.simplex_tableau.specs.Stepped.{exchange_wide, IsOpened}
use Rattle.simplex_tableau.proofs.OpeningSteps.{ready_at, never_wide, opened_more}
use Rattle.simplex_tableau.proofs.opening.open_next.Goals as goal

pub opened-requires-clause-row : goal.opened-requires-clause-row
opened-requires-clause-row c =
    let place : c.opening-row.result.1 + 2 ≡ suc (suc c.opening-row.result.1) = omega arith in
    (ready_at c.args.rows.now.program c.args.rows.now.openings c.args.i c.line_of-line.result (c.opening-row.result.1 + 2) c.opening-row.result c.args.tableau
    c.kept.ensures.within c.requires.opens c.requires.i c.opening-row.ensures c.line_of-line.ensures place c.requires.so).below

pub opened-requires-clause-place : goal.opened-requires-clause-place
opened-requires-clause-place c =
    let place : c.opening-row.result.1 + 2 ≡ suc (suc c.opening-row.result.1) = omega arith in
    (ready_at c.args.rows.now.program c.args.rows.now.openings c.args.i c.line_of-line.result (c.opening-row.result.1 + 2) c.opening-row.result c.args.tableau
    c.kept.ensures.within c.requires.opens c.requires.i c.opening-row.ensures c.line_of-line.ensures place c.requires.so).above

pub opened-requires-clause-can : goal.opened-requires-clause-can
opened-requires-clause-can c =
    let place : c.opening-row.result.1 + 2 ≡ suc (suc c.opening-row.result.1) = omega arith in
    (ready_at c.args.rows.now.program c.args.rows.now.openings c.args.i c.line_of-line.result (c.opening-row.result.1 + 2) c.opening-row.result c.args.tableau
    c.kept.ensures.within c.requires.opens c.requires.i c.opening-row.ensures c.line_of-line.ensures place c.requires.so).can

pub unreachable-requires : goal.unreachable-requires
unreachable-requires c =
    let place : c.opening-row.result.1 + 2 ≡ suc (suc c.opening-row.result.1) = omega arith in
    let wide : exchange_wide c.line_of-line.result (c.opening-row.result.1 + 2) (held_at c.args.tableau.tableau.rows c.line_of-line.result).line c.args.tableau.tableau ≡ true = search (rules) in
    let openings = c.kept.ensures.few_openings in
    let few : length c.args.rows.now.openings < 4294967296 = omega (arith, openings) in
    let narrow = never_wide c.args.rows.now.program c.args.rows.now.openings c.args.i c.line_of-line.result (c.opening-row.result.1 + 2) c.opening-row.result c.args.tableau
    c.kept.ensures.within c.requires.opens c.requires.small few c.requires.i c.opening-row.ensures c.line_of-line.ensures place c.requires.so in
    absurd (false≢true (sym narrow ∙ wide))

pub returns : goal.returns
returns c =
    let place : c.opening-row.result.1 + 2 ≡ suc (suc c.opening-row.result.1) = omega arith in
    let made : IsOpened c.line_of-line.result (c.opening-row.result.1 + 2) c.args.tableau c.in-Some.out = search (rules) in
    opened_more c.args.rows.now.program c.args.rows.now.openings c.args.i c.line_of-line.result (c.opening-row.result.1 + 2) c.opening-row.result c.args.tableau c.in-Some.out
    c.opening-row.ensures c.line_of-line.ensures place c.requires.so made
