-- Statements in a row, and the scope of the first part of a `for`.
use Rattle.std.proofs.Common.{◌≡◌, ◌+◌, ◌++◌, List, Some, map, ap, sym, ◌∙◌}
use Rattle.alf_program.specs.Tree.{BodyItem, item_of}
use Rattle.c_unit.specs.declared.statement.Stmt.{Stmt}
use Rattle.c_unit.specs.declared.statement.Stmt.TheVariants as stmts
use Rattle.c_unit.specs.Tree.{statement_of, statements_of}
use Rattle.c_unit.specs.Units.{unit_of}
use Rattle.c_lowered.specs.Statements.{calls_in_all, labels_in_all}
use Rattle.object_layout.specs.Views.{program_in}
use Rattle.condition_lowering.specs.Views.{within_of}
use Rattle.statement_lowering.specs.Braces.{row_items}
use Rattle.c_scopes.specs.Views.{Known, entered, left}
use Rattle.statement_lowering.specs.Views.{around_of, known_after}
use Rattle.statement_lowering.proofs.Scopes.{left_after, for_after}
use Rattle.statement_lowering.proofs.Rows.{row_put, row_labels, row_calls, row_elements, row_places, row_stays}
use Rattle.statement_lowering.proofs.statements.+statements.Goals as goal

pub put_row-loop-statement-preserved : goal.put_row-loop-statement-preserved
put_row-loop-statement-preserved t c =
    let within = within_of c.args.code in
    let around = around_of c.args.code c.args.targets in
    let row = c.args.row.now in
    let i = c.loop-statement.statement-index in
    let s = c.statement-item.result in
    let low = c.loop-statement-test.true in
    let is = c.statement-item.is in
    let now = c.loop-statement.after in
    let made = c.in_ok-after.ensures in
    let placed = c.in_ok-here.ensures in
    record {
      items = row_put within around row i s c.loop-statement.scopes c.put_statement.new.scopes c.loop-statement.items.items c.put_place.new.items.items c.put_statement.new.items.items
          c.loop-statement.here c.in_ok-here.here now.labels now.calls c.in_ok-after.after.labels c.in_ok-after.after.calls
          (λ (rest : List BodyItem). map item_of c.args.items.now.items ++ row_items within c.args.scopes.now.scopes (statements_of (map statement_of row)) c.args.place c.args.next.labels c.args.next.calls around rest)
          low is c.loop-statement.invariant.items placed.items made.items placed.next made.labels made.calls made.known;
      labels = row_labels row i s now.labels c.in_ok-after.after.labels (c.args.next.labels + labels_in_all (statements_of (map statement_of row))) low is c.loop-statement.invariant.labels made.labels;
      calls = row_calls (program_in c.args.code.table.now) row i s now.calls c.in_ok-after.after.calls (c.args.next.calls + calls_in_all (program_in c.args.code.table.now) (statements_of (map statement_of row)))
          low is c.loop-statement.invariant.calls made.calls;
      elements = row_elements (unit_of c.args.code.table.now).words row i s low is c.loop-statement.invariant.elements;
      places = row_places row i s c.loop-statement.here c.in_ok-here.here low is c.loop-statement.invariant.places placed.next;
      stays = row_stays c.args.scopes.now c.loop-statement.scopes c.put_statement.new.scopes (statement_of s) c.loop-statement.invariant.stays made.known;
    }

pub put_statement-returns-in_ok-leave-in-Some-first-clause-known : goal.put_statement-returns-in_ok-leave-in-Some-first-clause-known
put_statement-returns-in_ok-leave-in-Some-first-clause-known t c =
    let known = c.args.scopes.now in
    let first = statement_of c.deref-in-Some-first.result.now in
    let middle : c.put_statement.new.scopes ≡ known_after (entered known) first =
    c.in_ok-middle-in-Some-first.ensures.known ∙ ap (λ (k : Known). known_after k first) c.in_ok-enter-in-Some-first.ensures in
    let here : c.leave.new.self ≡ known =
    c.in_ok-leave-in-Some-first.ensures ∙ ap left (c.in_ok-after-in-Some-first.ensures.same ∙ middle) ∙ left_after known first in
    let is : c.args.statement.now ≡ stmts.For (Some c.in-Some-first.first) c.in-For.condition c.in-For.last c.in-For.body =
    c.in-For.is ∙ ap (λ x. stmts.For x c.in-For.condition c.in-For.last c.in-For.body) c.in-Some-first.is in
    here ∙ sym (ap (λ (x : Stmt). known_after known (statement_of x)) is ∙ for_after known c.in-Some-first.first c.in-For.condition c.in-For.last c.in-For.body)
