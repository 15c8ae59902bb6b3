-- What is put, with the statements that are left, is all.
use Rattle.std.proofs.Common.{◌≡◌, ◌≤◌, ◌+◌, ◌++◌, List, map, drop}
use Rattle.alf_program.specs.Tree.{BodyItem, item_of}
use Rattle.c_unit.specs.Limits.{most_elements}
use Rattle.c_unit.specs.Tree.{statement_of, statements_of}
use Rattle.c_unit.specs.Units.{unit_of}
use Rattle.c_rules.specs.Counts.{all_elements_in}
use Rattle.c_lowered.specs.Statements.{labels_in_all, calls_in_all}
use Rattle.object_layout.specs.Views.{program_in}
use Rattle.condition_lowering.specs.Views.{within_of}
use Rattle.statement_lowering.specs.Afterwards.{Stays}
use Rattle.statement_lowering.specs.Braces.{HasPlaces, row_items}
use Rattle.statement_lowering.specs.Views.{around_of}
use Rattle.statement_lowering.proofs.statements.+statements.Given as goal

abbrev pub invariant-put_row-loop-statement : goal.invariant-put_row-loop-statement
invariant-put_row-loop-statement l =
    record {
      items : (rest : List BodyItem) → map item_of l.items.items ++ row_items (within_of l.code) l.scopes.scopes (statements_of (map statement_of (drop l.statement-index l.row))) l.here l.after.labels l.after.calls (around_of l.code l.targets) rest
          ≡ map item_of l.initial.items.items ++ row_items (within_of l.code) l.initial.scopes.scopes (statements_of (map statement_of l.row)) l.fn.place l.fn.next.labels l.fn.next.calls (around_of l.code l.targets) rest;
      labels : l.after.labels + labels_in_all (statements_of (map statement_of (drop l.statement-index l.row))) ≡ l.fn.next.labels + labels_in_all (statements_of (map statement_of l.row));
      calls : l.after.calls + calls_in_all (program_in l.code.table.now) (statements_of (map statement_of (drop l.statement-index l.row))) ≡ l.fn.next.calls + calls_in_all (program_in l.code.table.now) (statements_of (map statement_of l.row));
      elements : all_elements_in (unit_of l.code.table.now).words (statements_of (map statement_of (drop l.statement-index l.row))) ≤ most_elements;
      places : HasPlaces l.here (statements_of (map statement_of (drop l.statement-index l.row)));
      stays : Stays l.initial.scopes l.scopes;
    }
