-- What is put, with what is left, is all, and there is room for what is left.
use Rattle.std.proofs.Common.{◌≡◌, ◌≤◌, ◌++◌, map, drop}
use Rattle.c_unit.specs.Tree.{statement_of, statements_of}
use Rattle.c_rules.specs.Counts.{all_elements_in}
use Rattle.c_meaning.specs.Objects.{all_locals_in}
use Rattle.object_layout.specs.Views.{object_of}
use Rattle.object_layout.proofs.locals.+locals.Given as goal

abbrev pub invariant-put_all_locals-loop-statement : goal.invariant-put_all_locals-loop-statement
invariant-put_all_locals-loop-statement l =
    (map object_of l.objects.items ++ all_locals_in l.words l.owner (statements_of (map statement_of (drop l.statement-index l.row)))
    ≡ map object_of l.initial.objects.items ++ all_locals_in l.words l.owner (statements_of (map statement_of l.row)))
    × (all_elements_in l.words (statements_of (map statement_of (drop l.statement-index l.row))) ≤ 8192)
