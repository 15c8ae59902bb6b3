-- What is put, with the locals that are left, is all.
use Rattle.std.proofs.Common.{◌≡◌, ◌≤◌, ◌+◌, ◌++◌, List, map, length}
use Rattle.alf_program.specs.Tree.{BodyItem, item_of}
use Rattle.c_unit.specs.Limits.{most_elements}
use Rattle.c_unit.specs.Tree.{local_of}
use Rattle.c_unit.specs.Units.{unit_of}
use Rattle.c_rules.specs.Counts.{elements_of_all}
use Rattle.c_lowered.specs.Effects.{locals_items, calls_in_locals}
use Rattle.object_layout.specs.Views.{program_in}
use Rattle.condition_lowering.specs.Views.{within_of}
use Rattle.statement_lowering.specs.Views.{with_declared}
use Rattle.statement_lowering.proofs.locals.put_locals.Given as goal

abbrev pub invariant-locals : goal.invariant-locals
invariant-locals l =
    record {
      items : (rest : List BodyItem) → map item_of l.items.items ++ locals_items (within_of l.code) l.kind l.scopes.scopes (map local_of l.rest) l.calls rest
          ≡ map item_of l.initial.items.items ++ locals_items (within_of l.code) l.kind l.initial.scopes.scopes (map local_of l.locals) l.number rest;
      calls : l.calls + calls_in_locals (program_in l.code.table.now) (map local_of l.rest) ≡ l.number + calls_in_locals (program_in l.code.table.now) (map local_of l.locals);
      few : elements_of_all (unit_of l.code.table.now).words (map local_of l.rest) ≤ most_elements;
      words : l.scopes.words ≡ l.initial.scopes.words;
      known : with_declared l.kind l.scopes (map local_of l.rest) ≡ with_declared l.kind l.initial.scopes (map local_of l.locals);
    }

abbrev pub decreases-locals : goal.decreases-locals
decreases-locals l = length l.rest
