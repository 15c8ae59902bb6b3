-- What is put, with what is left, is all, and there is room for what is left.
use Rattle.std.proofs.Common.{◌≡◌, ◌≤◌, ◌++◌, map, drop}
use Rattle.c_unit.specs.Tree.{local_of}
use Rattle.c_rules.specs.Counts.{elements_of_all}
use Rattle.c_meaning.specs.Objects.{local_object}
use Rattle.object_layout.specs.Views.{object_of}
use Rattle.object_layout.proofs.locals.put_declared.Given as goal

abbrev pub invariant-loop-local : goal.invariant-loop-local
invariant-loop-local l =
    (map object_of l.objects.items ++ map (local_object l.words l.owner l.kind) (map local_of (drop l.local-index l.locals))
    ≡ map object_of l.initial.objects.items ++ map (local_object l.words l.owner l.kind) (map local_of l.locals))
    × (elements_of_all l.words (map local_of (drop l.local-index l.locals)) ≤ 8192)
