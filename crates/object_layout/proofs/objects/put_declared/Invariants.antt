-- What is put, with what is left, is all, and there is room for what is left.
use Rattle.std.proofs.Common.{◌≡◌, ◌≤◌, ◌++◌, map, drop}
use Rattle.c_unit.specs.Tree.{declarator_of}
use Rattle.c_rules.specs.SpelledUnits.{elements_of_declarators}
use Rattle.c_meaning.specs.Objects.{globals_declared}
use Rattle.object_layout.specs.Views.{object_of}
use Rattle.object_layout.proofs.objects.put_declared.Given as goal

abbrev pub invariant-loop-declarator : goal.invariant-loop-declarator
invariant-loop-declarator l =
    (map object_of l.objects.items ++ globals_declared l.words l.kind (map declarator_of (drop l.declarator-index l.declarators))
    ≡ map object_of l.initial.objects.items ++ globals_declared l.words l.kind (map declarator_of l.declarators))
    × (elements_of_declarators l.words (map declarator_of (drop l.declarator-index l.declarators)) ≤ 8192)
