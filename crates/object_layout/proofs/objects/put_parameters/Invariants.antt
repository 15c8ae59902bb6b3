-- What is put, with what is left, is all.
use Rattle.std.proofs.Common.{◌≡◌, ◌++◌, map, drop}
use Rattle.c_meaning.specs.Objects.{parameter_object}
use Rattle.object_layout.specs.Views.{object_of}
use Rattle.object_layout.proofs.objects.put_parameters.Given as goal

abbrev pub invariant-loop-parameter : goal.invariant-loop-parameter
invariant-loop-parameter l =
    map object_of l.objects.items ++ map (parameter_object l.owner) (drop l.parameter-index l.parameters)
    ≡ map object_of l.initial.objects.items ++ map (parameter_object l.owner) l.parameters
