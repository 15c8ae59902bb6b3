use Rattle.std.proofs.Common.{◌≡◌, map, take}
use Rattle.std.specs.List.{flat_map}
use Rattle.alf_program.specs.Tree.{function_of}
use Rattle.alf_text.specs.Canonical.{function_marks}
use Rattle.alf_text.specs.Printing.{all_put}
use Rattle.alf_text.proofs.printer.put_funcs.Given as goal

abbrev pub invariant-loop-func : goal.invariant-loop-func
invariant-loop-func l = l.out.items ≡ all_put l.initial.out.items (flat_map function_marks (map function_of (take l.func-index l.funcs)))
