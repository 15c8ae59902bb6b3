-- The arguments so far, with what is left, are all.
use Rattle.std.proofs.Common.{◌≡◌, ◌++◌, map, length}
use Rattle.alf_program.specs.Tree as alf
use Rattle.c_unit.specs.Tree.{expression_of}
use Rattle.c_lowered.specs.Effects.{arguments}
use Rattle.object_layout.specs.Views.{program_in}
use Rattle.statement_lowering.proofs.calls.arguments.Given as goal

abbrev pub invariant-given : goal.invariant-given
invariant-given l =
    map alf.expression_of l.terms.items ++ arguments (program_in l.code.table.now) l.scopes.scopes (map expression_of l.rest) l.taken
    ≡ arguments (program_in l.code.table.now) l.scopes.scopes (map expression_of l.given) l.parameters

abbrev pub decreases-given : goal.decreases-given
decreases-given l = length l.rest
