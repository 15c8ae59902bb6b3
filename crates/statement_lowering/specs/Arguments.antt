-- Arguments, one by one.
--   argument_of program scopes e ps  an argument as the first parameter has it, if there is one
--   others_of ps                     the parameters after the first
use Rattle.std.specs.Prelude.{List, [], ◌∷◌}
use Rattle.alf_program.specs.Tree.{NamedExpression}
use Rattle.c_unit.specs.declared.external.Parameter.{Parameter}
use Rattle.c_unit.specs.Tree.{Expression}
use Rattle.c_rules.specs.Names.{Scope}
use Rattle.c_meaning.specs.Objects.{Program}
use Rattle.c_lowered.specs.Values.{cut_to, value_of}

abbrev pub argument_of : Program → List Scope → Expression → List Parameter → NamedExpression
argument_of program scopes e [] = value_of program scopes e
argument_of program scopes e (p ∷ ps) = cut_to p.kind (value_of program scopes e)

abbrev pub others_of : List Parameter → List Parameter
others_of [] = []
others_of (p ∷ ps) = ps
