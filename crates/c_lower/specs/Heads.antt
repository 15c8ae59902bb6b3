-- What is known at file level, and in functions.
--   known_at words scope           the file's scope alone is known
--   with_named name kind known     what is known with a parameter more, if it has a name
--   with_params params known       with parameters more in the innermost scope
--   with_head o name params known  with the function, and a scope more that has its parameters
--   with_declarators o ds known    with what a declaration declares
use Rattle.std.specs.Prelude.{ℕ, List, [], ◌∷◌, Option, Some, None}
use Rattle.c_unit.specs.declared.types.Scalar.{Scalar}
use Rattle.c_unit.specs.declared.types.Outcome.{Outcome}
use Rattle.c_unit.specs.declared.external.Parameter.{Parameter}
use Rattle.c_unit.specs.Tree.{DeclaratorTree}
use Rattle.c_unit.specs.Units.{Word}
use Rattle.c_rules.specs.Names.{Variable, Scope}
use Rattle.c_rules.specs.Units.{function_of, global_bound}
use Rattle.c_scopes.specs.Views.{Known, entered, declared_in}

abbrev pub known_at : List Word → Scope → Known
known_at words scope = record { words = words; scopes = scope ∷ [] }

abbrev pub with_named : Option ℕ → Scalar → Known → Known
with_named None kind known = known
with_named (Some name) kind known = declared_in (record { token = name; bound = Variable kind }) known

abbrev pub with_params : List Parameter → Known → Known
with_params [] known = known
with_params (p ∷ ps) known = with_params ps (with_named p.name p.kind known)

abbrev pub with_head : Outcome → ℕ → List Parameter → Known → Known
with_head o name params known = with_params params (entered (declared_in (record { token = name; bound = function_of o params }) known))

abbrev pub with_declarators : Outcome → List DeclaratorTree → Known → Known
with_declarators o [] known = known
with_declarators o (d ∷ ds) known = with_declarators o ds (declared_in (record { token = d.name; bound = global_bound o d.shape }) known)
