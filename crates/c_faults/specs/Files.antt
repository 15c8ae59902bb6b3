-- What is known at file level: one scope.
--   IsFile known                   there is one scope, that of the file
--   with_named name kind known     what is known with a parameter more, if it has a name
--   with_params params known       with parameters more in the innermost scope
--   agrees_with o types entry, is_free entry   a function of this type may be declared where the name is bound so; no object has the name
--   head_faults known first o name params      faults of the head of a function
--   with_head o name params known  with the function, and a scope more that has its parameters
--   declarator_faults, declarators_faults known first o ds   faults of what a declaration declares
--   with_declarators o ds known    with what it declares
use Rattle.std.specs.Prelude.{◌≡◌, ℕ, Bool, true, List, [], ◌∷◌, ◌++◌, Option, Some, None}
use Rattle.c_unit.specs.declared.types.Scalar.{Scalar}
use Rattle.c_unit.specs.declared.types.Outcome.{Outcome}
use Rattle.c_unit.specs.declared.external.Parameter.{Parameter}
use Rattle.c_unit.specs.Tree.{DeclaratorTree}
use Rattle.c_rules.specs.Faults.{Fault}
use Rattle.c_rules.specs.Names.{Variable, Entry, innermost, named}
use Rattle.c_rules.specs.Units.{is_function, is_of_type, function_of, object_faults, params_faults, declared_faults, shape_faults, global_bound}
use Rattle.c_scopes.specs.Views.{Known, entered, declared_in}

abbrev pub IsFile : Known → Type 0
IsFile known = known.scopes ≡ innermost known.scopes ∷ []

abbrev pub with_named : Option ℕ → Scalar → Known → Known
with_named None kind known = known
with_named (Some name) kind known = declared_in (record { token = name; bound = Variable kind }) known

abbrev pub with_params : List Parameter → Known → Known
with_params [] known = known
with_params (p ∷ ps) known = with_params ps (with_named p.name p.kind known)

abbrev pub agrees_with : Outcome → List Scalar → Option Entry → Bool
agrees_with o types None = true
agrees_with o types (Some e) = is_of_type o types e.bound

abbrev pub is_free : Option Entry → Bool
is_free None = true
is_free (Some e) = is_function e.bound

abbrev pub head_faults : Known → ℕ → Outcome → ℕ → List Parameter → List Fault
head_faults known first o name params =
    object_faults name (named known.words name (innermost known.scopes))
    ++ (params_faults known.words [] params ++ declared_faults first o params (named known.words name (innermost known.scopes)))

abbrev pub with_head : Outcome → ℕ → List Parameter → Known → Known
with_head o name params known = with_params params (entered (declared_in (record { token = name; bound = function_of o params }) known))

abbrev pub declarator_faults : Known → ℕ → Outcome → DeclaratorTree → List Fault
declarator_faults known first o d = shape_faults known.words (innermost known.scopes) first o d.name d.shape

abbrev pub with_declarators : Outcome → List DeclaratorTree → Known → Known
with_declarators o [] known = known
with_declarators o (d ∷ ds) known = with_declarators o ds (declared_in (record { token = d.name; bound = global_bound o d.shape }) known)

abbrev pub declarators_faults : Known → ℕ → Outcome → List DeclaratorTree → List Fault
declarators_faults known first o [] = []
declarators_faults known first o (d ∷ ds) = declarator_faults known first o d ++ declarators_faults (declared_in (record { token = d.name; bound = global_bound o d.shape }) known) first o ds
