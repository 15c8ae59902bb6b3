-- What is known at file level, by the words of `c_rules`.
--   known_at words scope             the file's scope alone is known
--   params_known                     parameters stand in the innermost scope
--   declarators_known, faults_known  the scope after a declaration, and its faults
use Rattle.std.proofs.Common.{◌≡◌, ◌++◌, ℕ, List, [], ◌∷◌, Option, Some, None, refl, ap, ◌∙◌}
use Rattle.c_unit.specs.declared.types.Scalar.{Scalar}
use Rattle.c_unit.specs.declared.types.Outcome.{Outcome}
use Rattle.c_unit.specs.declared.external.Parameter.{Parameter}
use Rattle.c_unit.specs.Tree.{DeclaratorTree}
use Rattle.c_unit.specs.Units.{Word}
use Rattle.c_rules.specs.Faults.{Fault}
use Rattle.c_rules.specs.Names.{Scope}
use Rattle.c_rules.specs.Units as units
use Rattle.c_rules.specs.Units.{File, with_parameter, with_parameters, with_global, global_bound, shape_faults}
use Rattle.c_scopes.specs.Views.{Known}
use Rattle.c_faults.specs.Files.{with_named, with_params, declarators_faults, with_declarators}

abbrev pub known_at : List Word → Scope → Known
known_at words scope = record { words = words; scopes = scope ∷ [] }

-- a parameter stands in the innermost scope, if it has a name
param_known : (words : List Word) (scope : Scope) (rest : List Scope) (name : Option ℕ) (kind : Scalar) → with_named name kind (record { words = words; scopes = scope ∷ rest }) ≡ record { words = words; scopes = with_parameter scope name kind ∷ rest }
param_known words scope rest None kind = refl
param_known words scope rest (Some name) kind = refl

pub params_known : (words : List Word) (scope : Scope) (rest : List Scope) (params : List Parameter) → with_params params (record { words = words; scopes = scope ∷ rest }) ≡ record { words = words; scopes = with_parameters scope params ∷ rest }
params_known words scope rest [] = refl
params_known words scope rest (p ∷ ps) = ap (λ (known : Known). with_params ps known) (param_known words scope rest p.name p.kind) ∙ params_known words (with_parameter scope p.name p.kind) rest ps

-- the scope after a declaration
pub declarators_known : (words : List Word) (o : Outcome) (file : File) (ds : List DeclaratorTree)
    → with_declarators o ds (known_at words file.scope) ≡ known_at words (units.with_declarators o file ds).scope
declarators_known words o file [] = refl
declarators_known words o file (d ∷ ds) = declarators_known words o (with_global file d.name (global_bound o d.shape)) ds

-- its faults
pub faults_known : (words : List Word) (first : ℕ) (o : Outcome) (file : File) (ds : List DeclaratorTree)
    → declarators_faults (known_at words file.scope) first o ds ≡ units.declarators_faults words first o file ds
faults_known words first o file [] = refl
faults_known words first o file (d ∷ ds) = ap (λ (faults : List Fault). shape_faults words file.scope first o d.name d.shape ++ faults) (faults_known words first o (with_global file d.name (global_bound o d.shape)) ds)
