-- What is known at file level, by the words of `c_rules`.
--   params_known         parameters stand in the innermost scope
--   declarators_known    the scope after a declaration
--   head_words           the words stay
use Rattle.std.proofs.Common.{◌≡◌, ℕ, List, [], ◌∷◌, Option, Some, None, refl, ap, ◌∙◌}
use Rattle.c_unit.specs.declared.types.Scalar.{Scalar}
use Rattle.c_unit.specs.declared.types.Outcome.{Outcome}
use Rattle.c_unit.specs.declared.external.Parameter.{Parameter}
use Rattle.c_unit.specs.Tree.{DeclaratorTree}
use Rattle.c_unit.specs.Units.{Word}
use Rattle.c_rules.specs.Names.{Scope}
use Rattle.c_rules.specs.Units as units
use Rattle.c_rules.specs.Units.{File, function_of, with_parameter, with_parameters, with_global, global_bound}
use Rattle.c_scopes.specs.Views.{Known, entered, declared_in}
use Rattle.c_lower.specs.Heads.{known_at, with_named, with_params, with_head, with_declarators}

-- a parameter stands in the innermost scope, if it has a name
param_known : (words : List Word) (scope : Scope) (rest : List Scope) (name : Option ℕ) (kind : Scalar)
    → with_named name kind (record { words = words; scopes = scope ∷ rest }) ≡ record { words = words; scopes = with_parameter scope name kind ∷ rest }
param_known words scope rest None kind = refl
param_known words scope rest (Some name) kind = refl

pub params_known : (words : List Word) (scope : Scope) (rest : List Scope) (params : List Parameter)
    → with_params params (record { words = words; scopes = scope ∷ rest }) ≡ record { words = words; scopes = with_parameters scope params ∷ rest }
params_known words scope rest [] = refl
params_known words scope rest (p ∷ ps) =
    ap (λ (known : Known). with_params ps known) (param_known words scope rest p.name p.kind) ∙ params_known words (with_parameter scope p.name p.kind) rest ps

-- the scope after a declaration
pub declarators_known : (words : List Word) (o : Outcome) (file : File) (ds : List DeclaratorTree)
    → with_declarators o ds (known_at words file.scope) ≡ known_at words (units.with_declarators o file ds).scope
declarators_known words o file [] = refl
declarators_known words o file (d ∷ ds) = declarators_known words o (with_global file d.name (global_bound o d.shape)) ds

named_words : (name : Option ℕ) (kind : Scalar) (known : Known) → (with_named name kind known).words ≡ known.words
named_words None kind known = refl
named_words (Some name) kind known = refl

params_words : (params : List Parameter) (known : Known) → (with_params params known).words ≡ known.words
params_words [] known = refl
params_words (p ∷ ps) known = params_words ps (with_named p.name p.kind known) ∙ named_words p.name p.kind known

-- the words stay
pub head_words : (o : Outcome) (name : ℕ) (params : List Parameter) (known : Known)
    → (with_head o name params known).words ≡ known.words
head_words o name params known = params_words params (entered (declared_in (record { token = name; bound = function_of o params }) known))
