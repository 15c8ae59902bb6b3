-- Functions that are defined, and declarations.
--   defined_again     a second definition is wrong
--   definition_parts  the faults of the head, and then those of the body
--   file_known        where there is one scope, it is the file's
--   head_known        what is known where a body begins
--   tells_after       what is told after a part without faults
use Rattle.std.proofs.Common.{◌≡◌, ◌++◌, ℕ, true, false, List, [], ◌∷◌, Some, Bool, Result, Ok, Err, if◌then◌else◌, ap, ◌∙◌, sym}
use Rattle.std.proofs.lemmas.List.{append_assoc}
use Rattle.c_unit.specs.declared.types.Outcome.{Outcome}
use Rattle.c_unit.specs.declared.external.Parameter.{Parameter}
use Rattle.c_unit.specs.Tree.{Statement, Definition, statements_of}
use Rattle.c_unit.specs.Units.{Word}
use Rattle.c_rules.specs.Faults.{Fault, Duplicate, earliest}
use Rattle.c_rules.specs.Names.{Scope, innermost, named}
use Rattle.c_rules.specs.Calls.{is_defined}
use Rattle.c_rules.specs.Statements.{in_function, statements_faults}
use Rattle.c_rules.specs.Units.{File, function_of, with_parameters, object_faults, params_faults, declared_faults, external_faults}
use Rattle.c_scopes.specs.Views.{Known}
use Rattle.c_faults.specs.Tells.{Tells}
use Rattle.c_faults.specs.declared.stop.Stop.{Stop}
use Rattle.c_faults.specs.declared.stop.Stop.TheVariants as stops
use Rattle.c_faults.specs.Files.{IsFile, head_faults, with_head}
use Rattle.c_faults.specs.FileLaws.{known_at, params_known}

-- where there is one scope, it is the file's
pub file_known : (known : Known) → IsFile known → known ≡ known_at known.words (innermost known.scopes)
file_known known file = ap (λ (scopes : List Scope). record { words = known.words; scopes = scopes }) file

-- what is known where a body begins
abbrev pub begun : List Word → Scope → Outcome → ℕ → List Parameter → Known
begun words scope o name params = record { words = words; scopes = with_parameters [] params ∷ (record { token = name; bound = function_of o params } ∷ scope) ∷ [] }

pub head_known : (known : Known) (o : Outcome) (name : ℕ) (params : List Parameter) → IsFile known
    → with_head o name params known ≡ begun known.words (innermost known.scopes) o name params
head_known known o name params file =
    ap (with_head o name params) (file_known known file) ∙ params_known known.words [] ((record { token = name; bound = function_of o params } ∷ innermost known.scopes) ∷ []) params

-- what is told after a part without faults
pub tells_after : {A : Type 0} (result : Result A Stop) (xs ys whole : List Fault) → xs ≡ [] → xs ++ ys ≡ whole
    → Tells result ys → Tells result whole
tells_after (Ok value) xs ys whole none is told = sym is ∙ ap (λ (zs : List Fault). zs ++ ys) none ∙ told
tells_after (Err (stops.Fault fault)) xs ys whole none is told = sym (ap earliest is) ∙ ap (λ (zs : List Fault). earliest (zs ++ ys)) none ∙ told
tells_after (Err stops.Memory) xs ys whole none is told = tt

module _ (words : List Word) (defined : List ℕ) (file : File) (first : ℕ) (o : Outcome) (name : ℕ) (params : List Parameter) (body : List Statement) where
  abbrev pub body_faults : List Fault
  body_faults = statements_faults words defined (in_function o) (with_parameters [] params ∷ (record { token = name; bound = function_of o params } ∷ file.scope) ∷ []) (statements_of body)

  abbrev rest_faults : List Fault
  rest_faults = params_faults words [] params ++ (declared_faults first o params (named words name file.scope) ++ body_faults)

  -- a second definition is wrong
  pub defined_again : is_defined words file.made name ≡ true
      → earliest (external_faults words defined file (Definition first o name params body)) ≡ Some (Duplicate name)
  defined_again again = ap (λ (b : Bool). earliest ((if b then Duplicate name ∷ [] else object_faults name (named words name file.scope)) ++ rest_faults)) again

  -- the faults of the head, and then those of the body
  pub definition_parts : is_defined words file.made name ≡ false → head_faults (known_at words file.scope) first o name params ++ body_faults ≡ external_faults words defined file (Definition first o name params body)
  definition_parts new =
      append_assoc (object_faults name (named words name file.scope)) (params_faults words [] params ++ declared_faults first o params (named words name file.scope)) body_faults
      ∙ ap (λ (faults : List Fault). object_faults name (named words name file.scope) ++ faults) (append_assoc (params_faults words [] params) (declared_faults first o params (named words name file.scope)) body_faults)
      ∙ ap (λ (b : Bool). (if b then Duplicate name ∷ [] else object_faults name (named words name file.scope)) ++ rest_faults) (sym new)
