-- Laws of units stand.
--   unit_stands                          so stands each unit without faults
use Rattle.std.proofs.Common.{◌≡◌, ℕ, Bool, true, false, not, List, [], ◌∷◌, ◌++◌, Option, Some, None, if◌then◌else◌, refl, sym, ap, ◌∙◌}
use Rattle.lists.specs.TestLaws.{by_test}
use Rattle.c_unit.specs.declared.types.Outcome.{Outcome}
use Rattle.c_unit.specs.declared.external.Parameter.{Parameter}
use Rattle.c_unit.specs.Tree.{ShapeTree, GlobalInteger, GlobalArray, FunctionOf, DeclaratorTree, ExternalTree, Declaration, Definition, statements_of}
use Rattle.c_unit.specs.Units.{Word, UnitTree}
use Rattle.c_rules.specs.Faults.{Duplicate, Mistyped}
use Rattle.c_rules.specs.Names.{Entry, Scope, named, is_declared}
use Rattle.c_rules.specs.Calls.{is_defined}
use Rattle.c_rules.specs.Statements.{twice_faults, array_faults, in_function, statements_faults}
use Rattle.c_rules.specs.TypedLaws.{apart, not_when}
use Rattle.c_rules.specs.StandingLaws.{array_stands, statements_stand}
use Rattle.c_rules.specs.Units.{definitions, types_of, with_parameter, with_parameters, if_named, params_faults, is_function, object_faults, is_of_type, declared_faults, File, with_global, global_bound, shape_faults, declarators_faults, made_faults, external_after, external_faults, externals_faults, faults_in}
use Rattle.c_rules.specs.UnitsStand.{IsNewIfNamed, ParametersStand, AgreesWith, NewOrFunction, ShapeStands, DeclaratorsStand, ExternalStands, ExternalsStand, UnitStands}

-- ---- each unit without faults stands

negated : (b : Bool) → not b ≡ false → b ≡ true
negated true clear = refl
negated false clear = absurd (let bad : true ≡ false = clear in cc)

module _ (words : List Word) where
  new_if_named : (scope : Scope) (name : Option ℕ) → if_named words scope name ≡ [] → IsNewIfNamed words scope name
  new_if_named scope None none = tt
  new_if_named scope (Some name) none = not_when (is_declared words scope name) (Duplicate name) none

  parameters_stand : (scope : Scope) (params : List Parameter) → params_faults words scope params ≡ []
      → ParametersStand words scope params
  parameters_stand scope [] none = tt
  parameters_stand scope (p ∷ ps) none =
      let parts = apart (if_named words scope p.name) (params_faults words (with_parameter scope p.name p.kind) ps) none in
      (new_if_named scope p.name parts.0, parameters_stand (with_parameter scope p.name p.kind) ps parts.1)

  new_or_function : (token : ℕ) (x : Option Entry) → object_faults token x ≡ [] → NewOrFunction x
  new_or_function token None none = tt
  new_or_function token (Some e) none = negated (is_function e.bound) (not_when (not (is_function e.bound)) (Duplicate token) none)

  agrees_with : (first : ℕ) (o : Outcome) (params : List Parameter) (x : Option Entry)
      → declared_faults first o params x ≡ [] → AgreesWith o params x
  agrees_with first o params None none = tt
  agrees_with first o params (Some e) none = negated (is_of_type o (types_of params) e.bound) (not_when (not (is_of_type o (types_of params) e.bound)) (Mistyped first) none)

  shape_stands : (scope : Scope) (first : ℕ) (o : Outcome) (name : ℕ) (shape : ShapeTree)
      → shape_faults words scope first o name shape ≡ [] → ShapeStands words scope o name shape
  shape_stands scope first o name (GlobalInteger c) none = not_when (is_declared words scope name) (Duplicate name) none
  shape_stands scope first o name (GlobalArray size firsts) none =
      let parts = apart (twice_faults words scope name) (array_faults words size firsts) none in
      (not_when (is_declared words scope name) (Duplicate name) parts.0, array_stands words size firsts parts.1)
  shape_stands scope first o name (FunctionOf params) none =
      let parts = apart (object_faults name (named words name scope)) (params_faults words [] params ++ declared_faults first o params (named words name scope)) none in
      let others = apart (params_faults words [] params) (declared_faults first o params (named words name scope)) parts.1 in
      (new_or_function name (named words name scope) parts.0, parameters_stand [] params others.0, agrees_with first o params (named words name scope) others.1)

  declarators_stand : (first : ℕ) (o : Outcome) (file : File) (ds : List DeclaratorTree)
      → declarators_faults words first o file ds ≡ [] → DeclaratorsStand words o file ds
  declarators_stand first o file [] none = tt
  declarators_stand first o file (d ∷ ds) none =
      let further = with_global file d.name (global_bound o d.shape) in
      let parts = apart (shape_faults words file.scope first o d.name d.shape) (declarators_faults words first o further ds) none in
      (shape_stands file.scope first o d.name d.shape parts.0, declarators_stand first o further ds parts.1)

  made_once : (file : File) (name : ℕ) → made_faults words file name ≡ []
      → (is_defined words file.made name ≡ false) × NewOrFunction (named words name file.scope)
  made_once file name none =
      by_test (is_defined words file.made name)
      (λ twice. absurd (let bad : Duplicate name ∷ [] ≡ [] = sym (ap (λ (b : Bool). if b then Duplicate name ∷ [] else object_faults name (named words name file.scope)) twice) ∙ none in cc))
      (λ clear. (clear, new_or_function name (named words name file.scope) (sym (ap (λ (b : Bool). if b then Duplicate name ∷ [] else object_faults name (named words name file.scope)) clear) ∙ none)))

  external_stands : (defined : List ℕ) (file : File) (x : ExternalTree) → external_faults words defined file x ≡ []
      → ExternalStands words defined file x
  external_stands defined file (Declaration first o ds) none = declarators_stand first o file ds none
  external_stands defined file (Definition first o name params body) none =
      let inside = statements_faults words defined (in_function o) (with_parameters [] params ∷ (external_after file (Definition first o name params body)).scope ∷ []) (statements_of body) in
      let parts = apart (made_faults words file name) (params_faults words [] params ++ (declared_faults first o params (named words name file.scope) ++ inside)) none in
      let others = apart (params_faults words [] params) (declared_faults first o params (named words name file.scope) ++ inside) parts.1 in
      let rest = apart (declared_faults first o params (named words name file.scope)) inside others.1 in
      let once = made_once file name parts.0 in
      record {
        only = once.0;
        new = once.1;
        params_new = parameters_stand [] params others.0;
        agrees = agrees_with first o params (named words name file.scope) rest.0;
        body_stands = statements_stand words defined (in_function o) (with_parameters [] params ∷ (external_after file (Definition first o name params body)).scope ∷ []) (statements_of body) rest.1;
      }

  externals_stand : (defined : List ℕ) (file : File) (xs : List ExternalTree)
      → externals_faults words defined file xs ≡ [] → ExternalsStand words defined file xs
  externals_stand defined file [] none = tt
  externals_stand defined file (x ∷ xs) none =
      let parts = apart (external_faults words defined file x) (externals_faults words defined (external_after file x) xs) none in
      (external_stands defined file x parts.0, externals_stand defined (external_after file x) xs parts.1)

pub unit_stands : (unit : UnitTree) → faults_in unit ≡ [] → UnitStands unit
unit_stands unit none = externals_stand unit.words (definitions unit.externals) (record { scope = []; made = [] }) unit.externals none
