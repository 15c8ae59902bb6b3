-- What every unit without faults keeps at file level.
--   ParametersStand words scope params   no two parameters have one name
--   AgreesWith o params entry            a function that was declared before has the same types
--   NewOrFunction entry                  the name is new, or that of a function
--   ShapeStands words scope o name shape what is declared: an object with a new name, or a function with the types that it had before
--   ExternalStands words defined file x  a declaration, or a definition, which is the function's only one and whose body stands
--   UnitStands unit                      all of them, each where the ones before it are known
use Rattle.std.proofs.Common.{◌≡◌, ℕ, true, false, List, [], ◌∷◌, Option, Some, None}
use Rattle.std.specs.Prelude.{⊤}
use Rattle.c_unit.specs.declared.types.Outcome.{Outcome}
use Rattle.c_unit.specs.declared.external.Parameter.{Parameter}
use Rattle.c_unit.specs.Tree.{Statement, ShapeTree, GlobalInteger, GlobalArray, FunctionOf, DeclaratorTree, ExternalTree, Declaration, Definition, statements_of}
use Rattle.c_unit.specs.Units.{Word, UnitTree}
use Rattle.c_rules.specs.Names.{Entry, Scope, named, is_declared}
use Rattle.c_rules.specs.Calls.{is_defined}
use Rattle.c_rules.specs.Statements.{in_function}
use Rattle.c_rules.specs.Standing.{ArrayStands, StatementsStand}
use Rattle.c_rules.specs.Units.{definitions, types_of, with_parameter, with_parameters, is_function, is_of_type, File, with_global, global_bound, external_after}

abbrev pub IsNewIfNamed : List Word → Scope → Option ℕ → Type 0
IsNewIfNamed words scope None = ⊤
IsNewIfNamed words scope (Some name) = is_declared words scope name ≡ false

abbrev pub ParametersStand : List Word → Scope → List Parameter → Type 0
ParametersStand words scope [] = ⊤
ParametersStand words scope (p ∷ ps) = IsNewIfNamed words scope p.name × ParametersStand words (with_parameter scope p.name p.kind) ps

abbrev pub AgreesWith : Outcome → List Parameter → Option Entry → Type 0
AgreesWith o params None = ⊤
AgreesWith o params (Some e) = is_of_type o (types_of params) e.bound ≡ true

abbrev pub NewOrFunction : Option Entry → Type 0
NewOrFunction None = ⊤
NewOrFunction (Some e) = is_function e.bound ≡ true

abbrev pub ShapeStands : List Word → Scope → Outcome → ℕ → ShapeTree → Type 0
ShapeStands words scope o name (GlobalInteger c) = is_declared words scope name ≡ false
ShapeStands words scope o name (GlobalArray size firsts) = (is_declared words scope name ≡ false) × ArrayStands words size firsts
ShapeStands words scope o name (FunctionOf params) = NewOrFunction (named words name scope) × ParametersStand words [] params × AgreesWith o params (named words name scope)

abbrev pub DeclaratorsStand : List Word → Outcome → File → List DeclaratorTree → Type 0
DeclaratorsStand words o file [] = ⊤
DeclaratorsStand words o file (d ∷ ds) = ShapeStands words file.scope o d.name d.shape × DeclaratorsStand words o (with_global file d.name (global_bound o d.shape)) ds

-- a definition: the only one of its function
pub record DefinitionStands (words : List Word) (defined : List ℕ) (file : File) (first : ℕ) (o : Outcome) (name : ℕ)
    (params : List Parameter) (body : List Statement) : Type 0 where
  pub only : is_defined words file.made name ≡ false
  pub new : NewOrFunction (named words name file.scope)
  pub params_new : ParametersStand words [] params
  pub agrees : AgreesWith o params (named words name file.scope)
  pub body_stands : StatementsStand words defined (in_function o) (with_parameters [] params ∷ (external_after file (Definition first o name params body)).scope ∷ []) (statements_of body)

abbrev pub ExternalStands : List Word → List ℕ → File → ExternalTree → Type 0
ExternalStands words defined file (Declaration first o ds) = DeclaratorsStand words o file ds
ExternalStands words defined file (Definition first o name params body) = DefinitionStands words defined file first o name params body

abbrev pub ExternalsStand : List Word → List ℕ → File → List ExternalTree → Type 0
ExternalsStand words defined file [] = ⊤
ExternalsStand words defined file (x ∷ xs) = ExternalStands words defined file x × ExternalsStand words defined (external_after file x) xs

abbrev pub UnitStands : UnitTree → Type 0
UnitStands unit = ExternalsStand unit.words (definitions unit.externals) (record { scope = []; made = [] }) unit.externals
