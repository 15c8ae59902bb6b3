-- Laws of objects.
--   objects_small    each object has at most 262144 bits, where arrays have no more elements than a text may have
--   blocks_shallow   at most ten operators are nested in the block of each function
--   functions_few    the functions are no more than a text may define
use Rattle.std.proofs.Common.{◌≡◌, ◌≤◌, ◌+◌, ◌*◌, ℕ, suc, List, [], ◌∷◌, ◌++◌, map, length, refl, ap, arith}
use Rattle.c_unit.specs.Limits.{most_elements, most_functions}
use Rattle.c_unit.specs.declared.types.Integer.{Integer}
use Rattle.c_unit.specs.declared.types.Integer.TheVariants.{Char, UnsignedChar, Short, UnsignedShort, Int, UnsignedInt}
use Rattle.c_unit.specs.declared.types.Scalar.{Scalar}
use Rattle.c_unit.specs.declared.types.Scalar.TheVariants as scalars
use Rattle.c_unit.specs.declared.external.Parameter.{Parameter}
use Rattle.c_unit.specs.Tree.{LocalShapeTree, LocalInteger, LocalPointer, LocalArray, LocalTree, Statement, Empty, Declares, Block, If, IfElse, While, Do, For, ForAfter, Switch, Case, Default, Break, Continue, Returns, Does, Statements, Nothing, Then, ShapeTree, GlobalInteger, GlobalArray, FunctionOf, DeclaratorTree, ExternalTree, Declaration, Definition, statements_of}
use Rattle.c_unit.specs.Units.{Word, UnitTree}
use Rattle.c_rules.specs.Units.{File, definitions, element_of, external_after}
use Rattle.c_meaning.specs.Values.{bits_of_type}
use Rattle.c_meaning.specs.Objects.{Function, bits_of_scalar, bits_of_local, count_at, local_object, locals_in, all_locals_in, parameter_object, owned_in, global_object, globals_declared, globals_in, objects_of, functions_in, functions_of}
use Rattle.c_rules.specs.SpelledExpressions.{InStatements}
use Rattle.c_rules.specs.Counts.{elements_of_all, elements_in, all_elements_in}
use Rattle.c_rules.specs.Counts as counts
use Rattle.c_rules.specs.SpelledUnits.{elements_of_shape, elements_of_declarators, all_elements_of, FunctionsStand, Shallow, IsCounted}
use Rattle.lowering_layout.specs.Lists.{EachOf}
use Rattle.lowering_layout.specs.ListLaws.{each_joined}
use Rattle.c_limits.specs.Objects.{IsSmall}

type_small : (i : Integer) → bits_of_type i ≤ 262144
type_small Char = omega arith
type_small UnsignedChar = omega arith
type_small Short = omega arith
type_small UnsignedShort = omega arith
type_small Int = omega arith
type_small UnsignedInt = omega arith

array_small : (i : Integer) (count : ℕ) → count ≤ most_elements → count * bits_of_type i ≤ 262144
array_small Char count few = omega (arith, few)
array_small UnsignedChar count few = omega (arith, few)
array_small Short count few = omega (arith, few)
array_small UnsignedShort count few = omega (arith, few)
array_small Int count few = omega (arith, few)
array_small UnsignedInt count few = omega (arith, few)

scalar_small : (t : Scalar) → bits_of_scalar t ≤ 262144
scalar_small (scalars.Integer i) = type_small i
scalar_small (scalars.Pointer i) = omega arith

module _ (words : List Word) where
  local_small : (kind : Integer) (shape : LocalShapeTree) → counts.elements_of words shape ≤ most_elements
      → bits_of_local words kind shape ≤ 262144
  local_small kind (LocalInteger first) few = type_small kind
  local_small kind (LocalPointer first) few = omega arith
  local_small kind (LocalArray size firsts) few = array_small kind (count_at words size) few

  locals_small : (f : ℕ) (kind : Integer) (locals : List LocalTree) → elements_of_all words locals ≤ most_elements
      → EachOf IsSmall (map (local_object words f kind) locals)
  locals_small f kind [] few = tt
  locals_small f kind (local ∷ locals) few = (local_small kind local.shape (omega (arith, few)), locals_small f kind locals (omega (arith, few)))

  mutual
    statement_small : (f : ℕ) (s : Statement) → elements_in words s ≤ most_elements
        → EachOf IsSmall (locals_in words f s)
    statement_small f (Empty token) few = tt
    statement_small f (Declares first kind locals) few = locals_small f kind locals few
    statement_small f (Block body) few = all_small f body few
    statement_small f (If condition body) few = statement_small f body few
    statement_small f (IfElse condition body otherwise) few =
        each_joined IsSmall (locals_in words f body) (locals_in words f otherwise) (statement_small f body (omega (arith, few))) (statement_small f otherwise (omega (arith, few)))
    statement_small f (While condition body) few = statement_small f body few
    statement_small f (Do body condition) few = statement_small f body few
    statement_small f (For condition last body) few = statement_small f body few
    statement_small f (ForAfter first condition last body) few =
        each_joined IsSmall (locals_in words f first) (locals_in words f body) (statement_small f first (omega (arith, few))) (statement_small f body (omega (arith, few)))
    statement_small f (Switch value body) few = all_small f body few
    statement_small f (Case token c) few = tt
    statement_small f (Default token) few = tt
    statement_small f (Break token) few = tt
    statement_small f (Continue token) few = tt
    statement_small f (Returns token value) few = tt
    statement_small f (Does effect) few = tt

    all_small : (f : ℕ) (ss : Statements) → all_elements_in words ss ≤ most_elements
        → EachOf IsSmall (all_locals_in words f ss)
    all_small f Nothing few = tt
    all_small f (Then s rest) few = each_joined IsSmall (locals_in words f s) (all_locals_in words f rest) (statement_small f s (omega (arith, few))) (all_small f rest (omega (arith, few)))

  parameters_small : (f : ℕ) (ps : List Parameter) → EachOf IsSmall (map (parameter_object f) ps)
  parameters_small f [] = tt
  parameters_small f (p ∷ ps) = (scalar_small p.kind, parameters_small f ps)

  owned_small : (f : ℕ) (xs : List ExternalTree) → all_elements_of words xs ≤ most_elements
      → EachOf IsSmall (owned_in words f xs)
  owned_small f [] few = tt
  owned_small f (Declaration first o ds ∷ xs) few = owned_small f xs (omega (arith, few))
  owned_small f (Definition first o name params body ∷ xs) few =
      each_joined IsSmall (map (parameter_object f) params) (all_locals_in words f (statements_of body) ++ owned_in words (f + 1) xs) (parameters_small f params)
      (each_joined IsSmall (all_locals_in words f (statements_of body)) (owned_in words (f + 1) xs) (all_small f (statements_of body) (omega (arith, few))) (owned_small (f + 1) xs (omega (arith, few))))

  object_small : (i : Integer) (name : ℕ) (shape : ShapeTree) → elements_of_shape words shape ≤ most_elements
      → EachOf IsSmall (global_object words i name shape)
  object_small i name (GlobalInteger first) few = (type_small i, tt)
  object_small i name (GlobalArray size firsts) few = (array_small i (count_at words size) few, tt)
  object_small i name (FunctionOf params) few = tt

  declared_small : (i : Integer) (ds : List DeclaratorTree) → elements_of_declarators words ds ≤ most_elements
      → EachOf IsSmall (globals_declared words i ds)
  declared_small i [] few = tt
  declared_small i (d ∷ ds) few = each_joined IsSmall (global_object words i d.name d.shape) (globals_declared words i ds) (object_small i d.name d.shape (omega (arith, few))) (declared_small i ds (omega (arith, few)))

  globals_small : (xs : List ExternalTree) → all_elements_of words xs ≤ most_elements
      → EachOf IsSmall (globals_in words xs)
  globals_small [] few = tt
  globals_small (Declaration first o ds ∷ xs) few =
      each_joined IsSmall (globals_declared words (element_of o) ds) (globals_in words xs) (declared_small (element_of o) ds (omega (arith, few))) (globals_small xs (omega (arith, few)))
  globals_small (Definition first o name params body ∷ xs) few = globals_small xs (omega (arith, few))

  blocks : (IsNamed : List ℕ → Type 0) (file : File) (xs : List ExternalTree) → FunctionsStand IsNamed Shallow words xs
      → EachOf (λ (f : Function). InStatements Shallow Shallow f.body) (functions_in file xs)
  blocks IsNamed file [] stand = tt
  blocks IsNamed file (Declaration first o ds ∷ xs) stand = blocks IsNamed (external_after file (Declaration first o ds)) xs stand.1
  blocks IsNamed file (Definition first o name params body ∷ xs) stand = (stand.0.2, blocks IsNamed (external_after file (Definition first o name params body)) xs stand.1)

count : (file : File) (xs : List ExternalTree) → length (functions_in file xs) ≡ length (definitions xs)
count file [] = refl
count file (Declaration first o ds ∷ xs) = count (external_after file (Declaration first o ds)) xs
count file (Definition first o name params body ∷ xs) = ap suc (count (external_after file (Definition first o name params body)) xs)

module _ (IsNamed : List ℕ → Type 0) (unit : UnitTree) (counted : IsCounted IsNamed unit) where
  pub objects_small : EachOf IsSmall (objects_of unit)
  objects_small = each_joined IsSmall (globals_in unit.words unit.externals) (owned_in unit.words 0 unit.externals) (globals_small unit.words unit.externals counted.elements) (owned_small unit.words 0 unit.externals counted.elements)

  pub blocks_shallow : EachOf (λ (f : Function). InStatements Shallow Shallow f.body) (functions_of unit)
  blocks_shallow = blocks unit.words IsNamed (record { scope = []; made = [] }) unit.externals counted.stand

  pub functions_few : length (functions_of unit) ≤ most_functions
  functions_few = let same = count (record { scope = []; made = [] }) unit.externals in let few = counted.functions in omega (arith, same, few)
