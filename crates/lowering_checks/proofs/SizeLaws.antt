-- Sizes of frames.
--   IsFrameSize bits        whole bytes, at least one, and not too many
--   statement_sizes         the frames of statements have such sizes, and so have those of globals and of parameters
use Rattle.std.proofs.Common.{◌≡◌, ◌<◌, ◌≤◌, ◌+◌, ◌*◌, ◌%◌, ℕ, List, [], ◌∷◌, ◌++◌, map, Option, None, Some, refl, arith}
use Rattle.alf_program.specs.Tree.{Allocation}
use Rattle.c_unit.specs.declared.types.Integer.{Integer}
use Rattle.c_unit.specs.declared.types.Integer.TheVariants.{Char, UnsignedChar, Short, UnsignedShort, Int, UnsignedInt}
use Rattle.c_unit.specs.declared.types.Scalar.{Scalar}
use Rattle.c_unit.specs.declared.types.Scalar.TheVariants as scalars
use Rattle.c_unit.specs.declared.types.Outcome.{Outcome}
use Rattle.c_unit.specs.declared.types.Outcome.TheVariants as outcomes
use Rattle.c_unit.specs.declared.external.Parameter.{Parameter}
use Rattle.c_unit.specs.Tree.{ValueTree, OfExpression, OfCall, EffectTree, Assigns, Updates, Steps, Calls, LocalShapeTree, LocalInteger, LocalPointer, LocalArray, LocalTree, Statement, Empty, Declares, Block, If, IfElse, While, Do, For, ForAfter, Switch, Case, Default, Break, Continue, Returns, Does, Statements, Nothing, Then, ShapeTree, GlobalInteger, GlobalArray, FunctionOf, DeclaratorTree, ExternalTree, Declaration, Definition}
use Rattle.c_rules.specs.Names.{Scope}
use Rattle.c_rules.specs.Statements.{with_local, Around, inside, in_loop_of, in_switch_of, around_after, scopes_after}
use Rattle.c_rules.specs.Standing.{ShapeStands, LocalsStand, StatementStands, StatementsStand}
use Rattle.c_rules.specs.Units.{File, element_of, global_bound, with_global, external_after}
use Rattle.c_rules.specs.UnitsStand
use Rattle.c_rules.specs.UnitsStand.{DeclaratorsStand, ExternalsStand}
use Rattle.c_meaning.specs.Values.{bits_of_type}
use Rattle.c_meaning.specs.Objects.{Object, Program, count_at, bits_of_scalar, bits_of_local, local_object, locals_in, all_locals_in, global_object, globals_declared, globals_in}
use Rattle.c_lowered.specs.Effects.{result_of, calls_in_shape}
use Rattle.c_lowered.specs.Statements.{calls_if, calls_in}
use Rattle.c_lowered.specs.Frames.{result_frames, value_frames, first_frames, effect_frames, last_frames, shape_frames, locals_frames, frames_in, all_frames_in, parameter_frames}
use Rattle.lowering_layout.specs.Lists.{EachOf}
use Rattle.lowering_layout.specs.ListLaws.{each_joined, each_parts}

pub record IsFrameSize (bits : ℕ) : Type 0 where
  pub some : 1 ≤ bits
  pub bytes : bits % 8 ≡ 0
  pub small : bits ≤ 524288

type_size : (i : Integer) → IsFrameSize (bits_of_type i)
type_size Char = record { some = omega arith; bytes = refl; small = omega arith }
type_size UnsignedChar = record { some = omega arith; bytes = refl; small = omega arith }
type_size Short = record { some = omega arith; bytes = refl; small = omega arith }
type_size UnsignedShort = record { some = omega arith; bytes = refl; small = omega arith }
type_size Int = record { some = omega arith; bytes = refl; small = omega arith }
type_size UnsignedInt = record { some = omega arith; bytes = refl; small = omega arith }

pub scalar_size : (t : Scalar) → IsFrameSize (bits_of_scalar t)
scalar_size (scalars.Integer i) = type_size i
scalar_size (scalars.Pointer i) = record { some = omega arith; bytes = refl; small = omega arith }

array_size : (i : Integer) (count : ℕ) → 0 < count → count * bits_of_type i ≤ 262144
    → IsFrameSize (count * bits_of_type i)
array_size Char count some small = record { some = omega (arith, some); bytes = omega arith; small = omega (arith, small) }
array_size UnsignedChar count some small = record { some = omega (arith, some); bytes = omega arith; small = omega (arith, small) }
array_size Short count some small = record { some = omega (arith, some); bytes = omega arith; small = omega (arith, small) }
array_size UnsignedShort count some small = record { some = omega (arith, some); bytes = omega arith; small = omega (arith, small) }
array_size Int count some small = record { some = omega (arith, some); bytes = omega arith; small = omega (arith, small) }
array_size UnsignedInt count some small = record { some = omega (arith, some); bytes = omega arith; small = omega (arith, small) }

abbrev pub AreSized : List Allocation → Type 0
AreSized frames = EachOf (λ (a : Allocation). IsFrameSize a.bits) frames

abbrev pub AreSmall : List Object → Type 0
AreSmall os = EachOf (λ (o : Object). o.bits ≤ 262144) os

joined_sizes : (xs ys : List Allocation) → AreSized xs → AreSized ys → AreSized (xs ++ ys)
joined_sizes xs ys h i = each_joined (λ (a : Allocation). IsFrameSize a.bits) xs ys h i

small_parts : (xs ys : List Object) → AreSmall (xs ++ ys) → AreSmall xs × AreSmall ys
small_parts xs ys h = each_parts (λ (o : Object). o.bits ≤ 262144) xs ys h

module _ (program : Program) (defined : List ℕ) (f : ℕ) where
  result_sizes : (name : List ℕ) (o : Outcome) → AreSized (result_frames name o)
  result_sizes name outcomes.Nothing = tt
  result_sizes name (outcomes.Integer i) = (type_size i, tt)

  value_sizes : (c : ℕ) (value : ValueTree) → AreSized (value_frames program f c value)
  value_sizes c (OfExpression e) = tt
  value_sizes c (OfCall call) = result_sizes _ (result_of program call)

  first_sizes : (c : ℕ) (first : Option ValueTree) → AreSized (first_frames program f c first)
  first_sizes c None = tt
  first_sizes c (Some value) = value_sizes c value

  effect_sizes : (c : ℕ) (effect : EffectTree) → AreSized (effect_frames program f c effect)
  effect_sizes c (Assigns to token value) = value_sizes c value
  effect_sizes c (Updates to op token e) = tt
  effect_sizes c (Steps operand up token) = tt
  effect_sizes c (Calls call) = result_sizes _ (result_of program call)

  last_sizes : (c : ℕ) (last : Option EffectTree) → AreSized (last_frames program f c last)
  last_sizes c None = tt
  last_sizes c (Some effect) = effect_sizes c effect

  shape_sizes : (c : ℕ) (shape : LocalShapeTree) → AreSized (shape_frames program f c shape)
  shape_sizes c (LocalInteger first) = first_sizes c first
  shape_sizes c (LocalPointer first) = first_sizes c first
  shape_sizes c (LocalArray size firsts) = tt

  local_size : (scopes : List Scope) (kind : Integer) (shape : LocalShapeTree)
      → ShapeStands program.words defined scopes kind shape → bits_of_local program.words kind shape ≤ 262144
      → IsFrameSize (bits_of_local program.words kind shape)
  local_size scopes kind (LocalInteger first) stand small = type_size kind
  local_size scopes kind (LocalPointer first) stand small = record { some = omega arith; bytes = refl; small = omega arith }
  local_size scopes kind (LocalArray size firsts) stand small = array_size kind (count_at program.words size) stand.some small

  locals_sizes : (kind : Integer) (scopes : List Scope) (locals : List LocalTree) (c : ℕ)
      → LocalsStand program.words defined kind scopes locals → AreSmall (map (local_object program.words f kind) locals)
      → AreSized (locals_frames program f c kind locals)
  locals_sizes kind scopes [] c stand small = tt
  locals_sizes kind scopes (local ∷ locals) c stand small = (
    local_size (with_local kind scopes local) kind local.shape stand.1 small.0,
    joined_sizes (shape_frames program f c local.shape) _ (shape_sizes c local.shape) (locals_sizes kind (with_local kind scopes local) locals (c + calls_in_shape program local.shape) stand.2 small.1),
  )

  mutual
    pub statement_sizes : (a : Around) (scopes : List Scope) (s : Statement) (c : ℕ)
        → StatementStands program.words defined a scopes s → AreSmall (locals_in program.words f s)
        → AreSized (frames_in program f c s)
    statement_sizes a scopes (Empty token) c stand small = tt
    statement_sizes a scopes (Declares first kind locals) c stand small = locals_sizes kind scopes locals c stand small
    statement_sizes a scopes (Block body) c stand small = all_sizes (inside a) ([] ∷ scopes) body c stand small
    statement_sizes a scopes (If condition body) c stand small = statement_sizes (inside a) ([] ∷ scopes) body c stand.1 small
    statement_sizes a scopes (IfElse condition body otherwise) c stand small =
        let parts = small_parts (locals_in program.words f body) (locals_in program.words f otherwise) small in
        joined_sizes (frames_in program f c body) _ (statement_sizes (inside a) ([] ∷ scopes) body c stand.1 parts.0) (statement_sizes (inside a) ([] ∷ scopes) otherwise (c + calls_in program body) stand.2 parts.1)
    statement_sizes a scopes (While condition body) c stand small = statement_sizes (in_loop_of a) ([] ∷ scopes) body c stand.1 small
    statement_sizes a scopes (Do body condition) c stand small = statement_sizes (in_loop_of a) ([] ∷ scopes) body c stand.0 small
    statement_sizes a scopes (For condition last body) c stand small =
        joined_sizes (last_frames program f c last) _ (last_sizes c last) (statement_sizes (in_loop_of a) ([] ∷ scopes) body (c + calls_if program last) stand.2 small)
    statement_sizes a scopes (ForAfter first condition last body) c stand small =
        let parts = small_parts (locals_in program.words f first) (locals_in program.words f body) small in
        let d = c + calls_in program first in
        joined_sizes (frames_in program f c first) _ (statement_sizes (inside a) ([] ∷ scopes) first c stand.0 parts.0)
        (joined_sizes (last_frames program f d last) _ (last_sizes d last) (statement_sizes (in_loop_of a) ([] ∷ scopes_after ([] ∷ scopes) first) body (d + calls_if program last) stand.3 parts.1))
    statement_sizes a scopes (Switch value body) c stand small = all_sizes (in_switch_of a) ([] ∷ scopes) body c stand.1 small
    statement_sizes a scopes (Case token constant) c stand small = tt
    statement_sizes a scopes (Default token) c stand small = tt
    statement_sizes a scopes (Break token) c stand small = tt
    statement_sizes a scopes (Continue token) c stand small = tt
    statement_sizes a scopes (Returns token value) c stand small = first_sizes c value
    statement_sizes a scopes (Does effect) c stand small = effect_sizes c effect

    pub all_sizes : (a : Around) (scopes : List Scope) (ss : Statements) (c : ℕ)
        → StatementsStand program.words defined a scopes ss → AreSmall (all_locals_in program.words f ss)
        → AreSized (all_frames_in program f c ss)
    all_sizes a scopes Nothing c stand small = tt
    all_sizes a scopes (Then s rest) c stand small =
        let parts = small_parts (locals_in program.words f s) (all_locals_in program.words f rest) small in
        joined_sizes (frames_in program f c s) _ (statement_sizes a scopes s c stand.0 parts.0) (all_sizes (around_after program.words a s) (scopes_after scopes s) rest (c + calls_in program s) stand.1 parts.1)

  -- ---- parameters and globals

  pub parameters_sizes : (params : List Parameter) → AreSized (parameter_frames program params)
  parameters_sizes [] = tt
  parameters_sizes (p ∷ ps) = (scalar_size p.kind, parameters_sizes ps)

  abbrev pub Sized : Object → Type 0
  Sized o = IsFrameSize o.bits

  declared_sizes : (o : Outcome) (file : File) (ds : List DeclaratorTree) → DeclaratorsStand program.words o file ds
      → AreSmall (globals_declared program.words (element_of o) ds)
      → EachOf Sized (globals_declared program.words (element_of o) ds)
  declared_sizes o file [] stand small = tt
  declared_sizes o file (d ∷ ds) stand small =
      let parts = small_parts (global_object program.words (element_of o) d.name d.shape) (globals_declared program.words (element_of o) ds) small in
      each_joined Sized (global_object program.words (element_of o) d.name d.shape) (globals_declared program.words (element_of o) ds) (shape_size d.shape stand.0 parts.0) (declared_sizes o (with_global file d.name (global_bound o d.shape)) ds stand.1 parts.1)
    where
      shape_size : (shape : ShapeTree) → UnitsStand.ShapeStands program.words file.scope o d.name shape
          → AreSmall (global_object program.words (element_of o) d.name shape)
          → EachOf Sized (global_object program.words (element_of o) d.name shape)
      shape_size (GlobalInteger first) stand small = (type_size (element_of o), tt)
      shape_size (GlobalArray size firsts) stand small = (array_size (element_of o) (count_at program.words size) stand.1.some small.0, tt)
      shape_size (FunctionOf params) stand small = tt

  pub globals_sizes : (file : File) (xs : List ExternalTree) → ExternalsStand program.words defined file xs
      → AreSmall (globals_in program.words xs) → EachOf Sized (globals_in program.words xs)
  globals_sizes file [] stand small = tt
  globals_sizes file (Declaration first o ds ∷ xs) stand small =
      let parts = small_parts (globals_declared program.words (element_of o) ds) (globals_in program.words xs) small in
      each_joined Sized (globals_declared program.words (element_of o) ds) (globals_in program.words xs) (declared_sizes o file ds stand.0 parts.0) (globals_sizes (external_after file (Declaration first o ds)) xs stand.1 parts.1)
  globals_sizes file (Definition first o name params body ∷ xs) stand small = globals_sizes (external_after file (Definition first o name params body)) xs stand.1 small
