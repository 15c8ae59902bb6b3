-- Laws of bytes.
--   all_frames_light      so it is with all frames of a lowered program
use Rattle.std.proofs.Common.{◌≡◌, ◌≢◌, ◌≤◌, ◌+◌, ◌*◌, ◌/◌, ℕ, suc, List, [], ◌∷◌, ◌++◌, fold, flat_map, length, length-append, append_assoc, Option, None, Some, refl, sym, ap, subst, ◌∙◌, arith}
use Rattle.std.specs.List.{sum_by}
use Rattle.std.specs.Option.{option_map_or}
use Rattle.alf_program.specs.Tree.{Allocation}
use Rattle.alf_program.specs.Writable.{frame_bytes, own_frames, frames_of, most_frames, most_bytes_of_frames}
use Rattle.c_unit.specs.declared.types.Integer.{Integer}
use Rattle.c_unit.specs.declared.types.Integer.TheVariants.{Char, UnsignedChar, Short, UnsignedShort, Int, UnsignedInt}
use Rattle.c_unit.specs.declared.types.Scalar.{Scalar}
use Rattle.c_unit.specs.declared.types.Scalar.TheVariants as scalars
use Rattle.c_unit.specs.declared.types.Outcome.{Outcome}
use Rattle.c_unit.specs.declared.types.Outcome.TheVariants as outcomes
use Rattle.c_unit.specs.declared.external.Parameter.{Parameter}
use Rattle.c_unit.specs.Tree.{ValueTree, OfExpression, OfCall, EffectTree, Assigns, Updates, Steps, Calls, LocalShapeTree, LocalInteger, LocalPointer, LocalArray, LocalTree, Statement, Empty, Declares, Block, If, IfElse, While, Do, For, ForAfter, Switch, Case, Default, Break, Continue, Returns, Does, Statements, Nothing, Then, ShapeTree, GlobalInteger, GlobalArray, FunctionOf, DeclaratorTree, ExternalTree, Declaration, Definition, statements_of}
use Rattle.c_unit.specs.Units.{UnitTree}
use Rattle.c_rules.specs.Units.{File, element_of, external_after}
use Rattle.c_meaning.specs.Values.{bits_of_type}
use Rattle.c_meaning.specs.Objects.{Object, Program, program_of, bits_of_scalar, bits_of_local, count_at, global_object, globals_declared, globals_in, owned_in, functions_in}
use Rattle.c_lowered.specs.Effects.{result_of, calls_in_shape}
use Rattle.c_lowered.specs.Statements.{calls_if, calls_in}
use Rattle.c_lowered.specs.Frames.{object_frame, result_frames, value_frames, first_frames, effect_frames, last_frames, shape_frames, locals_frames, frames_in, all_frames_in, parameter_frames, global_frame, global_frames}
use Rattle.c_lowered.specs.Programs.{lowered_from, lowered}
use Rattle.c_rules.specs.Counts.{elements_of_all, elements_in, all_elements_in}
use Rattle.c_rules.specs.Counts as counts
use Rattle.c_rules.specs.SpelledUnits.{elements_of_shape, elements_of_declarators, all_elements_of, IsCounted}
use Rattle.lowering_layout.specs.Lists.{EachOf}
use Rattle.lowering_layout.specs.CheckedLaws.{owned_owned}
use Rattle.c_limits.specs.Bytes.{bytes_in, IsLight}

bytes_joined : (xs ys : List Allocation) → bytes_in (xs ++ ys) ≡ bytes_in xs + bytes_in ys
bytes_joined [] ys = omega arith
bytes_joined (x ∷ xs) ys = let rest = bytes_joined xs ys in omega (arith, rest)

folded : (n : ℕ) (xs : List Allocation) → fold (λ (a : ℕ) (x : Allocation). a + frame_bytes x) n xs ≡ n + bytes_in xs
folded n [] = omega arith
folded n (x ∷ xs) = let rest = folded (n + frame_bytes x) xs in omega (arith, rest)

sum_is : (xs : List Allocation) → sum_by frame_bytes xs ≡ bytes_in xs
sum_is xs = let all = folded 0 xs in omega (arith, all)

light_joined : (xs ys : List Allocation) (m n : ℕ) → IsLight xs m → IsLight ys n → IsLight (xs ++ ys) (m + n)
light_joined xs ys m n h i = let b = bytes_joined xs ys in let l = length-append xs ys in omega (arith, h, i, b, l)

light_empty : (n : ℕ) → IsLight [] n
light_empty n = omega arith

type_bytes : (i : Integer) → bits_of_type i / 8 ≤ 4
type_bytes Char = omega arith
type_bytes UnsignedChar = omega arith
type_bytes Short = omega arith
type_bytes UnsignedShort = omega arith
type_bytes Int = omega arith
type_bytes UnsignedInt = omega arith

array_bytes : (i : Integer) (count : ℕ) → (count * bits_of_type i) / 8 ≤ 4 * count
array_bytes Char count = omega arith
array_bytes UnsignedChar count = omega arith
array_bytes Short count = omega arith
array_bytes UnsignedShort count = omega arith
array_bytes Int count = omega arith
array_bytes UnsignedInt count = omega arith

scalar_bytes : (t : Scalar) → bits_of_scalar t / 8 ≤ 4
scalar_bytes (scalars.Integer i) = type_bytes i
scalar_bytes (scalars.Pointer i) = omega arith

module _ (program : Program) (f : ℕ) where
  result_light : (name : List ℕ) (o : Outcome) → IsLight (result_frames name o) 0
  result_light name outcomes.Nothing = omega arith
  result_light name (outcomes.Integer i) = let low = type_bytes i in omega (arith, low)

  value_light : (c : ℕ) (value : ValueTree) → IsLight (value_frames program f c value) 0
  value_light c (OfExpression e) = omega arith
  value_light c (OfCall call) = result_light _ (result_of program call)

  first_light : (c : ℕ) (first : Option ValueTree) → IsLight (first_frames program f c first) 0
  first_light c None = omega arith
  first_light c (Some value) = value_light c value

  effect_light : (c : ℕ) (effect : EffectTree) → IsLight (effect_frames program f c effect) 0
  effect_light c (Assigns to token value) = value_light c value
  effect_light c (Updates to op token e) = omega arith
  effect_light c (Steps operand up token) = omega arith
  effect_light c (Calls call) = result_light _ (result_of program call)

  last_light : (c : ℕ) (last : Option EffectTree) → IsLight (last_frames program f c last) 0
  last_light c None = omega arith
  last_light c (Some effect) = effect_light c effect

  shape_light : (c : ℕ) (shape : LocalShapeTree) → IsLight (shape_frames program f c shape) 0
  shape_light c (LocalInteger first) = first_light c first
  shape_light c (LocalPointer first) = first_light c first
  shape_light c (LocalArray size firsts) = omega arith

  local_bytes : (kind : Integer) (shape : LocalShapeTree)
      → bits_of_local program.words kind shape / 8 ≤ 4 + 4 * counts.elements_of program.words shape
  local_bytes kind (LocalInteger first) = let low = type_bytes kind in omega (arith, low)
  local_bytes kind (LocalPointer first) = omega arith
  local_bytes kind (LocalArray size firsts) = let low = array_bytes kind (count_at program.words size) in omega (arith, low)

  locals_light : (kind : Integer) (locals : List LocalTree) (c : ℕ)
      → IsLight (locals_frames program f c kind locals) (elements_of_all program.words locals)
  locals_light kind [] c = omega arith
  locals_light kind (local ∷ locals) c =
      let here = local_bytes kind local.shape in
      let shape = shape_light c local.shape in
      let rest = locals_light kind locals (c + calls_in_shape program local.shape) in
      let both = light_joined (shape_frames program f c local.shape) (locals_frames program f (c + calls_in_shape program local.shape) kind locals) 0 (elements_of_all program.words locals) shape rest in
      omega (arith, here, both)

  mutual
    pub statement_light : (s : Statement) (c : ℕ) → IsLight (frames_in program f c s) (elements_in program.words s)
    statement_light (Empty token) c = omega arith
    statement_light (Declares first kind locals) c = locals_light kind locals c
    statement_light (Block body) c = all_light body c
    statement_light (If condition body) c = statement_light body c
    statement_light (IfElse condition body otherwise) c = light_joined (frames_in program f c body) _ (elements_in program.words body) _ (statement_light body c) (statement_light otherwise (c + calls_in program body))
    statement_light (While condition body) c = statement_light body c
    statement_light (Do body condition) c = statement_light body c
    statement_light (For condition last body) c =
        let both = light_joined (last_frames program f c last) (frames_in program f (c + calls_if program last) body) 0 (elements_in program.words body) (last_light c last) (statement_light body (c + calls_if program last)) in omega (arith, both)
    statement_light (ForAfter first condition last body) c =
        let d = c + calls_in program first in
        let both = light_joined (last_frames program f d last) (frames_in program f (d + calls_if program last) body) 0 (elements_in program.words body) (last_light d last) (statement_light body (d + calls_if program last)) in
        let all = light_joined (frames_in program f c first) (last_frames program f d last ++ frames_in program f (d + calls_if program last) body) (elements_in program.words first) (0 + elements_in program.words body) (statement_light first c) both in
        omega (arith, all)
    statement_light (Switch value body) c = all_light body c
    statement_light (Case token constant) c = omega arith
    statement_light (Default token) c = omega arith
    statement_light (Break token) c = omega arith
    statement_light (Continue token) c = omega arith
    statement_light (Returns token value) c = first_light c value
    statement_light (Does effect) c = effect_light c effect

    pub all_light : (ss : Statements) (c : ℕ)
        → IsLight (all_frames_in program f c ss) (all_elements_in program.words ss)
    all_light Nothing c = omega arith
    all_light (Then s rest) c = light_joined (frames_in program f c s) _ (elements_in program.words s) _ (statement_light s c) (all_light rest (c + calls_in program s))

module _ (program : Program) where
  parameters_light : (ps : List Parameter) → IsLight (parameter_frames program ps) 0
  parameters_light [] = omega arith
  parameters_light (p ∷ ps) = let here = scalar_bytes p.kind in let rest = parameters_light ps in omega (arith, here, rest)

  functions_light : (file : File) (xs : List ExternalTree) (f : ℕ)
      → IsLight (flat_map own_frames (lowered_from program f (functions_in file xs))) (all_elements_of program.words xs)
  functions_light file [] f = omega arith
  functions_light file (Declaration first o ds ∷ xs) f = let rest = functions_light (external_after file (Declaration first o ds)) xs f in omega (arith, rest)
  functions_light file (Definition first o name params body ∷ xs) f =
      let further = external_after file (Definition first o name params body) in
      let own = light_joined (parameter_frames program params) (all_frames_in program f 0 (statements_of body)) 0 (all_elements_in program.words (statements_of body)) (parameters_light params) (all_light program f (statements_of body) 0) in
      let all = light_joined (parameter_frames program params ++ all_frames_in program f 0 (statements_of body)) (flat_map own_frames (lowered_from program (suc f) (functions_in further xs))) (0 + all_elements_in program.words (statements_of body)) (all_elements_of program.words xs) own (functions_light further xs (suc f)) in
      omega (arith, all)

  -- ---- globals

  no_frame : (o : Object) (x : Option ℕ) → o.owner ≢ None → o.owner ≡ x → global_frame program o ≡ []
  no_frame o None own is = absurd (own is)
  no_frame o (Some g) own is = ap (λ (x : Option ℕ). option_map_or (λ owner. []) x (object_frame program o.token o.bits ∷ [])) is

  owned_frames : (os : List Object) → EachOf (λ (o : Object). o.owner ≢ None) os
      → flat_map (global_frame program) os ≡ []
  owned_frames [] own = refl
  owned_frames (o ∷ os) own = ap (λ (xs : List Allocation). xs ++ flat_map (global_frame program) os) (no_frame o o.owner own.0 refl) ∙ owned_frames os own.1

  flat_joined : (xs ys : List Object) → flat_map (global_frame program) (xs ++ ys) ≡ flat_map (global_frame program) xs ++ flat_map (global_frame program) ys
  flat_joined [] ys = refl
  flat_joined (x ∷ xs) ys = ap (λ (zs : List Allocation). global_frame program x ++ zs) (flat_joined xs ys) ∙ sym (append_assoc (global_frame program x) (flat_map (global_frame program) xs) (flat_map (global_frame program) ys))

  shape_frames_light : (i : Integer) (name : ℕ) (shape : ShapeTree) → IsLight (flat_map (global_frame program) (global_object program.words i name shape)) (elements_of_shape program.words shape)
  shape_frames_light i name (GlobalInteger first) = let low = type_bytes i in omega (arith, low)
  shape_frames_light i name (GlobalArray size firsts) = let low = array_bytes i (count_at program.words size) in omega (arith, low)
  shape_frames_light i name (FunctionOf params) = omega arith

  flat_light : (xs ys : List Object) (m n : ℕ) → IsLight (flat_map (global_frame program) xs) m
      → IsLight (flat_map (global_frame program) ys) n → IsLight (flat_map (global_frame program) (xs ++ ys)) (m + n)
  flat_light xs ys m n h i = subst (λ (zs : List Allocation). IsLight zs (m + n)) (sym (flat_joined xs ys)) (light_joined (flat_map (global_frame program) xs) (flat_map (global_frame program) ys) m n h i)

  declared_light : (i : Integer) (ds : List DeclaratorTree) → IsLight (flat_map (global_frame program) (globals_declared program.words i ds)) (elements_of_declarators program.words ds)
  declared_light i [] = omega arith
  declared_light i (d ∷ ds) = flat_light (global_object program.words i d.name d.shape) (globals_declared program.words i ds) (elements_of_shape program.words d.shape) (elements_of_declarators program.words ds) (shape_frames_light i d.name d.shape) (declared_light i ds)

  globals_light : (xs : List ExternalTree)
      → IsLight (flat_map (global_frame program) (globals_in program.words xs)) (all_elements_of program.words xs)
  globals_light [] = omega arith
  globals_light (Declaration first o ds ∷ xs) = flat_light (globals_declared program.words (element_of o) ds) (globals_in program.words xs) (elements_of_declarators program.words ds) (all_elements_of program.words xs) (declared_light (element_of o) ds) (globals_light xs)
  globals_light (Definition first o name params body ∷ xs) = let rest = globals_light xs in omega (arith, rest)

module _ (unit : UnitTree) where
  abbrev whole : Program
  whole = program_of unit

  -- four bytes for each frame and for each element, twice, are enough
  pub all_frames_light : IsLight (frames_of (lowered unit)) (all_elements_of unit.words unit.externals + all_elements_of unit.words unit.externals)
  all_frames_light =
      let globals = globals_in unit.words unit.externals in
      let owned = owned_in unit.words 0 unit.externals in
      let e = all_elements_of unit.words unit.externals in
      let none : IsLight (flat_map (global_frame whole) owned) 0 = subst (λ (zs : List Allocation). IsLight zs 0) (sym (owned_frames whole owned (owned_owned unit.words 0 unit.externals))) (light_empty 0) in
      let first = flat_light whole globals owned e 0 (globals_light whole unit.externals) none in
      let second = functions_light whole (record { scope = []; made = [] }) unit.externals 0 in
      let all = light_joined (global_frames whole) (flat_map own_frames (lowered unit).funcs) (e + 0) e first second in
      omega (arith, all)

  pub few_bytes : (IsNamed : List ℕ → Type 0) → IsCounted IsNamed unit → length (frames_of (lowered unit)) ≤ most_frames
      → sum_by frame_bytes (frames_of (lowered unit)) ≤ most_bytes_of_frames
  few_bytes IsNamed counted few =
      let light = all_frames_light in
      let sum = sum_is (frames_of (lowered unit)) in
      let elements = counted.elements in
      omega (arith, light, sum, elements, few)
