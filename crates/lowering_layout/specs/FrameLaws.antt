-- The frames of a lowered program are those of its unit, where names are as HasNames says.
--   statement_part, statements_part   the frames of statements are those of their locals and of the results of their calls
--   parameters_part                   and those of parameters are theirs
--   FramesHavePlaces        each object has a frame of its own, with its owner and its size
--   FunctionsAreLowered     function f of the lowered program is function f, lowered
--   NamesAreNumbered        names in a function's code stand for the frames of its objects and of its results
--   GlobalFramesAreObjects  each global frame is that of an object
--   ProgramsAreLaidOut      arguments, exports and first words lie where the objects lie
use Rattle.std.specs.Prelude.{◌≡◌, ℕ, List, None, Some, slice_get}
use Rattle.alf_check.specs.declared.rows.FrameRow.{FrameRow}
use Rattle.alf_check.specs.Numbers.{frame_rows, first_frame, numbers_in}
use Rattle.alf_check.specs.Numbered.{numbered}
use Rattle.c_unit.specs.Units.{UnitTree}
use Rattle.c_meaning.specs.Objects.{Function, program_of, functions_of, Program, locals_in, all_locals_in, local_object, parameter_object}
use Rattle.c_lowered.specs.Programs.{lowered_function, lowered}
use Rattle.lowering_layout.specs.Spelled.{HasNames}
use Rattle.lowering_values.specs.Frames.{frame_number, FramesStand, IsNaming}
use Rattle.lowering_values.specs.Agreement.{IsLaidOut}
use Rattle.std.proofs.Common.{◌<◌, ◌≤◌, ◌^◌, ◌+◌, [], ◌∷◌, ◌++◌, map, length, Option, refl, arith}
use Rattle.c_unit.specs.declared.types.Integer.{Integer}
use Rattle.c_unit.specs.declared.types.Outcome.{Outcome}
use Rattle.c_unit.specs.declared.types.Outcome.TheVariants as outcomes
use Rattle.c_unit.specs.declared.external.Parameter.{Parameter}
use Rattle.c_unit.specs.Tree.{ValueTree, OfExpression, OfCall, EffectTree, Assigns, Updates, Steps, Calls, LocalShapeTree, LocalInteger, LocalPointer, LocalArray, LocalTree, Statement, Empty, Declares, Block, If, IfElse, While, Do, For, ForAfter, Switch, Case, Default, Break, Continue, Returns, Does, Statements, Nothing, Then}
use Rattle.c_lowered.specs.Effects.{calls_of_outcome, result_of, calls_in_value, calls_in_effect, calls_in_first, calls_in_shape, calls_in_locals}
use Rattle.c_lowered.specs.Statements.{calls_if, calls_in, calls_in_all}
use Rattle.c_lowered.specs.Names.{call_name}
use Rattle.c_lowered.specs.Frames.{result_frames, value_frames, first_frames, effect_frames, last_frames, shape_frames, locals_frames, frames_in, all_frames_in, parameter_frame, parameter_frames}
use Rattle.lowering_layout.specs.ListLaws.{each_parts, apart_parts}
use Rattle.lowering_layout.specs.Places.{OfOtherFrames}
use Rattle.lowering_layout.specs.PartFrames.{IsObject, Part}
use Rattle.lowering_layout.specs.PartFrameLaws.{part_is, nothing, an_object, a_result, joined}
use Rattle.lowering_layout.specs.Frames.{AreObjects, AreApart}

module _ (program : Program) (names : HasNames program) (f : ℕ) (low : f < length program.functions) where
  -- ---- frames of results

  result_part : (o : Outcome) (lo : ℕ) → lo + calls_of_outcome o ≤ 10 ^ 64
      → Part program f [] lo (calls_of_outcome o) (result_frames (call_name program f lo) o)
  result_part outcomes.Nothing lo most = nothing program f lo
  result_part (outcomes.Integer i) lo most = a_result program f lo _ low (omega (arith, most))

  value_part : (value : ValueTree) (lo : ℕ) → lo + calls_in_value program value ≤ 10 ^ 64
      → Part program f [] lo (calls_in_value program value) (value_frames program f lo value)
  value_part (OfExpression e) lo most = nothing program f lo
  value_part (OfCall call) lo most = result_part (result_of program call) lo most

  first_part : (first : Option ValueTree) (lo : ℕ) → lo + calls_in_first program first ≤ 10 ^ 64
      → Part program f [] lo (calls_in_first program first) (first_frames program f lo first)
  first_part None lo most = nothing program f lo
  first_part (Some value) lo most = value_part value lo most

  effect_part : (effect : EffectTree) (lo : ℕ) → lo + calls_in_effect program effect ≤ 10 ^ 64
      → Part program f [] lo (calls_in_effect program effect) (effect_frames program f lo effect)
  effect_part (Assigns to token value) lo most = value_part value lo most
  effect_part (Updates to op token e) lo most = nothing program f lo
  effect_part (Steps operand up token) lo most = nothing program f lo
  effect_part (Calls call) lo most = result_part (result_of program call) lo most

  last_part : (last : Option EffectTree) (lo : ℕ) → lo + calls_if program last ≤ 10 ^ 64
      → Part program f [] lo (calls_if program last) (last_frames program f lo last)
  last_part None lo most = nothing program f lo
  last_part (Some effect) lo most = effect_part effect lo most

  shape_part : (shape : LocalShapeTree) (lo : ℕ) → lo + calls_in_shape program shape ≤ 10 ^ 64
      → Part program f [] lo (calls_in_shape program shape) (shape_frames program f lo shape)
  shape_part (LocalInteger first) lo most = first_part first lo most
  shape_part (LocalPointer first) lo most = first_part first lo most
  shape_part (LocalArray size firsts) lo most = nothing program f lo

  -- ---- frames of locals

  locals_part : (kind : Integer) (locals : List LocalTree) (lo : ℕ) → lo + calls_in_locals program locals ≤ 10 ^ 64
      → AreObjects program names f low (map (local_object program.words f kind) locals)
      → AreApart program names f low (map (local_object program.words f kind) locals)
      → Part program f (map (local_object program.words f kind) locals) lo (calls_in_locals program locals) (locals_frames program f lo kind locals)
  locals_part kind [] lo most are apart = nothing program f lo
  locals_part kind (local ∷ locals) lo most are apart =
      let o = local_object program.words f kind local in
      let os = map (local_object program.words f kind) locals in
      let here = calls_in_shape program local.shape in
      let rest = calls_in_locals program locals in
      part_is program f (o ∷ os) lo (0 + (here + rest)) (here + rest) (locals_frames program f lo kind (local ∷ locals)) (omega arith)
      (joined program names f lo 0 lo (here + rest) (o ∷ []) os _ (shape_frames program f lo local.shape ++ locals_frames program f (lo + here) kind locals) (omega arith) (apart.0, tt)
      (an_object program f lo o are.0)
      (joined program names f lo here (lo + here) rest [] os (shape_frames program f lo local.shape) (locals_frames program f (lo + here) kind locals) refl tt
      (shape_part local.shape lo (omega (arith, most))) (locals_part kind locals (lo + here) (omega (arith, most)) are.1 apart.1)))

  -- ---- frames of statements

  mutual
    pub statement_part : (s : Statement) (lo : ℕ) → lo + calls_in program s ≤ 10 ^ 64
        → AreObjects program names f low (locals_in program.words f s)
        → AreApart program names f low (locals_in program.words f s)
        → Part program f (locals_in program.words f s) lo (calls_in program s) (frames_in program f lo s)
    statement_part (Empty token) lo most are apart = nothing program f lo
    statement_part (Declares first kind locals) lo most are apart = locals_part kind locals lo most are apart
    statement_part (Block body) lo most are apart = statements_part body lo most are apart
    statement_part (If condition body) lo most are apart = statement_part body lo most are apart
    statement_part (IfElse condition body otherwise) lo most are apart =
        let here = calls_in program body in
        let parts = apart_parts (OfOtherFrames program names) (locals_in program.words f body) (locals_in program.words f otherwise) apart in
        let objects = each_parts (IsObject program) (locals_in program.words f body) (locals_in program.words f otherwise) are in
        joined program names f lo here (lo + here) (calls_in program otherwise) (locals_in program.words f body) (locals_in program.words f otherwise) (frames_in program f lo body) (frames_in program f (lo + here) otherwise) refl parts.across
        (statement_part body lo (omega (arith, most)) objects.0 parts.left) (statement_part otherwise (lo + here) (omega (arith, most)) objects.1 parts.right)
    statement_part (While condition body) lo most are apart = statement_part body lo most are apart
    statement_part (Do body condition) lo most are apart = statement_part body lo most are apart
    statement_part (For condition last body) lo most are apart =
        let here = calls_if program last in
        joined program names f lo here (lo + here) (calls_in program body) [] (locals_in program.words f body) (last_frames program f lo last) (frames_in program f (lo + here) body) refl tt
        (last_part last lo (omega (arith, most))) (statement_part body (lo + here) (omega (arith, most)) are apart)
    statement_part (ForAfter first condition last body) lo most are apart =
        let before = calls_in program first in
        let here = calls_if program last in
        let parts = apart_parts (OfOtherFrames program names) (locals_in program.words f first) (locals_in program.words f body) apart in
        let objects = each_parts (IsObject program) (locals_in program.words f first) (locals_in program.words f body) are in
        joined program names f lo before (lo + before) (here + calls_in program body) (locals_in program.words f first) (locals_in program.words f body) (frames_in program f lo first)
        (last_frames program f (lo + before) last ++ frames_in program f (lo + before + here) body) refl parts.across
        (statement_part first lo (omega (arith, most)) objects.0 parts.left)
        (joined program names f (lo + before) here (lo + before + here) (calls_in program body) [] (locals_in program.words f body) (last_frames program f (lo + before) last) (frames_in program f (lo + before + here) body) refl tt
        (last_part last (lo + before) (omega (arith, most))) (statement_part body (lo + before + here) (omega (arith, most)) objects.1 parts.right))
    statement_part (Switch value body) lo most are apart = statements_part body lo most are apart
    statement_part (Case token c) lo most are apart = nothing program f lo
    statement_part (Default token) lo most are apart = nothing program f lo
    statement_part (Break token) lo most are apart = nothing program f lo
    statement_part (Continue token) lo most are apart = nothing program f lo
    statement_part (Returns token value) lo most are apart = first_part value lo most
    statement_part (Does effect) lo most are apart = effect_part effect lo most

    pub statements_part : (ss : Statements) (lo : ℕ) → lo + calls_in_all program ss ≤ 10 ^ 64
        → AreObjects program names f low (all_locals_in program.words f ss)
        → AreApart program names f low (all_locals_in program.words f ss)
        → Part program f (all_locals_in program.words f ss) lo (calls_in_all program ss) (all_frames_in program f lo ss)
    statements_part Nothing lo most are apart = nothing program f lo
    statements_part (Then s rest) lo most are apart =
        let here = calls_in program s in
        let parts = apart_parts (OfOtherFrames program names) (locals_in program.words f s) (all_locals_in program.words f rest) apart in
        let objects = each_parts (IsObject program) (locals_in program.words f s) (all_locals_in program.words f rest) are in
        joined program names f lo here (lo + here) (calls_in_all program rest) (locals_in program.words f s) (all_locals_in program.words f rest) (frames_in program f lo s) (all_frames_in program f (lo + here) rest) refl parts.across
        (statement_part s lo (omega (arith, most)) objects.0 parts.left) (statements_part rest (lo + here) (omega (arith, most)) objects.1 parts.right)

  -- ---- frames of parameters

  pub parameters_part : (params : List Parameter) → AreObjects program names f low (map (parameter_object f) params)
      → AreApart program names f low (map (parameter_object f) params)
      → Part program f (map (parameter_object f) params) 0 0 (parameter_frames program params)
  parameters_part [] are apart = nothing program f 0
  parameters_part (p ∷ ps) are apart =
      joined program names f 0 0 0 0 (parameter_object f p ∷ []) (map (parameter_object f) ps) (parameter_frame program p ∷ []) (parameter_frames program ps) refl (apart.0, tt)
      (an_object program f 0 (parameter_object f p) are.0) (parameters_part ps are.1 apart.1)

abbrev pub FramesHavePlaces : Type 0
FramesHavePlaces = (unit : UnitTree) → HasNames (program_of unit) → FramesStand unit

abbrev pub FunctionsAreLowered : Type 0
FunctionsAreLowered = (unit : UnitTree) (f : ℕ) (function : Function)
    → slice_get (functions_of unit) f ≡ Some function
    → slice_get (lowered unit).funcs f ≡ Some (lowered_function (program_of unit) f function)

abbrev pub NamesAreNumbered : Type 0
NamesAreNumbered = (unit : UnitTree) (f : ℕ) (function : Function)
    → HasNames (program_of unit)
    → slice_get (functions_of unit) f ≡ Some function
    → IsNaming unit f (numbers_in (lowered unit) (first_frame (lowered unit) f)
    (lowered_function (program_of unit) f function)).frame

abbrev pub GlobalFramesAreObjects : Type 0
GlobalFramesAreObjects = (unit : UnitTree) (n : ℕ) (row : FrameRow)
    → HasNames (program_of unit)
    → slice_get (frame_rows (lowered unit)) n ≡ Some row
    → row.owner ≡ None
    → (o : ℕ) × (n ≡ frame_number unit o)

-- whatever the root is
abbrev pub ProgramsAreLaidOut : Type 0
ProgramsAreLaidOut = (unit : UnitTree) (root : List ℕ) → HasNames (program_of unit)
    → IsLaidOut unit (numbered (lowered unit) root)
