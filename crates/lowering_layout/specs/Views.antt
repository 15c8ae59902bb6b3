-- Frames of a whole lowered program.
--   own_objects words f function   the parameters and the locals of function f
--   owned_from words f functions   those of the functions from this number on
--   View program f function        the global frames, and the arguments and declarations of function f, as parts that have no name in common
--   globals_part          so are those of a program
use Rattle.std.proofs.Common.{◌≡◌, ◌≢◌, ◌+◌, ℕ, suc, List, [], ◌∷◌, ◌++◌, map, flat_map, Option, None, Some, refl, sym, ap, ◌∙◌, subst, arith, append_assoc}
use Rattle.std.specs.Option.{option_map_or}
use Rattle.alf_program.specs.Tree.{Allocation}
use Rattle.c_unit.specs.Tree.{ExternalTree, Declaration, Definition, statements_of}
use Rattle.c_unit.specs.Units.{Word, UnitTree}
use Rattle.c_rules.specs.Units.{File, external_after}
use Rattle.c_meaning.specs.Objects.{Object, Function, Program, program_of, all_locals_in, parameter_object, owned_in, globals_in, objects_of, functions_in, functions_of}
use Rattle.c_lowered.specs.Statements.{calls_in_all}
use Rattle.c_lowered.specs.Frames.{object_frame, all_frames_in, parameter_frames, global_frame, global_frames}
use Rattle.lowering_layout.specs.Lists.{EachOf, Apart, Across, InParts}
use Rattle.lowering_layout.specs.ListLaws.{each_parts, apart_parts}
use Rattle.lowering_layout.specs.Spelled.{HasNames}
use Rattle.lowering_layout.specs.CheckedLaws.{globals_global, owned_owned}
use Rattle.lowering_layout.specs.Places.{OfOtherFrames}
use Rattle.lowering_layout.specs.PlaceLaws.{frames_apart, each_of_places}
use Rattle.lowering_layout.specs.PartFrames.{DifferInName, IsObject, Part}
use Rattle.lowering_layout.specs.PartFrameLaws.{nothing, an_object, joined}

-- the parameters and the locals of function f
abbrev pub own_objects : List Word → ℕ → Function → List Object
own_objects words f function = map (parameter_object f) function.parameters ++ all_locals_in words f function.body

-- those of the functions from this number on
abbrev pub owned_from : List Word → ℕ → List Function → List Object
owned_from words f [] = []
owned_from words f (function ∷ functions) = own_objects words f function ++ owned_from words (suc f) functions

owned_is : (words : List Word) (f : ℕ) (file : File) (xs : List ExternalTree)
    → owned_in words f xs ≡ owned_from words f (functions_in file xs)
owned_is words f file [] = refl
owned_is words f file (Declaration first o ds ∷ xs) = owned_is words f (external_after file (Declaration first o ds)) xs
owned_is words f file (Definition first o name params body ∷ xs) =
    let further = external_after file (Definition first o name params body) in
    let rest : owned_in words (f + 1) xs ≡ owned_from words (suc f) (functions_in further xs) =
    ap (λ (k : ℕ). owned_in words k xs) (let one : f + 1 ≡ suc f = omega arith in one)
    ∙ owned_is words (suc f) further xs in
    ap (λ (os : List Object). map (parameter_object f) params ++ (all_locals_in words f (statements_of body) ++ os)) rest
    ∙ sym (append_assoc (map (parameter_object f) params) (all_locals_in words f (statements_of body)) (owned_from words (suc f) (functions_in further xs)))

-- ---- global frames

module _ (program : Program) where
  no_frame : (o : Object) (x : Option ℕ) → o.owner ≢ None → o.owner ≡ x → global_frame program o ≡ []
  no_frame o None own is = absurd (own is)
  no_frame o (Some g) own is = ap (λ (x : Option ℕ). option_map_or (λ owner. []) x (object_frame program o.token o.bits ∷ [])) is

  owned_frames : (os : List Object) → EachOf (λ (o : Object). o.owner ≢ None) os
      → flat_map (global_frame program) os ≡ []
  owned_frames [] own = refl
  owned_frames (o ∷ os) own = ap (λ (xs : List Allocation). xs ++ flat_map (global_frame program) os) (no_frame o o.owner own.0 refl) ∙ owned_frames os own.1

  globals_first : (gs os : List Object) → EachOf (λ (o : Object). o.owner ≡ None) gs
      → EachOf (λ (o : Object). o.owner ≢ None) os
      → flat_map (global_frame program) (gs ++ os) ≡ map (λ (o : Object). object_frame program o.token o.bits) gs
  globals_first [] os none own = owned_frames os own
  globals_first (g ∷ gs) os none own =
      ap (λ (x : Option ℕ). option_map_or (λ owner. []) x (object_frame program g.token g.bits ∷ []) ++ flat_map (global_frame program) (gs ++ os)) none.0
      ∙ ap (λ (frames : List Allocation). object_frame program g.token g.bits ∷ frames) (globals_first gs os none.1 own)

module _ (program : Program) (names : HasNames program) where
  objects_part : (f : ℕ) (gs : List Object) → EachOf (IsObject program) gs → Apart (OfOtherFrames program names) gs
      → Part program f gs 0 0 (map (λ (o : Object). object_frame program o.token o.bits) gs)
  objects_part f [] are apart = nothing program f 0
  objects_part f (g ∷ gs) are apart =
      joined program names f 0 0 0 0 (g ∷ []) gs (object_frame program g.token g.bits ∷ [])
      (map (λ (o : Object). object_frame program o.token o.bits) gs) refl (apart.0, tt)
      (an_object program f 0 g are.0) (objects_part f gs are.1 apart.1)

-- the frames that function f sees
pub record View (program : Program) (globals : List Object) (f : ℕ) (function : Function) : Type 0 where
  pub globals_part : Part program f globals 0 0 (global_frames program)
  pub args : Part program f (map (parameter_object f) function.parameters) 0 0 (parameter_frames program function.parameters)
  pub decls : Part program f (all_locals_in program.words f function.body) 0 (calls_in_all program function.body) (all_frames_in program f 0 function.body)
  pub globals_args : Across DifferInName (global_frames program) (parameter_frames program function.parameters)
  pub globals_decls : Across DifferInName (global_frames program) (all_frames_in program f 0 function.body)
  pub args_decls : Across DifferInName (parameter_frames program function.parameters) (all_frames_in program f 0 function.body)

module _ (unit : UnitTree) (names : HasNames (program_of unit)) where
  abbrev pub whole : Program
  whole = program_of unit

  abbrev pub globals : List Object
  globals = globals_in unit.words unit.externals

  abbrev pub owned : List Object
  owned = owned_from unit.words 0 (functions_of unit)

  pub objects_are : objects_of unit ≡ globals ++ owned
  objects_are = ap (λ (os : List Object). globals ++ os) (owned_is unit.words 0 (record { scope = []; made = [] }) unit.externals)

  pub objects_apart : InParts (OfOtherFrames whole names) globals owned
  objects_apart = apart_parts (OfOtherFrames whole names) globals owned (subst (λ (os : List Object). Apart (OfOtherFrames whole names) os) objects_are (frames_apart whole names))

  pub all_objects : EachOf (IsObject whole) globals × EachOf (IsObject whole) owned
  all_objects = each_parts (IsObject whole) globals owned (subst (λ (os : List Object). EachOf (IsObject whole) os) objects_are (each_of_places (IsObject whole) (objects_of unit) (λ i o at. (i, at))))

  pub globals_part : (f : ℕ) → Part whole f globals 0 0 (global_frames whole)
  globals_part f =
      subst (λ (frames : List Allocation). Part whole f globals 0 0 frames)
      (sym (globals_first whole globals (owned_in unit.words 0 unit.externals) (globals_global unit.words unit.externals) (owned_owned unit.words 0 unit.externals)))
      (objects_part whole names f globals all_objects.0 objects_apart.left)
