-- Laws of views.
--   view_of          so are those of a program
use Rattle.std.proofs.Common.{◌≡◌, ◌≤◌, ◌+◌, ℕ, zero, suc, List, [], ◌∷◌, ◌++◌, map, slice_get, Some, subst, arith}
use Rattle.std.proofs.lemmas.Option.{none-some, same_Some, slice_get_within}
use Rattle.c_unit.specs.Units.{Word, UnitTree}
use Rattle.c_meaning.specs.Objects.{Object, Function, program_of, all_locals_in, parameter_object}
use Rattle.c_lowered.specs.Statements.{calls_in_all}
use Rattle.c_lowered.specs.Frames.{all_frames_in, parameter_frames, global_frames}
use Rattle.lowering_layout.specs.Lists.{EachOf, Apart, Across}
use Rattle.lowering_layout.specs.ListLaws.{each_when, each_parts, each_at, apart_parts}
use Rattle.lowering_layout.specs.Spelled.{HasNames, HasFewCalls}
use Rattle.lowering_layout.specs.Places.{OfOtherFrames}
use Rattle.lowering_layout.specs.PartFrames.{IsObject}
use Rattle.lowering_layout.specs.PartFrameLaws.{known_apart}
use Rattle.lowering_layout.specs.FrameLaws.{statements_part, parameters_part}
use Rattle.lowering_layout.specs.Views.{own_objects, owned_from, View, whole, globals, owned, objects_apart, all_objects, globals_part}

-- ---- one function of several

pub each_own : (P : Object → Type 0) (words : List Word) (k : ℕ) (fs : List Function) (i : ℕ) (function : Function)
    → slice_get fs i ≡ Some function → EachOf P (owned_from words k fs) → EachOf P (own_objects words (k + i) function)
each_own P words k [] i function at h = absurd (none-some function at)
each_own P words k (g ∷ fs) zero function at h =
    subst (λ (x : Function). EachOf P (own_objects words (k + 0) x)) (same_Some g function at)
    (subst (λ (n : ℕ). EachOf P (own_objects words n g)) (let same : k ≡ k + 0 = omega arith in same) (each_parts P (own_objects words k g) (owned_from words (suc k) fs) h).0)
each_own P words k (g ∷ fs) (suc i) function at h =
    subst (λ (n : ℕ). EachOf P (own_objects words n function)) (let same : suc k + i ≡ k + suc i = omega arith in same)
    (each_own P words (suc k) fs i function at (each_parts P (own_objects words k g) (owned_from words (suc k) fs) h).1)

pub apart_own : (R : Object → Object → Type 0) (words : List Word) (k : ℕ) (fs : List Function) (i : ℕ)
    (function : Function) → slice_get fs i ≡ Some function → Apart R (owned_from words k fs)
    → Apart R (own_objects words (k + i) function)
apart_own R words k [] i function at h = absurd (none-some function at)
apart_own R words k (g ∷ fs) zero function at h =
    subst (λ (x : Function). Apart R (own_objects words (k + 0) x)) (same_Some g function at)
    (subst (λ (n : ℕ). Apart R (own_objects words n g)) (let same : k ≡ k + 0 = omega arith in same) (apart_parts R (own_objects words k g) (owned_from words (suc k) fs) h).left)
apart_own R words k (g ∷ fs) (suc i) function at h =
    subst (λ (n : ℕ). Apart R (own_objects words n function)) (let same : suc k + i ≡ k + suc i = omega arith in same)
    (apart_own R words (suc k) fs i function at (apart_parts R (own_objects words k g) (owned_from words (suc k) fs) h).right)

-- ---- global frames

module _ (unit : UnitTree) (names : HasNames (program_of unit)) where
  pub view_of : (f : ℕ) (function : Function) → slice_get (whole unit names).functions f ≡ Some function
      → View (whole unit names) (globals unit names) f function
  view_of f function at =
      let low = slice_get_within (whole unit names).functions f function at in
      let params = map (parameter_object f) function.parameters in
      let locals = all_locals_in unit.words f function.body in
      let few : calls_in_all (whole unit names) function.body ≤ 256 = each_at (HasFewCalls (whole unit names)) (whole unit names).functions f function at names.few_calls in
      let same : 0 + f ≡ f = omega arith in
      let apart : Apart (OfOtherFrames (whole unit names) names) (own_objects unit.words f function) =
      subst (λ (n : ℕ). Apart (OfOtherFrames (whole unit names) names) (own_objects unit.words n function)) same
      (apart_own (OfOtherFrames (whole unit names) names) unit.words 0 (whole unit names).functions f function at (objects_apart unit names).right)
      in
      let own : EachOf (IsObject (whole unit names)) (own_objects unit.words f function) =
      subst (λ (n : ℕ). EachOf (IsObject (whole unit names)) (own_objects unit.words n function)) same (each_own (IsObject (whole unit names)) unit.words 0 (whole unit names).functions f function at (all_objects unit names).1)
      in
      let across : Across (OfOtherFrames (whole unit names) names) (globals unit names) (own_objects unit.words f function) =
      each_when (λ (g : Object). EachOf (OfOtherFrames (whole unit names) names g) (owned unit names)) (λ (g : Object). EachOf (OfOtherFrames (whole unit names) names g) (own_objects unit.words f function)) (globals unit names)
      (λ g h.
      subst (λ (n : ℕ). EachOf (OfOtherFrames (whole unit names) names g) (own_objects unit.words n function)) same
      (each_own (OfOtherFrames (whole unit names) names g) unit.words 0 (whole unit names).functions f function at h)) (objects_apart unit names).across
      in
      let parts = apart_parts (OfOtherFrames (whole unit names) names) params locals apart in
      let objects = each_parts (IsObject (whole unit names)) params locals own in
      let across_params =
      each_when (λ (g : Object). EachOf (OfOtherFrames (whole unit names) names g) (params ++ locals))
      (λ (g : Object). EachOf (OfOtherFrames (whole unit names) names g) params) (globals unit names)
      (λ g h. (each_parts (OfOtherFrames (whole unit names) names g) params locals h).0) across in
      let across_locals =
      each_when (λ (g : Object). EachOf (OfOtherFrames (whole unit names) names g) (params ++ locals))
      (λ (g : Object). EachOf (OfOtherFrames (whole unit names) names g) locals) (globals unit names)
      (λ g h. (each_parts (OfOtherFrames (whole unit names) names g) params locals h).1) across in
      let global = globals_part unit names f in
      let args = parameters_part (whole unit names) names f low function.parameters objects.0 parts.left in
      let decls = statements_part (whole unit names) names f low function.body 0 (omega (arith, few)) objects.1 parts.right in
      record {
        globals_part = global;
        args = args;
        decls = decls;
        globals_args =
            known_apart (whole unit names) names f f 0 0 0 0 (globals unit names) params (global_frames (whole unit names))
            (parameter_frames (whole unit names) function.parameters) across_params
            (λ k is from to from' to'. absurd (omega (arith, from, to))) global.known args.known;
        globals_decls =
            known_apart (whole unit names) names f f 0 0 0 (0 + calls_in_all (whole unit names) function.body) (globals unit names) locals
            (global_frames (whole unit names)) (all_frames_in (whole unit names) f 0 function.body) across_locals
            (λ k is from to from' to'. absurd (omega (arith, from, to))) global.known decls.known;
        args_decls =
            known_apart (whole unit names) names f f 0 0 0 (0 + calls_in_all (whole unit names) function.body) params locals
            (parameter_frames (whole unit names) function.parameters) (all_frames_in (whole unit names) f 0 function.body) parts.across
            (λ k is from to from' to'. absurd (omega (arith, from, to))) args.known decls.known;
      }
