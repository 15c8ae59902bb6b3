-- Laws of views.
--   all_frames_apart               no two frames of the whole program have one name
--   IsLater   a frame of a function from k on
use Rattle.std.proofs.Common.{◌≡◌, ◌≤◌, ◌+◌, ℕ, suc, List, [], ◌∷◌, ◌++◌, map, flat_map, slice_get, Some, refl, subst, arith}
use Rattle.std.proofs.lemmas.List.Elements.{Contains-append_left, Contains-append_right}
use Rattle.alf_program.specs.Tree.{Allocation}
use Rattle.alf_program.specs.Writable.{own_frames, frames_of}
use Rattle.c_unit.specs.Units.{UnitTree}
use Rattle.c_meaning.specs.Objects.{Object, Function, program_of, all_locals_in, parameter_object}
use Rattle.c_lowered.specs.Statements.{calls_in_all}
use Rattle.c_lowered.specs.Frames.{all_frames_in, parameter_frames, global_frames}
use Rattle.c_lowered.specs.Programs.{lowered_function, lowered_from, lowered}
use Rattle.lowering_layout.specs.Lists.{EachOf, Apart, Across}
use Rattle.lowering_layout.specs.ListLaws.{each_when, each_joined, apart_parts, apart_joined}
use Rattle.lowering_layout.specs.Spelled.{HasNames}
use Rattle.lowering_layout.specs.Places.{OfOtherFrames}
use Rattle.lowering_layout.specs.PartFrames.{DifferInName, IsFrameOf}
use Rattle.lowering_layout.specs.PartFrameLaws.{frames_differ, wider, all_wider}
use Rattle.lowering_layout.specs.Views.{own_objects, owned_from, View, whole, globals, owned, objects_apart, globals_part}
use Rattle.lowering_layout.specs.ViewLaws.{view_of}

-- ---- global frames

module _ (unit : UnitTree) (names : HasNames (program_of unit)) where
  -- ---- all frames

  -- a frame of a function from k on
  pub data IsLater (k : ℕ) (objects : List Object) (frame : Allocation) : Type 0 where
    later : (g count : ℕ) → k ≤ g → IsFrameOf (whole unit names) g 0 count objects frame → IsLater k objects frame

  own_later : (k : ℕ) (function : Function) (rest : List Object) (view : View (whole unit names) (globals unit names) k function)
      → EachOf (IsLater k (own_objects unit.words k function ++ rest)) (own_frames (lowered_function (whole unit names) k function))
  own_later k function rest view =
      let params = map (parameter_object k) function.parameters in
      let locals = all_locals_in unit.words k function.body in
      let all = (params ++ locals) ++ rest in
      each_joined (IsLater k all) (parameter_frames (whole unit names) function.parameters) (all_frames_in (whole unit names) k 0 function.body)
      (each_when (IsFrameOf (whole unit names) k 0 0 params) (IsLater k all) (parameter_frames (whole unit names) function.parameters)
      (λ a is.
      later k 0 (let low : k ≤ k = omega arith in low)
      (wider (whole unit names) k 0 0 0 0 params all a (omega arith) (omega arith)
      (λ o c. Contains-append_left (params ++ locals) rest o (Contains-append_left params locals o c)) is))
      view.args.known)
      (each_when (IsFrameOf (whole unit names) k 0 (0 + calls_in_all (whole unit names) function.body) locals) (IsLater k all) (all_frames_in (whole unit names) k 0 function.body)
      (λ a is. later k (0 + calls_in_all (whole unit names) function.body) (let low : k ≤ k = omega arith in low)
      (wider (whole unit names) k 0 (0 + calls_in_all (whole unit names) function.body) 0 (0 + calls_in_all (whole unit names) function.body) locals all a
      (omega arith) (omega arith)
      (λ o c. Contains-append_left (params ++ locals) rest o (Contains-append_right params locals o c)) is))
      view.decls.known)

  -- those of further functions are later
  later_still : (k : ℕ) (before rest : List Object) (frames : List Allocation) → EachOf (IsLater (suc k) rest) frames
      → EachOf (IsLater k (before ++ rest)) frames
  later_still k before rest frames h = each_when (IsLater (suc k) rest) (IsLater k (before ++ rest)) frames (λ a is. one a is) h
    where
      one : (a : Allocation) → IsLater (suc k) rest a → IsLater k (before ++ rest) a
      one a (later g count low is) =
          later g count (omega (arith, low))
          (wider (whole unit names) g 0 count 0 count rest (before ++ rest) a (omega arith) (omega arith)
          (λ o c. Contains-append_right before rest o c) is)

  own_before_later : (k : ℕ) (function : Function) (rest : List Object) (xs ys : List Allocation)
      → Across (OfOtherFrames (whole unit names) names) (own_objects unit.words k function) rest
      → EachOf (IsFrameOf (whole unit names) k 0 (calls_in_all (whole unit names) function.body) (own_objects unit.words k function)) xs → EachOf (IsLater (suc k) rest) ys → Across DifferInName xs ys
  own_before_later k function rest xs ys across known laters =
      each_when (IsFrameOf (whole unit names) k 0 (calls_in_all (whole unit names) function.body) (own_objects unit.words k function)) (λ (a : Allocation). EachOf (DifferInName a) ys) xs
      (λ a is. each_when (IsLater (suc k) rest) (DifferInName a) ys (λ b is'. differ a is b is') laters) known
    where
      differ : (a : Allocation) → IsFrameOf (whole unit names) k 0 (calls_in_all (whole unit names) function.body) (own_objects unit.words k function) a → (b : Allocation) → IsLater (suc k) rest b → DifferInName a b
      differ a is b (later g count low is') =
          frames_differ (whole unit names) names k g 0 (calls_in_all (whole unit names) function.body) 0 count (own_objects unit.words k function)
          rest a b across (λ l same from to from' to'. absurd (omega (arith, same, low))) is is'

  own_known : (k : ℕ) (function : Function) (view : View (whole unit names) (globals unit names) k function)
      → EachOf (IsFrameOf (whole unit names) k 0 (calls_in_all (whole unit names) function.body) (own_objects unit.words k function))
      (own_frames (lowered_function (whole unit names) k function))
  own_known k function view =
      let params = map (parameter_object k) function.parameters in
      let locals = all_locals_in unit.words k function.body in
      let calls = calls_in_all (whole unit names) function.body in
      each_joined (IsFrameOf (whole unit names) k 0 calls (params ++ locals)) (parameter_frames (whole unit names) function.parameters) (all_frames_in (whole unit names) k 0 function.body)
      (all_wider (whole unit names) k 0 0 0 calls params (params ++ locals) (parameter_frames (whole unit names) function.parameters) (omega arith) (omega arith) (λ o c. Contains-append_left params locals o c) view.args.known)
      (all_wider (whole unit names) k 0 (0 + calls) 0 calls locals (params ++ locals) (all_frames_in (whole unit names) k 0 function.body)
      (omega arith) (omega arith) (λ o c. Contains-append_right params locals o c) view.decls.known)

  own_apart : (k : ℕ) (function : Function) (view : View (whole unit names) (globals unit names) k function)
      → Apart DifferInName (own_frames (lowered_function (whole unit names) k function))
  own_apart k function view = apart_joined DifferInName (parameter_frames (whole unit names) function.parameters) (all_frames_in (whole unit names) k 0 function.body) view.args.apart view.decls.apart view.args_decls

  functions_apart : (k : ℕ) (fs : List Function)
      → ((i : ℕ) (function : Function) → slice_get fs i ≡ Some function → View (whole unit names) (globals unit names) (k + i) function)
      → Apart (OfOtherFrames (whole unit names) names) (owned_from unit.words k fs)
      → EachOf (IsLater k (owned_from unit.words k fs)) (flat_map own_frames (lowered_from (whole unit names) k fs)) × Apart DifferInName (flat_map own_frames (lowered_from (whole unit names) k fs))
  functions_apart k [] views apart = (tt, tt)
  functions_apart k (function ∷ fs) views apart =
      let view : View (whole unit names) (globals unit names) k function = subst (λ (n : ℕ). View (whole unit names) (globals unit names) n function) (let same : k + 0 ≡ k = omega arith in same) (views 0 function refl) in
      let rest = owned_from unit.words (suc k) fs in
      let own = own_objects unit.words k function in
      let parts = apart_parts (OfOtherFrames (whole unit names) names) own rest apart in
      let further = functions_apart (suc k) fs (λ i g at. subst (λ (n : ℕ). View (whole unit names) (globals unit names) n g) (let same : k + suc i ≡ suc k + i = omega arith in same) (views (suc i) g at)) parts.right in
      let here = own_frames (lowered_function (whole unit names) k function) in
      let others = flat_map own_frames (lowered_from (whole unit names) (suc k) fs) in (
        each_joined (IsLater k (own ++ rest)) here others (own_later k function rest view) (later_still k own rest others further.0),
        apart_joined DifferInName here others (own_apart k function view) further.1 (own_before_later k function rest here others parts.across (own_known k function view) further.0),
      )

  globals_before : (frames : List Allocation) → EachOf (IsLater 0 (owned unit names)) frames
      → Across DifferInName (global_frames (whole unit names)) frames
  globals_before frames laters =
      each_when (IsFrameOf (whole unit names) 0 0 0 (globals unit names)) (λ (a : Allocation). EachOf (DifferInName a) frames) (global_frames (whole unit names))
      (λ a is. each_when (IsLater 0 (owned unit names)) (DifferInName a) frames (λ b is'. differ a is b is') laters) (globals_part unit names 0).known
    where
      differ : (a : Allocation) → IsFrameOf (whole unit names) 0 0 0 (globals unit names) a → (b : Allocation)
          → IsLater 0 (owned unit names) b → DifferInName a b
      differ a is b (later g count low is') = frames_differ (whole unit names) names 0 g 0 0 0 count (globals unit names) (owned unit names) a b (objects_apart unit names).across (λ l same from to from' to'. absurd (omega (arith, to))) is is'

  -- no two frames of the whole program have one name
  pub all_frames_apart : Apart DifferInName (frames_of (lowered unit))
  all_frames_apart =
      let functions =
      functions_apart 0 (whole unit names).functions
      (λ i function at.
      subst (λ (n : ℕ). View (whole unit names) (globals unit names) n function) (let same : i ≡ 0 + i = omega arith in same)
      (view_of unit names i function at)) (objects_apart unit names).right in
      apart_joined DifferInName (global_frames (whole unit names)) (flat_map own_frames (lowered_from (whole unit names) 0 (whole unit names).functions))
      (globals_part unit names 0).apart functions.1
      (globals_before (flat_map own_frames (lowered_from (whole unit names) 0 (whole unit names).functions)) functions.0)
