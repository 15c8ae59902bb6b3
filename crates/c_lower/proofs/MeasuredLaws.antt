-- Laws of measured.
--   frames_count        a lowered program has a frame for each object and for each call of a function that gives something
--   is_measured         so a counted unit is measured
use Rattle.std.proofs.Common.{◌≡◌, ◌≤◌, ◌+◌, ℕ, suc, List, [], ◌∷◌, map, flat_map, length, length-append, slice_get, Some, refl, ap, subst, arith}
use Rattle.alf_program.specs.Writable.{own_frames, frames_of, most_frames}
use Rattle.c_unit.specs.Units.{UnitTree}
use Rattle.c_meaning.specs.Objects.{Object, Function, Program, program_of, parameter_object, all_locals_in, objects_of, functions_of}
use Rattle.c_lowered.specs.Statements.{calls_in_all}
use Rattle.c_lowered.specs.Frames.{parameter_frames, all_frames_in, global_frames}
use Rattle.c_lowered.specs.Programs.{lowered_function, lowered_from, lowered}
use Rattle.c_rules.specs.SpelledUnits.{IsCounted}
use Rattle.lowering_layout.specs.Texts.{IsIdentifier}
use Rattle.lowering_layout.specs.Spelled.{HasNames}
use Rattle.lowering_layout.specs.Views.{View, globals, owned, owned_from, own_objects, globals_part, objects_are}
use Rattle.lowering_layout.specs.ViewLaws.{view_of}
use Rattle.lowering_checks.specs.Functions.{IsMeasured}
use Rattle.c_limits.specs.Counted.{calls_of_all, CountedUnitsHaveFewFrames}
use Rattle.c_limits.specs.ObjectLaws.{objects_small, blocks_shallow, functions_few}
use Rattle.c_limits.specs.ByteLaws.{few_bytes}
use Rattle.c_rules.specs.UnitsStand.{UnitStands}
use Rattle.c_lower.specs.Measured.{HasFewLabels}

module _ (unit : UnitTree) (names : HasNames (program_of unit)) where
  abbrev program : Program
  program = program_of unit

  own_count : (k : ℕ) (function : Function) → View program (globals unit names) k function → length (own_frames (lowered_function program k function)) ≡ length (own_objects unit.words k function) + calls_in_all program function.body
  own_count k function view =
      let a = view.args.count in
      let b = view.decls.count in
      let c = length-append (parameter_frames program function.parameters) (all_frames_in program k 0 function.body) in
      let d = length-append (map (parameter_object k) function.parameters) (all_locals_in unit.words k function.body) in
      omega (arith, a, b, c, d)

  functions_count : (k : ℕ) (fs : List Function) → ((i : ℕ) (function : Function) → slice_get fs i ≡ Some function → View program (globals unit names) (k + i) function)
      → length (flat_map own_frames (lowered_from program k fs)) ≡ length (owned_from unit.words k fs) + calls_of_all program fs
  functions_count k [] views = omega arith
  functions_count k (function ∷ fs) views =
      let view : View program (globals unit names) k function = subst (λ (n : ℕ). View program (globals unit names) n function) (let same : k + 0 ≡ k = omega arith in same) (views 0 function refl) in
      let own = own_count k function view in
      let rest = functions_count (suc k) fs (λ i g at. subst (λ (n : ℕ). View program (globals unit names) n g) (let same : k + suc i ≡ suc k + i = omega arith in same) (views (suc i) g at)) in
      let a = length-append (own_frames (lowered_function program k function)) (flat_map own_frames (lowered_from program (suc k) fs)) in
      let b = length-append (own_objects unit.words k function) (owned_from unit.words (suc k) fs) in
      omega (arith, own, rest, a, b)

  -- a frame for each object, and for each call of a function that gives something
  pub frames_count : length (frames_of (lowered unit)) ≡ length (objects_of unit) + calls_of_all program (functions_of unit)
  frames_count =
      let first = (globals_part unit names 0).count in
      let second = functions_count 0 program.functions (λ i function at. subst (λ (n : ℕ). View program (globals unit names) n function) (let same : i ≡ 0 + i = omega arith in same) (view_of unit names i function at)) in
      let a = length-append (global_frames program) (flat_map own_frames (lowered unit).funcs) in
      let b = length-append (globals unit names) (owned unit names) in
      let objects = ap (λ (os : List Object). length os) (objects_are unit names) in
      omega (arith, first, second, a, b, objects)

  pub is_measured : CountedUnitsHaveFewFrames → IsCounted IsIdentifier unit → UnitStands unit → HasFewLabels unit
      → IsMeasured unit names
  is_measured frames counted stands labels =
      let count = frames_count in
      let few = frames unit counted stands in
      let low : length (frames_of (lowered unit)) ≤ most_frames = omega (arith, count, few) in
      record {
        small = objects_small IsIdentifier unit counted;
        shallow = blocks_shallow IsIdentifier unit counted;
        few_labels = labels;
        few_functions = functions_few IsIdentifier unit counted;
        few_frames = low;
        few_bytes = few_bytes unit IsIdentifier counted low;
      }
