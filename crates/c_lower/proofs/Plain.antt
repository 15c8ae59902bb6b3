-- A unit that some text spells is plain, and its functions allocate few labels.
use Rattle.std.proofs.Common.{◌≡◌, ◌≤◌, ◌<◌, ◌*◌, ◌^◌, ℕ, length, slice_get, Option, None, Some, refl, sym, ap, ◌∙◌, arith}
use Rattle.std.specs.Option.{option_map_or}
use Rattle.std.proofs.lemmas.Option.{slice_get-get_or}
use Rattle.c_unit.specs.Units.{UnitTree}
use Rattle.c_text.specs.Language.{IsSpelled}
use Rattle.c_meaning.specs.Objects.{Function, program_of, function_at, functions_of, no_function}
use Rattle.c_lowered.specs.Statements.{labels_in_all}
use Rattle.lowering_simulation.specs.Correct.{UnitIsPlain}
use Rattle.c_limits.specs.PlainSpelled.{SpelledUnitsArePlain}
use Rattle.c_limits.specs.LabelSpelled.{SpelledUnitsHaveFewLabels}
use Rattle.c_lower.specs.Passing.{TextHasFewTokens}

there : (unit : UnitTree) (f : ℕ) → f < length (functions_of unit)
    → slice_get (functions_of unit) f ≡ Some (function_at (program_of unit) f)
there unit f low =
    let at = slice_get-get_or (functions_of unit) f no_function low in
    at ∙ ap (λ (g : Function). Some g) (sym (ap (λ (x : Option Function). option_map_or (λ function. function) x no_function) at))

-- a function that is not there has no labels
few_of : (most : ℕ) (x : Option Function)
    → ((function : Function) → x ≡ Some function → labels_in_all function.body ≤ most)
    → labels_in_all (option_map_or (λ function. function) x no_function).body ≤ most
few_of most None few = omega arith
few_of most (Some function) few = few function refl

pub unit_plain : SpelledUnitsArePlain → SpelledUnitsHaveFewLabels → (unit : UnitTree) → IsSpelled unit
    → TextHasFewTokens unit → UnitIsPlain unit
unit_plain plain few unit spelled short = record {
  plain = λ f low. plain unit spelled f (function_at (program_of unit) f) (there unit f low);
  few_labels = λ f. few_of (2 ^ 64) (slice_get (functions_of unit) f) (λ function at.
      let few_here : labels_in_all function.body ≤ 4 * length unit.words = few unit spelled f function at in
      let words : length unit.words < 4611686018427387904 = short in
      omega arith);
}
