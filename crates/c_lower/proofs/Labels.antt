-- Numbers of labels and of calls.
--   few_labels    what holds of each function of a unit by its number holds of all: it has few labels
--   few_numbers   so 64 bits have the numbers of labels and calls of what is defined
use Rattle.std.proofs.Common.{◌≡◌, ◌≤◌, ◌<◌, ◌*◌, ◌^◌, ℕ, suc, List, [], ◌∷◌, length, slice_get, Some, refl, arith}
use Rattle.c_unit.specs.Tree.{ExternalTree, Declaration, Definition}
use Rattle.c_unit.specs.Units.{UnitTree}
use Rattle.c_rules.specs.Units.{File, external_after}
use Rattle.c_text.specs.Language.{IsSpelled}
use Rattle.c_meaning.specs.Objects.{Function, Program, functions_in, functions_of}
use Rattle.c_lowered.specs.Statements.{labels_in_all}
use Rattle.lowering_layout.specs.Lists.{EachOf}
use Rattle.lowering_layout.specs.Spelled.{HasFewCalls}
use Rattle.c_limits.specs.LabelSpelled.{SpelledUnitsHaveFewLabels}
use Rattle.c_lower.specs.Measured.{HasFewLabels}
use Rattle.c_lower.specs.Passing.{TextHasFewTokens}
use Rattle.c_lower.specs.Walk.{HaveFewNumbers}

each_by_number : (P : Function → Type 0) (fs : List Function)
    → ((f : ℕ) (function : Function) → slice_get fs f ≡ Some function → P function) → EachOf P fs
each_by_number P [] all = tt
each_by_number P (g ∷ fs) all = (all 0 g refl, each_by_number P fs (λ f function at. all (suc f) function at))

pub few_labels : SpelledUnitsHaveFewLabels → (unit : UnitTree) → IsSpelled unit → TextHasFewTokens unit
    → HasFewLabels unit
few_labels few unit spelled short =
    each_by_number (λ (function : Function). labels_in_all function.body < 2 ^ 64) (functions_of unit)
    (λ f function at.
    let here : labels_in_all function.body ≤ 4 * length unit.words = few unit spelled f function at in
    let words : length unit.words < 4611686018427387904 = short in
    omega arith)

pub few_numbers : (program : Program) (file : File) (xs : List ExternalTree)
    → EachOf (λ (function : Function). labels_in_all function.body < 2 ^ 64) (functions_in file xs)
    → EachOf (HasFewCalls program) (functions_in file xs) → HaveFewNumbers program xs
few_numbers program file [] labels calls = tt
few_numbers program file (Declaration first o ds ∷ xs) labels calls = (tt, few_numbers program (external_after file (Declaration first o ds)) xs labels calls)
few_numbers program file (Definition first o name params body ∷ xs) labels calls =
    ((labels.0, (let few = calls.0 in omega (arith, few))), few_numbers program (external_after file (Definition first o name params body)) xs labels.1 calls.1)
