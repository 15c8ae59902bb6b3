-- What is spelled at file level is plain.
use Rattle.c_grammar.specs.UnitWalkLaws.{UnitWalk, unit_goes}
use Rattle.c_limits.proofs.TypesKeep.{array_keeps, declares_keeps, fine_walk, one_function_keeps, quiet_so, some_frames_keeps}
use Rattle.c_limits.proofs.PlainStatements.{plain_walk}
use Rattle.c_limits.proofs.ShallowStatements.{StatementsAreShallow, shallow_walk}
use Rattle.c_rules.specs.Units.{File}
use Rattle.c_rules.specs.Units as checks
use Rattle.c_meaning.specs.Objects.{Function, functions_in, functions_of}
use Rattle.c_text.specs.Language.{IsSpelled, start}
use Rattle.c_tokens.specs.Tokens.{tokens_of}
use Rattle.c_unit.specs.Tree.{ExternalTree, Declaration, Definition, statements_of}
use Rattle.c_unit.specs.Units.{UnitTree}
use Rattle.std.proofs.Common.{List, [], ◌∷◌, slice_get, Some, suc, zero, ℕ, ◌≡◌, subst}
use Rattle.std.proofs.lemmas.Option.{none-some, same_Some}
use Rattle.std.specs.Prelude.{⊤}
use Rattle.lowering_layout.specs.Lists.{EachOf}
use Rattle.lowering_simulation.specs.Plain.{StatementsArePlain}
use Rattle.c_limits.proofs.PlainTokens.{tokens_fine}

abbrev ExternalIsPlain : ExternalTree → Type 0
ExternalIsPlain (Declaration first o ds) = ⊤
ExternalIsPlain (Definition first o name params body) = StatementsArePlain (statements_of body)

abbrev plain_units : UnitWalk fine_walk
plain_units = record {
  statements = plain_walk;
  External = λ x m. ExternalIsPlain x;
  Externals = λ xs m. EachOf ExternalIsPlain xs;
  frames = λ count. quiet_so (some_frames_keeps count);
  functions = quiet_so one_function_keeps;
  known = λ text gives. quiet_so (declares_keeps text gives);
  arrays = quiet_so array_keeps;
  declarations = λ n o ds. tt;
  definitions = λ n o name ps ss m made. made;
  no_externals = tt;
  more_externals = λ x xs a m made others_made. (made, others_made);
}

-- ---- nested operators

abbrev ExternalIsShallow : ExternalTree → Type 0
ExternalIsShallow (Declaration first o ds) = ⊤
ExternalIsShallow (Definition first o name params body) = StatementsAreShallow (statements_of body)

abbrev shallow_units : UnitWalk fine_walk
shallow_units = record {
  statements = shallow_walk;
  External = λ x m. ExternalIsShallow x;
  Externals = λ xs m. EachOf ExternalIsShallow xs;
  frames = λ count. quiet_so (some_frames_keeps count);
  functions = quiet_so one_function_keeps;
  known = λ text gives. quiet_so (declares_keeps text gives);
  arrays = quiet_so array_keeps;
  declarations = λ n o ds. tt;
  definitions = λ n o name ps ss m made. made;
  no_externals = tt;
  more_externals = λ x xs a m made others_made. (made, others_made);
}

-- ---- functions

plain_function : (file : File) (xs : List ExternalTree) → EachOf ExternalIsPlain xs → (f : ℕ) (function : Function)
    → slice_get (functions_in file xs) f ≡ Some function → StatementsArePlain function.body
plain_function file [] plain f function at = absurd (none-some function at)
plain_function file (Declaration first o ds ∷ xs) plain f function at = plain_function (checks.external_after file (Declaration first o ds)) xs plain.1 f function at
plain_function file (Definition first o name params block ∷ xs) plain zero function at = subst (λ (g : Function). StatementsArePlain g.body) (same_Some _ function at) plain.0
plain_function file (Definition first o name params block ∷ xs) plain (suc f) function at = plain_function (checks.external_after file (Definition first o name params block)) xs plain.1 f function at

pub spelled_are_plain : (whole : UnitTree) → IsSpelled whole → (f : ℕ) (function : Function)
    → slice_get (functions_of whole) f ≡ Some function → StatementsArePlain function.body
spelled_are_plain whole spelled f function at =
    let trees = spelled.1.trees in
    plain_function (record { scope = []; made = [] }) whole.externals ((unit_goes plain_units).each (start spelled.0) whole.externals trees.0 trees.1 (tokens_fine 0 (tokens_of spelled.0))).0 f function at

shallow_function : (file : File) (xs : List ExternalTree) → EachOf ExternalIsShallow xs → (f : ℕ) (function : Function)
    → slice_get (functions_in file xs) f ≡ Some function → StatementsAreShallow function.body
shallow_function file [] plain f function at = absurd (none-some function at)
shallow_function file (Declaration first o ds ∷ xs) plain f function at = shallow_function (checks.external_after file (Declaration first o ds)) xs plain.1 f function at
shallow_function file (Definition first o name params block ∷ xs) plain zero function at = subst (λ (g : Function). StatementsAreShallow g.body) (same_Some _ function at) plain.0
shallow_function file (Definition first o name params block ∷ xs) plain (suc f) function at = shallow_function (checks.external_after file (Definition first o name params block)) xs plain.1 f function at

pub spelled_are_shallow : (whole : UnitTree) → IsSpelled whole → (f : ℕ) (function : Function)
    → slice_get (functions_of whole) f ≡ Some function → StatementsAreShallow function.body
spelled_are_shallow whole spelled f function at =
    let trees = spelled.1.trees in
    shallow_function (record { scope = []; made = [] }) whole.externals ((unit_goes shallow_units).each (start spelled.0) whole.externals trees.0 trees.1 (tokens_fine 0 (tokens_of spelled.0))).0 f function at
