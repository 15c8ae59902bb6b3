-- How many labels the functions of a text allocate, against its tokens.
use Rattle.c_grammar.specs.Tokens.{declares, one_function, some_frames}
use Rattle.c_grammar.specs.Types.{array}
use Rattle.c_grammar.specs.UnitWalkLaws.{UnitWalk, unit_goes}
use Rattle.c_limits.proofs.LabelExpressions.{label_walk, quiet_so}
use Rattle.c_limits.proofs.LabelStatements.{all_low, label_statements, weight}
use Rattle.c_limits.proofs.Spending.{total}
use Rattle.c_rules.specs.Units.{File}
use Rattle.c_rules.specs.Units as checks
use Rattle.c_meaning.specs.Objects.{Function, functions_in, functions_of}
use Rattle.c_reader.specs.Reading.{numbered}
use Rattle.c_text.specs.Language.{IsSpelled, start}
use Rattle.c_tokens.specs.Tokens.{Lexeme, tokens_of}
use Rattle.c_unit.specs.Tree.{ExternalTree, Declaration, Definition, Statement, statements_of}
use Rattle.c_unit.specs.Units.{Word, UnitTree, word_of}
use Rattle.c_lowered.specs.Statements.{labels_in_all}
use Rattle.std.proofs.Common.{List, [], ◌∷◌, length, map, slice_get, Some, suc, zero, ℕ, ◌+◌, ◌*◌, ◌≤◌, ◌≡◌, refl, sym, ap, ◌∙◌, arith}
use Rattle.std.proofs.lemmas.Option.{none-some, same_Some}

abbrev external_weight : ExternalTree → ℕ
external_weight (Declaration first o ds) = 0
external_weight (Definition first o name params block) = labels_in_all (statements_of block)

some_low : (m : ℕ) → 0 ≤ m
some_low m = omega arith

definition_low : (ss : List Statement) (m : ℕ) → total weight ss ≤ m → labels_in_all (statements_of ss) ≤ m
definition_low ss m low = let all = all_low ss in omega (arith, all, low)

abbrev label_units : UnitWalk label_walk
label_units = record {
  statements = label_statements;
  External = λ x m. external_weight x ≤ m;
  Externals = λ xs m. total external_weight xs ≤ m;
  frames = λ count. quiet_so (some_frames count);
  functions = quiet_so one_function;
  known = λ text gives. quiet_so (declares text gives);
  arrays = quiet_so array;
  declarations = λ n o ds. some_low 0;
  definitions = λ n o name ps ss m low. definition_low ss m low;
  no_externals = some_low 0;
  more_externals = λ x xs a m low others_low. omega (arith, low, others_low);
}

-- ---- functions

one_of_all : (file : File) (xs : List ExternalTree) (f : ℕ) (function : Function)
    → slice_get (functions_in file xs) f ≡ Some function → labels_in_all function.body ≤ total external_weight xs
one_of_all file [] f function at = absurd (none-some function at)
one_of_all file (Declaration first o ds ∷ xs) f function at = omega (arith, one_of_all (checks.external_after file (Declaration first o ds)) xs f function at)
one_of_all file (Definition first o name params block ∷ xs) zero function at =
    let same : labels_in_all (statements_of block) ≡ labels_in_all function.body = ap (λ (g : Function). labels_in_all g.body) (same_Some _ function at) in
    omega (arith, same)
one_of_all file (Definition first o name params block ∷ xs) (suc f) function at = omega (arith, one_of_all (checks.external_after file (Definition first o name params block)) xs f function at)

as_many : (bytes : List ℕ) (n : ℕ) (ts : List Lexeme) → length (numbered n ts) ≡ length (map (word_of bytes) ts)
as_many bytes n [] = refl
as_many bytes n (t ∷ ts) = ap suc (as_many bytes (n + 1) ts)

pub few_labels : (whole : UnitTree) → IsSpelled whole → (f : ℕ) (function : Function)
    → slice_get (functions_of whole) f ≡ Some function → labels_in_all function.body ≤ 4 * length whole.words
few_labels whole spelled f function at =
    let trees = spelled.1.trees in
    let all = (unit_goes label_units).each (start spelled.0) whole.externals trees.0 trees.1 in
    let most = all.1 in
    let room = all.2 in
    let tokens : length (numbered 0 (tokens_of spelled.0)) ≡ length whole.words = as_many spelled.0 0 (tokens_of spelled.0) ∙ ap (λ (ws : List Word). length ws) (sym spelled.1.words) in
    omega (arith, one_of_all (record { scope = []; made = [] }) whole.externals f function at, most, room, tokens)
