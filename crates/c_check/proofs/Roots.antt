-- The root of a program.
--   rooted, has_number   a function of this name is defined exactly where it has a number
use Rattle.std.proofs.Common.{◌≡◌, ◌+◌, ℕ, List, [], ◌∷◌, Option, None, Some, is_some, refl, ap, ◌∙◌}
use Rattle.std.specs.Option.{option_map}
use Rattle.std.specs.List.{list_any}
use Rattle.std.specs.Str.{bytes_eq}
use Rattle.lists.specs.TestLaws.{by_test}
use Rattle.c_unit.specs.Units.{Word, UnitTree}
use Rattle.c_rules.specs.Names.{text_at}
use Rattle.c_rules.specs.Units.{definitions}
use Rattle.c_rules.specs.Programs.{has_root}
use Rattle.c_scopes.specs.Numbers.{Made, number_named}

some_mapped : (number : Option ℕ) → is_some (option_map (λ n. n + 1) number) ≡ is_some number
some_mapped None = refl
some_mapped (Some n) = refl

pub rooted : (words : List Word) (names text : List ℕ)
    → is_some (number_named words names text) ≡ list_any (λ name. bytes_eq (text_at words name) text) names
rooted words [] text = refl
rooted words (name ∷ names) text =
    by_test (bytes_eq (text_at words name) text) (λ here. rw here refl) (λ there. rw there (some_mapped (number_named words names text) ∙ rooted words names text))

-- so it is with the definitions of a unit
pub has_number : (unit : UnitTree) (all : Made) (root : List ℕ) → all.words ≡ unit.words
    → all.names ≡ definitions unit.externals → is_some (number_named all.words all.names root) ≡ has_root unit root
has_number unit all root words names =
    ap (λ (ws : List Word). is_some (number_named ws all.names root)) words ∙ ap (λ (ns : List ℕ). is_some (number_named unit.words ns root)) names ∙ rooted unit.words (definitions unit.externals) root
