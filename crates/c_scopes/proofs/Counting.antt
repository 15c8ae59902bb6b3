-- Numbers of functions.
--   made_next      what is defined from one more on
--   numbered_at    the number from a name on
--   named_at       the number of the name at a token
--   defined_named  a function of this name is defined exactly where it has a number
--   defined_before so it is among the first, where the number is below their count
use Rattle.std.proofs.Common.{◌≡◌, ◌+◌, ◌<◌, ℕ, zero, suc, Bool, true, false, ◌||◌, List, [], ◌∷◌, ◌++◌, length, take, drop, get_or, drop-cons, zero-add, reverse, Option, Some, None, is_some, nat_lt, refl, ap, sym, ◌∙◌, arith, if◌then◌else◌}
use Rattle.std.specs.Option.{option_map}
use Rattle.std.specs.List.{list_any}
use Rattle.std.specs.Str.{bytes_eq}
use Rattle.std.proofs.lemmas.Bool.Decides.{nat_tests}
use Rattle.std.proofs.lemmas.List.{reverse-append}
use Rattle.std.proofs.lemmas.List.Folds.{list_any-append}
use Rattle.lists.specs.TestLaws.{by_test}
use Rattle.c_unit.specs.Tree.{ExternalTree, Declaration, Definition}
use Rattle.c_unit.specs.Units.{Word}
use Rattle.c_rules.specs.Names.{text_at}
use Rattle.c_rules.specs.Calls.{is_defined}
use Rattle.c_rules.specs.Units.{definitions}
use Rattle.c_rules.specs.Recursion.{number_at}
use Rattle.c_scopes.specs.Numbers.{made_by, number_named}

pub made_next : (x : ExternalTree) (xs : List ExternalTree) → definitions (x ∷ xs) ≡ made_by x ++ definitions xs
made_next (Declaration first o ds) xs = refl
made_next (Definition first o name params body) xs = refl

-- a number counted from further back
pub counted : (n : ℕ) (number : Option ℕ)
    → option_map (λ k. k + n) (option_map (λ k. k + 1) number) ≡ option_map (λ k. k + suc n) number
counted n None = refl
counted n (Some k) = ap Some (omega arith)

-- the number from a name on
pub numbered_at : (words : List Word) (text names : List ℕ) (n name : ℕ) → n < length names → name ≡ get_or names n name
    → option_map (λ k. k + n) (number_named words (drop n names) text)
    ≡ (if bytes_eq (text_at words name) text then Some n else option_map (λ k. k + suc n) (number_named words (drop (suc n) names) text))
numbered_at words text names n name low is =
    rw (drop-cons names n name low, ← is)
    (by_test (bytes_eq (text_at words name) text) (λ e. rw e (ap Some (zero-add n))) (λ e. rw e (counted n (number_named words (drop (suc n) names) text))))

-- the number of the name at a token
pub named_at : (words : List Word) (names : List ℕ) (token : ℕ)
    → number_named words names (text_at words token) ≡ number_at words names token
named_at words [] token = refl
named_at words (name ∷ names) token =
    ap (λ (number : Option ℕ). if bytes_eq (text_at words name) (text_at words token) then Some 0 else option_map (λ n. n + 1) number) (named_at words names token)

some_mapped : (number : Option ℕ) → is_some (option_map (λ n. n + 1) number) ≡ is_some number
some_mapped None = refl
some_mapped (Some n) = refl

-- a function of this name is defined
pub defined_named : (words : List Word) (names : List ℕ) (token : ℕ)
    → is_some (number_at words names token) ≡ is_defined words names token
defined_named words [] token = refl
defined_named words (name ∷ names) token =
    by_test (bytes_eq (text_at words name) (text_at words token)) (λ e. rw e refl)
    (λ e. rw e (some_mapped (number_at words names token) ∙ defined_named words names token))

-- it has a number below the count
abbrev pub is_below : ℕ → Option ℕ → Bool
is_below count None = false
is_below count (Some n) = nat_lt n count

below_zero : (number : Option ℕ) → is_below 0 number ≡ false
below_zero None = refl
below_zero (Some n) = grind (arith, nat_tests)

below_mapped : (count : ℕ) (number : Option ℕ)
    → is_below (suc count) (option_map (λ n. n + 1) number) ≡ is_below count number
below_mapped count None = refl
below_mapped count (Some n) = grind (arith, nat_tests)

below_first : (count : ℕ) → nat_lt 0 (suc count) ≡ true
below_first count = grind (arith, nat_tests)

within : (words : List Word) (names : List ℕ) (token count : ℕ)
    → is_below count (number_at words names token) ≡ is_defined words (take count names) token
within words names token zero = below_zero (number_at words names token)
within words [] token (suc count) = refl
within words (name ∷ names) token (suc count) =
    by_test (bytes_eq (text_at words name) (text_at words token)) (λ e. rw e (below_first count))
    (λ e. rw e (below_mapped count (number_at words names token) ∙ within words names token count))

either_way : (a b : Bool) → (a || b) ≡ (b || a)
either_way true true = refl
either_way true false = refl
either_way false true = refl
either_way false false = refl

or-false : (a : Bool) → (a || false) ≡ a
or-false true = refl
or-false false = refl

turned_cons : (x : ℕ) (xs : List ℕ) → reverse (x ∷ xs) ≡ reverse xs ++ x ∷ []
turned_cons x xs = reverse-append (x ∷ []) xs

turned : (test : ℕ → Bool) (xs : List ℕ) → list_any test (reverse xs) ≡ list_any test xs
turned test [] = refl
turned test (x ∷ xs) =
    ap (list_any test) (turned_cons x xs) ∙ list_any-append test (reverse xs) (x ∷ []) ∙ ap (λ (b : Bool). b || (test x || false)) (turned test xs)
    ∙ ap (λ (b : Bool). list_any test xs || b) (or-false (test x)) ∙ either_way (list_any test xs) (test x)

-- it is among the first
pub defined_before : (words : List Word) (names : List ℕ) (token count : ℕ)
    → is_below count (number_at words names token) ≡ is_defined words (reverse (take count names)) token
defined_before words names token count =
    within words names token count ∙ sym (turned (λ other. bytes_eq (text_at words other) (text_at words token)) (take count names))
