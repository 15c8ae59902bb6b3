-- Numbers of calls in a row.
--   numbers-append    those of the one list, and then of the other
--   within            a number is one of a function, and so is each in a row
--   joined            numbers that are put after others, one list after the other
use Rattle.std.proofs.Common.{◌≡◌, ◌+◌, ◌<◌, ℕ, suc, List, [], ◌∷◌, ◌++◌, length, Option, Some, None, IfSome, Contains, refl, ap, sym, ◌∙◌, subst, arith}
use Rattle.std.specs.Option.{option_map}
use Rattle.std.specs.Str.{bytes_eq}
use Rattle.std.proofs.lemmas.List.{append_assoc}
use Rattle.lists.specs.TestLaws.{by_test}
use Rattle.lists.specs.MemberLaws.{no_member, first_or_further}
use Rattle.c_unit.specs.Units.{Word}
use Rattle.c_rules.specs.Names.{text_at}
use Rattle.c_rules.specs.Recursion.{number_at, with_number, numbers_at}

with_more : (number : Option ℕ) (xs ys : List ℕ) → with_number number (xs ++ ys) ≡ with_number number xs ++ ys
with_more None xs ys = refl
with_more (Some n) xs ys = refl

pub numbers-append : (words : List Word) (names xs ys : List ℕ)
    → numbers_at words names (xs ++ ys) ≡ numbers_at words names xs ++ numbers_at words names ys
numbers-append words names [] ys = refl
numbers-append words names (x ∷ xs) ys =
    ap (with_number (number_at words names x)) (numbers-append words names xs ys) ∙ with_more (number_at words names x) (numbers_at words names xs) (numbers_at words names ys)

-- a number is one of a function
pub within : (words : List Word) (names : List ℕ) (token : ℕ)
    → IfSome (number_at words names token) (λ n. n < length names)
within words [] token = tt
within words (name ∷ names) token =
    by_test (bytes_eq (text_at words name) (text_at words token)) (λ here. rw here (omega arith)) (λ there. rw there (further (number_at words names token) (length names) (within words names token)))
  where
    further : (number : Option ℕ) (n : ℕ) → IfSome number (λ k. k < n)
        → IfSome (option_map (λ k. k + 1) number) (λ k. k < suc n)
    further None n low = tt
    further (Some k) n low = omega arith

with_within : (number : Option ℕ) (xs : List ℕ) (count n : ℕ) → IfSome number (λ k. k < count)
    → Contains (with_number number xs) n → (Contains xs n → n < count) → n < count
with_within None xs count n low c others = others c
with_within (Some k) xs count n low c others = first_or_further k xs n c (λ is. subst (λ (m : ℕ). m < count) is low) others

-- so is each in a row
pub numbers_within : (words : List Word) (names tokens : List ℕ) (n : ℕ) → Contains (numbers_at words names tokens) n
    → n < length names
numbers_within words names [] n c = no_member n c
numbers_within words names (token ∷ tokens) n c =
    with_within (number_at words names token) (numbers_at words names tokens) (length names) n (within words names token) c (numbers_within words names tokens n)

-- numbers that are put after others, one list after the other
pub joined : (words : List Word) (names row xs ys : List ℕ)
    → (row ++ numbers_at words names xs) ++ numbers_at words names ys ≡ row ++ numbers_at words names (xs ++ ys)
joined words names row xs ys = append_assoc row (numbers_at words names xs) (numbers_at words names ys) ∙ ap (λ (zs : List ℕ). row ++ zs) (sym (numbers-append words names xs ys))

pub ruleset numbering = (numbers-append, append_assoc)
