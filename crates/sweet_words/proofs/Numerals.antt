-- Texts of digits, as `parse` reads them.
use Rattle.std.specs.Prelude.{◌≡◌, ◌≢◌, ◌<◌, ◌^◌, ℕ, Bool, true, false, List, [], ◌∷◌, length, None, Some, Result, Ok, Err, ◌&&◌, nat_le, if◌then◌else◌}
use Rattle.std.specs.Char.{is_ascii_digit, digit_value}
use Rattle.std.specs.List.{list_all}
use Rattle.std.specs.Result.{result_ok}
use Rattle.std.specs.Str.Parse.{AllDigits, IsNumeral, digits_value, without_leading_plus, ParsesUnsigned}
use Rattle.std.proofs.Common.{refl, subst, arith, get_or}
use Rattle.std.proofs.lemmas.Str.Parse.{without_leading_plus_none}
use Rattle.std.proofs.lemmas.Bool.Decides.{nat_tests}
use Rattle.sweet_words.specs.Numbers.{is_number, number_of, number_in}
use Rattle.sweet_words.proofs.Looks.{by_test}

-- a decimal digit has its value
digit_is : (c : ℕ) → is_ascii_digit c ≡ true → digit_value c < 10
digit_is c e = grind (arith, nat_tests)

digits_are : (text : List ℕ) → list_all is_ascii_digit text ≡ true → AllDigits 10 text
digits_are [] e = tt
digits_are (c ∷ text) e = by_test (is_ascii_digit c)
    (λ first. let rest : list_all is_ascii_digit text ≡ true = rw first at e in (digit_is c first, digits_are text rest))
    (λ first. absurd (let bad : false ≡ true = rw first at e in cc))

no_plus : (text : List ℕ) → list_all is_ascii_digit text ≡ true → get_or text 0 0 ≢ 43
no_plus [] e = λ bad. absurd (omega arith)
no_plus (c ∷ text) e = λ bad. by_test (is_ascii_digit c)
    (λ first. let is : c ≡ 43 = bad in let wrong : is_ascii_digit 43 ≡ true = subst (λ (n : ℕ). is_ascii_digit n ≡ true) is first in cc)
    (λ first. absurd (let wrong : false ≡ true = rw first at e in cc))

and_left : (a b : Bool) → (a && b) ≡ true → a ≡ true
and_left true b e = refl
and_left false b e = e

and_right : (a b : Bool) → (a && b) ≡ true → b ≡ true
and_right true b e = e
and_right false b e = absurd (let wrong : false ≡ true = e in cc)

-- what is a number is a numeral of `parse`
pub numeral_is : (text : List ℕ) → is_number text ≡ true → IsNumeral 10 text × (without_leading_plus text ≡ text)
numeral_is text e =
    let digits = and_right (nat_le (length text) 20) (list_all is_ascii_digit text) (and_right (nat_le 1 (length text)) _ e) in
    let some : nat_le 1 (length text) ≡ true = and_left (nat_le 1 (length text)) _ e in
    ((grind (arith, nat_tests), digits_are text digits), without_leading_plus_none text (no_plus text digits))

-- a number that `parse` does not read is above the most
pub too_great : (text : List ℕ) (least most : ℕ) → is_number text ≡ true → most < 2 ^ 32
    → ((IsNumeral 10 (without_leading_plus text) × (digits_value 10 (without_leading_plus text) < 2 ^ 32)) → ⊥) → number_in least most text ≡ None
too_great text least most e fits none =
    let is = numeral_is text e in
    by_test (nat_le (number_of text) most)
    (λ low. absurd (none (rw is.1 (is.0, grind (arith, nat_tests)))))
    (λ high. rw (e, high) (go (nat_le least (number_of text))))
  where
    go : (b : Bool) → (if b && false then Some (number_of text) else None) ≡ None
    go true = refl
    go false = refl

-- a text that `parse` did not read
pub not_read : {E : Type 0} (text : List ℕ) (r : Result ℕ E) → result_ok r ≡ None → ParsesUnsigned 32 10 text r
    → (IsNumeral 10 (without_leading_plus text) × (digits_value 10 (without_leading_plus text) < 2 ^ 32)) → ⊥
not_read text (Ok n) none parsed = absurd (cc)
not_read text (Err e) none parsed = parsed
