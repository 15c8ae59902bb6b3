-- The digits of a number are read as that number.
use Rattle.std.proofs.Common.{◌≡◌, ℕ, ◌+◌, ◌-◌, ◌*◌, ◌/◌, ◌%◌, ◌^◌, ◌≤◌, ◌<◌, true, false, ltb, leb, List, [], ◌∷◌, ◌++◌, length, Some, refl, ap, ◌∙◌, arith, length-append}
use Rattle.std.specs.Prelude.{decimal}
use Rattle.std.specs.List.{list_all}
use Rattle.std.specs.Char.{is_ascii_digit}
use Rattle.std.proofs.lemmas.Bool.{le-leb}
use Rattle.std.proofs.lemmas.Fmt.{decimal_by_steps, length-decimal-le}
use Rattle.std.proofs.lemmas.List.Folds.{list_all-append}
use Rattle.lists.specs.TestLaws.{by_test}
use Rattle.flow_base.specs.Digits.{prefix_digits, number_after, number_of}
use Rattle.alf_tokens.specs.Printed.{is_number_text}
use Rattle.alf_reader.specs.Grammar.{number_within}

-- ds are digits that write n
record Writes (n : ℕ) (ds : List ℕ) : Type 0 where
  number : number_of ds ≡ n
  digits : list_all is_ascii_digit ds ≡ true
  some : 0 < length ds

digit : (d : ℕ) → d < 10 → is_ascii_digit (48 + d) ≡ true
digit d lt = let a : leb 48 (48 + d) ≡ true = le-leb _ _ (omega arith) in let b : leb (48 + d) 57 ≡ true = le-leb _ _ (omega arith) in rw (a, b) refl

after-append : (n : ℕ) (xs ys : List ℕ) → number_after n (xs ++ ys) ≡ number_after (number_after n xs) ys
after-append n [] ys = refl
after-append n (x ∷ xs) ys = after-append (10 * n + (x - 48)) xs ys

writes_one : (n : ℕ) → n < 10 → Writes n ((48 + n) ∷ [])
writes_one n lt = record { number = omega arith; digits = rw (digit n lt) refl; some = omega arith }

writes_more : (n : ℕ) (ds : List ℕ) → 10 ≤ n → Writes (n / 10) ds → Writes n (ds ++ ((48 + n % 10) ∷ []))
writes_more n ds le h = record {
  number = after-append 0 ds ((48 + n % 10) ∷ []) ∙ rw h.number (omega arith);
  digits = rw (list_all-append, h.digits, digit (n % 10) (omega arith)) refl;
  some = omega (arith, length-append ds ((48 + n % 10) ∷ []));
}

decimal_writes : (n : ℕ) → n < 2 ^ 64 → Writes n (decimal n)
decimal_writes n lt = decimal_by_steps Writes writes_one writes_more n lt

pub decimal_text : (n : ℕ) → n < 2 ^ 64 → is_number_text (decimal n) ≡ true
decimal_text n lt =
    let w = decimal_writes n lt in
    let some : ltb 0 (length (decimal n)) ≡ true = grind (arith, w.some) in
    let short : leb (length (decimal n)) 20 ≡ true = le-leb _ _ (length-decimal-le 20 n (omega arith) (omega (arith, lt)) lt) in
    rw (some, short) w.digits

front_all : (ds : List ℕ) → list_all is_ascii_digit ds ≡ true → prefix_digits ds ≡ ds
front_all [] h = refl
front_all (d ∷ ds) h = by_test (is_ascii_digit d)
    (λ t. let more : list_all is_ascii_digit ds ≡ true = rw t at h in rw t (ap (λ (xs : List ℕ). d ∷ xs) (front_all ds more)))
    (λ t. absurd (let k : false ≡ true = rw t at h in cc))

within_some : (most n : ℕ) (ds : List ℕ) → number_of ds ≡ n → 0 < length ds → n ≤ most → number_within most ds ≡ Some n
within_some most n [] e some le = absurd (omega arith)
within_some most n (d ∷ ds) e some le = let l : leb n most ≡ true = le-leb _ _ le in rw (e, l) refl

-- the digits of a number are read as the number
pub decimal_within : (most n : ℕ) → n < 2 ^ 64 → n ≤ most → number_within most (prefix_digits (decimal n)) ≡ Some n
decimal_within most n lt le =
    let w = decimal_writes n lt in
    rw (front_all (decimal n) w.digits) (within_some most n (decimal n) w.number w.some le)
