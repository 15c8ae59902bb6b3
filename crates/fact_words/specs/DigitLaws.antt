-- Digits, and the numbers that they write.
use Rattle.std.proofs.Common.{◌≡◌, ℕ, ℤ, pos, negsuc, zero, suc, ◌+◌, ◌-◌, ◌*◌, ◌/◌, ◌%◌, ◌^◌, ◌≤◌, ◌<◌, ◌&&◌, Bool, true, false, not, ltb, leb, List, [], ◌∷◌, ◌++◌, length, Ok, Err, Result, cond, refl, subst, ◌∙◌, arith, length-append, append_assoc, append-nil}
use Rattle.std.specs.Prelude.{◌==◌, decimal, neg_ℤ}
use Rattle.std.specs.Fmt.{signed_decimal}
use Rattle.std.specs.List.{list_all}
use Rattle.std.specs.Char.{is_ascii_digit}
use Rattle.std.proofs.lemmas.Bool.{le-leb, leb-true, ne_eqb, eqb-true}
use Rattle.std.proofs.lemmas.Fmt.{decimal_by_steps_wide, decimal_step_wide}
use Rattle.std.proofs.lemmas.List.Folds.{list_all-append}
use Rattle.lists.specs.TestLaws.{by_test}
use Rattle.flow_base.specs.Digits.{number_after, number_of}
use Rattle.grammar.specs.Form.{and_then}
use Rattle.grammar.specs.Exact.{ok_no_err}
use Rattle.grammar.specs.ExactLaws.{ok_is}
use Rattle.flow_facts.specs.Writable.{IsLong}
use Rattle.fact_words.specs.Printed.{goes_through, is_word}
use Rattle.fact_words.specs.Numbers.{Fault, Syntax, Number, is_numeral, has_zeros, number_within, is_below, after_minus, negative, whole_within}

-- ---- a number's digits

abbrev leads : List ℕ → Bool
leads [] = false
leads (d ∷ ds) = not (d == 48)

-- ds are digits that write n, and the first is no zero but where n is 0
record Writes (n : ℕ) (ds : List ℕ) : Type 0 where
  number : number_of ds ≡ n
  digits : list_all is_ascii_digit ds ≡ true
  some : 0 < length ds
  clean : has_zeros ds ≡ false
  lead : 1 ≤ n → leads ds ≡ true

digit : (d : ℕ) → d < 10 → is_ascii_digit (48 + d) ≡ true
digit d lt = let a : leb 48 (48 + d) ≡ true = le-leb _ _ (omega arith) in let b : leb (48 + d) 57 ≡ true = le-leb _ _ (omega arith) in rw (a, b) refl

after-append : (n : ℕ) (xs ys : List ℕ) → number_after n (xs ++ ys) ≡ number_after (number_after n xs) ys
after-append n [] ys = refl
after-append n (x ∷ xs) ys = after-append (10 * n + (x - 48)) xs ys

no_other : (b : Bool) → b && false ≡ false
no_other true = refl
no_other false = refl

lead_one : (n : ℕ) → 1 ≤ n → not (48 + n == 48) ≡ true
lead_one n some = let e : 48 + n == 48 ≡ false = ne_eqb _ _ (λ e. absurd (omega (arith, e))) in rw e refl

writes_one : (n : ℕ) → n < 10 → Writes n ((48 + n) ∷ [])
writes_one n lt = record { number = omega arith; digits = rw (digit n lt) refl; some = omega arith; clean = no_other (48 + n == 48); lead = lead_one n }

leads_on : (ds es : List ℕ) → leads ds ≡ true → (has_zeros (ds ++ es) ≡ false) × (leads (ds ++ es) ≡ true)
leads_on [] es h = absurd cc
leads_on (d ∷ ds) es h = (by_test (d == 48) (λ t. absurd (let k : not true ≡ true = rw t at h in cc)) (λ t. rw t refl), h)

writes_more : (n : ℕ) (ds : List ℕ) → 10 ≤ n → Writes (n / 10) ds → Writes n (ds ++ ((48 + n % 10) ∷ []))
writes_more n ds le h =
    let on = leads_on ds ((48 + n % 10) ∷ []) (h.lead (omega arith)) in
    record {
      number = after-append 0 ds ((48 + n % 10) ∷ []) ∙ rw h.number (omega arith);
      digits = rw (list_all-append, h.digits, digit (n % 10) (omega arith)) refl;
      some = omega (arith, length-append ds ((48 + n % 10) ∷ []));
      clean = on.0;
      lead = λ _. on.1;
    }

decimal_writes : (n : ℕ) → n < 10 ^ 64 → Writes n (decimal n)
decimal_writes n lt = decimal_by_steps_wide Writes writes_one writes_more n lt

-- the digits of a number are read as the number
pub decimal_within : (most n left : ℕ) → n < 10 ^ 64 → n ≤ most → number_within most (decimal n) left ≡ Ok n
unfolding number_within
decimal_within most n left lt le =
    let w = decimal_writes n lt in
    let some : ltb 0 (length (decimal n)) ≡ true = grind (arith, w.some) in
    let low : ltb most n ≡ false = grind (arith, le) in
    rw (some, w.digits, w.number, low, w.clean) refl

-- ---- digits are words

digit_range : (d : ℕ) → is_ascii_digit d ≡ true → (48 ≤ d) × (d ≤ 57)
digit_range d t = by_test (leb 48 d)
    (λ l. by_test (leb d 57) (λ k. (leb-true _ _ l, leb-true _ _ k)) (λ k. absurd (let f : false ≡ true = rw (l, k) at t in cc)))
    (λ l. absurd (let k : false ≡ true = rw l at t in cc))

-- no digit ends a word or opens quotes
plain_goes : (ds ys : List ℕ) → list_all is_ascii_digit ds ≡ true
    → goes_through false (ds ++ ys) ≡ goes_through false ys
plain_goes [] ys h = refl
plain_goes (d ∷ ds) ys h = by_test (is_ascii_digit d)
    (λ t.
    let more : list_all is_ascii_digit ds ≡ true = rw t at h in
    let low : 48 ≤ d = (digit_range d t).0 in
    let a : d == 10 ≡ false = ne_eqb _ _ (λ e. absurd (omega (arith, e, low))) in
    let b : d == 32 ≡ false = ne_eqb _ _ (λ e. absurd (omega (arith, e, low))) in
    let c : d == 34 ≡ false = ne_eqb _ _ (λ e. absurd (omega (arith, e, low))) in
    rw (a, b, c) (plain_goes ds ys more))
    (λ t. absurd (let k : false ≡ true = rw t at h in cc))

digits_word : (ds : List ℕ) → list_all is_ascii_digit ds ≡ true → is_word ds ≡ true
digits_word ds h = rw (← append-nil ds) (plain_goes ds [] h)

pub decimal_word : (n : ℕ) → n < 10 ^ 64 → is_word (decimal n) ≡ true
decimal_word n lt = digits_word (decimal n) (decimal_writes n lt).digits

pub negative_word : (n : ℕ) → suc n < 10 ^ 64 → is_word (signed_decimal (negsuc n)) ≡ true
negative_word n lt = decimal_word (suc n) lt

-- what is known of the digits of a number of 32 bits
pub record IsDigits (n : ℕ) : Type 0 where
  pub number : number_of (decimal n) ≡ n
  pub numeral : is_numeral (decimal n) ≡ true
  pub digits : list_all is_ascii_digit (decimal n) ≡ true
  pub clean : has_zeros (decimal n) ≡ false

pub decimal_is : (n : ℕ) → n < 2 ^ 32 → IsDigits n
decimal_is n lt =
    let w = decimal_writes n (omega (arith, lt)) in
    let some : ltb 0 (length (decimal n)) ≡ true = grind (arith, w.some) in
    record { number = w.number; numeral = rw (some, w.digits) refl; digits = w.digits; clean = w.clean }

pub decimal_goes : (n : ℕ) → n < 2 ^ 32 → (ys : List ℕ) → goes_through false (decimal n ++ ys) ≡ goes_through false ys
decimal_goes n lt ys = plain_goes (decimal n) ys (decimal_is n lt).digits

-- ---- whole numbers

no_minus : (ds : List ℕ) → list_all is_ascii_digit ds ≡ true → is_below ds ≡ false
no_minus [] h = refl
no_minus (d ∷ ds) h = by_test (d == 45)
    (λ t. let e : d ≡ 45 = eqb-true d 45 t in absurd (let k : false ≡ true = rw e at h in cc))
    (λ t. t)

-- the digits of a whole number are read as the number
pub positive_within : (n left : ℕ) → n < 2 ^ 127 → whole_within (signed_decimal (pos n)) left ≡ Ok (pos n)
unfolding whole_within
positive_within n left lt =
    let small : n < 10 ^ 64 = omega (arith, lt) in
    rw (no_minus (decimal n) (decimal_writes n small).digits, decimal_within (2 ^ 127 - 1) n left small (omega (arith, lt))) refl

pub negative_within : (n left : ℕ) → n < 2 ^ 127 → whole_within (signed_decimal (negsuc n)) left ≡ Ok (negsuc n)
unfolding whole_within
negative_within n left lt =
    let some : suc n == 0 ≡ false = ne_eqb _ _ (λ e. absurd (omega (arith, e))) in
    rw (decimal_within (2 ^ 127) (suc n) left (omega (arith, lt)) (omega (arith, lt)), some) refl

-- ---- from digits to the number

after-least : (n : ℕ) (ds : List ℕ) → n ≤ number_after n ds
after-least n [] = omega arith
after-least n (d ∷ ds) = omega (arith, after-least (10 * n + (d - 48)) ds)

first_digit : (a b : Bool) → a && b ≡ true → a ≡ true
first_digit true b h = refl
first_digit false b h = absurd cc

second : (a b : Bool) → a && b ≡ true → b ≡ true
second true b h = h
second false b h = absurd cc

-- further digits are written after those of the number so far
decimal_after : (n : ℕ) (ds : List ℕ) → 1 ≤ n → list_all is_ascii_digit ds ≡ true → number_after n ds < 10 ^ 64
    → decimal (number_after n ds) ≡ decimal n ++ ds
decimal_after n [] some all lt = simp append-nil
decimal_after n (d ∷ ds) some all lt = by_test (is_ascii_digit d)
    (λ t.
    let more : list_all is_ascii_digit ds ≡ true = rw t at all in
    let r = digit_range d t in
    let m = 10 * n + (d - 48) in
    let small : m < 10 ^ 64 = omega (arith, lt, after-least m ds) in
    let step : decimal m ≡ decimal (m / 10) ++ ((48 + m % 10) ∷ []) = decimal_step_wide m (omega (arith, some)) small in
    let front : m / 10 ≡ n = omega (arith, r) in
    let last : 48 + m % 10 ≡ d = omega (arith, r) in
    rw (decimal_after m ds (omega (arith, some)) more lt, step, front, last) (append_assoc (decimal n) (d ∷ []) ds))
    (λ t. absurd (let k : false ≡ true = rw t at all in cc))

decimal_small : (n : ℕ) → n < 10 → decimal n ≡ (48 + n) ∷ []
decimal_small n lt = decimal_by_steps_wide (λ m ds. m < 10 → ds ≡ (48 + m) ∷ []) (λ m small _. refl) (λ m ds le h small. absurd (omega (arith, le, small))) n (omega (arith, lt)) lt

no_more : (b : Bool) (ds : List ℕ) → b ≡ true → b && ltb 0 (length ds) ≡ false → ds ≡ []
no_more b [] e h = refl
no_more b (d ∷ ds) e h = absurd (let k : ltb 0 (length (d ∷ ds)) ≡ false = rw e at h in grind (arith, k))

-- digits without zeros before them are those of their number
pub decimal_of : (ds : List ℕ) → is_numeral ds ≡ true → has_zeros ds ≡ false → number_of ds < 10 ^ 64
    → decimal (number_of ds) ≡ ds
decimal_of [] some clean lt = absurd cc
decimal_of (d ∷ ds) some clean lt = by_test (d == 48)
    (λ z. let e : d ≡ 48 = eqb-true d 48 z in let f : ds ≡ [] = no_more (d == 48) ds z clean in rw (e, f) (decimal_small 0 (omega arith)))
    (λ z. other z (digit_range d (first_digit (is_ascii_digit d) (list_all is_ascii_digit ds) all)))
  where
    all : list_all is_ascii_digit (d ∷ ds) ≡ true
    all = second (ltb 0 (length (d ∷ ds))) (list_all is_ascii_digit (d ∷ ds)) some

    other : d == 48 ≡ false → (48 ≤ d) × (d ≤ 57) → decimal (number_of (d ∷ ds)) ≡ d ∷ ds
    other z r =
        let n = 10 * 0 + (d - 48) in
        let some : 1 ≤ n = grind (arith, z, r) in
        let back : 48 + n ≡ d = omega (arith, r) in
        decimal_after n ds some (second (is_ascii_digit d) (list_all is_ascii_digit ds) all) lt ∙ rw (decimal_small n (omega (arith, r)), back) refl

pub decimal_one : decimal 1 ≡ 49 ∷ []
decimal_one = decimal_small 1 (omega arith)

pub decimal_two : decimal 2 ≡ 50 ∷ []
decimal_two = decimal_small 2 (omega arith)

-- ---- what is read fits

tested : {A : Type 0} (b : Bool) (f : Fault) (r : Result A Fault) (x : A) → cond b r (Err f) ≡ Ok x
    → (b ≡ true) × (r ≡ Ok x)
tested true f r x e = (refl, e)
tested false f r x e = ok_no_err x f e

refused : {A : Type 0} (b : Bool) (f : Fault) (r : Result A Fault) (x : A) → cond b (Err f) r ≡ Ok x
    → (b ≡ false) × (r ≡ Ok x)
refused true f r x e = ok_no_err x f e
refused false f r x e = (refl, e)

-- a number that was read is at most so much
pub within_bounds : (most : ℕ) (text : List ℕ) (left n : ℕ) → number_within most text left ≡ Ok n → n ≤ most
unfolding number_within
within_bounds most text left n e =
    let a = tested (is_numeral text) (Syntax left) _ n e in
    let b = refused (ltb most (number_of text)) (Number left) _ n a.1 in
    let c = refused (has_zeros text) (Syntax left) (Ok (number_of text)) n b.1 in
    let k : number_of text ≡ n = ok_is {F = Fault} (number_of text) n c.1 in
    grind (arith, b.0, k)

below_long : (left n : ℕ) (b : Bool) (z : ℤ) → n == 0 ≡ b → n ≤ 2 ^ 127
    → ◌≡◌ {A = Result ℤ Fault} (cond b (Err (Syntax left)) (Ok (neg_ℤ (pos n)))) (Ok z) → IsLong z
below_long left zero true z h le e = ok_no_err z (Syntax left) e
below_long left (suc n) true z h le e = ok_no_err z (Syntax left) e
below_long left zero false z h le e = subst IsLong (ok_is {F = Fault} (neg_ℤ (pos 0)) z e) (omega arith)
below_long left (suc n) false z h le e = subst IsLong (ok_is {F = Fault} (negsuc n) z e) (omega (arith, le))

-- a whole number that was read fits
pub whole_bounds : (text : List ℕ) (left : ℕ) (z : ℤ) → whole_within text left ≡ Ok z → IsLong z
unfolding whole_within
whole_bounds text left z e = by_test (is_below text) (λ t. below (number_within (2 ^ 127) (after_minus text) left) refl (rw t at e)) (λ t. above (number_within (2 ^ 127 - 1) text left) refl (rw t at e))
  where
    below : (r : Result ℕ Fault) → number_within (2 ^ 127) (after_minus text) left ≡ r
        → and_then r (negative left) ≡ Ok z → IsLong z
    below (Ok n) k e = below_long left n (n == 0) z refl (within_bounds (2 ^ 127) (after_minus text) left n k) e
    below (Err f) k e = ok_no_err z f e

    above : (r : Result ℕ Fault) → number_within (2 ^ 127 - 1) text left ≡ r
        → ◌≡◌ {A = Result ℤ Fault} (and_then r (λ n. Ok (pos n))) (Ok z) → IsLong z
    above (Ok n) k e = subst IsLong (ok_is {F = Fault} (pos n) z e) (omega (arith, within_bounds (2 ^ 127 - 1) text left n k))
    above (Err f) k e = ok_no_err z f e
