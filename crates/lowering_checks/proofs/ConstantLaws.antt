-- Laws of constants.
--   worth_fits      so is that of each text
use Rattle.std.proofs.Common.{◌≡◌, ◌≤◌, ◌==◌, ◌&&◌, ◌||◌, ℕ, Bool, true, false, not, List, [], ◌∷◌, Option, None, Some, leb, leb-true, eqb-true, refl, arith, if◌then◌else◌}
use Rattle.std.specs.Int.{is_in_range}
use Rattle.lists.specs.TestLaws.{by_test}
use Rattle.c_tokens.specs.declared.worth.Worth.{Worth}
use Rattle.c_tokens.specs.declared.worth.Worth.TheVariants as worth
use Rattle.c_tokens.specs.Worth.{most_int, most_unsigned, unsigned_worth, plain_worth, judge, zero_worth, number_worth, number_from, plain_character, escaped_character, character_worth}
use Rattle.c_rules.specs.Names.{worth_of_text}
use Rattle.lowering_checks.specs.Constants.{Fits}

-- of two where either fits
chosen : (b : Bool) (x y : Worth) → (b ≡ true → Fits x) → (b ≡ false → Fits y) → Fits (if b then x else y)
chosen true x y h k = h refl
chosen false x y h k = k refl

unsigned_fits : (n : ℕ) → Fits (unsigned_worth n)
unsigned_fits n =
    chosen (leb n most_unsigned) (worth.UnsignedInt n) worth.TooLarge
    (λ low. let small : n ≤ 4294967295 = leb-true n most_unsigned low in omega (arith, small)) (λ _. tt)

plain_fits : (decimal : Bool) (n : ℕ) → Fits (plain_worth decimal n)
plain_fits decimal n =
    chosen (leb n most_int) (worth.Int n) (if decimal then worth.TooLarge else unsigned_worth n)
    (λ low. let small : n ≤ 2147483647 = leb-true n most_int low in omega (arith, small))
    (λ _. chosen decimal worth.TooLarge (unsigned_worth n) (λ _. tt) (λ _. unsigned_fits n))

judge_fits : (base : ℕ) (r : Option (ℕ × Bool)) → Fits (judge base r)
judge_fits base None = tt
judge_fits base (Some r) = chosen r.1 (unsigned_worth r.0) (plain_worth (base == 10) r.0) (λ _. unsigned_fits r.0) (λ _. plain_fits (base == 10) r.0)

zero_fits : (bs : List ℕ) → Fits (zero_worth bs)
zero_fits [] = omega arith
zero_fits (x ∷ bs) =
    chosen ((x == 120) || (x == 88)) (judge 16 (number_from 16 false 0 bs)) (judge 8 (number_from 8 true 0 (x ∷ bs)))
    (λ _. judge_fits 16 (number_from 16 false 0 bs)) (λ _. judge_fits 8 (number_from 8 true 0 (x ∷ bs)))

number_fits : (bs : List ℕ) → Fits (number_worth bs)
number_fits [] = tt
number_fits (b ∷ bs) =
    chosen (b == 48) (zero_worth bs) (judge 10 (number_from 10 false 0 (b ∷ bs))) (λ _. zero_fits bs)
    (λ _. judge_fits 10 (number_from 10 false 0 (b ∷ bs)))

both_first : (a b : Bool) → (a && b) ≡ true → a ≡ true
both_first true b e = refl
both_first false b e = absurd (let bad : false ≡ true = e in cc)

both_second : (a b : Bool) → (a && b) ≡ true → b ≡ true
both_second true b e = e
both_second false b e = absurd (let bad : false ≡ true = e in cc)

either_of : {A : Type 0} (a b : Bool) → (a || b) ≡ true → (a ≡ true → A) → (b ≡ true → A) → A
either_of true b e f g = f refl
either_of false b e f g = g e

plain_character_fits : (c : ℕ) → Fits (plain_character c)
plain_character_fits c =
    chosen (is_in_range 32 126 c && not (c == 39) && not (c == 92)) (worth.Int c) worth.NoConstant
    (λ is.
    let range : is_in_range 32 126 c ≡ true = by_test (is_in_range 32 126 c) (λ t. t) (λ f. absurd (let bad : false ≡ true = rw f at is in cc)) in
    let low : c ≤ 126 = leb-true c 126 (both_second (leb 32 c) (leb c 126) range) in omega (arith, low))
    (λ _. tt)

escaped_fits : (e : ℕ) → Fits (escaped_character e)
escaped_fits e =
    chosen (e == 110) (worth.Int 10) _ (λ _. omega arith)
    (λ _. chosen (e == 116) (worth.Int 9) _ (λ _. omega arith)
    (λ _. chosen (e == 48) (worth.Int 0) _ (λ _. omega arith)
    (λ _. chosen ((e == 92) || (e == 39)) (worth.Int e) worth.NoConstant
    (λ is. either_of (e == 92) (e == 39) is (λ t. let low = eqb-true e 92 t in omega (arith, low)) (λ t. let low = eqb-true e 39 t in
    omega (arith, low))) (λ _. tt))))

character_fits : (bs : List ℕ) → Fits (character_worth bs)
character_fits [] = tt
character_fits (q ∷ []) = tt
character_fits (q ∷ c ∷ []) = tt
character_fits (q ∷ c ∷ r ∷ []) = chosen ((q == 39) && (r == 39)) (plain_character c) worth.NoConstant (λ _. plain_character_fits c) (λ _. tt)
character_fits (q ∷ s ∷ e ∷ r ∷ []) = chosen ((q == 39) && (s == 92) && (r == 39)) (escaped_character e) worth.NoConstant (λ _. escaped_fits e) (λ _. tt)
character_fits (q ∷ s ∷ e ∷ r ∷ t ∷ ts) = tt

pub worth_fits : (text : List ℕ) → Fits (worth_of_text text)
worth_fits [] = tt
worth_fits (b ∷ bs) = chosen (b == 39) (character_worth (b ∷ bs)) (number_worth (b ∷ bs)) (λ _. character_fits (b ∷ bs)) (λ _. number_fits (b ∷ bs))
