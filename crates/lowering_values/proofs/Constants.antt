-- Constants have 32 bits.
use Rattle.std.specs.Prelude.{nat_le, if◌then◌else◌}
use Rattle.std.specs.Int.{is_in_range}
use Rattle.std.proofs.Common.{◌≡◌, ℕ, ◌^◌, ◌<◌, ◌≤◌, ◌==◌, ◌&&◌, ◌||◌, not, Bool, true, false, List, [], ◌∷◌, Option, Some, None, refl, sym, ap, ◌∙◌, arith}
use Rattle.std.proofs.lemmas.Bool.{leb-true, eqb-true}
use Rattle.lists.specs.TestLaws.{by_test}
use Rattle.c_tokens.specs.declared.worth.Worth.{Worth}
use Rattle.c_tokens.specs.declared.worth.Worth.TheVariants as worth
use Rattle.c_tokens.specs.Worth.{most_int, most_unsigned, unsigned_worth, plain_worth, judge, zero_worth, number_from, number_worth, plain_character, escaped_character, character_worth}
use Rattle.c_rules.specs.Names.{number_of, worth_of_text}

abbrev IsSmall : Worth → Type 0
IsSmall w = number_of w < 2 ^ 32

if_small : (test : Bool) (v w : Worth) → (test ≡ true → IsSmall v) → (test ≡ false → IsSmall w)
    → IsSmall (if test then v else w)
if_small true v w first second = first refl
if_small false v w first second = second refl

none_small : IsSmall worth.NoConstant
none_small = omega arith

unsigned_small : (n : ℕ) → IsSmall (unsigned_worth n)
unsigned_small n =
    if_small (nat_le n most_unsigned) (worth.UnsignedInt n) worth.TooLarge
    (λ low. let most : n ≤ 4294967295 = leb-true n most_unsigned low in omega arith) (λ high. omega arith)

plain_small : (decimal : Bool) (n : ℕ) → IsSmall (plain_worth decimal n)
plain_small decimal n =
    if_small (nat_le n most_int) (worth.Int n) (if decimal then worth.TooLarge else unsigned_worth n)
    (λ low. let most : n ≤ 2147483647 = leb-true n most_int low in omega arith)
    (λ high. if_small decimal worth.TooLarge (unsigned_worth n) (λ is. omega arith) (λ is. unsigned_small n))

judged_small : (base : ℕ) (r : Option (ℕ × Bool)) → IsSmall (judge base r)
judged_small base None = none_small
judged_small base (Some r) = if_small r.1 (unsigned_worth r.0) (plain_worth (base == 10) r.0) (λ is. unsigned_small r.0) (λ is. plain_small (base == 10) r.0)

zero_small : (bs : List ℕ) → IsSmall (zero_worth bs)
zero_small [] = omega arith
zero_small (x ∷ bs) =
    if_small ((x == 120) || (x == 88)) (judge 16 (number_from 16 false 0 bs)) (judge 8 (number_from 8 true 0 (x ∷ bs)))
    (λ is. judged_small 16 (number_from 16 false 0 bs)) (λ is. judged_small 8 (number_from 8 true 0 (x ∷ bs)))

number_small : (bs : List ℕ) → IsSmall (number_worth bs)
number_small [] = none_small
number_small (b ∷ bs) =
    if_small (b == 48) (zero_worth bs) (judge 10 (number_from 10 false 0 (b ∷ bs))) (λ is. zero_small bs) (λ is. judged_small 10 (number_from 10 false 0 (b ∷ bs)))

-- the first and the second of two tests
pub both_first : (a b : Bool) → (a && b) ≡ true → a ≡ true
both_first true b is = refl
both_first false b is = is

pub both_second : (a b : Bool) → (a && b) ≡ true → b ≡ true
both_second true b is = is
both_second false b is = absurd (let bad : false ≡ true = is in cc)

within : (c : ℕ) → is_in_range 32 126 c ≡ true → c ≤ 126
within c is = leb-true c 126 (both_second (nat_le 32 c) (nat_le c 126) is)

plain_character_small : (c : ℕ) → IsSmall (plain_character c)
plain_character_small c =
    if_small (is_in_range 32 126 c && not (c == 39) && not (c == 92)) (worth.Int c) worth.NoConstant
    (λ is. let most : c ≤ 126 = within c (both_first (is_in_range 32 126 c) (not (c == 39)) (both_first (is_in_range 32 126 c && not (c == 39)) (not (c == 92)) is)) in omega arith)
    (λ is. none_small)

either_is : (e : ℕ) → ((e == 92) || (e == 39)) ≡ true → e ≤ 92
either_is e is = by_test (e == 92)
    (λ first. let same : e ≡ 92 = eqb-true e 92 first in omega arith)
    (λ other. let same : e ≡ 39 = eqb-true e 39 (sym (ap (λ (b : Bool). b || (e == 39)) other) ∙ is) in omega arith)

escaped_small : (e : ℕ) → IsSmall (escaped_character e)
escaped_small e =
    if_small (e == 110) (worth.Int 10) (if e == 116 then worth.Int 9 else if e == 48 then worth.Int 0 else if (e == 92) || (e == 39) then worth.Int e else worth.NoConstant) (λ is. omega arith)
    (λ no. if_small (e == 116) (worth.Int 9) (if e == 48 then worth.Int 0 else if (e == 92) || (e == 39) then worth.Int e else worth.NoConstant) (λ is. omega arith)
    (λ no. if_small (e == 48) (worth.Int 0) (if (e == 92) || (e == 39) then worth.Int e else worth.NoConstant) (λ is. omega arith)
    (λ no. if_small ((e == 92) || (e == 39)) (worth.Int e) worth.NoConstant (λ is. let most : e ≤ 92 = either_is e is in omega arith) (λ no. none_small))))

character_small : (bs : List ℕ) → IsSmall (character_worth bs)
character_small [] = none_small
character_small (q ∷ []) = none_small
character_small (q ∷ c ∷ []) = none_small
character_small (q ∷ c ∷ r ∷ []) = if_small ((q == 39) && (r == 39)) (plain_character c) worth.NoConstant (λ is. plain_character_small c) (λ is. none_small)
character_small (q ∷ s ∷ e ∷ r ∷ []) =
    if_small ((q == 39) && (s == 92) && (r == 39)) (escaped_character e) worth.NoConstant (λ is. escaped_small e) (λ is. none_small)
character_small (q ∷ s ∷ e ∷ r ∷ t ∷ bs) = none_small

pub worth_small : (text : List ℕ) → number_of (worth_of_text text) < 2 ^ 32
worth_small [] = none_small
worth_small (b ∷ bs) = if_small (b == 39) (character_worth (b ∷ bs)) (number_worth (b ∷ bs)) (λ is. character_small (b ∷ bs)) (λ is. number_small (b ∷ bs))
