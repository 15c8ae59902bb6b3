-- The join of an abstract value with itself is the value.
--   places_self    the places of a value, joined with themselves
--   value_self     an abstract value
use Rattle.std.specs.Prelude.{◌<◌, ◌==◌, nat_lt}
use Rattle.std.proofs.Common.{◌≡◌, ℕ, List, [], ◌∷◌, ◌++◌, Option, Some, None, IfSome, false, arith, refl, sym, ap, ◌∙◌, subst}
use Rattle.std.proofs.lemmas.Bool.{eq-eqb, ne_eqb, le-ltb}
use Rattle.strided_rules.specs.Strides.{Stride, IsStride}
use Rattle.pointer_rules.specs.AbstractValues.{AbstractValue, IsPlace, ArePlaces, Ascends, AreAscending, IsAbstract, either_words, with_place, with_places, joined}
use Rattle.pointer_rules.specs.ValueLaws.{rest_ascends}
use Rattle.memory_rules.specs.SelfStrideLaws.{stride_self}

pub words_self : (words : Option Stride) → IfSome words IsStride → either_words words words ≡ words
words_self None are = refl
words_self (Some words) are = ap (λ x. Some x) (stride_self words are)

-- a place stands above those before it
above : (least : ℕ) (places others : List (ℕ × Stride)) (place : ℕ × Stride) → Ascends least (places ++ place ∷ others)
    → least < place.0
above least [] others place ascends = ascends.0
above least (first ∷ places) others place ascends =
    let low = above first.0 places others place ascends.1 in
    let least_low = ascends.0 in
    omega (arith, low, least_low)

-- a place of a value, put once more
stands_there : (places others : List (ℕ × Stride)) (place : ℕ × Stride) → IsPlace place
    → AreAscending (places ++ place ∷ others)
    → with_place (places ++ place ∷ others) place ≡ places ++ place ∷ others
stands_there [] others place is ascends =
    let here = eq-eqb place.0 place.0 refl in
    rw here (ap (λ x. (place.0, x) ∷ others) (stride_self place.1 is.offsets))
stands_there (first ∷ places) others place is ascends =
    let low : first.0 < place.0 = above first.0 places others place ascends in
    let apart : (first.0 == place.0) ≡ false = ne_eqb first.0 place.0 (λ e. absurd (omega (arith, low, e))) in
    let higher : nat_lt place.0 first.0 ≡ false = le-ltb place.0 first.0 (omega (arith, low)) in
    rw (apart, higher) (ap (λ rest. first ∷ rest) (stands_there places others place is (rest_ascends first.0 (places ++ place ∷ others) ascends)))

regrouped : (done others : List (ℕ × Stride)) (place : ℕ × Stride)
    → (done ++ place ∷ []) ++ others ≡ done ++ place ∷ others
regrouped [] others place = refl
regrouped (first ∷ done) others place = ap (λ rest. first ∷ rest) (regrouped done others place)

all_stand : (done others : List (ℕ × Stride)) → ArePlaces others → AreAscending (done ++ others)
    → with_places (done ++ others) others ≡ done ++ others
all_stand done [] are ascends = refl
all_stand done (place ∷ others) are ascends =
    ap (λ places. with_places places others) (stands_there done others place are.0 ascends)
    ∙ subst (λ places. with_places places others ≡ places) (regrouped done others place)
    (all_stand (done ++ place ∷ []) others are.1 (subst AreAscending (sym (regrouped done others place)) ascends))

-- the places of a value, joined with themselves
pub places_self : (places : List (ℕ × Stride)) → ArePlaces places → AreAscending places
    → with_places places places ≡ places
places_self places are ascends = all_stand [] places are ascends

-- an abstract value
pub value_self : (v : AbstractValue) → IsAbstract v → joined v v ≡ v
value_self v is = λ i. record { words = words_self v.words is.words i; places = places_self v.places is.places is.ascending i }
