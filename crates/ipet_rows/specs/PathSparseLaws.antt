-- Rows as terms: what they have at each column.
--   weight_at f cs j     the weight of column j, and 0 past the last
--   coefficient_is       that is what the terms have there
--   terms_within         the terms are of the columns
--   terms_ascend         and by ascending column
--   terms_count          and none is 0
use Rattle.std.proofs.Common.{◌≡◌, ◌≢◌, ◌<◌, ◌+◌, ◌==◌, ℕ, zero, suc, ℤ, pos, true, false, List, [], ◌∷◌, length, refl, ap, sym, ◌∙◌, arith}
use Rattle.std.proofs.lemmas.Bool.{eq-eqb, ne_eqb, both_ways}
use Rattle.std.proofs.lemmas.Int.{ints}
use Rattle.lists.specs.TestLaws.{by_test}
use Rattle.ipet_rows.specs.Sums.{coefficient, StartsAbove, IsAscending}
use Rattle.ipet_rows.specs.Programs.{IsWithin}
use Rattle.ipet_rows.specs.Columns.{Column}
use Rattle.ipet_rows.specs.Rows.{vanishes, terms_from}
use Rattle.ipet_rows.specs.UseLaws.{vanish_is}

-- the weight of column j, and 0 past the last
abbrev pub weight_at : (Column → ℤ) → List Column → ℕ → ℤ
weight_at f [] j = pos 0
weight_at f (c ∷ cs) zero = f c
weight_at f (c ∷ cs) (suc j) = weight_at f cs j

-- no term is 0
abbrev pub AreSome : List (ℕ × ℤ) → Type 0
AreSome [] = Unit {0}
AreSome (t ∷ ts) = (t.1 ≢ pos 0) × AreSome ts

none_before : (f : Column → ℤ) (e k : ℕ) (cs : List Column) → k < e → coefficient (terms_from f e cs) k ≡ pos 0
none_before f e k [] less = refl
none_before f e k (c ∷ cs) less =
    let rest = none_before f (e + 1) k cs (omega arith) in
    let other : (e == k) ≡ false = ne_eqb e k (λ same. omega arith) in
    by_test (vanishes (f c)) (λ none. rw none rest) (λ some. rw (some, other) (omega (arith, ints, rest)))

-- what the terms have at a column is its weight
pub coefficient_is : (f : Column → ℤ) (e : ℕ) (cs : List Column) (j k : ℕ) → k ≡ e + j
    → coefficient (terms_from f e cs) k ≡ weight_at f cs j
coefficient_is f e [] j k is = refl
coefficient_is f e (c ∷ cs) zero k is =
    let rest = none_before f (e + 1) k cs (omega arith) in
    let here : (e == k) ≡ true = eq-eqb e k (omega arith) in
    by_test (vanishes (f c)) (λ none. let nothing = vanish_is (f c) none in rw none (rest ∙ sym nothing)) (λ some. rw (some, here) (omega (arith, ints, rest)))
coefficient_is f e (c ∷ cs) (suc j) k is =
    let rest = coefficient_is f (e + 1) cs j k (omega arith) in
    let other : (e == k) ≡ false = ne_eqb e k (λ same. omega arith) in
    by_test (vanishes (f c)) (λ none. rw none rest) (λ some. rw (some, other) (omega (arith, ints, rest)))

-- the terms are of the columns
pub terms_within : (f : Column → ℤ) (e n : ℕ) (cs : List Column) → n ≡ e + length cs → IsWithin n (terms_from f e cs)
terms_within f e n [] is = tt
terms_within f e n (c ∷ cs) is =
    let rest = terms_within f (e + 1) n cs (omega arith) in
    by_test (vanishes (f c)) (λ none. rw none rest) (λ some. rw some (omega arith, rest))

starts_above : (f : Column → ℤ) (k e : ℕ) (cs : List Column) → k < e → StartsAbove k (terms_from f e cs)
starts_above f k e [] less = tt
starts_above f k e (c ∷ cs) less = by_test (vanishes (f c)) (λ none. rw none (starts_above f k (e + 1) cs (omega arith))) (λ some. rw some less)

-- and by ascending column
pub terms_ascend : (f : Column → ℤ) (e : ℕ) (cs : List Column) → IsAscending (terms_from f e cs)
terms_ascend f e [] = tt
terms_ascend f e (c ∷ cs) =
    let rest = terms_ascend f (e + 1) cs in
    by_test (vanishes (f c)) (λ none. rw none rest) (λ some. rw some (starts_above f e (e + 1) cs (omega arith), rest))

-- and none is 0
pub terms_count : (f : Column → ℤ) (e : ℕ) (cs : List Column) → AreSome (terms_from f e cs)
terms_count f e [] = tt
terms_count f e (c ∷ cs) =
    let rest = terms_count f (e + 1) cs in
    by_test (vanishes (f c)) (λ none. rw none rest) (λ some. rw some ((λ nothing. both_ways (vanishes (f c)) some (ap vanishes nothing)), rest))
