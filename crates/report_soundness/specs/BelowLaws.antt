-- What stands in lists of lines, and sums over numbers.
--   in_if, from_if, in_unless, from_unless   what stands there where a test passes, or where it does not
--   in_span, from_span     the line of a span
--   in_below, from_below   the members of the lists of the numbers below one
--   sum_same, sum_rises, sum_both, sum_none, sum_one   sums over the numbers below one
use Rattle.std.proofs.Common.{◌≡◌, ◌<◌, ◌≤◌, ◌+◌, ◌==◌, ℕ, zero, suc, List, [], ◌∷◌, Option, Some, None, Bool, true, false, cond, Contains, inl, inr, refl, sym, ap, subst, arith}
use Rattle.std.proofs.lemmas.Bool.{eq-eqb, ne_eqb}
use Rattle.std.proofs.lemmas.List.Elements.{Contains-append_left, Contains-append_right, Contains-append_cases}
use Rattle.lists.specs.MemberLaws.{no_member, first_member, first_or_further}
use Rattle.graph_walks.specs.ListLaws.{same_or_not}
use Rattle.flow_facts.specs.declared.fact.Fact.{Fact}
use Rattle.report_soundness.specs.ReportTold.{below, sum_below, span_lines}

module _ {A : Type 0} where
  -- ---- where a test passes

  pub in_if : (v : Bool) (xs : List A) (y : A) → v ≡ true → Contains xs y → Contains (cond v xs []) y
  in_if true xs y is there = there
  in_if false xs y is there = absurd (let bad : false ≡ true = is in cc)

  pub from_if : (v : Bool) (xs : List A) (y : A) → Contains (cond v xs []) y → (v ≡ true) × Contains xs y
  from_if true xs y there = (refl, there)
  from_if false xs y there = no_member y there

  pub in_unless : (v : Bool) (xs : List A) (y : A) → v ≡ false → Contains xs y → Contains (cond v [] xs) y
  in_unless false xs y is there = there
  in_unless true xs y is there = absurd (let bad : true ≡ false = is in cc)

  pub from_unless : (v : Bool) (xs : List A) (y : A) → Contains (cond v [] xs) y → (v ≡ false) × Contains xs y
  from_unless false xs y there = (refl, there)
  from_unless true xs y there = no_member y there

  -- the one member
  pub only_member : (x y : A) → Contains (x ∷ []) y → x ≡ y
  only_member x y there = first_or_further x [] y there (λ same. same) (λ none. no_member y none)

  -- ---- below a number

  pub in_below : (f : ℕ → List A) (k n : ℕ) (y : A) → n < k → Contains (f n) y → Contains (below f k) y
  in_below f zero n y low there = absurd (omega arith)
  in_below f (suc k) n y low there =
      elim (same_or_not n k) [
        | inl same ↦ Contains-append_right (below f k) (f k) y (subst (λ (m : ℕ). Contains (f m) y) same there)
        | inr other ↦ Contains-append_left (below f k) (f k) y (in_below f k n y (omega arith) there)
      ]

  pub from_below : (f : ℕ → List A) (k : ℕ) (y : A) → Contains (below f k) y → (n : ℕ) × (n < k) × Contains (f n) y
  from_below f zero y there = no_member y there
  from_below f (suc k) y there =
      elim (Contains-append_cases (below f k) (f k) y there) [
        | inl before ↦ let found = from_below f k y before in (found.0, let low = found.1 in omega arith, found.2)
        | inr last ↦ (k, omega arith, last)
      ]

-- ---- spans

pub in_span : (line : ℕ → ℕ → Fact) (spread : Option (ℕ × ℕ)) (low high : ℕ) → spread ≡ Some (low, high)
    → Contains (span_lines line spread) (line low high)
in_span line spread low high is = subst (λ (t : Option (ℕ × ℕ)). Contains (span_lines line t) (line low high)) (sym is) (first_member (line low high) [])

-- a line is that of a span
pub record OfSpan (line : ℕ → ℕ → Fact) (spread : Option (ℕ × ℕ)) (fact : Fact) : Type 0 where
  pub low : ℕ
  pub high : ℕ
  pub span : spread ≡ Some (low, high)
  pub is : line low high ≡ fact

pub from_span : (line : ℕ → ℕ → Fact) (spread : Option (ℕ × ℕ)) (fact : Fact) → Contains (span_lines line spread) fact
    → OfSpan line spread fact
from_span line None fact there = no_member fact there
from_span line (Some s) fact there = record { low = s.0; high = s.1; span = refl; is = only_member (line s.0 s.1) fact there }

-- ---- sums

pub sum_same : (f g : ℕ → ℕ) (k : ℕ) → ((n : ℕ) → n < k → f n ≡ g n) → sum_below f k ≡ sum_below g k
sum_same f g zero same = refl
sum_same f g (suc k) same = let before = sum_same f g k (λ n low. same n (omega arith)) in let last = same k (omega arith) in omega (arith, before, last)

pub sum_rises : (f g : ℕ → ℕ) (k : ℕ) → ((n : ℕ) → n < k → f n ≤ g n) → sum_below f k ≤ sum_below g k
sum_rises f g zero low = omega arith
sum_rises f g (suc k) low = let before = sum_rises f g k (λ n less. low n (omega arith)) in let last = low k (omega arith) in omega (arith, before, last)

pub sum_both : (f g : ℕ → ℕ) (k : ℕ) → sum_below (λ n. f n + g n) k ≡ sum_below f k + sum_below g k
sum_both f g zero = refl
sum_both f g (suc k) = let before = sum_both f g k in omega (arith, before)

pub sum_none : (k : ℕ) → sum_below (λ n. 0) k ≡ 0
sum_none zero = refl
sum_none (suc k) = let before = sum_none k in omega (arith, before)

-- only one number counts
pub sum_one : (m c k : ℕ) → m < k → sum_below (λ n. cond (n == m) c 0) k ≡ c
sum_one m c zero low = absurd (omega arith)
sum_one m c (suc k) low =
    elim (same_or_not k m) [
      | inl same ↦
          let here : cond (k == m) c 0 ≡ c = ap (λ (v : Bool). cond v c 0) (eq-eqb k m same) in
          let others : sum_below (λ n. cond (n == m) c 0) k ≡ sum_below (λ n. 0) k = sum_same (λ n. cond (n == m) c 0) (λ n. 0) k (λ n less. ap (λ (v : Bool). cond v c 0) (ne_eqb n m (λ (e : n ≡ m). absurd (omega (arith, e, same, less))))) in
          let none = sum_none k in
          omega (arith, here, others, none)
      | inr other ↦
          let here : cond (k == m) c 0 ≡ 0 = ap (λ (v : Bool). cond v c 0) (ne_eqb k m other) in
          let before = sum_one m c k (omega arith) in
          omega (arith, here, before)
    ]
