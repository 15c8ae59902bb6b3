-- What follows for spans of counts.
use Rattle.std.proofs.Common.{◌≡◌, ◌≢◌, ℕ, zero, suc, ◌+◌, ◌<◌, ◌≤◌, min, max, List, [], ◌∷◌, length, get_or, Option, Some, None, Contains, ◌⊎◌, inl, inr, refl, sym, ap, ◌∙◌, subst, arith, eq-eqb}
use Rattle.std.proofs.lemmas.Bool.{ne_eqb, cases_eq, cases_lt}
use Rattle.lists.specs.MemberLaws.{no_member, first_member, further_member, first_or_further}
use Rattle.recorder_rules.specs.Generated.{generated}
use Rattle.recorder_rules.specs.GeneratedLaws.{length-generated, at-generated}
use Rattle.recorder_rules.specs.Spans.{visits, IsWithin, IsInside, span_of, collected, IsWider, spread_of, AllInside, greatest}

-- ---- numbers

-- numbers are equal or not
pub same_or_not : (a b : ℕ) → (a ≡ b) ⊎ (a ≢ b)
same_or_not a b = cases_eq a b

-- and below another or not
pub low_or_over : (i n : ℕ) → (i < n) ⊎ (n ≤ i)
low_or_over i n = cases_lt i n

le_or_more : (a c : ℕ) → (a ≤ c) ⊎ (c < a)
le_or_more a c = elim (cases_lt c a) [ inl more ↦ inr more | inr le ↦ inl le ]

-- ---- visits

pub visits-here : (n : ℕ) (past : List ℕ) → visits n (n ∷ past) ≡ visits n past + 1
visits-here n past = rw (eq-eqb n n refl) refl

pub visits-other : (n k : ℕ) (past : List ℕ) → n ≢ k → visits n (k ∷ past) ≡ visits n past
visits-other n k past other = rw (ne_eqb n k other) refl

-- ---- wider

pub wider_itself : (t : Option (ℕ × ℕ)) → IsWider t t
wider_itself None = tt
wider_itself (Some t) = (omega arith, omega arith)

pub wider_farther : (t u v : Option (ℕ × ℕ)) → IsWider t u → IsWider u v → IsWider t v
wider_farther None u v first second = tt
wider_farther (Some a) None v first second = elim first [ ]
wider_farther (Some a) (Some b) None first second = elim second [ ]
wider_farther (Some a) (Some b) (Some c) first second = let p = first.0 in let q = first.1 in let r = second.0 in let s = second.1 in (omega arith, omega arith)

-- nothing is taken out
pub collected_wider : (t : Option (ℕ × ℕ)) (s : ℕ × ℕ) → IsWider t (collected t s)
collected_wider None s = tt
collected_wider (Some t) s = (omega arith, omega arith)

-- to collect more in a wider one gives a wider one
pub collected_each : (t u : Option (ℕ × ℕ)) (a b : ℕ × ℕ) → IsWider t u → IsInside a b
    → IsWider (collected t a) (collected u b)
collected_each None None a b wider inside = inside
collected_each None (Some u) a b wider inside = let p = inside.0 in let q = inside.1 in (omega arith, omega arith)
collected_each (Some t) None a b wider inside = elim wider [ ]
collected_each (Some t) (Some u) a b wider inside = let p = inside.0 in let q = inside.1 in let r = wider.0 in let s = wider.1 in (omega arith, omega arith)

-- to collect a span twice is to collect it once
pub collected_twice : (t : Option (ℕ × ℕ)) (s : ℕ × ℕ) → collected (collected t s) s ≡ collected t s
collected_twice None s = let low : min s.0 s.0 ≡ s.0 = omega arith in let high : max s.1 s.1 ≡ s.1 = omega arith in rw (low, high) refl
collected_twice (Some t) s = let low : min (min t.0 s.0) s.0 ≡ min t.0 s.0 = omega arith in let high : max (max t.1 s.1) s.1 ≡ max t.1 s.1 = omega arith in rw (low, high) refl

-- ---- spreads

-- each count lies in what is wider than their spread
pub spread_has : (counts : List ℕ) (t : Option (ℕ × ℕ)) (c : ℕ) → IsWider (spread_of counts) t → Contains counts c
    → (s : ℕ × ℕ) × (t ≡ Some s) × IsWithin c s
spread_has [] t c wider there = no_member c there
spread_has (x ∷ counts) t c wider there =
    first_or_further x counts c there
    (λ same. spread_first t (wider_farther (Some (x, x)) (collected (spread_of counts) (x, x)) t (first_in (spread_of counts)) wider) same)
    (λ later. spread_has counts t c (wider_farther (spread_of counts) (collected (spread_of counts) (x, x)) t (collected_wider (spread_of counts) (x, x)) wider) later)
  where
    first_in : (u : Option (ℕ × ℕ)) → IsWider (Some (x, x)) (collected u (x, x))
    first_in None = (omega arith, omega arith)
    first_in (Some u) = (omega arith, omega arith)

    spread_first : (u : Option (ℕ × ℕ)) → IsWider (Some (x, x)) u → x ≡ c → (s : ℕ × ℕ) × (u ≡ Some s) × IsWithin c s
    spread_first None wide same = elim wide [ ]
    spread_first (Some s) wide same = let p = wide.0 in let q = wide.1 in (s, refl, (omega arith, omega arith))

-- what is spread is there: the least and the greatest are counts
pub spread_attained : (counts : List ℕ) (s : ℕ × ℕ) → spread_of counts ≡ Some s
    → Contains counts s.0 × Contains counts s.1
spread_attained [] s is = absurd (let bad : None ≡ Some s = is in cc)
spread_attained (c ∷ counts) s is = by_rest (λ t rest. spread_attained counts t rest) (spread_of counts) refl
  where
    here : Contains (c ∷ counts) c
    here = first_member c counts

    least : (a : ℕ) → Contains counts a → (a ≤ c) ⊎ (c < a) → Contains (c ∷ counts) (min a c)
    least a there (inl le) = subst (λ (n : ℕ). Contains (c ∷ counts) n) (let e : a ≡ min a c = omega arith in e) (further_member c counts a there)
    least a there (inr more) = subst (λ (n : ℕ). Contains (c ∷ counts) n) (let e : c ≡ min a c = omega arith in e) here

    most : (a : ℕ) → Contains counts a → (a ≤ c) ⊎ (c < a) → Contains (c ∷ counts) (max a c)
    most a there (inl le) = subst (λ (n : ℕ). Contains (c ∷ counts) n) (let e : c ≡ max a c = omega arith in e) here
    most a there (inr more) = subst (λ (n : ℕ). Contains (c ∷ counts) n) (let e : a ≡ max a c = omega arith in e) (further_member c counts a there)

    by_rest : ((t : ℕ × ℕ) → spread_of counts ≡ Some t → Contains counts t.0 × Contains counts t.1)
        → (t : Option (ℕ × ℕ)) → spread_of counts ≡ t → Contains (c ∷ counts) s.0 × Contains (c ∷ counts) s.1
    by_rest further None rest =
        let same : (c, c) ≡ s = (let both : Some (c, c) ≡ Some s = sym (ap (λ u. collected u (c, c)) rest) ∙ is in cc) in
        (subst (λ (n : ℕ). Contains (c ∷ counts) n) (ap (λ (p : ℕ × ℕ). p.0) same) here, subst (λ (n : ℕ). Contains (c ∷ counts) n) (ap (λ (p : ℕ × ℕ). p.1) same) here)
    by_rest further (Some t) rest =
        let more = further t rest in
        let same : span_of t (c, c) ≡ s = (let both : Some (span_of t (c, c)) ≡ Some s = sym (ap (λ u. collected u (c, c)) rest) ∙ is in cc) in (
          subst (λ (n : ℕ). Contains (c ∷ counts) n) (ap (λ (p : ℕ × ℕ). p.0) same) (least t.0 more.0 (le_or_more t.0 c)),
          subst (λ (n : ℕ). Contains (c ∷ counts) n) (ap (λ (p : ℕ × ℕ). p.1) same) (most t.1 more.1 (le_or_more t.1 c)),
        )

-- ---- lists of spans

pub inside_itself : (spans : List (ℕ × ℕ)) → AllInside spans spans
inside_itself spans = record { same_length = refl; each = λ i low. (omega arith, omega arith) }

pub inside_farther : (a b c : List (ℕ × ℕ)) → AllInside a b → AllInside b c → AllInside a c
inside_farther a b c first second = record {
  same_length = first.same_length ∙ second.same_length;
  each = λ i low.
      let p = first.each i low in
      let q = second.each i (let e = first.same_length in omega arith) in
      let p0 = p.0 in
      let p1 = p.1 in
      let q0 = q.0 in
      let q1 = q.1 in
      (omega arith, omega arith);
}

-- the spans around both
abbrev pub spans_of : List (ℕ × ℕ) → List (ℕ × ℕ) → List (ℕ × ℕ)
spans_of a b = generated (length a) (λ i. span_of (get_or a i (0, 0)) (get_or b i (0, 0)))

pub left_inside : (a b : List (ℕ × ℕ)) → AllInside a (spans_of a b)
left_inside a b = record {
  same_length = sym (length-generated (length a) (λ i. span_of (get_or a i (0, 0)) (get_or b i (0, 0))));
  each = λ i low. subst (λ (s : ℕ × ℕ). IsInside (get_or a i (0, 0)) s) (sym (at-generated (length a) (λ j. span_of (get_or a j (0, 0)) (get_or b j (0, 0))) i (0, 0) low)) (omega arith, omega arith);
}

pub right_inside : (a b : List (ℕ × ℕ)) → length a ≡ length b → AllInside b (spans_of a b)
right_inside a b same = record {
  same_length = sym (length-generated (length a) (λ i. span_of (get_or a i (0, 0)) (get_or b i (0, 0))) ∙ same);
  each = λ i low. subst (λ (s : ℕ × ℕ). IsInside (get_or b i (0, 0)) s) (sym (at-generated (length a) (λ j. span_of (get_or a j (0, 0)) (get_or b j (0, 0))) i (0, 0) (omega arith))) (omega arith, omega arith);
}

-- no number is greater than the greatest
pub below_greatest : (spans : List (ℕ × ℕ)) (i : ℕ) → i < length spans
    → ((get_or spans i (0, 0)).0 ≤ greatest spans) × ((get_or spans i (0, 0)).1 ≤ greatest spans)
below_greatest [] i low = absurd (omega arith)
below_greatest (s ∷ spans) zero low = (omega arith, omega arith)
below_greatest (s ∷ spans) (suc i) low = let rest = below_greatest spans i (omega arith) in let p = rest.0 in let q = rest.1 in (omega arith, omega arith)

-- and the greatest is not greater than what is above all
pub greatest_least : (spans : List (ℕ × ℕ)) (n : ℕ)
    → ((i : ℕ) → i < length spans → ((get_or spans i (0, 0)).0 ≤ n) × ((get_or spans i (0, 0)).1 ≤ n))
    → greatest spans ≤ n
greatest_least [] n each = omega arith
greatest_least (s ∷ spans) n each =
    let here = each 0 (omega arith) in
    let p = here.0 in
    let q = here.1 in
    let rest = greatest_least spans n (λ i low. each (suc i) (omega arith)) in
    omega arith
