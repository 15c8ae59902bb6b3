-- On the way to the laws of row.
--   touched_bound        an access gives the accessed line the bound 0, and ages what is younger than it was
--   joined_bound         a join gives each line the greater bound
use Rattle.std.proofs.Common.{◌≡◌, ◌≢◌, ℕ, ◌+◌, ◌<◌, ◌≤◌, max, true, false, cond, ◌||◌, List, [], ◌∷◌, ◌++◌, Option, Some, None, unwrap_or, inl, inr, refl, sym, ap, ◌∙◌, subst, arith, eq-eqb}
use Rattle.std.specs.Prelude.{◌==◌, nat_lt, nat_le}
use Rattle.std.proofs.lemmas.Bool.{ne_eqb, eqb-true, leb-true, le-ltb, cases_eq}
use Rattle.std.proofs.lemmas.Option.{none-some}
use Rattle.lists.specs.TestLaws.{by_test}
use Rattle.line_cache.specs.Sure.{age_in, bound_in, aged, others, touched_row, joined_row}
use Rattle.line_cache.specs.RowLaws.{IsRow, none_second, others_without, others_none, joined_none}

-- ---- look-ups

bound_first : (ways : ℕ) (kept : ℕ × ℕ) (row : List (ℕ × ℕ)) (m : ℕ) → (kept.0 == m) ≡ true
    → bound_in ways (kept ∷ row) m ≡ kept.1
bound_first ways kept row m test = rw test refl

bound_further : (ways : ℕ) (kept : ℕ × ℕ) (row : List (ℕ × ℕ)) (m : ℕ) → (kept.0 == m) ≡ false
    → bound_in ways (kept ∷ row) m ≡ bound_in ways row m
bound_further ways kept row m test = rw test refl

bound_none : (ways : ℕ) (row : List (ℕ × ℕ)) (m : ℕ) → age_in row m ≡ None → bound_in ways row m ≡ ways
bound_none ways row m none = ap (λ (o : Option ℕ). unwrap_or o ways) none

bound_low : (ways : ℕ) (row : List (ℕ × ℕ)) (m : ℕ) → IsRow ways row → bound_in ways row m ≤ ways
bound_low ways [] m is = omega arith
bound_low ways (kept ∷ row) m is = by_test (kept.0 == m)
    (λ test. let low = is.0 in let e = bound_first ways kept row m test in omega arith)
    (λ test. let rest = bound_low ways row m is.2 in let e = bound_further ways kept row m test in omega arith)

-- a line that stands in neither of two lists
none_both : (a b : List (ℕ × ℕ)) (m : ℕ) → age_in a m ≡ None → age_in (a ++ b) m ≡ age_in b m
none_both [] b m none = refl
none_both (kept ∷ a) b m none = by_test (kept.0 == m)
    (λ test. absurd (none-some kept.1 (sym none ∙ here test)))
    (λ test. rw test (none_both a b m (sym (there test) ∙ none)))
  where
    here : (kept.0 == m) ≡ true → age_in (kept ∷ a) m ≡ Some kept.1
    here test = rw test refl

    there : (kept.0 == m) ≡ false → age_in (kept ∷ a) m ≡ age_in a m
    there test = rw test refl

aged_bound : (ways bound : ℕ) → bound ≤ ways → aged bound ways ≡ ways
aged_bound ways bound low = rw (le-ltb ways bound low) refl

-- ---- an access

aged_up : (bound age : ℕ) → aged bound age ≤ age + 1
aged_up bound age = by_test (nat_lt age bound) (λ test. rw test (omega arith)) (λ test. rw test (omega arith))

-- another line ages where it is younger
others_bound : (ways line bound : ℕ) (row : List (ℕ × ℕ)) (m : ℕ) → bound ≤ ways → m ≢ line → IsRow ways row
    → bound_in ways (others ways line bound row) m ≡ aged bound (bound_in ways row m)
others_bound ways line bound [] m low apart is = sym (aged_bound ways bound low)
others_bound ways line bound (kept ∷ row) m low apart is =
    by_test (kept.0 == m) (at_first (others_bound ways line bound row m low apart is.2)) (at_further (others_bound ways line bound row m low apart is.2))
  where
    at_first : bound_in ways (others ways line bound row) m ≡ aged bound (bound_in ways row m) → (kept.0 == m) ≡ true
        → bound_in ways (others ways line bound (kept ∷ row)) m ≡ aged bound (bound_in ways (kept ∷ row) m)
    at_first rest test =
        let name : kept.0 ≡ m = eqb-true kept.0 m test in
        let other : (kept.0 == line) ≡ false = ne_eqb kept.0 line (λ e. apart (sym name ∙ e)) in
        let is_age = bound_first ways kept row m test in
        by_test (nat_le ways (aged bound kept.1))
        (λ drop.
        let gone : age_in (others ways line bound row) m ≡ None = others_none ways line bound row m (subst (λ (x : ℕ). age_in row x ≡ None) name is.1) in
        let up = aged_up bound kept.1 in
        let over : ways ≤ aged bound kept.1 = leb-true ways (aged bound kept.1) drop in
        let below : kept.1 < ways = is.0 in
        let same : ways ≡ aged bound kept.1 = omega arith in
        rw (other, drop) (bound_none ways (others ways line bound row) m gone ∙ same ∙ ap (λ (a : ℕ). aged bound a) (sym is_age)))
        (λ keep. rw (other, keep) (bound_first ways (kept.0, aged bound kept.1) (others ways line bound row) m test ∙ ap (λ (a : ℕ). aged bound a) (sym is_age)))

    at_further : bound_in ways (others ways line bound row) m ≡ aged bound (bound_in ways row m) → (kept.0 == m) ≡ false
        → bound_in ways (others ways line bound (kept ∷ row)) m ≡ aged bound (bound_in ways (kept ∷ row) m)
    at_further rest test =
        let same = rest ∙ ap (λ (a : ℕ). aged bound a) (sym (bound_further ways kept row m test)) in
        by_test ((kept.0 == line) || nat_le ways (aged bound kept.1))
        (λ drop. rw drop same)
        (λ keep. rw keep (bound_further ways (kept.0, aged bound kept.1) (others ways line bound row) m test ∙ same))

-- an access gives the accessed line the bound 0, and ages what is younger than it was
pub touched_bound : (ways line : ℕ) (row : List (ℕ × ℕ)) (m : ℕ) → IsRow ways row → bound_in ways (touched_row ways line row) m ≡ cond (m == line) 0 (aged (bound_in ways row line) (bound_in ways row m))
touched_bound ways line row m is =
    elim (cases_eq m line) [
      | inl same ↦ rw (eq-eqb m line same) (ap (λ (o : Option ℕ). unwrap_or o ways) (none_both (others ways line (bound_in ways row line) row) ((line, 0) ∷ []) m (subst (λ (x : ℕ). age_in (others ways line (bound_in ways row line) row) x ≡ None) (sym same) (others_without ways line (bound_in ways row line) row)) ∙ last (sym same)))
      | inr apart ↦ rw (ne_eqb m line apart) (ap (λ (o : Option ℕ). unwrap_or o ways) (none_second (others ways line (bound_in ways row line) row) ((line, 0) ∷ []) m (not_last apart)) ∙ others_bound ways line (bound_in ways row line) row m (bound_low ways row line is) apart is)
    ]
  where
    last : line ≡ m → age_in ((line, 0) ∷ []) m ≡ Some 0
    last same = rw (eq-eqb line m same) refl

    not_last : m ≢ line → age_in ((line, 0) ∷ []) m ≡ None
    not_last apart = rw (ne_eqb line m (λ e. apart (sym e))) refl

-- ---- a join

-- a join gives each line the greater bound
pub joined_bound : (ways : ℕ) (a b : List (ℕ × ℕ)) (m : ℕ) → IsRow ways a → IsRow ways b
    → bound_in ways (joined_row a b) m ≡ max (bound_in ways a m) (bound_in ways b m)
joined_bound ways [] b m is_a is_b = let low = bound_low ways b m is_b in omega arith
joined_bound ways (kept ∷ a) b m is_a is_b =
    by_test (kept.0 == m) (λ test. at_first (age_in b kept.0) refl test) (λ test. at_further (joined_bound ways a b m is_a.2 is_b) (age_in b kept.0) refl test)
  where
    at_first : (found : Option ℕ) → age_in b kept.0 ≡ found → (kept.0 == m) ≡ true
        → bound_in ways (joined_row (kept ∷ a) b) m ≡ max (bound_in ways (kept ∷ a) m) (bound_in ways b m)
    at_first None e test =
        let name : kept.0 ≡ m = eqb-true kept.0 m test in
        let none_b : bound_in ways b m ≡ ways = bound_none ways b m (subst (λ (x : ℕ). age_in b x ≡ None) name e) in
        let none_a : age_in a m ≡ None = subst (λ (x : ℕ). age_in a x ≡ None) name is_a.1 in
        let none : bound_in ways (joined_row a b) m ≡ ways = bound_none ways (joined_row a b) m (joined_none a b m none_a) in
        let age : bound_in ways (kept ∷ a) m ≡ kept.1 = bound_first ways kept a m test in
        let below : kept.1 < ways = is_a.0 in
        rw e (omega arith)
    at_first (Some other) e test =
        let name : kept.0 ≡ m = eqb-true kept.0 m test in
        let there : bound_in ways b m ≡ other = ap (λ (o : Option ℕ). unwrap_or o ways) (subst (λ (x : ℕ). age_in b x ≡ Some other) name e) in
        let age : bound_in ways (kept ∷ a) m ≡ kept.1 = bound_first ways kept a m test in
        let first : bound_in ways ((kept.0, max kept.1 other) ∷ joined_row a b) m ≡ max kept.1 other = bound_first ways (kept.0, max kept.1 other) (joined_row a b) m test in
        rw e (first ∙ omega arith)

    at_further : bound_in ways (joined_row a b) m ≡ max (bound_in ways a m) (bound_in ways b m) → (found : Option ℕ)
        → age_in b kept.0 ≡ found → (kept.0 == m) ≡ false
        → bound_in ways (joined_row (kept ∷ a) b) m ≡ max (bound_in ways (kept ∷ a) m) (bound_in ways b m)
    at_further rest found e test =
        let same : bound_in ways (kept ∷ a) m ≡ bound_in ways a m = bound_further ways kept a m test in
        by found e (rest ∙ ap (λ (k : ℕ). max k (bound_in ways b m)) (sym same))
      where
        by : (found : Option ℕ) → age_in b kept.0 ≡ found
            → bound_in ways (joined_row a b) m ≡ max (bound_in ways (kept ∷ a) m) (bound_in ways b m)
            → bound_in ways (joined_row (kept ∷ a) b) m ≡ max (bound_in ways (kept ∷ a) m) (bound_in ways b m)
        by None e rest = rw e rest
        by (Some other) e rest = rw e (bound_further ways (kept.0, max kept.1 other) (joined_row a b) m test ∙ rest)
