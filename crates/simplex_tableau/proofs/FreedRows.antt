-- A row freed of a place, and rows.
use Rattle.std.specs.Prelude.{slice_set, ◌<ℤ◌}
use Rattle.std.proofs.Common.{◌≡◌, ℕ, ℤ, pos, zero, suc, ◌<◌, ◌+◌, arith, refl, sym, ap, ◌∙◌, subst, List, [], ◌∷◌, length, take, drop, ◌++◌, ⊎_elim, Bool, true, false}
use Rattle.std.proofs.lemmas.Int.{ints}
use Rattle.std.proofs.lemmas.Bool.{cases_eq}
use Rattle.ipet_rows.specs.Sums.{coefficient}
use Rattle.simplex_rules.specs.Lines.{spread}
use Rattle.simplex_rules.specs.FirstTableauLaws.{spread_is}
use Rattle.simplex_tableau.specs.Shown.{IsFreed, IsFreedWide}
use Rattle.simplex_tableau.proofs.StepLaws.{cleared_kept, wide_by}
use Rattle.simplex_tableau.specs.Sparse.{HeldTerms, terms_at}
use Rattle.simplex_tableau.specs.Stepped.{IsStepped, IsStepWide, StepsRow, IsDone, StepsRows, IsReplaced}
use Rattle.simplex_tableau.proofs.Shown.{set_count, set_there, set_other}

spread_count : (n j : ℕ) (ts : List (ℕ × ℤ)) → length (spread n j ts) ≡ n
spread_count zero j ts = refl
spread_count (suc n) j ts = ap suc (spread_count n (suc j) ts)

-- ---- one row

-- a row that has nothing at the place stays as it is
pub row_stays : (e : ℕ) (h : List (ℕ × ℤ)) (old : HeldTerms) → pos 0 <ℤ coefficient h e
    → coefficient old.terms e ≡ pos 0 → IsStepped e h old old
row_stays e h old above none = record {
  basic = refl;
  line = λ w kept within. sym (cleared_kept e (spread w 0 h) (spread w 0 old.terms)
      (let s = spread_is w h e within in omega (arith, ints, s, above))
      (spread_is w old.terms e kept.within ∙ none) kept.one
      (omega (arith, spread_count w 0 h, spread_count w 0 old.terms)));
  narrow = λ w kept within. wide_by e (spread w 0 h) (spread w 0 old.terms) (coefficient h e) (pos 0) (spread_is w h e within) (spread_is w old.terms e kept ∙ none);
  kept = λ w kept within. kept;
}

pub row_freed : (e b : ℕ) (h f out : List (ℕ × ℤ)) → IsFreed e h f out
    → IsStepped e h (record { basic = b; terms = f }) (record { basic = b; terms = out })
row_freed e b h f out freed = record {
  basic = refl;
  line = λ w kept within. freed.line w kept.within within;
  narrow = λ w kept within. freed.narrow w kept within;
  kept = λ w kept within. record { within = freed.within w kept.within within; one = freed.one w kept.within within };
}

pub row_wide : (e b : ℕ) (h f : List (ℕ × ℤ)) → IsFreedWide e h f → IsStepWide e h (record { basic = b; terms = f })
row_wide e b h f wide = record { wide = λ w kept within. wide.wide w kept within }

-- ---- rows

-- the row that leaves is passed over
pub passed_over : (e : ℕ) (h : List (ℕ × ℤ)) (r n : ℕ) (old now : List HeldTerms) → n ≡ r → IsDone e h r n old now
    → IsDone e h r (n + 1) old now
passed_over e h r n old now same done = record {
  count = done.count;
  stepped = λ k less below other. done.stepped k (⊎_elim (λ (q : k ≡ n). absurd (other (q ∙ same))) (λ (d : k ≡ n → ⊥). omega arith) (cases_eq k n)) below other;
  rest = λ k least. done.rest k (omega arith);
}

-- one more row
pub one_more : (all : Bool) (e : ℕ) (h : List (ℕ × ℤ)) (r n : ℕ) (old now : List HeldTerms) (new : HeldTerms)
    → (n ≡ r → ⊥) → n < length now
    → IsDone e h r n old now → StepsRow all e h (terms_at now n) new → StepsRows all e h r (n + 1) old (slice_set now n new)
one_more true e h r n old now new other below done stepped = record {
  count = set_count now n new ∙ done.count;
  stepped = λ k less k_below k_other. ⊎_elim
      (λ (q : k ≡ n). subst (λ (i : ℕ). IsStepped e h (terms_at old i) (terms_at (slice_set now n new) i)) (sym q)
      (subst (λ (x : HeldTerms). IsStepped e h (terms_at old n) x) (sym (set_there now n new below))
      (subst (λ (x : HeldTerms). IsStepped e h x new) (done.rest n (omega arith)) stepped)))
      (λ (d : k ≡ n → ⊥). subst (λ (x : HeldTerms). IsStepped e h (terms_at old k) x) (sym (set_other now n k new d)) (done.stepped k (omega arith) k_below k_other))
      (cases_eq k n);
  rest = λ k least. set_other now n k new (λ (q : k ≡ n). absurd (omega arith)) ∙ done.rest k (omega arith);
}
one_more false e h r n old now new other below done wide = record {
  row = n;
  below = omega (arith, done.count);
  other = other;
  wide = subst (λ (x : HeldTerms). IsStepWide e h x) (done.rest n (omega arith)) wide;
}

-- and the line stands in the row
pub line_stands : (e : ℕ) (h : List (ℕ × ℤ)) (r : ℕ) (old now : List HeldTerms) → r < length old
    → IsDone e h r (length old) old now
    → IsReplaced e h r old (slice_set now r (record { basic = e; terms = h }))
line_stands e h r old now below done =
    let new : HeldTerms = record { basic = e; terms = h } in
    record {
      count = set_count now r new ∙ done.count;
      stepped = λ k less other. subst (λ (x : HeldTerms). IsStepped e h (terms_at old k) x) (sym (set_other now r k new other)) (done.stepped k less less other);
      there = set_there now r new (omega (arith, done.count));
    }

taken : (now : List HeldTerms) (n : ℕ) → length now ≡ n → take n (now ++ []) ≡ now
taken [] n count = let q : n ≡ 0 = omega (arith, count) in rw q refl
taken (x ∷ now) zero count = absurd (omega (arith, count))
taken (x ∷ now) (suc n) count = ap (λ (l : List HeldTerms). x ∷ l) (taken now n (omega (arith, count)))

dropped_all : (items : List HeldTerms) (n : ℕ) → length items ≡ n → drop n items ≡ []
dropped_all [] zero count = refl
dropped_all [] (suc n) count = refl
dropped_all (x ∷ items) zero count = absurd (omega (arith, count))
dropped_all (x ∷ items) (suc n) count = dropped_all items n (omega (arith, count))

-- the same of a slice of all rows
pub stands_in_all : (e : ℕ) (h : List (ℕ × ℤ)) (r : ℕ) (items slice now : List HeldTerms) (n : ℕ) (new : HeldTerms)
    → slice ≡ items → length items ≡ n → r < length items
    → new ≡ record { basic = e; terms = h } → IsDone e h r (length slice) slice now
    → IsReplaced e h r items (slice_set (take n (now ++ drop (length now) items)) r new)
stands_in_all e h r items slice now n new same count below is done =
    let all : IsDone e h r (length items) items now = subst (λ (l : List HeldTerms). IsDone e h r (length l) l now) same done in
    let none : drop (length now) items ≡ [] = dropped_all items (length now) (omega (arith, all.count)) in
    let whole : take n (now ++ drop (length now) items) ≡ now =
    ap (λ (l : List HeldTerms). take n (now ++ l)) none ∙ taken now n (omega (arith, all.count, count)) in
    subst (λ (l : List HeldTerms). IsReplaced e h r items (slice_set l r new)) (sym whole)
    (subst (λ (x : HeldTerms). IsReplaced e h r items (slice_set now r x)) (sym is) (line_stands e h r items now below all))
