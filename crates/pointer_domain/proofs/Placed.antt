-- A place put among places that ascend.
--   put_at       at the frame that stands there already
--   are_at       each place is one
--   put_before   before the first greater frame, or after all
use Rattle.std.proofs.Common.{◌≡◌, ◌≢◌, ℕ, zero, suc, true, List, [], ◌∷◌, Some, ◌<◌, arith, refl, sym, ap, subst, ◌∙◌, slice_get, slice_set}
use Rattle.std.specs.Prelude.{◌==◌, nat_lt}
use Rattle.std.specs.List.{insert}
use Rattle.std.proofs.lemmas.Bool.{eqb-true, eq-eqb, ltb-true, ltb-false, lt-ltb}
use Rattle.lists.specs.TestLaws.{by_test}
use Rattle.strided_rules.specs.Strides.{Stride, joined}
use Rattle.pointer_rules.specs.AbstractValues.{ArePlaces, IsPlace, with_place}
use Rattle.pointer_domain.specs.Parts.{lower}

-- a place that is lower stays first
lower_first : (place new : ℕ × Stride) (places : List (ℕ × Stride)) → nat_lt place.0 new.0 ≡ true
    → with_place (place ∷ places) new ≡ place ∷ with_place places new
lower_first place new places low =
    let below : place.0 < new.0 = ltb-true place.0 new.0 low in
    by_test (place.0 == new.0)
    (λ e. absurd (let same : place.0 ≡ new.0 = eqb-true place.0 new.0 e in omega (arith, same, below)))
    (λ e. by_test (nat_lt new.0 place.0)
    (λ g. absurd (let above : new.0 < place.0 = ltb-true new.0 place.0 g in omega (arith, above, below)))
    (λ g. rw (e, g) refl))

-- at the frame that stands there already
pub put_at : (places : List (ℕ × Stride)) (new place : ℕ × Stride) → slice_get places (lower places new.0) ≡ Some place
    → place.0 ≡ new.0
    → with_place places new ≡ slice_set places (lower places new.0) (place.0, joined place.1 new.1)
put_at [] new place there same = cc
put_at (first ∷ places) new place there same = by_test (nat_lt first.0 new.0)
    (λ e. rw e (lower_first first new places e ∙ ap (λ rest. first ∷ rest) (put_at places new place (rw e at there) same)))
    (λ e. let is : first ≡ place = (let known = rw e at there in cc) in
    let at_first : first.0 ≡ new.0 = ap (λ p. p.0) is ∙ same in
    rw (e, eq-eqb first.0 new.0 at_first, sym is) refl)

-- before the first greater frame, or after all
pub put_before : (places : List (ℕ × Stride)) (new : ℕ × Stride)
    → ((place : ℕ × Stride) → slice_get places (lower places new.0) ≡ Some place → place.0 ≢ new.0)
    → with_place places new ≡ insert places (lower places new.0) new
put_before [] new apart = refl
put_before (first ∷ places) new apart = by_test (nat_lt first.0 new.0)
    (λ e. rw e (lower_first first new places e ∙ ap (λ rest. first ∷ rest) (put_before places new (λ place there. apart place (rw e there)))))
    (λ e. let other : first.0 ≢ new.0 = apart first (rw e refl) in
    let no_less = ltb-false first.0 new.0 e in
    let greater : nat_lt new.0 first.0 ≡ true = lt-ltb new.0 first.0 (omega (arith, other, no_less)) in
    by_test (first.0 == new.0) (λ f. absurd (other (eqb-true first.0 new.0 f))) (λ f. rw (e, f, greater) refl))

-- each place is one
pub are_at : (places : List (ℕ × Stride)) (k : ℕ) (place : ℕ × Stride) → ArePlaces places
    → slice_get places k ≡ Some place → IsPlace place
are_at [] k place are there = cc
are_at (first ∷ places) zero place are there = let same : first ≡ place = cc in subst IsPlace same are.0
are_at (first ∷ places) (suc k) place are there = are_at places k place are.1 there
