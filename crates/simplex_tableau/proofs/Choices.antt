-- The choice of the place that enters, term by term, is that of whole lines.
use Rattle.std.proofs.Common.{◌≡◌, ℕ, ℤ, pos, zero, suc, ◌<◌, ◌≤◌, ◌-◌, arith, refl, sym, ap, ◌∙◌, subst, List, [], ◌∷◌, Option, Some, None, ⊎_elim, Bool, true, false}
use Rattle.std.specs.Prelude.{◌*ℤ◌, neg_ℤ, int_lt, not, ◌&&◌, ◌||◌, if◌then◌else◌}
use Rattle.std.proofs.lemmas.Bool.{cases_eq, or_left, or_right, or_from}
use Rattle.lists.specs.TestLaws.{by_test}
use Rattle.ipet_rows.specs.Sums.{coefficient, StartsAbove, IsAscending}
use Rattle.ipet_rows.specs.Programs.{IsWithin}
use Rattle.ipet_rows.specs.Firsts.{fits, entry}
use Rattle.ipet_rows.specs.DualRowLaws.{found_here, found_later}
use Rattle.simplex_rules.specs.Lines.{spread}
use Rattle.simplex_rules.specs.PivotRule.{entering, entering_with, entering_wide, choice_wide}
use Rattle.simplex_rules.specs.FirstTableauLaws.{spread_is, within_more}
use Rattle.simplex_tableau.specs.Merging.{IsFrom}
use Rattle.simplex_tableau.specs.TermLaws.{nothing_before}
use Rattle.simplex_tableau.proofs.TermsFromLemmas.{dropped_within}
use Rattle.simplex_tableau.specs.TermsFromLaws.{dropped_rises, dropped_from, dropped_same, cost_is}
use Rattle.simplex_tableau.specs.Choosing.{Chosen, lesser, chosen_among, chosen_with, dropped, number_first, and_on, candidate, choose, place_in, place_chosen, entering_answer}

-- ---- terms after the first

starts_less : (c q : ℕ) (ts : List (ℕ × ℤ)) → StartsAbove c ts → q ≤ suc c → IsFrom q ts
starts_less c q [] above most = tt
starts_less c q (t ∷ ts) above most = omega (arith, above)

-- ---- places whose number is not below 0

with_idle : (row d : List ℤ) (j : ℕ) (o : Option ℕ) → int_lt (entry row j) (pos 0) ≡ false → entering_with row d j o ≡ o
with_idle row d j None none = rw none refl
with_idle row d j (Some b) none = rw none refl

wide_idle : (row d : List ℤ) (j : ℕ) (o : Option ℕ) → int_lt (entry row j) (pos 0) ≡ false
    → choice_wide row d j o ≡ false
wide_idle row d j None none = refl
wide_idle row d j (Some b) none = rw none refl

or_none : (a b : Bool) → b ≡ false → (a || b) ≡ a
or_none true b none = refl
or_none false b none = none

-- the choice stays over places that are idle
record IsSame (row d : List ℤ) (m n : ℕ) : Type 0 where
  place : entering row d m ≡ entering row d n
  wide : entering_wide row d m ≡ entering_wide row d n

idle : (row d : List ℤ) (m n : ℕ) → n ≤ m
    → ((j : ℕ) → suc (suc n) ≤ j → j < suc (suc m) → int_lt (entry row j) (pos 0) ≡ false) → IsSame row d m n
idle row d zero n most none = let q : n ≡ 0 = omega arith in rw q (record { place = refl; wide = refl })
idle row d (suc m) n most none = ⊎_elim
    (λ (q : n ≡ suc m). rw q (record { place = refl; wide = refl }))
    (λ (other : n ≡ suc m → ⊥).
    let last = none (suc (suc m)) (omega arith) (omega arith) in
    let less = idle row d m n (omega arith) (λ j least below. none j least (omega arith)) in
    record {
      place = with_idle row d (suc (suc m)) (entering row d m) last ∙ less.place;
      wide = or_none (entering_wide row d m) (choice_wide row d (suc (suc m)) (entering row d m)) (wide_idle row d (suc (suc m)) (entering row d m) last) ∙ less.wide;
    })
    (cases_eq n (suc m))

-- a wide choice stays wide
stays_wide : (row d : List ℤ) (m n : ℕ) → n ≤ m → entering_wide row d n ≡ true → entering_wide row d m ≡ true
stays_wide row d zero n most wide = let q : n ≡ 0 = omega arith in subst (λ (k : ℕ). entering_wide row d k ≡ true) q wide
stays_wide row d (suc m) n most wide = ⊎_elim
    (λ (q : n ≡ suc m). subst (λ (k : ℕ). entering_wide row d k ≡ true) q wide)
    (λ (other : n ≡ suc m → ⊥). or_left (entering_wide row d m) (choice_wide row d (suc (suc m)) (entering row d m)) (stays_wide row d m n (omega arith) wide))
    (cases_eq n (suc m))

-- ---- a place whose number is below 0

with_low : (row d : List ℤ) (p b : ℕ) (x y bx bd : ℤ) → entry row p ≡ x → entry d p ≡ y → entry row b ≡ bx
    → entry d b ≡ bd → int_lt x (pos 0) ≡ true
    → entering_with row d p (Some b) ≡ (if int_lt (y *ℤ neg_ℤ bx) (bd *ℤ neg_ℤ x) then Some p else Some b)
with_low row d p b x y bx bd e1 e2 e3 e4 low = rw (e1, e2, e3, e4, low) refl

wide_low : (row d : List ℤ) (p b : ℕ) (x y bx bd : ℤ) → entry row p ≡ x → entry d p ≡ y → entry row b ≡ bx
    → entry d b ≡ bd → int_lt x (pos 0) ≡ true
    → choice_wide row d p (Some b) ≡ not (fits (y *ℤ neg_ℤ bx) && fits (bd *ℤ neg_ℤ x))
wide_low row d p b x y bx bd e1 e2 e3 e4 low = rw (e1, e2, e3, e4, low) refl

with_first : (row d : List ℤ) (p : ℕ) (x : ℤ) → entry row p ≡ x → int_lt x (pos 0) ≡ true
    → entering_with row d p None ≡ Some p
with_first row d p x e low = rw (e, low) refl

-- ---- what was chosen so far

abbrev Agrees : List ℤ → List ℤ → Option ℕ → Option Chosen → Type 0
Agrees row d o None = o ≡ None
Agrees row d o (Some c) = (o ≡ Some c.place) × (entry row c.place ≡ c.low) × (entry d c.place ≡ c.cost)

agreed : (row d : List ℤ) (o : Option ℕ) (best : Option Chosen) → Agrees row d o best → o ≡ place_in best
agreed row d o None agrees = agrees
agreed row d o (Some c) agrees = agrees.0

agrees_with : (row d : List ℤ) (o o' : Option ℕ) (best : Option Chosen) → o' ≡ o → Agrees row d o best
    → Agrees row d o' best
agrees_with row d o o' None same agrees = same ∙ agrees
agrees_with row d o o' (Some c) same agrees = (same ∙ agrees.0, agrees.1, agrees.2)

-- the choice among the first n variables
record IsAt (row d : List ℤ) (n : ℕ) (best : Option Chosen) : Type 0 where
  narrow : entering_wide row d n ≡ false
  agrees : Agrees row d (entering row d n) best

-- one more, or the choice is wide
data IsNext (row d : List ℤ) (n : ℕ) : Option (Option Chosen) → Type 0 where
  too_wide : entering_wide row d n ≡ true → IsNext row d n None
  goes : (best : Option Chosen) → IsAt row d n best → IsNext row d n (Some best)

among_held : (row d : List ℤ) (m p : ℕ) (held c : Chosen) → suc (suc m) ≡ p → c.place ≡ p → entry row p ≡ c.low
    → entry d p ≡ c.cost → int_lt c.low (pos 0) ≡ true
    → IsAt row d m (Some held) → IsNext row d (suc m) (lesser held c)
among_held row d m p held c p_is place low cost negative at_ =
    let o_is : entering row d m ≡ Some held.place = at_.agrees.0 in
    let mine = c.cost *ℤ neg_ℤ held.low in
    let other = held.cost *ℤ neg_ℤ c.low in
    let now : entering row d (suc m) ≡ (if int_lt mine other then Some p else Some held.place) =
    ap (λ (q : ℕ). entering_with row d q (entering row d m)) p_is ∙ ap (λ (o : Option ℕ). entering_with row d p o) o_is
    ∙ with_low row d p held.place c.low c.cost held.low held.cost low cost at_.agrees.1 at_.agrees.2 negative in
    let test : choice_wide row d (suc (suc m)) (entering row d m) ≡ not (fits mine && fits other) =
    ap (λ (q : ℕ). choice_wide row d q (entering row d m)) p_is ∙ ap (λ (o : Option ℕ). choice_wide row d p o) o_is
    ∙ wide_low row d p held.place c.low c.cost held.low held.cost low cost at_.agrees.1 at_.agrees.2 negative in
    by_test (fits mine && fits other)
    (λ (narrow : (fits mine && fits other) ≡ true).
    let still : entering_wide row d (suc m) ≡ false =
    or_from (entering_wide row d m) (choice_wide row d (suc (suc m)) (entering row d m)) at_.narrow (test ∙ ap not narrow) in
    by_test (int_lt mine other)
    (λ (less : int_lt mine other ≡ true).
    let is : entering row d (suc m) ≡ Some c.place = now ∙ (rw less (ap (λ (q : ℕ). Some q) (sym place))) in
    rw (narrow, less) (goes (Some c) (record { narrow = still; agrees = (is, subst (λ (q : ℕ). entry row q ≡ c.low) (sym place) low, subst (λ (q : ℕ). entry d q ≡ c.cost) (sym place) cost) })))
    (λ (more : int_lt mine other ≡ false).
    let is : entering row d (suc m) ≡ Some held.place = now ∙ (rw more refl) in
    rw (narrow, more) (goes (Some held) (record { narrow = still; agrees = (is, at_.agrees.1, at_.agrees.2) }))))
    (λ (wide : (fits mine && fits other) ≡ false).
    rw wide (too_wide (or_right (entering_wide row d m) (choice_wide row d (suc (suc m)) (entering row d m)) (test ∙ ap not wide))))

among : (row d : List ℤ) (m p : ℕ) (best : Option Chosen) (c : Chosen) → suc (suc m) ≡ p → c.place ≡ p
    → entry row p ≡ c.low → entry d p ≡ c.cost
    → int_lt c.low (pos 0) ≡ true
    → IsAt row d m best → IsNext row d (suc m) (chosen_among best c)
among row d m p None c p_is place low cost negative at_ =
    let is : entering row d (suc m) ≡ Some c.place =
    ap (λ (q : ℕ). entering_with row d q (entering row d m)) p_is ∙ ap (λ (o : Option ℕ). entering_with row d p o) at_.agrees
    ∙ with_first row d p c.low low negative ∙ ap (λ (q : ℕ). Some q) (sym place) in
    let none : choice_wide row d (suc (suc m)) (entering row d m) ≡ false = ap (λ (o : Option ℕ). choice_wide row d (suc (suc m)) o) at_.agrees in
    goes (Some c) (record {
      narrow = or_from (entering_wide row d m) (choice_wide row d (suc (suc m)) (entering row d m)) at_.narrow none;
      agrees = (is, subst (λ (q : ℕ). entry row q ≡ c.low) (sym place) low, subst (λ (q : ℕ). entry d q ≡ c.cost) (sym place) cost);
    })
among row d m p (Some held) c p_is place low cost negative at_ = among_held row d m p held c p_is place low cost negative at_

one_place : (row d : List ℤ) (m p : ℕ) (best : Option Chosen) (c : Chosen) → suc (suc m) ≡ p → c.place ≡ p
    → entry row p ≡ c.low → entry d p ≡ c.cost
    → IsAt row d m best → IsNext row d (suc m) (chosen_with best c)
one_place row d m p best c p_is place low cost at_ = by_test (int_lt c.low (pos 0))
    (λ (negative : int_lt c.low (pos 0) ≡ true). rw negative (among row d m p best c p_is place low cost negative at_))
    (λ (no_ : int_lt c.low (pos 0) ≡ false).
    let here : int_lt (entry row (suc (suc m))) (pos 0) ≡ false = rw p_is (rw low no_) in
    rw no_ (goes best (record {
      narrow = or_from (entering_wide row d m) (choice_wide row d (suc (suc m)) (entering row d m)) at_.narrow (wide_idle row d (suc (suc m)) (entering row d m) here);
      agrees = agrees_with row d (entering row d m) (entering row d (suc m)) best (with_idle row d (suc (suc m)) (entering row d m) here) at_.agrees;
    })))

-- ---- all terms

nothing_low : (z : ℤ) → z ≡ pos 0 → int_lt z (pos 0) ≡ false
nothing_low z none = rw none refl

answer_narrow : (row d : List ℤ) (n : ℕ) (best : Option Chosen) → IsAt row d n best
    → Some (place_in best) ≡ entering_answer row d n
answer_narrow row d n best at_ = rw at_.narrow (ap (λ (o : Option ℕ). Some o) (sym (agreed row d (entering row d n) best at_.agrees)))

answer_wide : (row d : List ℤ) (n : ℕ) → entering_wide row d n ≡ true → None ≡ entering_answer row d n
answer_wide row d n wide = rw wide refl

record AreLeft (n most : ℕ) (row d : List ℤ) (ts ds : List (ℕ × ℤ)) : Type 0 where
  from : IsFrom (suc (suc n)) ts
  within : IsWithin (suc (suc most)) ts
  rises : IsAscending ts
  same : (j : ℕ) → suc (suc n) ≤ j → coefficient ts j ≡ entry row j
  costs_rise : IsAscending ds
  costs : (j : ℕ) → suc (suc n) ≤ j → coefficient ds j ≡ entry d j

go_on : (row d : List ℤ) (m most : ℕ) (o : Option (Option Chosen)) (ts ds : List (ℕ × ℤ)) → m ≤ most
    → ((best : Option Chosen) → IsAt row d m best → place_chosen (choose best ts ds) ≡ entering_answer row d most) → IsNext row d m o
    → place_chosen (and_on o (λ more. choose more ts ds)) ≡ entering_answer row d most
go_on row d m most None ts ds less later (too_wide wide) = answer_wide row d most (stays_wide row d most m less wide)
go_on row d m most (Some best) ts ds less later (goes same at_) = later best at_

all_terms : (row d : List ℤ) (n most : ℕ) (best : Option Chosen) (ts ds : List (ℕ × ℤ)) → n ≤ most
    → AreLeft n most row d ts ds → IsAt row d n best
    → place_chosen (choose best ts ds) ≡ entering_answer row d most
all_terms row d n most best [] ds less left at_ =
    let same = idle row d most n less (λ j least below. nothing_low (entry row j) (sym (left.same j least))) in
    answer_narrow row d most best (record {
      narrow = same.wide ∙ at_.narrow;
      agrees = agrees_with row d (entering row d n) (entering row d most) best same.place at_.agrees;
    })
all_terms row d n most best (t ∷ ts) ds less left at_ =
    let m = t.0 - 2 in
    let from = left.from in
    let p_is : suc (suc m) ≡ t.0 = omega (arith, from) in
    let same = idle row d m n (omega (arith, from)) (λ j least below. nothing_low (entry row j) (sym (left.same j least) ∙ sym (nothing_before t ts j left.rises (omega arith)))) in
    let then_at : IsAt row d m best = record {
      narrow = same.wide ∙ at_.narrow;
      agrees = agrees_with row d (entering row d n) (entering row d m) best same.place at_.agrees;
    } in
    let low : entry row t.0 ≡ t.1 = sym (left.same t.0 from) ∙ sym (found_here t ts t.0 left.rises refl) in
    let cost : entry d t.0 ≡ number_first (dropped t.0 ds) t.0 = sym (left.costs t.0 from) ∙ sym (cost_is t.0 ds left.costs_rise) in
    let next = one_place row d m t.0 best (candidate t ds) p_is refl low cost then_at in
    let within = left.within in
    let past : suc m ≤ most = omega (arith, within.0) in
    let more : AreLeft (suc m) most row d ts (dropped t.0 ds) = record {
      from = starts_less t.0 (suc (suc (suc m))) ts left.rises.0 (omega arith);
      within = left.within.1;
      rises = left.rises.1;
      same = λ j least. found_later t ts j (λ (q : t.0 ≡ j). absurd (omega arith)) ∙ left.same j (omega (arith, from));
      costs_rise = dropped_rises t.0 ds left.costs_rise;
      costs = λ j least. dropped_same t.0 ds j (omega arith) ∙ left.costs j (omega (arith, from));
    } in
    go_on row d (suc m) most (chosen_with best (candidate t ds)) ts (dropped t.0 ds) past (λ later then_. all_terms row d (suc m) most later ts (dropped t.0 ds) past more then_) next

-- ---- the whole

pub choice_is : (w : ℕ) (row d : List (ℕ × ℤ)) → IsWithin w row → IsAscending row → IsWithin w d → IsAscending d
    → place_chosen (choose None (dropped 2 row) d) ≡ entering_answer (spread w 0 row) (spread w 0 d) (w - 2)
choice_is w row d within rises d_within d_rises =
    all_terms (spread w 0 row) (spread w 0 d) 0 (w - 2) None (dropped 2 row) d (omega arith) (record {
      from = dropped_from 2 row;
      within = dropped_within (suc (suc (w - 2))) 2 row (within_more w (suc (suc (w - 2))) row within (omega arith));
      rises = dropped_rises 2 row rises;
      same = λ j least. dropped_same 2 row j least ∙ sym (spread_is w row j within);
      costs_rise = d_rises;
      costs = λ j least. sym (spread_is w d j d_within);
    }) (record { narrow = refl; agrees = refl })
