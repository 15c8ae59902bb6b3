-- The merge of two lists of terms, a place a turn.
use Rattle.std.proofs.Common.{◌≡◌, ℕ, ℤ, pos, suc, ◌<◌, ◌≤◌, arith, refl, sym, ◌∙◌, List, [], ◌∷◌, ◌++◌, Some, None, ⊎_elim, true, false}
use Rattle.std.specs.Prelude.{◌+ℤ◌, ◌-ℤ◌, ◌*ℤ◌, nat_le}
use Rattle.std.proofs.lemmas.Int.{ints}
use Rattle.std.proofs.lemmas.Bool.{cases_eq, cases_lt, leb-true, leb-false, eq-eqb, ne_eqb}
use Rattle.lists.specs.TestLaws.{by_test}
use Rattle.ipet_rows.specs.Rows.{vanishes}
use Rattle.ipet_rows.specs.UseLaws.{vanish_is}
use Rattle.ipet_rows.specs.Sums.{coefficient, coefficient_of, StartsAbove, IsAscending}
use Rattle.ipet_rows.specs.Programs.{IsWithin}
use Rattle.ipet_rows.specs.SumLaws.{term_here, term_elsewhere}
use Rattle.simplex_rules.specs.FirstTableauLaws.{beyond, within_more}
use Rattle.simplex_tableau.specs.Merging.{narrow, mixed_number, IsMixture, IsTooWide, head_number, after_of, next_of, with_number, IsFrom, IsMerging}

-- Terms from a place on.

from_above : (c : ℕ) (ts : List (ℕ × ℤ)) → StartsAbove c ts → IsFrom (suc c) ts
from_above c [] above = tt
from_above c (t ∷ ts) above = omega (arith, above)

from_less : (p q : ℕ) (ts : List (ℕ × ℤ)) → p ≤ q → IsFrom q ts → IsFrom p ts
from_less p q [] less from = tt
from_less p q (t ∷ ts) less from = omega (arith, from)

-- no number before the first place
none_before : (q : ℕ) (ts : List (ℕ × ℤ)) (j : ℕ) → IsFrom q ts → IsAscending ts → j < q → coefficient ts j ≡ pos 0
none_before q [] j from rises below = refl
none_before q (t ∷ ts) j from rises below =
    omega (
      arith,
      ints,
      term_elsewhere t.0 j t.1 (λ (e : t.0 ≡ j). absurd (omega (arith, from))),
      none_before (suc t.0) ts j (from_above t.0 ts rises.0) rises.1 (omega (arith, from)),
    )

head_is : (p : ℕ) (ts : List (ℕ × ℤ)) → IsFrom p ts → IsAscending ts → head_number ts p ≡ coefficient ts p
head_is p [] from rises = refl
head_is p (t ∷ ts) from rises = ⊎_elim
    (λ (e : t.0 ≡ p). rw (eq-eqb t.0 p e) (omega (arith, ints, none_before (suc t.0) ts p (from_above t.0 ts rises.0) rises.1 (omega arith))))
    (λ (d : t.0 ≡ p → ⊥). rw (ne_eqb t.0 p d) (omega (arith, ints, none_before (suc t.0) ts p (from_above t.0 ts rises.0) rises.1 (omega (arith, from)))))
    (cases_eq t.0 p)

after_same : (p : ℕ) (ts : List (ℕ × ℤ)) (j : ℕ) → p < j → coefficient (after_of ts p) j ≡ coefficient ts j
after_same p [] j past = refl
after_same p (t ∷ ts) j past = ⊎_elim
    (λ (e : t.0 ≡ p). rw (eq-eqb t.0 p e) (omega (arith, ints, term_elsewhere t.0 j t.1 (λ (q : t.0 ≡ j). absurd (omega arith)))))
    (λ (d : t.0 ≡ p → ⊥). rw (ne_eqb t.0 p d) refl)
    (cases_eq t.0 p)

after_from : (p : ℕ) (ts : List (ℕ × ℤ)) → IsFrom p ts → IsAscending ts
    → IsFrom (suc p) (after_of ts p) × IsAscending (after_of ts p)
after_from p [] from rises = (tt, tt)
after_from p (t ∷ ts) from rises = ⊎_elim
    (λ (e : t.0 ≡ p). rw (eq-eqb t.0 p e) (from_less (suc p) (suc t.0) ts (omega arith) (from_above t.0 ts rises.0), rises.1))
    (λ (d : t.0 ≡ p → ⊥). rw (ne_eqb t.0 p d) (omega (arith, from), rises))
    (cases_eq t.0 p)

-- The next place.

next_least : (rf rh : List (ℕ × ℤ)) (p : ℕ) → next_of rf rh ≡ Some p → IsFrom p rf × IsFrom p rh
next_least [] [] p e = absurd cc
next_least [] (s ∷ ss) p e = let q : s.0 ≡ p = cc in (tt, omega arith)
next_least (t ∷ ts) [] p e = let q : t.0 ≡ p = cc in (omega arith, tt)
next_least (t ∷ ts) (s ∷ ss) p e = by_test (nat_le t.0 s.0)
    (λ (v : nat_le t.0 s.0 ≡ true). let z : next_of (t ∷ ts) (s ∷ ss) ≡ Some t.0 = rw v refl in
    let q : t.0 ≡ p = cc in (omega arith, omega (arith, leb-true t.0 s.0 v)))
    (λ (v : nat_le t.0 s.0 ≡ false). let z : next_of (t ∷ ts) (s ∷ ss) ≡ Some s.0 = rw v refl in
    let q : s.0 ≡ p = cc in (omega (arith, leb-false t.0 s.0 v), omega arith))

next_from : (q : ℕ) (rf rh : List (ℕ × ℤ)) (p : ℕ) → IsFrom q rf → IsFrom q rh → next_of rf rh ≡ Some p → q ≤ p
next_from q [] [] p from from' e = absurd cc
next_from q [] (s ∷ ss) p from from' e = let z : s.0 ≡ p = cc in omega (arith, from')
next_from q (t ∷ ts) [] p from from' e = let z : t.0 ≡ p = cc in omega (arith, from)
next_from q (t ∷ ts) (s ∷ ss) p from from' e = by_test (nat_le t.0 s.0)
    (λ (v : nat_le t.0 s.0 ≡ true). let z : next_of (t ∷ ts) (s ∷ ss) ≡ Some t.0 = rw v refl in let y : t.0 ≡ p = cc in omega (arith, from))
    (λ (v : nat_le t.0 s.0 ≡ false). let z : next_of (t ∷ ts) (s ∷ ss) ≡ Some s.0 = rw v refl in let y : s.0 ≡ p = cc in omega (arith, from'))

-- A term after the last.

coefficient_push : (out : List (ℕ × ℤ)) (t : ℕ × ℤ) (j : ℕ)
    → coefficient (out ++ (t ∷ [])) j ≡ coefficient out j +ℤ coefficient_of t j
coefficient_push [] t j = omega (arith, ints)
coefficient_push (s ∷ out) t j = omega (arith, ints, coefficient_push out t j)

within_push : (q p : ℕ) (out : List (ℕ × ℤ)) (d : ℤ) → IsWithin q out → q ≤ suc p
    → IsWithin (suc p) (out ++ ((p, d) ∷ []))
within_push q p [] d within most = (omega arith, tt)
within_push q p (s ∷ out) d within most = (omega (arith, within.0), within_push q p out d within.1 most)

starts_push : (c p : ℕ) (out : List (ℕ × ℤ)) (d : ℤ) → StartsAbove c out → c < p → StartsAbove c (out ++ ((p, d) ∷ []))
starts_push c p [] d above less = less
starts_push c p (s ∷ out) d above less = above

rises_push : (q p : ℕ) (out : List (ℕ × ℤ)) (d : ℤ) → IsWithin q out → q ≤ p → IsAscending out
    → IsAscending (out ++ ((p, d) ∷ []))
rises_push q p [] d within most rises = (tt, tt)
rises_push q p (s ∷ out) d within most rises = (starts_push s.0 p out d rises.0 (omega (arith, within.0)), rises_push q p out d within.1 most rises.1)

term_nothing : (p j : ℕ) → coefficient_of (p, pos 0) j ≡ pos 0
term_nothing p j = ⊎_elim (λ (e : p ≡ j). term_here p j (pos 0) e) (λ (d : p ≡ j → ⊥). term_elsewhere p j (pos 0) d) (cases_eq p j)

with_is : (out : List (ℕ × ℤ)) (p : ℕ) (d : ℤ) (j : ℕ)
    → coefficient (with_number out p d) j ≡ coefficient out j +ℤ coefficient_of (p, d) j
with_is out p d j = by_test (vanishes d)
    (λ (v : vanishes d ≡ true).
    let z : d ≡ pos 0 = vanish_is d v in
    rw v (let y : coefficient_of (p, d) j ≡ pos 0 = rw z (term_nothing p j) in omega (arith, ints, y)))
    (λ (v : vanishes d ≡ false). rw v (coefficient_push out (p, d) j))

with_places : (q p : ℕ) (out : List (ℕ × ℤ)) (d : ℤ) → IsWithin q out → q ≤ p → IsAscending out
    → IsWithin (suc p) (with_number out p d) × IsAscending (with_number out p d)
with_places q p out d within most rises = by_test (vanishes d)
    (λ (v : vanishes d ≡ true). rw v (within_more q (suc p) out within (omega arith), rises))
    (λ (v : vanishes d ≡ false). rw v (within_push q p out d within (omega arith), rises_push q p out d within most rises))

-- Widths.

after_within : (p : ℕ) (ts : List (ℕ × ℤ)) (w : ℕ) → IsWithin w ts → IsWithin w (after_of ts p)
after_within p [] w within = tt
after_within p (t ∷ ts) w within = ⊎_elim
    (λ (e : t.0 ≡ p). rw (eq-eqb t.0 p e) within.1)
    (λ (d : t.0 ≡ p → ⊥). rw (ne_eqb t.0 p d) within)
    (cases_eq t.0 p)

next_within : (rf rh : List (ℕ × ℤ)) (p w : ℕ) → next_of rf rh ≡ Some p → IsWithin w rf → IsWithin w rh → p < w
next_within [] [] p w e x y = absurd cc
next_within [] (s ∷ ss) p w e x y = let z : s.0 ≡ p = cc in omega (arith, y.0)
next_within (t ∷ ts) [] p w e x y = let z : t.0 ≡ p = cc in omega (arith, x.0)
next_within (t ∷ ts) (s ∷ ss) p w e x y = by_test (nat_le t.0 s.0)
    (λ (v : nat_le t.0 s.0 ≡ true). let z : next_of (t ∷ ts) (s ∷ ss) ≡ Some t.0 = rw v refl in let q : t.0 ≡ p = cc in omega (arith, x.0))
    (λ (v : nat_le t.0 s.0 ≡ false). let z : next_of (t ∷ ts) (s ∷ ss) ≡ Some s.0 = rw v refl in let q : s.0 ≡ p = cc in omega (arith, y.0))

push_within : (w p : ℕ) (out : List (ℕ × ℤ)) (d : ℤ) → IsWithin w out → p < w → IsWithin w (out ++ ((p, d) ∷ []))
push_within w p [] d within less = (less, tt)
push_within w p (s ∷ out) d within less = (within.0, push_within w p out d within.1 less)

with_within : (w p : ℕ) (out : List (ℕ × ℤ)) (d : ℤ) → IsWithin w out → p < w → IsWithin w (with_number out p d)
with_within w p out d within less = by_test (vanishes d)
    (λ (v : vanishes d ≡ true). rw v within)
    (λ (v : vanishes d ≡ false). rw v (push_within w p out d within less))

-- The turns.

pub nothing_narrow : (a b : ℤ) → narrow a b (pos 0) (pos 0) ≡ true
nothing_narrow a b =
    let x : a *ℤ pos 0 ≡ pos 0 = omega (arith, ints) in
    let y : b *ℤ pos 0 ≡ pos 0 = omega (arith, ints) in
    rw (x, y) refl

number_is : (a b x y d : ℤ) → mixed_number a b x y ≡ Some d → (narrow a b x y ≡ true) × (d ≡ (a *ℤ x) -ℤ (b *ℤ y))
number_is a b x y d e = by_test (narrow a b x y)
    (λ (v : narrow a b x y ≡ true). let z : mixed_number a b x y ≡ Some ((a *ℤ x) -ℤ (b *ℤ y)) = rw v refl in (v, cc))
    (λ (v : narrow a b x y ≡ false). let z : mixed_number a b x y ≡ None = rw v refl in absurd cc)

number_wide : (a b x y : ℤ) → mixed_number a b x y ≡ None → narrow a b x y ≡ false
number_wide a b x y e = by_test (narrow a b x y)
    (λ (v : narrow a b x y ≡ true). let z : mixed_number a b x y ≡ Some ((a *ℤ x) -ℤ (b *ℤ y)) = rw v refl in absurd cc)
    (λ (v : narrow a b x y ≡ false). v)

-- one place merged
pub merge_goes : (a b : ℤ) (f h out rf rh : List (ℕ × ℤ)) (p : ℕ) (d : ℤ) → IsMerging a b f h out rf rh
    → next_of rf rh ≡ Some p
    → mixed_number a b (head_number rf p) (head_number rh p) ≡ Some d → IsMerging a b f h (with_number out p d) (after_of rf p) (after_of rh p)
merge_goes a b f h out rf rh p d i e n =
    let q = i.upto in
    let m = i.merged in
    let least = next_least rf rh p e in
    let more : i.upto ≤ p = next_from q rf rh p m.first_from m.second_from e in
    let x : head_number rf p ≡ coefficient f p = head_is p rf least.0 m.first_rises ∙ m.first_rest p more in
    let y : head_number rh p ≡ coefficient h p = head_is p rh least.1 m.second_rises ∙ m.second_rest p more in
    let n2 : mixed_number a b (coefficient f p) (coefficient h p) ≡ Some d = rw (x, y) at n in
    let is = number_is a b (coefficient f p) (coefficient h p) d n2 in
    let af = after_from p rf least.0 m.first_rises in
    let ah = after_from p rh least.1 m.second_rises in
    let places = with_places q p out d m.within more m.rises in
    let gone_f : (j : ℕ) → i.upto ≤ j → j < p → coefficient f j ≡ pos 0 = λ j past less. sym (m.first_rest j past) ∙ none_before p rf j least.0 m.first_rises less in
    let gone_h : (j : ℕ) → i.upto ≤ j → j < p → coefficient h j ≡ pos 0 = λ j past less. sym (m.second_rest j past) ∙ none_before p rh j least.1 m.second_rises less in
    record {
      upto = suc p;
      merged = record {
        value = λ j below. with_is out p d j ∙ ⊎_elim
            (λ (v : j ≡ p). rw v (omega (arith, ints, beyond q out p m.within more, term_here p p d refl, is.1)))
            (λ (v : j ≡ p → ⊥). let none = term_elsewhere p j d (λ (z : p ≡ j). v (sym z)) in ⊎_elim
            (λ (old : j < i.upto). omega (arith, ints, none, m.value j old))
            (λ (past : i.upto ≤ j). rw (gone_f j past (omega arith), gone_h j past (omega arith)) (omega (arith, ints, none, beyond q out j m.within past)))
            (cases_lt j q))
            (cases_eq j p);
        fit = λ j below. ⊎_elim
            (λ (v : j ≡ p). rw v is.0)
            (λ (v : j ≡ p → ⊥). ⊎_elim
            (λ (old : j < i.upto). m.fit j old)
            (λ (past : i.upto ≤ j). rw (gone_f j past (omega arith), gone_h j past (omega arith)) (nothing_narrow a b))
            (cases_lt j q))
            (cases_eq j p);
        first_rest = λ j past. after_same p rf j (omega arith) ∙ m.first_rest j (omega arith);
        second_rest = λ j past. after_same p rh j (omega arith) ∙ m.second_rest j (omega arith);
        first_from = af.0;
        second_from = ah.0;
        first_rises = af.1;
        second_rises = ah.1;
        within = places.0;
        rises = places.1;
        first_within = λ w is. after_within p rf w (m.first_within w is);
        second_within = λ w is. after_within p rh w (m.second_within w is);
        out_within = λ w one other. with_within w p out d (m.out_within w one other) (next_within rf rh p w e (m.first_within w one) (m.second_within w other));
      };
    }

-- a number does not fit
pub merge_wide : (a b : ℤ) (f h out rf rh : List (ℕ × ℤ)) (p : ℕ) → IsMerging a b f h out rf rh → next_of rf rh ≡ Some p
    → mixed_number a b (head_number rf p) (head_number rh p) ≡ None → IsTooWide a b f h
merge_wide a b f h out rf rh p i e n =
    let m = i.merged in
    let least = next_least rf rh p e in
    let more : i.upto ≤ p = next_from i.upto rf rh p m.first_from m.second_from e in
    let x : head_number rf p ≡ coefficient f p = head_is p rf least.0 m.first_rises ∙ m.first_rest p more in
    let y : head_number rh p ≡ coefficient h p = head_is p rh least.1 m.second_rises ∙ m.second_rest p more in
    record { place = p; wide = number_wide a b (coefficient f p) (coefficient h p) (rw (x, y) at n) }

both_empty : (rf rh : List (ℕ × ℤ)) (j : ℕ) → next_of rf rh ≡ None
    → (coefficient rf j ≡ pos 0) × (coefficient rh j ≡ pos 0)
both_empty [] [] j e = (refl, refl)
both_empty [] (s ∷ ss) j e = absurd cc
both_empty (t ∷ ts) [] j e = absurd cc
both_empty (t ∷ ts) (s ∷ ss) j e = by_test (nat_le t.0 s.0)
    (λ (v : nat_le t.0 s.0 ≡ true). let z : next_of (t ∷ ts) (s ∷ ss) ≡ Some t.0 = rw v refl in absurd cc)
    (λ (v : nat_le t.0 s.0 ≡ false). let z : next_of (t ∷ ts) (s ∷ ss) ≡ Some s.0 = rw v refl in absurd cc)

-- all is merged
pub merge_ends : (a b : ℤ) (f h out rf rh : List (ℕ × ℤ)) → IsMerging a b f h out rf rh → next_of rf rh ≡ None
    → IsMixture a b f h out
merge_ends a b f h out rf rh i e =
    let m = i.merged in
    let gone_f : (j : ℕ) → i.upto ≤ j → coefficient f j ≡ pos 0 = λ j past. sym (m.first_rest j past) ∙ (both_empty rf rh j e).0 in
    let gone_h : (j : ℕ) → i.upto ≤ j → coefficient h j ≡ pos 0 = λ j past. sym (m.second_rest j past) ∙ (both_empty rf rh j e).1 in
    record {
      value = λ j. ⊎_elim
          (λ (old : j < i.upto). m.value j old)
          (λ (past : i.upto ≤ j). rw (gone_f j past, gone_h j past) (omega (arith, ints, beyond i.upto out j m.within past)))
          (cases_lt j i.upto);
      fit = λ j. ⊎_elim
          (λ (old : j < i.upto). m.fit j old)
          (λ (past : i.upto ≤ j). rw (gone_f j past, gone_h j past) (nothing_narrow a b))
          (cases_lt j i.upto);
      rises = m.rises;
      within = m.out_within;
    }
