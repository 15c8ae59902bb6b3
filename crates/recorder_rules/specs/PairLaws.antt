-- The laws of a recorder of pairs.
--   pair_is_order       the order
--   open_none, open_some   where a scope holds the newest node of a trace, and only there, an iteration of it is open
--   pair_is_recording   all laws
use Rattle.std.proofs.Common.{◌≡◌, ◌≢◌, ℕ, ◌<◌, List, [], ◌∷◌, length, Bool, true, false, not, ◌&&◌, ◌||◌, ◌==◌, cond, inl, inr, refl, sym, ap, ◌∙◌, subst, arith}
use Rattle.std.proofs.lemmas.Bool.{or_cases, or_left, or_right, and_parts, and_from, eqb-true, eq-eqb}
use Rattle.lists.specs.TestLaws.{by_test}
use Rattle.domain_core.specs.Orders.{IsOrder}
use Rattle.domain_core.specs.Outlines.{Shape, shape_of, is_held, header_of, IsOutline, here}
use Rattle.domain_core.specs.OutlineLaws.{held_is, is_holder, holder_low}
use Rattle.domain_core.specs.Traces.{IsTrace}
use Rattle.domain_core.specs.Parts.{further}
use Rattle.domain_core.specs.Executions.{is_header, goes_on_at, open_iteration}
use Rattle.domain_core.specs.Recordings.{IsRecording}
use Rattle.recorder_rules.specs.Generated.{generated}
use Rattle.recorder_rules.specs.GeneratedLaws.{length-generated}
use Rattle.recorder_rules.specs.LoopRules.{own_of}
use Rattle.recorder_rules.specs.Tables.{truth, cell, tabled}
use Rattle.recorder_rules.specs.TableLaws.{truth-generated, cell-tabled, length-tabled}
use Rattle.recorder_rules.specs.PairRules.{has, follows, any_follows, Sightings, PairBook, is_shared, ends, is_over, seen_after, pair_after, book_after, book_ended, current, over, ArePaired, AreCollected, AreSharpPairs, AreExactPairs, pair_order, pair_recording}
use Rattle.recorder_rules.specs.PairStepLaws.{follows_has, seen_step, pair_step, over_step, all_over}

-- ---- the order

pub pair_is_order : IsOrder Sightings pair_order
pair_is_order = record {
  itself = λ r. record { same_length = refl; seen = λ a low is. is; pairs = λ a c low within is. is };
  farther = λ r s t first second. record {
    same_length = first.same_length ∙ second.same_length;
    seen = λ a low is. second.seen a (let e = first.same_length in omega arith) (first.seen a low is);
    pairs = λ a c low within is. second.pairs a c (let e = first.same_length in omega arith) (let e = first.same_length in omega arith) (first.pairs a c low within is);
  };
  left = λ r s same. record {
    same_length = sym (length-generated (length r.seen) (λ a. truth r.seen a || truth s.seen a));
    seen = λ a low is. truth-generated (length r.seen) (λ i. truth r.seen i || truth s.seen i) a low ∙ or_left (truth r.seen a) (truth s.seen a) is;
    pairs = λ a c low within is. cell-tabled (length r.seen) (length r.seen) (λ i j. cell r.pairs i j || cell s.pairs i j) a c low within ∙ or_left (cell r.pairs a c) (cell s.pairs a c) is;
  };
  right = λ r s same. record {
    same_length = sym same ∙ sym (length-generated (length r.seen) (λ a. truth r.seen a || truth s.seen a));
    seen = λ a low is. truth-generated (length r.seen) (λ i. truth r.seen i || truth s.seen i) a (omega arith) ∙ or_right (truth r.seen a) (truth s.seen a) is;
    pairs = λ a c low within is. cell-tabled (length r.seen) (length r.seen) (λ i j. cell r.pairs i j || cell s.pairs i j) a c (omega arith) (omega arith) ∙ or_right (cell r.pairs a c) (cell s.pairs a c) is;
  };
}

-- ---- tests

-- what follows from one of two tests, or from two
or_more : (x y u v : Bool) → (x ≡ true → u ≡ true) → (y ≡ true → v ≡ true) → x || y ≡ true → u || v ≡ true
or_more x y u v first second is = elim (or_cases x y is) [ inl e ↦ or_left u v (first e) | inr e ↦ or_right u v (second e) ]

and_more : (x y u v : Bool) → (x ≡ true → u ≡ true) → (y ≡ true → v ≡ true) → x && y ≡ true → u && v ≡ true
and_more x y u v first second is = let both = and_parts x y is in and_from u v (first both.0) (second both.1)

not_both : (s z : Bool) → not z ≡ true → not (s && z) ≡ true
not_both true z is = is
not_both false z is = refl

-- a test that implies another
with_not : (f h z : Bool) → (f ≡ true → h ≡ true) → (f && not (h && z)) ≡ (f && not z)
with_not true h z more = ap (λ (x : Bool). not (x && z)) (more refl)
with_not false h z more = refl

with_both : (f h z : Bool) → (f ≡ true → h ≡ true) → (f && (h && z)) ≡ (f && z)
with_both true h z more = ap (λ (x : Bool). x && z) (more refl)
with_both false h z more = refl

with_one : (f h : Bool) → (f ≡ true → h ≡ true) → (f && h) ≡ f
with_one true h more = more refl
with_one false h more = refl

-- what a recorder and a book have after a step, where before it they had exactly what they should: sh says whether the
-- nodes share their scope, p, s and b are what is there, f, h and g what should be, and z says whether the iteration
-- ends
paired : (sh p s z entered sc f h hc : Bool) → p ≡ (sh && f) → s ≡ h → (f ≡ true → h ≡ true) → (sh ≡ true → sc ≡ hc)
    → ((p && not (s && z)) || (entered && (sh && sc))) ≡ (sh && ((f && not z) || (entered && hc)))
paired true p s z entered sc f h hc pairs seen more second = rw (pairs, seen, second refl) (ap (λ (x : Bool). x || (entered && hc)) (with_not f h z more))
paired false p s z true sc f h hc pairs seen more second = rw pairs refl
paired false p s z false sc f h hc pairs seen more second = rw pairs refl

booked : (sh p s b z f h g : Bool) → p ≡ (sh && f) → s ≡ h → (f ≡ true → h ≡ true) → b ≡ (sh && g)
    → (b || (p && (s && z))) ≡ (sh && (g || (f && z)))
booked true p s b z f h g pairs seen more there = rw (pairs, seen, there) (ap (λ (x : Bool). g || x) (with_both f h z more))
booked false p s b z f h g pairs seen more there = rw (pairs, there) refl

ended : (sh p s b f h g : Bool) → p ≡ (sh && f) → s ≡ h → (f ≡ true → h ≡ true) → b ≡ (sh && g)
    → (b || (p && s)) ≡ (sh && (g || f))
ended true p s b f h g pairs seen more there = rw (pairs, seen, there) (ap (λ (x : Bool). g || x) (with_one f h more))
ended false p s b f h g pairs seen more there = rw (pairs, there) refl

-- ---- iterations along a trace

-- what a scope does not hold is in no iteration of it
pub open_none : (o : Shape) (t n : ℕ) (past : List ℕ) → is_held o t n ≡ false → open_iteration o t (n ∷ past) ≡ []
open_none o t n past out = rw out refl

further_some : (n : ℕ) (part : List ℕ) → part ≢ [] → further n part ≢ []
further_some n [] some = absurd (some refl)
further_some n (m ∷ part) some = λ none. let bad : n ∷ m ∷ part ≡ [] = none in cc

module _ (o : Shape) (ok : IsOutline o) (t : ℕ) where
  begun_some : (n : ℕ) (past : List ℕ) → is_held o t n ≡ true → is_header o t n ≡ true
      → open_iteration o t (n ∷ past) ≢ []
  begun_some n past held is none = let bad : n ∷ [] ≡ [] = sym (rw (held, is) refl) ∙ none in cc

  -- the scope that holds the newest node of a trace has an open iteration
  pub open_some : (n : ℕ) (past : List ℕ) → IsTrace o (n ∷ past) → is_held o t n ≡ true
      → open_iteration o t (n ∷ past) ≢ []
  open_some n [] first held =
      let alone : t ≡ 0 = ok.first_alone t (held_is o ok t 0 (subst (λ (k : ℕ). is_held o t k ≡ true) first held)) in
      let header : header_of o.scopes t ≡ n = ap (λ (s : ℕ). header_of o.scopes s) alone ∙ ok.first_scope.0 ∙ sym first in
      begun_some n [] held (eq-eqb (header_of o.scopes t) n header)
  open_some n (m ∷ older) step held =
      elim (ok.entered m n t step.0 step.1 (holder_low o ok t n step.1 (held_is o ok t n held)) (held_is o ok t n held)) [
        | inl header ↦ begun_some n (m ∷ older) held (eq-eqb (header_of o.scopes t) n (sym header))
        | inr inside ↦ let some = open_some m older step.2 (is_holder o ok t m inside) in
            by_test (is_header o t n) (λ is. begun_some n (m ∷ older) held is) (λ clear none. further_some n (open_iteration o t (m ∷ older)) some (sym (rw (held, clear) refl) ∙ none))
      ]

-- ---- one node, or two of one scope

-- two nodes of one scope
pub same_own : (o : Shape) (a c : ℕ) → is_shared o a c ≡ true → own_of o a ≡ own_of o c
same_own o a c shared = eqb-true (own_of o a) (own_of o c) shared

-- a node lies in its own scope
own_holds : (o : Shape) → IsOutline o → (a : ℕ) → is_held o (own_of o a) a ≡ true
own_holds o ok a = is_holder o ok (own_of o a) a here

-- what its scope does not hold is another node
not_entered : (o : Shape) → IsOutline o → (a k : ℕ) → is_held o (own_of o a) k ≡ false → (a == k) ≡ false
not_entered o ok a k out =
    by_test (a == k) (λ is. absurd (let bad : true ≡ false = sym (own_holds o ok a) ∙ ap (λ (m : ℕ). is_held o (own_of o a) m) (eqb-true a k is) ∙ out in cc)) (λ clear. clear)

module _ (o : Shape) (ok : IsOutline o) (n k : ℕ) (past : List ℕ) (tr : IsTrace o (k ∷ n ∷ past)) where
  -- where an iteration goes on, one is open
  goes_some : (t : ℕ) → is_held o t k ≡ true → is_header o t k ≡ false → open_iteration o t (n ∷ past) ≢ []
  goes_some t held clear =
      elim (ok.entered n k t tr.0 tr.1 (holder_low o ok t k tr.1 (held_is o ok t k held)) (held_is o ok t k held)) [
        | inl header ↦ absurd (let bad : true ≡ false = sym (eq-eqb (header_of o.scopes t) k (sym header)) ∙ clear in cc)
        | inr inside ↦ open_some o ok t n past tr.2 (is_holder o ok t n inside)
      ]

  seen_now : (a : ℕ) → has a (current o a (k ∷ n ∷ past)) ≡ ((has a (current o a (n ∷ past)) && not (ends o (own_of o a) n k)) || (a == k))
  seen_now a =
      seen_step k (current o a (n ∷ past)) (is_held o (own_of o a) k) (is_header o (own_of o a) k) (is_held o (own_of o a) n) a
      (not_entered o ok a k) (open_none o (own_of o a) n past) (goes_some (own_of o a))

  pair_now : (a c : ℕ) → follows a c (current o a (k ∷ n ∷ past)) ≡ ((follows a c (current o a (n ∷ past)) && not (ends o (own_of o a) n k)) || ((a == k) && has c (current o a (k ∷ n ∷ past))))
  pair_now a c =
      pair_step k (current o a (n ∷ past)) (is_held o (own_of o a) k) (is_header o (own_of o a) k) (is_held o (own_of o a) n) a c
      (not_entered o ok a k) (open_none o (own_of o a) n past) (goes_some (own_of o a))

  over_now : (a c : ℕ) → any_follows a c (over o a (k ∷ n ∷ past)) ≡ (any_follows a c (over o a (n ∷ past)) || (follows a c (current o a (n ∷ past)) && ends o (own_of o a) n k))
  over_now a c = over_step (goes_on_at o (own_of o a) k) (is_held o (own_of o a) n) a c (current o a (n ∷ past)) (over o a (n ∷ past)) (open_none o (own_of o a) n past)

  module _ (m : ℕ) (r : Sightings) (b : PairBook) where
    abbrev gone_seen : List Bool
    gone_seen = generated m (λ a. seen_after o r.seen n k a)

    abbrev gone_pairs : List (List Bool)
    gone_pairs = tabled m m (λ a c. pair_after o r n k a c)

    abbrev gone_over : List (List Bool)
    gone_over = tabled m m (λ a c. book_after o r b n k a c)

    abbrev gone : Sightings
    gone = record { seen = gone_seen; pairs = gone_pairs }

    abbrev gone_book : PairBook
    gone_book = record { owned = b.owned; pairs = gone_over }

    -- covered before the step, and after it
    seen_more : (a : ℕ) → (has a (current o a (n ∷ past)) ≡ true → truth r.seen a ≡ true)
        → has a (current o a (k ∷ n ∷ past)) ≡ true → seen_after o r.seen n k a ≡ true
    seen_more a more is =
        let stays = not (ends o (own_of o a) n k) in
        or_more (has a (current o a (n ∷ past)) && stays) (a == k) (truth r.seen a && stays) (a == k)
        (λ z. and_more (has a (current o a (n ∷ past))) stays (truth r.seen a) stays more (λ y. y) z) (λ z. z) (sym (seen_now a) ∙ is)

    pub paired_after : ArePaired o m r b (n ∷ past) → ArePaired o m gone gone_book (k ∷ n ∷ past)
    paired_after covered = record {
      recorder_is_of = length-generated m (λ a. seen_after o r.seen n k a);
      book_is_of = length-tabled m m (λ a c. book_after o r b n k a c);
      seen = λ a low is. truth-generated m (λ i. seen_after o r.seen n k i) a low ∙ seen_more a (covered.seen a low) is;
      pairs = λ a c low within shared is.
          let stop = ends o (own_of o a) n k in
          let entered_with = has c (current o a (k ∷ n ∷ past)) in
          cell-tabled m m (λ i j. pair_after o r n k i j) a c low within
          ∙ or_more (follows a c (current o a (n ∷ past)) && not stop) ((a == k) && entered_with) (cell r.pairs a c && not (is_over o r.seen n k a)) ((a == k) && (is_shared o a c && seen_after o r.seen n k c))
          (λ z. and_more (follows a c (current o a (n ∷ past))) (not stop) (cell r.pairs a c) (not (is_over o r.seen n k a)) (λ y. covered.pairs a c low within shared y) (λ y. not_both (truth r.seen a) stop y) z)
          (λ z. and_more (a == k) entered_with (a == k) (is_shared o a c && seen_after o r.seen n k c) (λ y. y)
          (λ y. and_from (is_shared o a c) (seen_after o r.seen n k c) shared (seen_more c (covered.seen c within) (subst (λ (t : ℕ). has c (open_iteration o t (k ∷ n ∷ past)) ≡ true) (same_own o a c shared) y))) z)
          (sym (pair_now a c) ∙ is);
      over = λ a c low within shared is.
          let stop = ends o (own_of o a) n k in
          let opened = follows a c (current o a (n ∷ past)) in
          cell-tabled m m (λ i j. book_after o r b n k i j) a c low within
          ∙ or_more (any_follows a c (over o a (n ∷ past))) (opened && stop) (cell b.pairs a c) (cell r.pairs a c && is_over o r.seen n k a)
          (λ y. covered.over a c low within shared y)
          (λ z. let both = and_parts opened stop z in
          and_from (cell r.pairs a c) (is_over o r.seen n k a) (covered.pairs a c low within shared both.0)
          (and_from (truth r.seen a) stop (covered.seen a low (follows_has a c (current o a (n ∷ past)) both.0)) both.1))
          (sym (over_now a c) ∙ is);
    }

    seen_exactly : AreSharpPairs o m r b (n ∷ past) → (a : ℕ) → a < m
        → seen_after o r.seen n k a ≡ has a (current o a (k ∷ n ∷ past))
    seen_exactly sharp a low = ap (λ (x : Bool). (x && not (ends o (own_of o a) n k)) || (a == k)) (sharp.seen a low) ∙ sym (seen_now a)

    pub sharp_after : AreSharpPairs o m r b (n ∷ past) → AreSharpPairs o m gone gone_book (k ∷ n ∷ past)
    sharp_after sharp = record {
      seen = λ a low. truth-generated m (λ i. seen_after o r.seen n k i) a low ∙ seen_exactly sharp a low;
      pairs = λ a c low within.
          cell-tabled m m (λ i j. pair_after o r n k i j) a c low within
          ∙ paired (is_shared o a c) (cell r.pairs a c) (truth r.seen a) (ends o (own_of o a) n k) (a == k) (seen_after o r.seen n k c)
          (follows a c (current o a (n ∷ past))) (has a (current o a (n ∷ past))) (has c (current o a (k ∷ n ∷ past)))
          (sharp.pairs a c low within) (sharp.seen a low) (follows_has a c (current o a (n ∷ past)))
          (λ shared. seen_exactly sharp c within ∙ ap (λ (t : ℕ). has c (open_iteration o t (k ∷ n ∷ past))) (sym (same_own o a c shared)))
          ∙ ap (λ (x : Bool). is_shared o a c && x) (sym (pair_now a c));
      over = λ a c low within.
          cell-tabled m m (λ i j. book_after o r b n k i j) a c low within
          ∙ booked (is_shared o a c) (cell r.pairs a c) (truth r.seen a) (cell b.pairs a c) (ends o (own_of o a) n k)
          (follows a c (current o a (n ∷ past))) (has a (current o a (n ∷ past))) (any_follows a c (over o a (n ∷ past)))
          (sharp.pairs a c low within) (sharp.seen a low) (follows_has a c (current o a (n ∷ past))) (sharp.over a c low within)
          ∙ ap (λ (x : Bool). is_shared o a c && x) (sym (over_now a c));
    }

-- ---- the end of a run

module _ (o : Shape) (past : List ℕ) (m : ℕ) (r : Sightings) (b : PairBook) where
  abbrev ended_book : PairBook
  ended_book = record { owned = b.owned; pairs = tabled m m (λ a c. book_ended r b a c) }

  pub collected_at_end : ArePaired o m r b past → AreCollected o m ended_book past
  collected_at_end covered = record {
    book_is_of = length-tabled m m (λ a c. book_ended r b a c);
    pairs = λ a c low within shared is.
        let opened = follows a c (current o a past) in
        cell-tabled m m (λ i j. book_ended r b i j) a c low within
        ∙ or_more (any_follows a c (over o a past)) opened (cell b.pairs a c) (cell r.pairs a c && truth r.seen a)
        (λ y. covered.over a c low within shared y)
        (λ z. and_from (cell r.pairs a c) (truth r.seen a) (covered.pairs a c low within shared z) (covered.seen a low (follows_has a c (current o a past) z)))
        (sym (all_over a c (current o a past) (over o a past)) ∙ is);
  }

  pub exact_at_end : AreSharpPairs o m r b past → AreExactPairs o m ended_book past
  exact_at_end sharp a c low within =
      cell-tabled m m (λ i j. book_ended r b i j) a c low within
      ∙ ended (is_shared o a c) (cell r.pairs a c) (truth r.seen a) (cell b.pairs a c) (follows a c (current o a past)) (has a (current o a past)) (any_follows a c (over o a past))
      (sharp.pairs a c low within) (sharp.seen a low) (follows_has a c (current o a past)) (sharp.over a c low within)
      ∙ ap (λ (x : Bool). is_shared o a c && x) (sym (all_over a c (current o a past) (over o a past)))

-- ---- the beginning

module _ (o : Shape) (ok : IsOutline o) where
  -- the first node is the header of its scope
  first_current : (a : ℕ) → (a == 0) ≡ true → current o a (0 ∷ []) ≡ 0 ∷ []
  first_current a is =
      let same : a ≡ 0 = eqb-true a 0 is in
      let held : is_held o (own_of o a) 0 ≡ true = subst (λ (i : ℕ). is_held o (own_of o a) i ≡ true) same (own_holds o ok a) in
      by_test (is_header o (own_of o a) 0) (λ head. rw (held, head) refl)
      (λ clear. absurd (open_some o ok (own_of o a) 0 [] refl held (rw (held, clear) refl)))

  -- another is not seen
  first_other : (a : ℕ) → (a == 0) ≡ false → has a (current o a (0 ∷ [])) ≡ false
  first_other a clear = by_tests (is_held o (own_of o a) 0 && is_header o (own_of o a) 0) (goes_on_at o (own_of o a) 0)
    where
      by_tests : (begins goes : Bool) → has a (cond begins (0 ∷ []) (cond goes [] [])) ≡ false
      by_tests true goes = ap (λ (x : Bool). x || false) clear
      by_tests false true = refl
      by_tests false false = refl

  pub first_seen : (a : ℕ) → (a == 0) ≡ has a (current o a (0 ∷ []))
  first_seen a =
      by_test (a == 0) (λ is. is ∙ sym (ap (λ (x : Bool). x || false) is) ∙ ap (λ (xs : List ℕ). has a xs) (sym (first_current a is))) (λ clear. clear ∙ sym (first_other a clear))

  pub first_pair : (a c : ℕ) → ((a == 0) && (c == 0)) ≡ (is_shared o a c && follows a c (current o a (0 ∷ [])))
  first_pair a c =
      by_test (a == 0)
      (λ is. ap (λ (x : Bool). x && (c == 0)) is
      ∙ with_first (is_shared o a c) (c == 0) (λ second. eq-eqb (own_of o a) (own_of o c) (ap (λ (i : ℕ). own_of o i) (eqb-true a 0 is ∙ sym (eqb-true c 0 second))))
      ∙ ap (λ (x : Bool). is_shared o a c && (x && ((c == 0) || false))) (sym is)
      ∙ ap (λ (xs : List ℕ). is_shared o a c && follows a c xs) (sym (first_current a is)))
      (λ clear. ap (λ (x : Bool). x && (c == 0)) clear ∙ sym (none_shared (is_shared o a c) (follows a c (current o a (0 ∷ []))) (λ is. let bad : true ≡ false = sym (follows_has a c (current o a (0 ∷ [])) is) ∙ first_other a clear in cc)))
    where
      with_first : (sh x : Bool) → (x ≡ true → sh ≡ true) → x ≡ (sh && (x || false))
      with_first true true more = refl
      with_first true false more = refl
      with_first false true more = sym (more refl)
      with_first false false more = refl

      none_shared : (sh x : Bool) → (x ≡ true → ⊥) → (sh && x) ≡ false
      none_shared false x none = refl
      none_shared true true none = absurd (none refl)
      none_shared true false none = refl

  -- and nothing is over
  pub first_over : (a c : ℕ) → any_follows a c (over o a (0 ∷ [])) ≡ false
  first_over a c = by_goes (goes_on_at o (own_of o a) 0)
    where
      by_goes : (goes : Bool) → any_follows a c (cond goes [] []) ≡ false
      by_goes true = refl
      by_goes false = refl

no_pair : (sh : Bool) → false ≡ (sh && false)
no_pair true = refl
no_pair false = refl

-- ---- all laws

pub pair_is_recording : IsRecording Sightings PairBook pair_order pair_recording
pair_is_recording = record {
  first_is_of = λ o suited. length-generated (length o.nodes) (λ a. a == 0);
  first_length = λ o suited. omega arith;
  first_book_is_of = λ o suited. (refl, length-tabled (length o.nodes) (length o.nodes) (λ a c. false));
  gone_is_of = λ o r b n k is edge low. record {
    suited = is.suited;
    recorder = length-generated (length o.nodes) (λ a. seen_after (shape_of o) r.seen n k a);
    book = (is.book.0, length-tabled (length o.nodes) (length o.nodes) (λ a c. book_after (shape_of o) r b n k a c));
  };
  gone_length = λ o r b n k is edge low. omega arith;
  finished_is_of = λ o r b n is low. (is.book.0, length-tabled (length o.nodes) (length o.nodes) (λ a c. book_ended r b a c));
  alike = λ o r s suited of_r of_s. of_r ∙ sym of_s;
  joined_is_of = λ o r s suited of_r of_s. length-generated (length r.seen) (λ a. truth r.seen a || truth s.seen a) ∙ of_r;
  joined_length = λ r s same. omega arith;
  grows_itself = λ b. record { same_length = refl; pairs = λ i j low within is. is };
  grows_farther = λ a b c first second. record {
    same_length = first.same_length ∙ second.same_length;
    pairs = λ i j low within is. second.pairs i j (let e = first.same_length in omega arith) (let e = first.same_length in omega arith) (first.pairs i j low within is);
  };
  gone_grows = λ o r b n k is edge low. record {
    same_length = is.book.1 ∙ sym (length-tabled (length o.nodes) (length o.nodes) (λ a c. book_after (shape_of o) r b n k a c));
    pairs = λ i j least within there.
        cell-tabled (length o.nodes) (length o.nodes) (λ a c. book_after (shape_of o) r b n k a c) i j (let e = is.book.1 in omega arith) (let e = is.book.1 in omega arith)
        ∙ or_left (cell b.pairs i j) (cell r.pairs i j && is_over (shape_of o) r.seen n k i) there;
  };
  finished_grows = λ o r b n is low. record {
    same_length = is.book.1 ∙ sym (length-tabled (length o.nodes) (length o.nodes) (λ a c. book_ended r b a c));
    pairs = λ i j least within there.
        cell-tabled (length o.nodes) (length o.nodes) (λ a c. book_ended r b a c) i j (let e = is.book.1 in omega arith) (let e = is.book.1 in omega arith)
        ∙ or_left (cell b.pairs i j) (cell r.pairs i j && truth r.seen i) there;
  };
  covers_grown = λ o r a b past grows covered. record {
    recorder_is_of = covered.recorder_is_of;
    book_is_of = sym grows.same_length ∙ covered.book_is_of;
    seen = covered.seen;
    pairs = covered.pairs;
    over = λ i j low within shared is. grows.pairs i j (let e = covered.book_is_of in omega arith) (let e = covered.book_is_of in omega arith) (covered.over i j low within shared is);
  };
  sums_up_grown = λ o a b past grows summed. record {
    book_is_of = sym grows.same_length ∙ summed.book_is_of;
    pairs = λ i j low within shared is. grows.pairs i j (let e = summed.book_is_of in omega arith) (let e = summed.book_is_of in omega arith) (summed.pairs i j low within shared is);
  };
  above_covers = λ o r s b past under covered. record {
    recorder_is_of = sym under.same_length ∙ covered.recorder_is_of;
    book_is_of = covered.book_is_of;
    seen = λ a low is. under.seen a (let e = covered.recorder_is_of in omega arith) (covered.seen a low is);
    pairs = λ a c low within shared is. under.pairs a c (let e = covered.recorder_is_of in omega arith) (let e = covered.recorder_is_of in omega arith) (covered.pairs a c low within shared is);
    over = covered.over;
  };
  first_covers = λ o b suited book_is. record {
    recorder_is_of = length-generated (length o.nodes) (λ a. a == 0);
    book_is_of = book_is.1;
    seen = λ a low is. truth-generated (length o.nodes) (λ i. i == 0) a low ∙ first_seen (shape_of o) suited.kept a ∙ is;
    pairs = λ a c low within shared is.
        cell-tabled (length o.nodes) (length o.nodes) (λ i j. (i == 0) && (j == 0)) a c low within ∙ first_pair (shape_of o) suited.kept a c
        ∙ and_from (is_shared (shape_of o) a c) (follows a c (current (shape_of o) a (0 ∷ []))) shared is;
    over = λ a c low within shared is. absurd (let bad : true ≡ false = sym is ∙ first_over (shape_of o) suited.kept a c in cc);
  };
  gone_covers = λ o r b n k past is walk covered. paired_after (shape_of o) is.suited.kept n k past walk (length o.nodes) r b covered;
  finished_covers = λ o r b n past is walk covered. collected_at_end (shape_of o) (n ∷ past) (length o.nodes) r b covered;
  first_sharp = λ o suited. record {
    seen = λ a low. truth-generated (length o.nodes) (λ i. i == 0) a low ∙ first_seen (shape_of o) suited.kept a;
    pairs = λ a c low within. cell-tabled (length o.nodes) (length o.nodes) (λ i j. (i == 0) && (j == 0)) a c low within ∙ first_pair (shape_of o) suited.kept a c;
    over = λ a c low within.
        cell-tabled (length o.nodes) (length o.nodes) (λ i j. false) a c low within
        ∙ no_pair (is_shared (shape_of o) a c) ∙ ap (λ (x : Bool). is_shared (shape_of o) a c && x) (sym (first_over (shape_of o) suited.kept a c));
  };
  gone_sharp = λ o r b n k past is walk sharp. sharp_after (shape_of o) is.suited.kept n k past walk (length o.nodes) r b sharp;
  finished_sharp = λ o r b n past is walk sharp. exact_at_end (shape_of o) (n ∷ past) (length o.nodes) r b sharp;
}
