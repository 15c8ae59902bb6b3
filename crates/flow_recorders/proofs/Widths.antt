-- Numbers that take more than a byte, met on the walks that let them begin anew.
--   WideBelow keys k spans i           one of the numbers below i has the key and takes more than a byte
--   wide_first, wide_next, wide_all    before the first number, past one number, and at the end
--   wide_scope, wide_none              past one scope, and where no scope is left
use Rattle.std.specs.Prelude.{◌↔◌, ◌⊎◌, IsTrue, nat_lt}
use Rattle.std.specs.List.{list_any}
use Rattle.std.proofs.Common.{◌≡◌, ◌<◌, ◌≤◌, ◌+◌, ◌||◌, ℕ, List, [], ◌∷◌, Option, Bool, true, false, cond, length, refl, sym, ap, ◌∙◌, subst, arith, inl, inr}
use Rattle.std.proofs.lemmas.Bool.{true≢false, lt-ltb, ltb-true}
use Rattle.recorder_rules.specs.SpanLaws.{same_or_not, low_or_over}
use Rattle.recorder_rules.specs.TallyRules.{key_at, is_at}
use Rattle.recorder_rules.specs.TotalRules.{span_at}
use Rattle.flow_recorders.specs.Chained.{IsNext}
use Rattle.flow_recorders.specs.Walked.{AreChanged, HasWide}

-- one of two holds
either : (a b : Bool) → (a || b) ≡ true → (a ≡ true) ⊎ (b ≡ true)
either true b e = inl refl
either false b e = inr e

-- the first holds, or the second
left_holds : (a b : Bool) → a ≡ true → (a || b) ≡ true
left_holds a b e = ap (λ (t : Bool). t || b) e

right_holds : (a b : Bool) → b ≡ true → (a || b) ≡ true
right_holds true b e = refl
right_holds false b e = e

-- one of the numbers below i has the key and takes more than a byte
abbrev pub WideBelow : List (Option ℕ) → ℕ → List (ℕ × ℕ) → ℕ → Type 0
WideBelow keys k spans i = (j : ℕ) × (j < i) × (j < length spans) × (is_at (key_at keys j) k ≡ true) × (255 < (span_at spans j).0)

module _ (keys : List (Option ℕ)) (k : ℕ) (old : List (ℕ × ℕ)) where
  pub wide_first : (i : ℕ) → IsNext keys k 0 i → IsTrue false ↔ WideBelow keys k old i
  wide_first i next = (λ no. absurd (true≢false (sym no)), λ w. absurd (true≢false (sym w.3 ∙ next.none w.0 (omega arith) w.1)))

  pub wide_next : (b w : Bool) (now : List (ℕ × ℕ)) (i n : ℕ) → i < length old → is_at (key_at keys i) k ≡ true
      → w ≡ nat_lt 255 (span_at now i).0 → span_at now i ≡ span_at old i → IsNext keys k (i + 1) n
      → (IsTrue b ↔ WideBelow keys k old i) → IsTrue (b || w) ↔ WideBelow keys k old n
  wide_next b w now i n low here is same next so_far = (found, kept)
    where
      least : w ≡ nat_lt 255 (span_at old i).0
      least = is ∙ ap (λ (s : ℕ × ℕ). nat_lt 255 s.0) same

      found : (b || w) ≡ true → WideBelow keys k old n
      found e = elim (either b w e) [
        | inl was ↦ let it = so_far.0 was in (it.0, let l = it.1 in let m = next.least in omega arith, it.2, it.3, it.4)
        | inr now_is ↦ (i, let m = next.least in omega arith, low, here, ltb-true 255 (span_at old i).0 (sym least ∙ now_is))
      ]

      kept : WideBelow keys k old n → (b || w) ≡ true
      kept it = elim (low_or_over it.0 i) [
        | inl earlier ↦ left_holds b w (so_far.1 (it.0, earlier, it.2, it.3, it.4))
        | inr over ↦ elim (same_or_not it.0 i) [
          | inl at ↦ right_holds b w (least ∙ lt-ltb 255 (span_at old i).0 (subst (λ (m : ℕ). 255 < (span_at old m).0) at it.4))
          | inr apart ↦ absurd (true≢false (sym it.3 ∙ next.none it.0 (omega arith) it.1))
        ]
      ]

  pub wide_all : (b : Bool) (i : ℕ) → length old ≤ i → (IsTrue b ↔ WideBelow keys k old i)
      → IsTrue b ↔ HasWide keys (λ key. is_at key k) old
  wide_all b i over so_far = (λ e. let it = so_far.0 e in (it.0, it.2, (it.3, it.4)), λ h. so_far.1 (h.0, let l = h.1 in omega arith, h.1, h.2.0, h.2.1))

-- past one scope
pub wide_scope : (keys : List (Option ℕ)) (k : ℕ) (ks : List ℕ) (b r : Bool) (old new : List (ℕ × ℕ)) (P : Type 0)
    → length new ≡ length old → AreChanged keys k (λ j. (0, 0)) (0, 0) old new
    → (IsTrue r ↔ HasWide keys (λ key. is_at key k) old)
    → ((IsTrue b ⊎ HasWide keys (λ key. list_any (λ n. is_at key n) (k ∷ ks)) old) ↔ P)
    → (IsTrue (b || r) ⊎ HasWide keys (λ key. list_any (λ n. is_at key n) ks) new) ↔ P
wide_scope keys k ks b r old new P long changed is so_far = (λ h. so_far.0 (back h), λ p. on (so_far.1 p))
  where
    Rest : List (ℕ × ℕ) → Type 0
    Rest spans = HasWide keys (λ key. list_any (λ n. is_at key n) ks) spans

    All : Type 0
    All = HasWide keys (λ key. list_any (λ n. is_at key n) (k ∷ ks)) old

    among : (j : ℕ) → Bool
    among j = list_any (λ n. is_at (key_at keys j) n) ks

    back_at : (here : Bool) (j : ℕ) → is_at (key_at keys j) k ≡ here → j < length old → among j ≡ true → 255 < (span_at new j).0
        → IsTrue b ⊎ All
    back_at true j at low rest wide =
        let none : span_at new j ≡ (0, 0) = changed j low ∙ ap (λ (t : Bool). cond t (0, 0) (span_at old j)) at in
        absurd (let e : (span_at new j).0 ≡ 0 = ap (λ (s : ℕ × ℕ). s.0) none in omega arith)
    back_at false j at low rest wide =
        let same : span_at new j ≡ span_at old j = changed j low ∙ ap (λ (t : Bool). cond t (0, 0) (span_at old j)) at in
        inr (j, low, (right_holds (is_at (key_at keys j) k) (among j) rest, subst (λ (s : ℕ × ℕ). 255 < s.0) same wide))

    back : IsTrue (b || r) ⊎ Rest new → IsTrue b ⊎ All
    back (inl e) = elim (either b r e) [
      | inl was ↦ inl was
      | inr it ↦ let h = is.0 it in inr (h.0, h.1, (left_holds (is_at (key_at keys h.0) k) (among h.0) h.2.0, h.2.1))
    ]
    back (inr h) = back_at (is_at (key_at keys h.0) k) h.0 refl (let l = h.1 in omega arith) h.2.0 h.2.1

    on_at : (here : Bool) (j : ℕ) → is_at (key_at keys j) k ≡ here → j < length old → (here || among j) ≡ true → 255 < (span_at old j).0
        → IsTrue (b || r) ⊎ Rest new
    on_at true j at low any wide = inl (right_holds b r (is.1 (j, low, (at, wide))))
    on_at false j at low any wide =
        let same : span_at new j ≡ span_at old j = changed j low ∙ ap (λ (t : Bool). cond t (0, 0) (span_at old j)) at in
        inr (j, omega arith, (any, subst (λ (s : ℕ × ℕ). 255 < s.0) (sym same) wide))

    on : IsTrue b ⊎ All → IsTrue (b || r) ⊎ Rest new
    on (inl was) = inl (left_holds b r was)
    on (inr h) = on_at (is_at (key_at keys h.0) k) h.0 refl h.1 h.2.0 h.2.1

-- where no scope is left
pub wide_none : (keys : List (Option ℕ)) (b : Bool) (ks : List ℕ) (spans : List (ℕ × ℕ)) (P : Type 0) → ks ≡ []
    → ((IsTrue b ⊎ HasWide keys (λ key. list_any (λ n. is_at key n) ks) spans) ↔ P) → IsTrue b ↔ P
wide_none keys b ks spans P none so_far = (λ e. so_far.0 (inl e), λ p. only (so_far.1 p))
  where
    only : IsTrue b ⊎ HasWide keys (λ key. list_any (λ n. is_at key n) ks) spans → IsTrue b
    only (inl e) = e
    only (inr h) = absurd (true≢false (sym h.2.0 ∙ ap (λ (ns : List ℕ). list_any (λ n. is_at (key_at keys h.0) n) ns) none))
