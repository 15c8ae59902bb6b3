-- Steps of a walk along the numbers that have a key.
--   walked_first   before the first number
--   walked_next    past one number
--   walked_all     at the end
--   after_each, each_after   what several walks change
use Rattle.std.proofs.Common.{◌≡◌, ◌≢◌, ◌<◌, ◌≤◌, ◌+◌, ◌||◌, ℕ, List, [], ◌∷◌, Option, Bool, true, false, cond, length, get_or, set, refl, sym, ap, ◌∙◌, subst, arith, inl, inr}
use Rattle.std.specs.List.{list_any}
use Rattle.std.proofs.Math.ListN.{length-set}
use Rattle.std.proofs.lemmas.List.{get_or-set_same, get_or-set_other}
use Rattle.recorder_rules.specs.SpanLaws.{same_or_not, low_or_over, collected_twice}
use Rattle.recorder_rules.specs.TallyRules.{key_at, is_at, spread_after}
use Rattle.flow_recorders.specs.Chained.{IsNext}
use Rattle.flow_recorders.specs.Walked.{IsWalked, AreChanged}

module _ {A : Type 0} (keys : List (Option ℕ)) (k : ℕ) (f : ℕ → A) (d : A) (old : List A) (same : length keys ≡ length old) where
  pub walked_first : (i : ℕ) → IsNext keys k 0 i → IsWalked keys k f d old old i
  walked_first i next = record {
    same_length = refl;
    done = λ j below low. rw (next.none j (omega arith) below) refl;
    rest = λ j over. refl;
    here = λ low. next.has (omega arith);
  }

  pub walked_next : (new : List A) (i n : ℕ) (v : A) → i < length old → v ≡ f i → IsNext keys k (i + 1) n
      → IsWalked keys k f d old new i → IsWalked keys k f d old (set new i v) n
  walked_next new i n v low is next so_far = record {
    same_length = length-set new i v ∙ so_far.same_length;
    done = λ j below within. elim (same_or_not j i) [
      | inl here ↦ subst (λ (m : ℕ). get_or (set new i v) m d ≡ cond (is_at (key_at keys m) k) (f m) (get_or old m d)) (sym here)
          (get_or-set_same new i v d (let e = so_far.same_length in omega arith) ∙ is ∙ ap (λ (b : Bool). cond b (f i) (get_or old i d)) (sym (so_far.here low)))
      | inr apart ↦ get_or-set_other new i j v d apart ∙ before j apart below within
    ];
    rest = λ j over. get_or-set_other new i j v d (let e = next.least in omega arith) ∙ so_far.rest j (let e = next.least in omega arith);
    here = λ within. next.has (omega arith);
  }
    where
      before : (j : ℕ) → j ≢ i → j < n → j < length old
          → get_or new j d ≡ cond (is_at (key_at keys j) k) (f j) (get_or old j d)
      before j apart below within =
          elim (low_or_over j i) [
            | inl earlier ↦ so_far.done j earlier within
            | inr over ↦ so_far.rest j over ∙ ap (λ (b : Bool). cond b (f j) (get_or old j d)) (sym (next.none j (omega arith) below))
          ]

  pub walked_all : (new : List A) (i : ℕ) → length old ≤ i → IsWalked keys k f d old new i
      → AreChanged keys k f d old new
  walked_all new i over so_far j low = so_far.done j (omega arith) low

-- what several walks collect
abbrev pub after_each : Option ℕ → Option (ℕ × ℕ) → ℕ × ℕ → List ℕ → Option (ℕ × ℕ)
after_each key t s [] = t
after_each key t s (k ∷ ks) = after_each key (spread_after (is_at key k) t s) s ks

any_after : (here rest : Bool) (t : Option (ℕ × ℕ)) (s : ℕ × ℕ)
    → spread_after rest (spread_after here t s) s ≡ spread_after (here || rest) t s
any_after true true t s = collected_twice t s
any_after true false t s = refl
any_after false rest t s = refl

pub each_after : (key : Option ℕ) (t : Option (ℕ × ℕ)) (s : ℕ × ℕ) (ks : List ℕ)
    → after_each key t s ks ≡ spread_after (list_any (λ k. is_at key k) ks) t s
each_after key t s [] = refl
each_after key t s (k ∷ ks) = each_after key (spread_after (is_at key k) t s) s ks ∙ any_after (is_at key k) (list_any (λ n. is_at key n) ks) t s

-- what several walks begin anew
abbrev pub reset_each : Option ℕ → ℕ × ℕ → List ℕ → ℕ × ℕ
reset_each key s [] = s
reset_each key s (k ∷ ks) = reset_each key (cond (is_at key k) (0, 0) s) ks

any_reset : (here rest : Bool) (s : ℕ × ℕ) → cond rest (0, 0) (cond here (0, 0) s) ≡ cond (here || rest) (0, 0) s
any_reset true true s = refl
any_reset true false s = refl
any_reset false rest s = refl

pub each_reset : (key : Option ℕ) (s : ℕ × ℕ) (ks : List ℕ)
    → reset_each key s ks ≡ cond (list_any (λ k. is_at key k) ks) (0, 0) s
each_reset key s [] = refl
each_reset key s (k ∷ ks) = each_reset key (cond (is_at key k) (0, 0) s) ks ∙ any_reset (is_at key k) (list_any (λ n. is_at key n) ks) s
