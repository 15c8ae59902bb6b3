-- Laws of pair steps.
--   seen_step, pair_step, over_step, all_over   what is seen, paired and over after the step, and once the run is over
--   follows_has, follows_later, has_follows   a pair is of two nodes of the iteration, and each two of them are one
use Rattle.std.proofs.Common.{◌≡◌, ◌≢◌, ℕ, List, [], ◌∷◌, Bool, true, false, not, ◌&&◌, ◌||◌, ◌==◌, if◌then◌else◌, inl, inr, refl, ap, ◌∙◌}
use Rattle.std.proofs.lemmas.Bool.{or_cases, or_left, or_right, and_parts, and_from}
use Rattle.domain_core.specs.Stretches.{with_closed}
use Rattle.domain_core.specs.Parts.{further}
use Rattle.recorder_rules.specs.PairRules.{has, follows, any_follows}
use Rattle.recorder_rules.specs.PairSteps.{next_iteration}

-- ---- lists of nodes

-- the first node of a pair is among the nodes
pub follows_has : (a c : ℕ) (e : List ℕ) → follows a c e ≡ true → has a e ≡ true
follows_has a c [] is = is
follows_has a c (n ∷ e) is =
    elim (or_cases (follows a c e) ((a == n) && has c (n ∷ e)) is) [
      | inl older ↦ or_right (a == n) (has a e) (follows_has a c e older)
      | inr here ↦ or_left (a == n) (has a e) (and_parts (a == n) (has c (n ∷ e)) here).0
    ]

-- and so is the second
pub follows_later : (a c : ℕ) (e : List ℕ) → follows a c e ≡ true → has c e ≡ true
follows_later a c [] is = is
follows_later a c (n ∷ e) is =
    elim (or_cases (follows a c e) ((a == n) && has c (n ∷ e)) is) [
      | inl older ↦ or_right (c == n) (has c e) (follows_later a c e older)
      | inr here ↦ (and_parts (a == n) (has c (n ∷ e)) here).1
    ]

-- of two nodes one is at or after the other
pub has_follows : (a c : ℕ) (e : List ℕ) → has a e ≡ true → has c e ≡ true → follows a c e || follows c a e ≡ true
has_follows a c [] is other = is
has_follows a c (n ∷ e) is other =
    elim (or_cases (a == n) (has a e) is) [
      | inl same ↦ or_left (follows a c (n ∷ e)) (follows c a (n ∷ e)) (or_right (follows a c e) ((a == n) && has c (n ∷ e)) (and_from (a == n) (has c (n ∷ e)) same other))
      | inr older ↦ elim (or_cases (c == n) (has c e) other) [
        | inl same ↦ or_right (follows a c (n ∷ e)) (follows c a (n ∷ e)) (or_right (follows c a e) ((c == n) && has a (n ∷ e)) (and_from (c == n) (has a (n ∷ e)) same is))
        | inr earlier ↦ elim (or_cases (follows a c e) (follows c a e) (has_follows a c e older earlier)) [
          | inl first ↦ or_left (follows a c (n ∷ e)) (follows c a (n ∷ e)) (or_left (follows a c e) ((a == n) && has c (n ∷ e)) first)
          | inr second ↦ or_right (follows a c (n ∷ e)) (follows c a (n ∷ e)) (or_left (follows c a e) ((c == n) && has a (n ∷ e)) second)
        ]
      ]
    ]

-- ---- a step: hk and head say whether the scope holds the node k and has it as its header, hn whether it holds the node before

and_true : (x : Bool) → x ≡ (x && true)
and_true true = refl
and_true false = refl

and_false : (x : Bool) → false ≡ (x && false)
and_false true = refl
and_false false = refl

or_false : (x : Bool) → x ≡ (x || false)
or_false true = refl
or_false false = refl

-- a list that is empty has nothing
has_none : (a : ℕ) (e : List ℕ) → e ≡ [] → has a e ≡ false
has_none a e none = ap (λ (xs : List ℕ). has a xs) none

follows_none : (a c : ℕ) (e : List ℕ) → e ≡ [] → follows a c e ≡ false
follows_none a c e none = ap (λ (xs : List ℕ). follows a c xs) none

-- one more node
has_more : (a k : ℕ) (e : List ℕ) → e ≢ [] → has a (further k e) ≡ ((a == k) || has a e)
has_more a k [] some = absurd (some refl)
has_more a k (n ∷ e) some = refl

follows_more : (a c k : ℕ) (e : List ℕ) → e ≢ []
    → follows a c (further k e) ≡ (follows a c e || ((a == k) && has c (further k e)))
follows_more a c k [] some = absurd (some refl)
follows_more a c k (n ∷ e) some = refl

or_turned : (x y : Bool) → (x || y) ≡ (y || x)
or_turned true true = refl
or_turned true false = refl
or_turned false true = refl
or_turned false false = refl

module _ (k : ℕ) (e : List ℕ) where
  -- what is seen: the iteration goes on, or ends
  pub seen_step : (hk head hn : Bool) (a : ℕ) → (hk ≡ false → (a == k) ≡ false) → (hn ≡ false → e ≡ [])
      → (hk ≡ true → head ≡ false → e ≢ [])
      → has a (next_iteration hk head k e) ≡ ((has a e && not (hn && not (hk && not head))) || (a == k))
  seen_step true true true a out none some = or_turned (a == k) false ∙ ap (λ (x : Bool). x || (a == k)) (and_false (has a e))
  seen_step true true false a out none some = rw (has_none a e (none refl)) (or_turned (a == k) false)
  seen_step true false true a out none some = has_more a k e (some refl refl) ∙ or_turned (a == k) (has a e) ∙ ap (λ (x : Bool). x || (a == k)) (and_true (has a e))
  seen_step true false false a out none some = has_more a k e (some refl refl) ∙ or_turned (a == k) (has a e) ∙ ap (λ (x : Bool). x || (a == k)) (and_true (has a e))
  seen_step false head true a out none some = rw (out refl) (and_false (has a e) ∙ or_false (has a e && false))
  seen_step false head false a out none some = rw (out refl, has_none a e (none refl)) refl

  -- what is paired
  pub pair_step : (hk head hn : Bool) (a c : ℕ) → (hk ≡ false → (a == k) ≡ false) → (hn ≡ false → e ≡ [])
      → (hk ≡ true → head ≡ false → e ≢ [])
      → follows a c (next_iteration hk head k e) ≡ ((follows a c e && not (hn && not (hk && not head))) || ((a == k) && has c (next_iteration hk head k e)))
  pair_step true true true a c out none some = ap (λ (x : Bool). x || ((a == k) && has c (k ∷ []))) (and_false (follows a c e))
  pair_step true true false a c out none some = rw (follows_none a c e (none refl)) refl
  pair_step true false true a c out none some = follows_more a c k e (some refl refl) ∙ ap (λ (x : Bool). x || ((a == k) && has c (further k e))) (and_true (follows a c e))
  pair_step true false false a c out none some = follows_more a c k e (some refl refl) ∙ ap (λ (x : Bool). x || ((a == k) && has c (further k e))) (and_true (follows a c e))
  pair_step false head true a c out none some = rw (out refl) (and_false (follows a c e) ∙ or_false (follows a c e && false))
  pair_step false head false a c out none some = rw (out refl, follows_none a c e (none refl)) refl

-- an iteration more is over
pub all_over : (a c : ℕ) (e : List ℕ) (es : List (List ℕ))
    → any_follows a c (with_closed e es) ≡ (any_follows a c es || follows a c e)
all_over a c [] es = or_false (any_follows a c es)
all_over a c (n ∷ e) es = refl

-- what is over after the step: goes says whether the iteration goes on
pub over_step : (goes hn : Bool) (a c : ℕ) (e : List ℕ) (es : List (List ℕ)) → (hn ≡ false → e ≡ [])
    → any_follows a c (if goes then es else with_closed e es) ≡ (any_follows a c es || (follows a c e && (hn && not goes)))
over_step true true a c e es none = or_false (any_follows a c es) ∙ ap (λ (x : Bool). any_follows a c es || x) (and_false (follows a c e))
over_step true false a c e es none = or_false (any_follows a c es) ∙ ap (λ (x : Bool). any_follows a c es || x) (and_false (follows a c e))
over_step false true a c e es none = all_over a c e es ∙ ap (λ (x : Bool). any_follows a c es || x) (and_true (follows a c e))
over_step false false a c e es none = all_over a c e es ∙ ap (λ (x : Bool). any_follows a c es || x) (follows_none a c e (none refl) ∙ and_false (follows a c e))
