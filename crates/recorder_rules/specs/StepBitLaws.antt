-- Laws of step bits.
--   kept_bits        bits that are kept where others are set
--   marked_set       a bit that is set, and placed_set where words are in rows
--   added_rows, cleared_rows, cleared_bits   rows that are added and cleared, and marks that are cleared
--   left_seen, left_rows, collected_rows     a step that leaves iterations
--   entered_seen, entered_rows               the node that is entered
--   first_set      in the first row
--   both_bits      the bits that are set in either of two lists of words
--   none_marked    words of which none is set
--   first_marked   the first bit alone
use Rattle.std.proofs.Common.{◌≡◌, ◌+◌, ◌-◌, ◌*◌, ◌/◌, ◌%◌, ◌^◌, ◌<◌, ◌≤◌, ◌==◌, ◌&&◌, ◌||◌, not, ℕ, Bool, true, false, cond, List, bit_or, bit_and, length, get_or, set, replicate, inl, inr, refl, sym, ap, ◌∙◌, subst, arith}
use Rattle.std.specs.Int.{bit_not, w64}
use Rattle.std.proofs.lemmas.Bool.{cases_lt, cases_eq, cases_order, eq-eqb, ne_eqb, eqb-true, le-ltb, lt-ltb}
use Rattle.std.proofs.lemmas.List.{get_or-set_same, get_or-set_other, get_or-replicate, length-replicate}
use Rattle.std.proofs.lemmas.Nat.{same_from_place}
use Rattle.std.proofs.lemmas.Nat.Bits.{bit_at_set_same, bit_at_set_other}
use Rattle.lists.specs.TestLaws.{by_test}
use Rattle.domain_core.specs.Outlines.{Shape}
use Rattle.recorder_rules.specs.LoopRules.{own_of}
use Rattle.recorder_rules.specs.TotalLaws.{past_end}
use Rattle.recorder_rules.specs.PairRules.{ends, is_shared}
use Rattle.recorder_rules.specs.BitWords.{is_set, is_marked, AreInRange, AreRows, AreOwned}
use Rattle.recorder_rules.specs.Seen.{AreLeft, AreLeftRows, AreCollectedRows, AreEntered, AreEnteredRows}
use Rattle.recorder_rules.specs.BitLaws.{set_or, set_and, set_not, set_none}
use Rattle.recorder_rules.specs.RangeLaws.{ranged, ranged_over, row_range}
use Rattle.recorder_rules.specs.StepBits.{owned_before}

-- ---- tests

or_nothing : (x : Bool) → (x || false) ≡ x
or_nothing true = refl
or_nothing false = refl

or_all : (x : Bool) → (x || true) ≡ true
or_all true = refl
or_all false = refl

and_nothing : (x : Bool) → (x && false) ≡ false
and_nothing true = refl
and_nothing false = refl

pub and_all : (x : Bool) → (x && true) ≡ x
and_all true = refl
and_all false = refl

and_turned : (x y : Bool) → (x && y) ≡ (y && x)
and_turned true true = refl
and_turned true false = refl
and_turned false true = refl
and_turned false false = refl

not_kept : (x y : Bool) → (x && not (y && x)) ≡ (x && not y)
not_kept true true = refl
not_kept true false = refl
not_kept false y = refl

-- ---- words

-- bits that are kept where others are set
pub kept_bits : (w start : ℕ) (from old new : List ℕ)
    → AreInRange 0 w (λ i. bit_and (get_or old i 0) (get_or from (start + i) 0)) old new
    → (b : ℕ) → b < 64 * w → is_marked new 0 b ≡ (is_marked old 0 b && is_marked from start b)
kept_bits w start from old new changed b low =
    ap (λ (n : ℕ). is_set n (b % 64))
    (changed (0 + b / 64) ∙ ap (λ (t : Bool). cond t (bit_and (get_or old (0 + b / 64) 0) (get_or from (start + (0 + b / 64)) 0)) (get_or old (0 + b / 64) 0)) (ranged 0 w (0 + b / 64) (omega arith) (omega arith)))
    ∙ set_and (get_or old (0 + b / 64) 0) (get_or from (start + (0 + b / 64)) 0) (b % 64)
    ∙ ap (λ (i : ℕ). is_marked old 0 b && is_set (get_or from i 0) (b % 64)) (let e : start + (0 + b / 64) ≡ start + b / 64 = omega arith in e)

-- marks that are cleared
pub cleared_bits : (w : ℕ) (marks old new : List ℕ) → ((i : ℕ) → i < w → get_or marks i 0 < 2 ^ 64)
    → AreInRange 0 w (λ i. bit_and (get_or old i 0) (bit_not w64 (get_or marks i 0))) old new
    → (b : ℕ) → b < 64 * w → is_marked new 0 b ≡ (is_marked old 0 b && not (is_marked marks 0 b))
cleared_bits w marks old new small changed b low =
    ap (λ (n : ℕ). is_set n (b % 64))
    (changed (0 + b / 64) ∙ ap (λ (t : Bool). cond t (bit_and (get_or old (0 + b / 64) 0) (bit_not w64 (get_or marks (0 + b / 64) 0))) (get_or old (0 + b / 64) 0)) (ranged 0 w (0 + b / 64) (omega arith) (omega arith)))
    ∙ set_and (get_or old (0 + b / 64) 0) (bit_not w64 (get_or marks (0 + b / 64) 0)) (b % 64)
    ∙ ap (λ (x : Bool). is_marked old 0 b && x) (set_not (get_or marks (0 + b / 64) 0) (b % 64) (small (0 + b / 64) (omega arith)) (omega arith))

-- a bit that is set
pub marked_set : (words : List ℕ) (base b : ℕ) → base + b / 64 < length words → (other n : ℕ)
    → is_marked (set words (base + b / 64) (bit_or (get_or words (base + b / 64) 0) (1 * 2 ^ (b % 64) % 2 ^ 64))) other n ≡ (is_marked words other n || ((other + n / 64 == base + b / 64) && (n % 64 == b % 64)))
marked_set words base b low other n =
    elim (cases_eq (other + n / 64) (base + b / 64)) [
      | inl same ↦ ap (λ (i : ℕ). is_set (get_or (set words (base + b / 64) value) i 0) (n % 64)) same
          ∙ ap (λ (v : ℕ). is_set v (n % 64)) (get_or-set_same words (base + b / 64) value 0 low)
          ∙ bit (get_or words (base + b / 64) 0)
          ∙ ap (λ (i : ℕ). is_set (get_or words i 0) (n % 64) || (n % 64 == b % 64)) (sym same)
          ∙ ap (λ (t : Bool). is_marked words other n || (t && (n % 64 == b % 64))) (sym (eq-eqb (other + n / 64) (base + b / 64) same))
      | inr apart ↦ ap (λ (v : ℕ). is_set v (n % 64)) (get_or-set_other words (base + b / 64) (other + n / 64) value 0 apart)
          ∙ sym (or_nothing (is_marked words other n))
          ∙ ap (λ (t : Bool). is_marked words other n || (t && (n % 64 == b % 64))) (sym (ne_eqb (other + n / 64) (base + b / 64) apart))
    ]
  where
    value : ℕ
    value = bit_or (get_or words (base + b / 64) 0) (1 * 2 ^ (b % 64) % 2 ^ 64)

    within : b % 64 < 64
    within = omega arith

    bit : (v : ℕ) → is_set (bit_or v (1 * 2 ^ (b % 64) % 2 ^ 64)) (n % 64) ≡ (is_set v (n % 64) || (n % 64 == b % 64))
    bit v =
        elim (cases_eq (n % 64) (b % 64)) [
          | inl here ↦ subst (λ (i : ℕ). is_set (bit_or v (1 * 2 ^ (b % 64) % 2 ^ 64)) i ≡ (is_set v i || (i == b % 64))) (sym here)
              (ap (λ (x : ℕ). x == 1) (bit_at_set_same w64 v (b % 64) within) ∙ sym (or_all (is_set v (b % 64))) ∙ ap (λ (t : Bool). is_set v (b % 64) || t) (sym (eq-eqb (b % 64) (b % 64) refl)))
          | inr apart ↦ ap (λ (x : ℕ). x == 1) (bit_at_set_other w64 v (b % 64) within (n % 64) apart) ∙ sym (or_nothing (is_set v (n % 64))) ∙ ap (λ (t : Bool). is_set v (n % 64) || t) (sym (ne_eqb (n % 64) (b % 64) apart))
        ]

-- where words are in rows
same_place : (w t s n b : ℕ) → n < 64 * w → b < 64 * w
    → ((t * w + n / 64 == s * w + b / 64) && (n % 64 == b % 64)) ≡ ((t == s) && (n == b))
same_place w t s n b low within =
    by_test (t * w + n / 64 == s * w + b / 64)
    (λ is. let place = same_from_place t (n / 64) s (b / 64) w (omega arith) (omega arith) (eqb-true (t * w + n / 64) (s * w + b / 64) is) in
    rw (is, eq-eqb t s place.0) (by_bit place.1))
    (λ clear. rw clear (by_test ((t == s) && (n == b)) (λ both. absurd (let first : t ≡ s = eqb-true t s (and_left_true (t == s) (n == b) both) in let second : n ≡ b = eqb-true n b (and_right_true (t == s) (n == b) both) in
    let bad : true ≡ false = sym (eq-eqb (t * w + n / 64) (s * w + b / 64) (ap (λ (r : ℕ). r * w + n / 64) first ∙ ap (λ (m : ℕ). s * w + m / 64) second)) ∙ clear in cc)) (λ none. sym none)))
  where
    by_bit : n / 64 ≡ b / 64 → (n % 64 == b % 64) ≡ (n == b)
    by_bit word =
        elim (cases_eq n b) [
          | inl same ↦ eq-eqb (n % 64) (b % 64) (ap (λ (m : ℕ). m % 64) same) ∙ sym (eq-eqb n b same)
          | inr apart ↦ ne_eqb (n % 64) (b % 64) (λ e. apart (omega arith)) ∙ sym (ne_eqb n b apart)
        ]

    and_left_true : (x y : Bool) → x && y ≡ true → x ≡ true
    and_left_true true y is = refl
    and_left_true false y is = is

    and_right_true : (x y : Bool) → x && y ≡ true → y ≡ true
    and_right_true true y is = is
    and_right_true false y is = absurd (let bad : false ≡ true = is in cc)

pub placed_set : (words : List ℕ) (w s b : ℕ) → b < 64 * w → s * w + b / 64 < length words → (t n : ℕ) → n < 64 * w
    → is_marked (set words (s * w + b / 64) (bit_or (get_or words (s * w + b / 64) 0) (1 * 2 ^ (b % 64) % 2 ^ 64))) (t * w) n ≡ (is_marked words (t * w) n || ((t == s) && (n == b)))
placed_set words w s b within low t n below = marked_set words (s * w) b low (t * w) n ∙ ap (λ (x : Bool). is_marked words (t * w) n || x) (same_place w t s n b below within)

-- in the first row
pub first_set : (words : List ℕ) (w b : ℕ) → b < 64 * w → 0 + b / 64 < length words → (n : ℕ) → n < 64 * w
    → is_marked (set words (0 + b / 64) (bit_or (get_or words (0 + b / 64) 0) (1 * 2 ^ (b % 64) % 2 ^ 64))) 0 n ≡ (is_marked words 0 n || (n == b))
first_set words w b within low n below =
    subst (λ (z : ℕ). is_marked (set words (z + b / 64) (bit_or (get_or words (z + b / 64) 0) (1 * 2 ^ (b % 64) % 2 ^ 64))) z n ≡ (is_marked words z n || (n == b))) none
    (placed_set words w 0 b within (subst (λ (z : ℕ). z + b / 64 < length words) (sym none) low) 0 n below)
  where
    none : 0 * w ≡ 0
    none = omega arith

-- ---- rows

module _ (n w : ℕ) (marks : List ℕ) (fit : n ≤ 64 * w) where
  pub added_rows : (from old new : List ℕ) → AreRows n w marks (λ i. bit_or (get_or old i 0) (get_or from i 0)) old new
      → (a b : ℕ) → a < n → b < n → is_marked new (a * w) b ≡ (is_marked old (a * w) b || (is_marked from (a * w) b && is_marked marks 0 a))
  added_rows from old new changed a b low within =
      by_test (is_marked marks 0 a)
      (λ is. ap (λ (v : ℕ). is_set v (b % 64)) (changed a (b / 64) low (omega arith) ∙ ap (λ (t : Bool). cond t (bit_or (get_or old (a * w + b / 64) 0) (get_or from (a * w + b / 64) 0)) (get_or old (a * w + b / 64) 0)) is)
      ∙ set_or (get_or old (a * w + b / 64) 0) (get_or from (a * w + b / 64) 0) (b % 64)
      ∙ ap (λ (x : Bool). is_marked old (a * w) b || x) (sym (and_all (is_marked from (a * w) b)) ∙ ap (λ (t : Bool). is_marked from (a * w) b && t) (sym is)))
      (λ clear. ap (λ (v : ℕ). is_set v (b % 64)) (changed a (b / 64) low (omega arith) ∙ ap (λ (t : Bool). cond t (bit_or (get_or old (a * w + b / 64) 0) (get_or from (a * w + b / 64) 0)) (get_or old (a * w + b / 64) 0)) clear)
      ∙ sym (or_nothing (is_marked old (a * w) b))
      ∙ ap (λ (x : Bool). is_marked old (a * w) b || x) (sym (and_nothing (is_marked from (a * w) b)) ∙ ap (λ (t : Bool). is_marked from (a * w) b && t) (sym clear)))

  pub cleared_rows : (old new : List ℕ) → AreRows n w marks (λ i. 0) old new
      → (a b : ℕ) → a < n → b < n → is_marked new (a * w) b ≡ (is_marked old (a * w) b && not (is_marked marks 0 a))
  cleared_rows old new changed a b low within =
      by_test (is_marked marks 0 a)
      (λ is. ap (λ (v : ℕ). is_set v (b % 64)) (changed a (b / 64) low (omega arith) ∙ ap (λ (t : Bool). cond t 0 (get_or old (a * w + b / 64) 0)) is)
      ∙ set_none (b % 64) ∙ sym (and_nothing (is_marked old (a * w) b)) ∙ ap (λ (t : Bool). is_marked old (a * w) b && not t) (sym is))
      (λ clear. ap (λ (v : ℕ). is_set v (b % 64)) (changed a (b / 64) low (omega arith) ∙ ap (λ (t : Bool). cond t 0 (get_or old (a * w + b / 64) 0)) clear)
      ∙ sym (and_all (is_marked old (a * w) b)) ∙ ap (λ (t : Bool). is_marked old (a * w) b && not t) (sym clear))

-- ---- a step that leaves iterations

module _ (o : Shape) (n w from to : ℕ) (fit : n ≤ 64 * w) (seen ended over : List ℕ) (is : (a : ℕ) → a < n → is_marked ended 0 a ≡ ends o (own_of o a) from to)
    (both : AreInRange 0 w (λ i. bit_and (get_or ended i 0) (get_or seen (0 + i) 0)) ended over) where
  -- the nodes that were seen in iterations that end
  over_bits : (a : ℕ) → a < n → is_marked over 0 a ≡ (ends o (own_of o a) from to && is_marked seen 0 a)
  over_bits a low = kept_bits w 0 seen ended over both a (omega arith) ∙ ap (λ (x : Bool). x && is_marked seen 0 a) (is a low)

  over_turned : (a : ℕ) → a < n → is_marked over 0 a ≡ (is_marked seen 0 a && ends o (own_of o a) from to)
  over_turned a low = over_bits a low ∙ and_turned (ends o (own_of o a) from to) (is_marked seen 0 a)

  pub left_seen : (new : List ℕ) → ((i : ℕ) → i < w → get_or over i 0 < 2 ^ 64)
      → AreInRange 0 w (λ i. bit_and (get_or seen i 0) (bit_not w64 (get_or over i 0))) seen new
      → AreLeft o n from to seen new
  left_seen new small changed a low =
      cleared_bits w over seen new small changed a (omega arith) ∙ ap (λ (x : Bool). is_marked seen 0 a && not x) (over_bits a low) ∙ not_kept (is_marked seen 0 a) (ends o (own_of o a) from to)

  pub left_rows : (rows new : List ℕ) → AreRows n w over (λ i. 0) rows new → AreLeftRows o n w from to seen rows new
  left_rows rows new changed a b low within = cleared_rows n w over fit rows new changed a b low within ∙ ap (λ (x : Bool). is_marked rows (a * w) b && not x) (over_turned a low)

  pub collected_rows : (rows book new : List ℕ)
      → AreRows n w over (λ i. bit_or (get_or book i 0) (get_or rows i 0)) book new
      → AreCollectedRows o n w from to seen rows book new
  collected_rows rows book new changed a b low within =
      added_rows n w over fit rows book new changed a b low within ∙ ap (λ (x : Bool). is_marked book (a * w) b || (is_marked rows (a * w) b && x)) (over_turned a low)

-- ---- the node that is entered

module _ (o : Shape) (n scopes w k : ℕ) (fit : n ≤ 64 * w) (node : k < n) where
  pub entered_seen : (seen : List ℕ) → length seen ≡ w
      → AreEntered n k seen (set seen (0 + k / 64) (bit_or (get_or seen (0 + k / 64) 0) (1 * 2 ^ (k % 64) % 2 ^ 64)))
  entered_seen seen len a low = first_set seen w k (omega arith) (omega arith) a (omega arith)

  pub entered_rows : (own : ℕ) (seen owned met old new : List ℕ) → own ≡ own_of o k → own < scopes
      → AreOwned o scopes n w owned
      → AreInRange 0 w (λ i. bit_and (get_or seen i 0) (get_or owned (own * w + i) 0)) seen met
      → AreInRange (k * w) w (λ i. bit_or (get_or old i 0) (get_or met (0 + (i - k * w)) 0)) old new → AreEnteredRows o n w k seen old new
  entered_rows own seen owned met old new is within holds kept changed a b low below =
      ap (λ (v : ℕ). is_set v (b % 64)) (changed (a * w + b / 64) ∙ ap (λ (t : Bool). cond t (bit_or (get_or old (a * w + b / 64) 0) (get_or met (0 + (a * w + b / 64 - k * w)) 0)) (get_or old (a * w + b / 64) 0)) (row_range w k a (b / 64) (omega arith)))
      ∙ elim (cases_eq a k) [
        | inl same ↦ ap (λ (t : Bool). is_set (cond t (bit_or (get_or old (a * w + b / 64) 0) (get_or met (0 + (a * w + b / 64 - k * w)) 0)) (get_or old (a * w + b / 64) 0)) (b % 64)) (eq-eqb a k same)
            ∙ set_or (get_or old (a * w + b / 64) 0) (get_or met (0 + (a * w + b / 64 - k * w)) 0) (b % 64)
            ∙ ap (λ (i : ℕ). is_marked old (a * w) b || is_set (get_or met i 0) (b % 64)) (ap (λ (r : ℕ). 0 + (r * w + b / 64 - k * w)) same ∙ (let e : 0 + (k * w + b / 64 - k * w) ≡ 0 + b / 64 = omega arith in e))
            ∙ ap (λ (x : Bool). is_marked old (a * w) b || x)
            (kept_bits w (own * w) owned seen met kept b (omega arith) ∙ and_turned (is_marked seen 0 b) (is_marked owned (own * w) b)
            ∙ ap (λ (x : Bool). x && is_marked seen 0 b) (holds own b within below ∙ shared same) ∙ ap (λ (t : Bool). t && (is_shared o a b && is_marked seen 0 b)) (sym (eq-eqb a k same)))
        | inr apart ↦ ap (λ (t : Bool). is_set (cond t (bit_or (get_or old (a * w + b / 64) 0) (get_or met (0 + (a * w + b / 64 - k * w)) 0)) (get_or old (a * w + b / 64) 0)) (b % 64)) (ne_eqb a k apart)
            ∙ sym (or_nothing (is_marked old (a * w) b)) ∙ ap (λ (t : Bool). is_marked old (a * w) b || (t && (is_shared o a b && is_marked seen 0 b))) (sym (ne_eqb a k apart))
      ]
    where
      shared : a ≡ k → (own_of o b == own) ≡ is_shared o a b
      shared same =
          let at_k : own ≡ own_of o a = is ∙ ap (λ (m : ℕ). own_of o m) (sym same) in
          elim (cases_eq (own_of o b) own) [
            | inl e ↦ eq-eqb (own_of o b) own e ∙ sym (eq-eqb (own_of o a) (own_of o b) (sym (e ∙ at_k)))
            | inr apart ↦ ne_eqb (own_of o b) own apart ∙ sym (ne_eqb (own_of o a) (own_of o b) (λ e. apart (sym e ∙ sym at_k)))
          ]

-- ---- the nodes of each scope, one node after the other

pub more_owned : (o : Shape) (node own t a : ℕ) → own ≡ own_of o node
    → (owned_before o node t a || ((t == own) && (a == node))) ≡ owned_before o (node + 1) t a
more_owned o node own t a is =
    elim (cases_order a node) [
      | inl same ↦ ap (λ (x : Bool). ((own_of o a == t) && x) || ((t == own) && (a == node))) (le-ltb a node (omega arith)) ∙ ap (λ (x : Bool). x || ((t == own) && (a == node))) (and_nothing (own_of o a == t))
          ∙ ap (λ (x : Bool). (t == own) && x) (eq-eqb a node same) ∙ and_all (t == own) ∙ turned same ∙ sym (and_all (own_of o a == t)) ∙ ap (λ (x : Bool). (own_of o a == t) && x) (sym (lt-ltb a (node + 1) (omega arith)))
      | inr (inl below) ↦ ap (λ (x : Bool). owned_before o node t a || ((t == own) && x)) (ne_eqb a node (λ e. omega arith)) ∙ ap (λ (x : Bool). owned_before o node t a || x) (and_nothing (t == own)) ∙ or_nothing (owned_before o node t a)
          ∙ ap (λ (x : Bool). (own_of o a == t) && x) (lt-ltb a node below ∙ sym (lt-ltb a (node + 1) (omega arith)))
      | inr (inr above) ↦ ap (λ (x : Bool). owned_before o node t a || ((t == own) && x)) (ne_eqb a node (λ e. omega arith)) ∙ ap (λ (x : Bool). owned_before o node t a || x) (and_nothing (t == own)) ∙ or_nothing (owned_before o node t a)
          ∙ ap (λ (x : Bool). (own_of o a == t) && x) (le-ltb a node (omega arith) ∙ sym (le-ltb a (node + 1) (omega arith)))
    ]
  where
    turned : a ≡ node → (t == own) ≡ (own_of o a == t)
    turned same =
        let at_a : own ≡ own_of o a = is ∙ ap (λ (m : ℕ). own_of o m) (sym same) in
        elim (cases_eq t own) [
          | inl e ↦ eq-eqb t own e ∙ sym (eq-eqb (own_of o a) t (sym (e ∙ at_a)))
          | inr apart ↦ ne_eqb t own apart ∙ sym (ne_eqb (own_of o a) t (λ e. apart (sym e ∙ sym at_a)))
        ]

-- ---- words that are made

-- the bits that are set in either of two lists of words
pub both_bits : (a b new : List ℕ) → length a ≡ length b
    → AreInRange 0 (length a) (λ i. bit_or (get_or a i 0) (get_or b (0 + (i - 0)) 0)) a new → (base n : ℕ)
    → is_marked new base n ≡ (is_marked a base n || is_marked b base n)
both_bits a b new same changed base n =
    elim (cases_lt (base + n / 64) (length a)) [
      | inl low ↦ ap (λ (v : ℕ). is_set v (n % 64))
          (changed (base + n / 64) ∙ ap (λ (t : Bool). cond t (bit_or (get_or a (base + n / 64) 0) (get_or b (0 + (base + n / 64 - 0)) 0)) (get_or a (base + n / 64) 0)) (ranged 0 (length a) (base + n / 64) (omega arith) (omega arith)))
          ∙ set_or (get_or a (base + n / 64) 0) (get_or b (0 + (base + n / 64 - 0)) 0) (n % 64)
          ∙ ap (λ (i : ℕ). is_marked a base n || is_set (get_or b i 0) (n % 64)) (let e : 0 + (base + n / 64 - 0) ≡ base + n / 64 = omega arith in e)
      | inr over ↦ ap (λ (v : ℕ). is_set v (n % 64))
          (changed (base + n / 64) ∙ ap (λ (t : Bool). cond t (bit_or (get_or a (base + n / 64) 0) (get_or b (0 + (base + n / 64 - 0)) 0)) (get_or a (base + n / 64) 0)) (ranged_over 0 (length a) (base + n / 64) (omega arith)))
          ∙ sym (or_nothing (is_marked a base n))
          ∙ ap (λ (x : Bool). is_marked a base n || x) (sym (ap (λ (v : ℕ). is_set v (n % 64)) (past_end b (base + n / 64) 0 (omega arith)) ∙ set_none (n % 64)))
    ]

-- words of which none is set
pub none_marked : (words : List ℕ) (m : ℕ) → words ≡ replicate m 0 → (base n : ℕ) → is_marked words base n ≡ false
none_marked words m is base n =
    ap (λ (xs : List ℕ). is_marked xs base n) is
    ∙ elim (cases_lt (base + n / 64) m) [
      | inl low ↦ ap (λ (v : ℕ). is_set v (n % 64)) (get_or-replicate m (base + n / 64) 0 0 low) ∙ set_none (n % 64)
      | inr over ↦ ap (λ (v : ℕ). is_set v (n % 64)) (past_end (replicate m 0) (base + n / 64) 0 (let e : length (replicate {A = ℕ} m 0) ≡ m = length-replicate m 0 in omega arith)) ∙ set_none (n % 64)
    ]

-- the first bit alone
pub first_marked : (words : List ℕ) (w m : ℕ) → words ≡ replicate m 0 → 0 < w → 0 < m → (t n : ℕ) → n < 64 * w
    → is_marked (set words (0 + 0 / 64) (bit_or (get_or words (0 + 0 / 64) 0) (1 * 2 ^ (0 % 64) % 2 ^ 64))) (t * w) n ≡ ((t == 0) && (n == 0))
first_marked words w m is some more t n low =
    subst (λ (z : ℕ). is_marked (set words (z + 0 / 64) (bit_or (get_or words (z + 0 / 64) 0) (1 * 2 ^ (0 % 64) % 2 ^ 64))) (t * w) n ≡ (is_marked words (t * w) n || ((t == 0) && (n == 0)))) none
    (placed_set words w 0 0 (omega arith) (let e : length words ≡ m = ap (λ (xs : List ℕ). length xs) is ∙ length-replicate m 0 in omega arith) t n low)
    ∙ ap (λ (x : Bool). x || ((t == 0) && (n == 0))) (none_marked words m is (t * w) n)
  where
    none : 0 * w ≡ 0
    none = omega arith
