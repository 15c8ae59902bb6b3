-- Mixtures of lines by terms: what the merge of two lists of terms owes to the mixture of whole lines.
--   narrow a b x y        both products of a x - b y fit, and their difference
--   mixed_number a b x y  a x - b y, where all three fit
--   IsMixture a b f h out the terms of the mixture: each place's number, all of them tested, by ascending place
--   IsTooWide a b f h     at some place a product or the difference does not fit
--   IsMerging a b f h out rf rh   out was merged of f and h so far, and rf and rh are left
use Rattle.std.specs.Prelude.{◌≡◌, ℕ, ℤ, pos, ◌<◌, ◌≤◌, ◌-ℤ◌, ◌*ℤ◌, ◌==◌, nat_le, Bool, true, false, ◌&&◌, if◌then◌else◌, List, [], ◌∷◌, ◌++◌, Option, None, Some}
use Rattle.ipet_rows.specs.Rows.{vanishes}
use Rattle.ipet_rows.specs.Sums.{coefficient, IsAscending}
use Rattle.ipet_rows.specs.Programs.{IsWithin}
use Rattle.ipet_rows.specs.Firsts.{fits}

-- both products and their difference fit
abbrev pub narrow : ℤ → ℤ → ℤ → ℤ → Bool
narrow a b x y = fits (a *ℤ x) && fits (b *ℤ y) && fits ((a *ℤ x) -ℤ (b *ℤ y))

-- the number of the mixture, where all three fit
abbrev pub mixed_number : ℤ → ℤ → ℤ → ℤ → Option ℤ
mixed_number a b x y = if narrow a b x y then Some ((a *ℤ x) -ℤ (b *ℤ y)) else None

-- the terms of a mixture
pub record IsMixture (a b : ℤ) (f h out : List (ℕ × ℤ)) : Type 0 where
  pub value : (j : ℕ) → coefficient out j ≡ (a *ℤ coefficient f j) -ℤ (b *ℤ coefficient h j)
  pub fit : (j : ℕ) → narrow a b (coefficient f j) (coefficient h j) ≡ true
  pub rises : IsAscending out
  pub within : (w : ℕ) → IsWithin w f → IsWithin w h → IsWithin w out

-- at some place a product or the difference does not fit
pub record IsTooWide (a b : ℤ) (f h : List (ℕ × ℤ)) : Type 0 where
  pub place : ℕ
  pub wide : narrow a b (coefficient f place) (coefficient h place) ≡ false

-- the number of the first term, if it is at the place
abbrev pub head_number : List (ℕ × ℤ) → ℕ → ℤ
head_number [] p = pos 0
head_number (t ∷ ts) p = if t.0 == p then t.1 else pos 0

-- the terms after the place
abbrev pub after_of : List (ℕ × ℤ) → ℕ → List (ℕ × ℤ)
after_of [] p = []
after_of (t ∷ ts) p = if t.0 == p then ts else (t ∷ ts)

-- the first of the first terms' places
abbrev pub next_of : List (ℕ × ℤ) → List (ℕ × ℤ) → Option ℕ
next_of [] [] = None
next_of [] (s ∷ ss) = Some s.0
next_of (t ∷ ts) [] = Some t.0
next_of (t ∷ ts) (s ∷ ss) = if nat_le t.0 s.0 then Some t.0 else Some s.0

-- the terms and one more, if it is not 0
abbrev pub with_number : List (ℕ × ℤ) → ℕ → ℤ → List (ℕ × ℤ)
with_number out p d = if vanishes d then out else (out ++ ((p, d) ∷ []))

-- the terms begin at q or after it
abbrev pub IsFrom : ℕ → List (ℕ × ℤ) → Type 0
IsFrom q [] = Unit {0}
IsFrom q (t ∷ ts) = q ≤ t.0

-- what was merged up to place q
pub record Merged (a b : ℤ) (q : ℕ) (f h out rf rh : List (ℕ × ℤ)) : Type 0 where
  pub value : (j : ℕ) → j < q → coefficient out j ≡ (a *ℤ coefficient f j) -ℤ (b *ℤ coefficient h j)
  pub fit : (j : ℕ) → j < q → narrow a b (coefficient f j) (coefficient h j) ≡ true
  pub first_rest : (j : ℕ) → q ≤ j → coefficient rf j ≡ coefficient f j
  pub second_rest : (j : ℕ) → q ≤ j → coefficient rh j ≡ coefficient h j
  pub first_from : IsFrom q rf
  pub second_from : IsFrom q rh
  pub first_rises : IsAscending rf
  pub second_rises : IsAscending rh
  pub within : IsWithin q out
  pub rises : IsAscending out
  pub first_within : (w : ℕ) → IsWithin w f → IsWithin w rf
  pub second_within : (w : ℕ) → IsWithin w h → IsWithin w rh
  pub out_within : (w : ℕ) → IsWithin w f → IsWithin w h → IsWithin w out

-- what was merged so far
pub record IsMerging (a b : ℤ) (f h out rf rh : List (ℕ × ℤ)) : Type 0 where
  pub upto : ℕ
  pub merged : Merged a b upto f h out rf rh
