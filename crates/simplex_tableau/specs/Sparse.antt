-- Tableaus by terms, and what they show of whole lines.
--   HeldTerms         a line by its terms, with its basic place
--   terms_at rows k   row k
--   shown_rows w rows the rows in width w, place by place
--   Seen              a width, and the tableau that is shown in it
--   seen w rows d     what rows and an objective by terms show in width w
--   IsKept w ts       the terms' places are below w, and their numbers have no common divisor but 1
--   AreKept w rows    so of each row
use Rattle.std.specs.Prelude.{◌≡◌, ◌<◌, ℕ, zero, suc, ℤ, pos, List, [], ◌∷◌, length}
use Rattle.ipet_rows.specs.Programs.{IsWithin}
use Rattle.simplex_rules.specs.Lines.{spread, line_gcd}
use Rattle.simplex_rules.specs.Tableaus.{Held, Tableau}

-- a line by its terms, with its basic place
pub record HeldTerms : Type 0 where
  pub basic : ℕ
  pub terms : List (ℕ × ℤ)

-- no line
abbrev pub no_terms : HeldTerms
no_terms = record { basic = 0; terms = [] }

-- row k
abbrev pub terms_at : List HeldTerms → ℕ → HeldTerms
terms_at [] k = no_terms
terms_at (h ∷ hs) zero = h
terms_at (h ∷ hs) (suc k) = terms_at hs k

-- the rows, place by place
abbrev pub shown_rows : ℕ → List HeldTerms → List Held
shown_rows w [] = []
shown_rows w (h ∷ hs) = record { basic = h.basic; line = spread w 0 h.terms } ∷ shown_rows w hs

-- a width, and the tableau that is shown in it
pub record Seen : Type 0 where
  pub width : ℕ
  pub tableau : Tableau

-- what rows and an objective by terms show
abbrev pub seen : ℕ → List HeldTerms → List (ℕ × ℤ) → Seen
seen w rows d = record { width = w; tableau = record { rows = shown_rows w rows; objective = spread w 0 d } }

-- the places are below the width, and the numbers have no common divisor but 1
pub record IsKept (w : ℕ) (ts : List (ℕ × ℤ)) : Type 0 where
  pub within : IsWithin w ts
  pub one : line_gcd (spread w 0 ts) ≡ pos 1

-- so of each row
abbrev pub AreKept : ℕ → List HeldTerms → Type 0
AreKept w rows = (k : ℕ) → k < length rows → IsKept w (terms_at rows k).terms
