-- What a pivot does to a tableau by terms.
--   IsFreeable h k          the row k can be freed of a place by the terms h
--   IsStepped e h old new   the row is freed of place e by h, and no number on the way was wide
--   StepsRow all e h old new   it is stepped, or else some number on the way is wide
--   IsDone e h r n old now  the first n rows but row r are stepped, and the others stand
--   StepsRows all e h r n old now   they are done, or else some row is wide
--   IsReplaced e h r old now   all rows but row r are stepped, and row r is h
--   CanPivot t r            the other rows and the objective can be freed of a place by row r
--   exchange_wide r e h t   some number is wide where all but row r are freed of e by h
--   step_wide r e t         some number of the pivot is wide; the test of the multipliers is not among these
--   IsExchanged r e h old new, IsPivoted r e old new   what is made where none is
use Rattle.std.specs.Prelude.{◌≡◌, ◌<◌, ◌≤◌, ℕ, ℤ, pos, neg_ℤ, ◌<ℤ◌, ◌≤ℤ◌, ◌||◌, Bool, true, false, List, length}
use Rattle.ipet_rows.specs.Sums.{coefficient}
use Rattle.ipet_rows.specs.Programs.{IsWithin}
use Rattle.ipet_rows.specs.Firsts.{entry}
use Rattle.simplex_rules.specs.Lines.{spread, times_line, cleared}
use Rattle.simplex_rules.specs.Tableaus.{Tableau, held_at, number_at, basic_at}
use Rattle.simplex_rules.specs.PivotRule.{exchanged, cleared_wide, rows_wide, line_wide, pivoted}
use Rattle.simplex_tableau.specs.Sparse.{HeldTerms, terms_at, Seen, IsKept}

-- the row has a number above 0 at its basic place, and the terms have none there
pub record IsFreeable (h : List (ℕ × ℤ)) (k : HeldTerms) : Type 0 where
  pub own : pos 0 <ℤ coefficient k.terms k.basic
  pub apart : coefficient h k.basic ≡ pos 0

-- the row is freed of place e by h, and no number on the way was wide
pub record IsStepped (e : ℕ) (h : List (ℕ × ℤ)) (old new : HeldTerms) : Type 0 where
  pub basic : new.basic ≡ old.basic
  pub line : (w : ℕ) → IsKept w old.terms → IsWithin w h
      → spread w 0 new.terms ≡ cleared e (spread w 0 h) (spread w 0 old.terms)
  pub narrow : (w : ℕ) → IsWithin w old.terms → IsWithin w h
      → cleared_wide e (spread w 0 h) (spread w 0 old.terms) ≡ false
  pub kept : (w : ℕ) → IsKept w old.terms → IsWithin w h → IsKept w new.terms

-- some number on the way is wide
pub record IsStepWide (e : ℕ) (h : List (ℕ × ℤ)) (old : HeldTerms) : Type 0 where
  pub wide : (w : ℕ) → IsWithin w old.terms → IsWithin w h → cleared_wide e (spread w 0 h) (spread w 0 old.terms) ≡ true

-- it is stepped, or else some number on the way is wide
abbrev pub StepsRow : Bool → ℕ → List (ℕ × ℤ) → HeldTerms → HeldTerms → Type 0
StepsRow true e h old new = IsStepped e h old new
StepsRow false e h old new = IsStepWide e h old

-- the first n rows but row r are stepped, and the others stand
pub record IsDone (e : ℕ) (h : List (ℕ × ℤ)) (r n : ℕ) (old now : List HeldTerms) : Type 0 where
  pub count : length now ≡ length old
  pub stepped : (k : ℕ) → k < n → k < length old → (k ≡ r → ⊥) → IsStepped e h (terms_at old k) (terms_at now k)
  pub rest : (k : ℕ) → n ≤ k → terms_at now k ≡ terms_at old k

-- some row but row r is wide
pub record IsSomeWide (e : ℕ) (h : List (ℕ × ℤ)) (r : ℕ) (old : List HeldTerms) : Type 0 where
  pub row : ℕ
  pub below : row < length old
  pub other : row ≡ r → ⊥
  pub wide : IsStepWide e h (terms_at old row)

-- they are done, or else some row is wide
abbrev pub StepsRows : Bool → ℕ → List (ℕ × ℤ) → ℕ → ℕ → List HeldTerms → List HeldTerms → Type 0
StepsRows true e h r n old now = IsDone e h r n old now
StepsRows false e h r n old now = IsSomeWide e h r old

-- all rows but row r are stepped, and row r is h, with the basic place e
pub record IsReplaced (e : ℕ) (h : List (ℕ × ℤ)) (r : ℕ) (old now : List HeldTerms) : Type 0 where
  pub count : length now ≡ length old
  pub stepped : (k : ℕ) → k < length old → (k ≡ r → ⊥) → IsStepped e h (terms_at old k) (terms_at now k)
  pub there : terms_at now r ≡ record { basic = e; terms = h }

-- the other rows and the objective can be freed of a place by row r
pub record CanPivot (t : Tableau) (r : ℕ) : Type 0 where
  pub own : (k : ℕ) → k < length t.rows → (k ≡ r → ⊥) → pos 1 ≤ℤ number_at t k (basic_at t k)
  pub apart : (k : ℕ) → k < length t.rows → (k ≡ r → ⊥) → number_at t r (basic_at t k) ≡ pos 0
  pub flat : number_at t r 1 ≡ pos 0
  pub scale : pos 1 ≤ℤ entry t.objective 1

-- some number is wide where all but row r are freed of e by h
abbrev pub exchange_wide : ℕ → ℕ → List ℤ → Tableau → Bool
exchange_wide r e h t = rows_wide r e h t.rows || cleared_wide e h t.objective

-- some number of the pivot of row r on place e is wide
abbrev pub step_wide : ℕ → ℕ → Tableau → Bool
step_wide r e t =
    let h = times_line (neg_ℤ (pos 1)) (held_at t.rows r).line in
    line_wide h || exchange_wide r e h t

-- all but row r are freed of e by h, and no number on the way was wide
pub record IsExchanged (r e : ℕ) (h : List ℤ) (old new : Seen) : Type 0 where
  pub width : new.width ≡ old.width
  pub tableau : new.tableau ≡ record { rows = exchanged r e h old.tableau.rows; objective = cleared e h old.tableau.objective }
  pub narrow : exchange_wide r e h old.tableau ≡ false

-- the pivot of row r on place e, and no number on the way was wide
pub record IsPivoted (r e : ℕ) (old new : Seen) : Type 0 where
  pub width : new.width ≡ old.width
  pub tableau : new.tableau ≡ pivoted (neg_ℤ (pos 1)) r e old.tableau
  pub narrow : step_wide r e old.tableau ≡ false

-- the same of a row that is not turned
pub record IsOpened (r e : ℕ) (old new : Seen) : Type 0 where
  pub width : new.width ≡ old.width
  pub tableau : new.tableau ≡ pivoted (pos 1) r e old.tableau
