-- What every pivot keeps. Shows: the invariant of the tableau, proved for any factors that clear the place.
use Rattle.std.proofs.Common.{◌≡◌, ℕ, ℤ, pos, ◌<◌, ◌≤◌, List, [], ◌∷◌, length}
use Rattle.std.specs.Prelude.{◌*ℤ◌, ◌≤ℤ◌}
use Rattle.ipet_rows.specs.Sums.{value_at}
use Rattle.ipet_rows.specs.Firsts.{entry}
use Rattle.simplex_rules.specs.Tableaus.{Generator, Tableau, number_at, basic_at}
use Rattle.simplex_rules.specs.Mixing.{IsMixed, IsSpanned, along}

-- f' is f freed of place e by h
pub record IsCleared (e : ℕ) (f h f' : ℕ → ℤ) : Type 0 where
  pub g : ℤ
  pub a : ℤ
  pub b : ℤ
  pub mixed : IsMixed g a b f h f'
  pub even : a *ℤ f e ≡ b *ℤ h e

-- the new tableau is the old one after a pivot of row r, times u, on place e
pub record IsPivot (old new : Tableau) (r e : ℕ) (u : ℤ) : Type 0 where
  pub count : length new.rows ≡ length old.rows
  pub place : r < length old.rows
  pub unit : u *ℤ u ≡ pos 1
  pub basic : basic_at new r ≡ e
  pub row : (j : ℕ) → number_at new r j ≡ u *ℤ number_at old r j
  pub above : pos 1 ≤ℤ number_at new r e
  pub others : (k : ℕ) → k < length old.rows → (k ≡ r → ⊥)
      → IsCleared e (number_at old k) (number_at new r) (number_at new k)
  pub keeps : (k : ℕ) → k < length old.rows → (k ≡ r → ⊥) → basic_at new k ≡ basic_at old k
  pub objective : IsCleared e (entry old.objective) (number_at new r) (entry new.objective)

-- each generator is 0 at the numbers x
abbrev pub AreZero : List Generator → (ℕ → ℤ) → Type 0
AreZero [] x = Unit {0}
AreZero (g ∷ gs) x = (value_at g.1 x ≡ pos 0) × AreZero gs x

-- The tableau has the same solutions as the generators, each of its lines is made of them, and its
-- basic places are each in one row alone.
pub record IsSoundTableau (gs : List Generator) (w : ℕ) (t : Tableau) : Type 0 where
  pub spans : (k : ℕ) → k < length t.rows → IsSpanned gs (number_at t k)
  pub spans_objective : IsSpanned gs (entry t.objective)
  pub solves : (x : ℕ → ℤ) → ((k : ℕ) → k < length t.rows → along w (number_at t k) x ≡ pos 0)
      → along w (entry t.objective) x ≡ pos 0 → AreZero gs x
  pub flat : (k : ℕ) → k < length t.rows → number_at t k 1 ≡ pos 0
  pub scale : pos 1 ≤ℤ entry t.objective 1
  pub least : (k : ℕ) → k < length t.rows → 2 ≤ basic_at t k
  pub most : (k : ℕ) → k < length t.rows → basic_at t k < w
  pub own : (k : ℕ) → k < length t.rows → pos 1 ≤ℤ number_at t k (basic_at t k)
  pub apart : (k i : ℕ) → k < length t.rows → i < length t.rows → (k ≡ i → ⊥) → number_at t k (basic_at t i) ≡ pos 0
  pub clear : (k : ℕ) → k < length t.rows → entry t.objective (basic_at t k) ≡ pos 0
