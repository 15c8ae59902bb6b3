-- Points of a program: values x of the columns over one whole w.
--   Meets r x w       the values meet the row
--   MeetsAll p x w    they are at least 0 and meet each row
--   worth p x         the sum of cost times value, over all columns
use Rattle.std.specs.Prelude.{◌≡◌, ℕ, ℤ, pos, ◌*ℤ◌, ◌≤ℤ◌, Bool, true, false, length, ◌<◌}
use Rattle.ipet_rows.specs.Sums.{total, value_at}
use Rattle.ipet_rows.specs.Programs.{Row, Program, row_at, cost_at}

-- the value of the row's terms and w times its right side
abbrev pub MeetsAs : Bool → ℤ → ℤ → Type 0
MeetsAs true v b = v ≡ b
MeetsAs false v b = v ≤ℤ b

-- the values x over w meet the row
abbrev pub Meets : Row → (ℕ → ℤ) → ℤ → Type 0
Meets r x w = MeetsAs r.equation (value_at r.terms x) (r.right *ℤ w)

-- the values x over w, of each column, meet each row
pub record MeetsAll (p : Program) (x : ℕ → ℤ) (w : ℤ) : Type 0 where
  pub columns : (e : ℕ) → pos 0 ≤ℤ x e
  pub meets : (k : ℕ) → k < length p.rows → Meets (row_at p.rows k) x w

-- the sum of cost times value, over all columns
abbrev pub worth : Program → (ℕ → ℤ) → ℤ
worth p x = total (length p.costs) (λ e. pos (cost_at p.costs e) *ℤ x e)
