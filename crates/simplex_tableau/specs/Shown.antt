-- What lines by terms show of whole lines, in each width that holds them.
--   IsFreed e h f out    out is f freed of place e by h, its common divisor is 1, and no number on the way was wide
--   IsFreedWide e h f    some number on the way is wide
--   IsTurned f out       out is f with each number turned, and none is wide
--   IsTurnedWide f       some number is wide, turned
use Rattle.std.specs.Prelude.{◌≡◌, ℕ, ℤ, pos, neg_ℤ, true, false, List}
use Rattle.ipet_rows.specs.Sums.{IsAscending}
use Rattle.ipet_rows.specs.Programs.{IsWithin}
use Rattle.simplex_rules.specs.Lines.{spread, times_line, line_gcd, cleared}
use Rattle.simplex_rules.specs.PivotRule.{cleared_wide, line_wide}

-- out is f freed of place e by h, and no number on the way was wide
pub record IsFreed (e : ℕ) (h f out : List (ℕ × ℤ)) : Type 0 where
  pub line : (w : ℕ) → IsWithin w f → IsWithin w h → spread w 0 out ≡ cleared e (spread w 0 h) (spread w 0 f)
  pub narrow : (w : ℕ) → IsWithin w f → IsWithin w h → cleared_wide e (spread w 0 h) (spread w 0 f) ≡ false
  pub one : (w : ℕ) → IsWithin w f → IsWithin w h → line_gcd (spread w 0 out) ≡ pos 1
  pub within : (w : ℕ) → IsWithin w f → IsWithin w h → IsWithin w out
  pub rises : IsAscending out

-- some number on the way is wide
pub record IsFreedWide (e : ℕ) (h f : List (ℕ × ℤ)) : Type 0 where
  pub wide : (w : ℕ) → IsWithin w f → IsWithin w h → cleared_wide e (spread w 0 h) (spread w 0 f) ≡ true

-- out is f with each number turned, and none is wide
pub record IsTurned (f out : List (ℕ × ℤ)) : Type 0 where
  pub line : (w : ℕ) → spread w 0 out ≡ times_line (neg_ℤ (pos 1)) (spread w 0 f)
  pub narrow : (w : ℕ) → line_wide (times_line (neg_ℤ (pos 1)) (spread w 0 f)) ≡ false
  pub within : (w : ℕ) → IsWithin w f → IsWithin w out
  pub rises : IsAscending out

-- some number is wide, turned
pub record IsTurnedWide (f : List (ℕ × ℤ)) : Type 0 where
  pub wide : (w : ℕ) → IsWithin w f → line_wide (times_line (neg_ℤ (pos 1)) (spread w 0 f)) ≡ true
