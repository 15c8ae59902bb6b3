-- Laws of handed out.
use Rattle.std.proofs.Common.{ℕ, ◌<◌, ◌≤◌, arith, List, [], ◌∷◌, Bool, true, false}
use Rattle.ipet_rows.specs.Programs.{Row}
use Rattle.simplex_rules.specs.Tableaus.{next_slack, width_from}

pub next_above : (b : Bool) (s : ℕ) → s < next_slack b s
next_above true s = omega arith
next_above false s = omega arith

pub width_above : (rs : List Row) (s : ℕ) → s ≤ width_from rs s
width_above [] s = omega arith
width_above (r ∷ rs) s = omega (arith, next_above r.equation s, width_above rs (next_slack r.equation s))
