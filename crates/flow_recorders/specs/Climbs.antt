-- Walks up the scopes of an outline.
--   near own around s      the scope s is `own` or that around it
use Rattle.std.proofs.Common.{◌==◌, ◌||◌, ℕ, Option, Bool}
use Rattle.recorder_rules.specs.TallyRules.{is_at}

-- the scope s is `own` or that around it
abbrev pub near : ℕ → Option ℕ → ℕ → Bool
near own around s = (own == s) || is_at around s
