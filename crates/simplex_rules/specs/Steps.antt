-- The rule's step is a pivot: the factors and the divisor of the rule meet what soundness asks of any.
use Rattle.std.proofs.Common.{ℕ, ℤ, List}
use Rattle.simplex_rules.specs.Lines.{cleared}
use Rattle.simplex_rules.specs.Tableaus.{Held}

-- The rows of the step.

-- the row k freed of the place
abbrev pub freed : ℕ → List ℤ → Held → Held
freed e h k = record { basic = k.basic; line = cleared e h k.line }
