-- Laws of step bits.
use Rattle.std.proofs.Common.{◌≡◌, ◌<◌, ◌==◌, ◌&&◌, ℕ, Bool, ap, ◌∙◌}
use Rattle.std.proofs.lemmas.Bool.{lt-ltb}
use Rattle.domain_core.specs.Outlines.{Shape}
use Rattle.recorder_rules.specs.LoopRules.{own_of}
use Rattle.recorder_rules.specs.StepBits.{owned_before}
use Rattle.recorder_rules.specs.StepBitLaws.{and_all}

-- ---- the nodes of each scope, one node after the other

pub all_owned : (o : Shape) (n t a : ℕ) → a < n → owned_before o n t a ≡ (own_of o a == t)
all_owned o n t a low = ap (λ (x : Bool). (own_of o a == t) && x) (lt-ltb a n low) ∙ and_all (own_of o a == t)
