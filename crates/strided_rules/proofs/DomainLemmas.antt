-- On the way to the laws of domain.
use Rattle.std.proofs.Common.{ℕ}
use Rattle.domain_core.specs.WordSets.{IsWordSize}
use Rattle.strided_rules.specs.Strides.{Stride}
use Rattle.strided_rules.specs.OperatorLaws.{Good}

-- ---- the rules

word_size : (m : ℕ) (a : Stride) (x : ℕ) → Good m a x → IsWordSize m
word_size m a x g = rw (← g.size) g.kept.size
