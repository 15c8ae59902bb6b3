-- Iterations of a scope along a run, counted.
use Rattle.std.proofs.Common.{◌≢◌, ◌<◌, ℕ, Bool, length}
use Rattle.domain_core.specs.Outlines.{Shape, IsOutline, header_of}
use Rattle.domain_core.specs.Executions.{IsIteration}

-- ---- nodes and headers in iterations

module _ (o : Shape) (ok : IsOutline o) (s : ℕ) (low : s < length o.scopes) where
  header : ℕ
  header = header_of o.scopes s
