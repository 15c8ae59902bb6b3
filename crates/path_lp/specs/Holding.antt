-- What holds of each path bound that the rule tells.
--   IsRight o facts n    after n pivots at most: nothing passes it, it is at most the sum over the openings, and with `Least` it is the greatest worth
--   ToldBoundsAreRight   the law
use Rattle.std.specs.Prelude.{◌≡◌, ℕ, pos, ◌≤ℤ◌, List, length}
use Rattle.domain_core.specs.Outlines.{Outlined, IsOutline, shape_of}
use Rattle.flow_facts.specs.declared.fact.Fact.{Fact}
use Rattle.flow_facts.specs.declared.report.BoundWord.TheVariants.{Least}
use Rattle.dual_check.specs.Openings.{system_of}
use Rattle.simplex_rules.specs.OutlineOpenings.{AreLimited}
use Rattle.path_lp.specs.Bounding.{told_path_bound, opening_sum, IsAbove, IsGreatest}

-- after n pivots at most: no point that meets the rows and no run that meets the facts passes it, it is at most the sum
-- over the openings, and with `Least` it is the greatest worth of a point that meets the rows, rounded down
pub record IsRight (o : Outlined) (facts : List Fact) (n : ℕ) : Type 0 where
  pub above : IsAbove o facts (told_path_bound o facts n).0
  pub most : pos (told_path_bound o facts n).0 ≤ℤ opening_sum o facts
  pub least : (told_path_bound o facts n).1 ≡ Least
      → IsGreatest (system_of o facts).program (told_path_bound o facts n).0

-- so it is where of each node some fact says how often a run leaves it at most
abbrev pub ToldBoundsAreRight : Type 0
ToldBoundsAreRight = (o : Outlined) (facts : List Fact) (n : ℕ) → IsOutline (shape_of o) → AreLimited (length o.nodes) facts → IsRight o facts n
