-- The facts so far fit.
use Rattle.std.proofs.Common.{ℕ, ◌<◌, get_or}
use Rattle.domain_core.specs.Outlines.{shape_of}
use Rattle.flow_facts.specs.declared.fact.Fact.{Fact}
use Rattle.ipet_rows.specs.Shaped.{FitsOutline}
use Rattle.report_checks.proofs.shaping.all_fit.Given as goal

abbrev pub invariant-loop-fact : goal.invariant-loop-fact
invariant-loop-fact l = (k : ℕ) (d : Fact) → k < l.fact-index → FitsOutline (shape_of l.outline) (get_or l.facts k d)
