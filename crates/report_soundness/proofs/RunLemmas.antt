-- On the way to the laws of run.
--   bound_within             what is at most the sum over the openings is at most the count bound
--   bound_exact              and where the report tells one run exactly, it is the run's cost
use Rattle.std.proofs.Common.{◌≡◌, ◌≤◌, ℕ, pos, List, arith}
use Rattle.std.specs.Prelude.{◌≤ℤ◌}
use Rattle.std.proofs.lemmas.Int.{ints}
use Rattle.domain_core.specs.Outlines.{Outlined}
use Rattle.domain_core.specs.Machines.{System}
use Rattle.ipet_rows.specs.Uses.{run_cost}
use Rattle.report_soundness.specs.ReportTold.{Found, costs_of, told_facts, count_bound, told_report}
use Rattle.report_soundness.specs.Exact.{LoneRun}
use Rattle.path_lp.specs.Bounding.{opening_sum}
use Rattle.report_soundness.specs.BoundToldLaws.{told_within}
use Rattle.report_soundness.specs.RunLaws.{IsAboveRuns}

-- ---- the count bound

-- what is at most the sum over the openings is at most the count bound
pub bound_within : (o : Outlined) (found : Found) (v : ℕ) → pos v ≤ℤ opening_sum o (told_facts o found)
    → v ≤ count_bound o found
bound_within o found v most = let within = told_within o found in omega (arith, ints, most, within)

-- and where the report tells one run exactly, it is the run's cost
pub bound_exact : {C : Type 0} (system : System C) (o : Outlined) (found : Found) (trace : List ℕ) (v : ℕ)
    → LoneRun system o (told_report o found) trace → IsAboveRuns system o v
    → pos v ≤ℤ opening_sum o (told_facts o found) → v ≡ run_cost (costs_of o) trace
bound_exact system o found trace v run above most =
    let low = above run.start trace run.fault run.starts run.passes in
    let high = bound_within o found v most in
    let cost = run.exact.bound in
    omega (arith, low, high, cost)
