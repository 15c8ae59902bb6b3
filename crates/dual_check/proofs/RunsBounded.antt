-- Each run's cost is at most what a verdict tells.
use Rattle.std.proofs.Common.{◌≡◌, ◌≤◌, ℕ, suc, ℤ, pos, Bool, List, ◌∷◌, reverse, arith}
use Rattle.std.specs.Prelude.{◌<ℤ◌, ◌*ℤ◌, ◌≤ℤ◌}
use Rattle.std.proofs.lemmas.Int.{ints}
use Rattle.domain_core.specs.Outlines.{Outlined, IsOutline, shape_of}
use Rattle.flow_facts.specs.declared.fact.Fact.{Fact}
use Rattle.ipet_rows.specs.Columns.{columns_of}
use Rattle.ipet_rows.specs.Uses.{IsEnded, steps_of, column_counts, run_cost}
use Rattle.ipet_rows.specs.Shaped.{FitOutline}
use Rattle.ipet_rows.specs.Feasible.{MeetFacts}
use Rattle.ipet_rows.specs.FeasibleLaws.{feasible, worth_cost}
use Rattle.ipet_rows.specs.Bounds.{BoundsAll}
use Rattle.dual_check.specs.Openings.{costs_of, system_of}

below_next : (cost v : ℕ) (z : ℤ) → z <ℤ (pos (suc v) *ℤ pos 1) → z ≡ pos cost → cost ≤ v
below_next cost v z less is = omega (arith, ints, less, is)

pub run_bounded : (o : Outlined) → IsOutline (shape_of o) → (facts : List Fact) (fault : Bool) (k : ℕ) (past : List ℕ)
    → IsEnded (shape_of o) facts fault (k ∷ past)
    → FitOutline (shape_of o) facts → MeetFacts (shape_of o) (reverse (k ∷ past)) facts → (v bound : ℕ) → BoundsAll (system_of o facts).program v bound
    → (run_cost (costs_of o) (k ∷ past) ≤ v) × (v ≤ bound)
run_bounded o ok facts fault k past run fits met v bound holds =
    let x = column_counts (columns_of (shape_of o) facts) (steps_of (shape_of o) fault (k ∷ past)) in
    let whole : pos 1 ≤ℤ pos 1 = omega (arith, ints) in
    let less = holds.points x (pos 1) whole (feasible (shape_of o) ok facts fault k past run fits met (costs_of o)) in
    let is = worth_cost (shape_of o) ok facts fault k past run fits met (costs_of o) in
    (below_next (run_cost (costs_of o) (k ∷ past)) v _ less is, holds.least)
