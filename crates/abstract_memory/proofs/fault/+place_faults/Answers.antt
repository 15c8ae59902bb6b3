use Rattle.std.proofs.Common.{◌≡◌, ◌∷◌, ℕ, List, true, slice_get, ◌↔◌, sym, subst}
use Rattle.alf_check.specs.Shapes.{shapes_of}
use Rattle.domain_core.specs.FaultSets.{has_fault, either}
use Rattle.strided_rules.specs.Strides.{Stride}
use Rattle.abstract_memory.specs.Running.{runs_in}
use Rattle.abstract_memory.specs.PlaceFaults.{IsPlaceFault, IsFaultOf}
use Rattle.abstract_memory.proofs.Faulty.{in_either}
use Rattle.abstract_memory.proofs.fault.+place_faults.Goals as goal

pub returns-in-Some : goal.returns-in-Some
returns-in-Some t c = λ fault.
    let rows = shapes_of c.args.rows.now in
    let runs = runs_in c.args.running.now in
    let first = c.in-Some.first.now in
    let others = c.in-Some.others.now in
    let own = c.place_fault-own.result in
    let rest = c.place_faults.result in
    let cons : c.args.places.now ≡ first ∷ others = c.in-Some.ensures.cases.0 in
    rw c.union.ensures (subst (λ (places : List (ℕ × Stride)). (has_fault (either own rest) fault ≡ true) ↔ IsFaultOf rows runs places c.args.size fault) (sym cons)
    (in_either own rest (IsPlaceFault (slice_get rows first.0) runs first c.args.size fault) (IsFaultOf rows runs others c.args.size fault) fault
    (c.place_fault-own.ensures fault) (c.place_faults.ensures fault)))
