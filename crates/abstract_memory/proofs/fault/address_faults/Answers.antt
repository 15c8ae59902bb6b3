use Rattle.std.proofs.Common.{◌≡◌, ℕ, List, Option, true, ◌↔◌, subst}
use Rattle.alf_check.specs.Shapes.{shapes_of}
use Rattle.domain_core.specs.FaultSets.{has_fault}
use Rattle.strided_rules.specs.Strides.{Stride}
use Rattle.abstract_memory.specs.Running.{runs_in}
use Rattle.abstract_memory.specs.PlaceFaults.{IsWordFault, IsFaultOf}
use Rattle.abstract_memory.proofs.Faulty.{in_either, of_address}
use Rattle.abstract_memory.proofs.fault.address_faults.Goals as goal

pub returns : goal.returns
returns c = λ fault.
    let rows = shapes_of c.args.rows.now in
    let runs = runs_in c.args.running.now in
    let at = c.args.at.now in
    let own = c.word_fault-own.result in
    let rest = c.place_faults.result in
    let words = subst (λ (o : Option Stride). (has_fault own fault ≡ true) ↔ IsWordFault o fault) c.int.ensures (c.word_fault-own.ensures fault) in
    let places = subst (λ (ps : List (ℕ × Stride)). (has_fault rest fault ≡ true) ↔ IsFaultOf rows runs ps c.args.size fault) c.at.ensures.value (c.place_faults.ensures fault) in
    let each = in_either own rest (IsWordFault at.words fault) (IsFaultOf rows runs at.places c.args.size fault) fault words places in
    let told = of_address rows runs at c.args.size fault c.at.ensures.kept in
    rw c.union.ensures (λ e. told.0 (each.0 e), λ h. each.1 (told.1 h))
