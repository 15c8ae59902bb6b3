-- Laws of cell stores.
--   stored_in_cell                         the store through the pointer fills the cell
use Rattle.std.proofs.Common.{◌≡◌, ℕ, Bool, true, List, [], ◌∷◌, Some, Result, Ok, Err, ◌<◌, ◌^◌, refl, sym, ap, ◌∙◌}
use Rattle.alf_ops.specs.declared.history.Value.{Value}
use Rattle.alf_ops.specs.declared.history.Value.TheVariants.{Ptr}
use Rattle.alf_ops.specs.declared.history.RunFault.{RunFault}
use Rattle.alf_ops.specs.declared.history.FrameShape.{FrameShape}
use Rattle.domain_core.specs.declared.fault_set.FaultSet.{FaultSet}
use Rattle.domain_core.specs.FaultSets.{has_fault}
use Rattle.pointer_rules.specs.AbstractValues.{AbstractValue}
use Rattle.memory_rules.specs.ValueSets.{OnlyCovers}
use Rattle.memory_rules.specs.Covers.{IsCellSize}
use Rattle.memory_rules.specs.Memories.{Mem, stored}
use Rattle.memory_rules.specs.Addresses.{tested, cells_of}
use Rattle.memory_rules.specs.AddressSharp.{cells_told}
use Rattle.memory_rules.specs.AddressSharpLaws.{one_cell}
use Rattle.memory_rules.specs.AbstractSets.{abstract_sets}
use Rattle.transfer_rules.specs.Remains.{all_left}
use Rattle.transfer_rules.specs.AddressFaults.{address_faults}
use Rattle.transfer_rules.specs.Evaluating.{pointer_value}
use Rattle.transfer_rules.specs.Doing.{where_possible, stored_by}
use Rattle.transfer_rules.specs.Filling.{filled}
use Rattle.transfer_rules.specs.RemainsLaws.{none_is_empty}
use Rattle.transfer_rules.specs.AddressFaultLaws.{address_from}
use Rattle.transfer_rules.specs.StandingLaws.{pointer_is, pointer_told}
use Rattle.transfer_rules.specs.CellStores.{IsCellAt}

tested_is : (rows : List FrameShape) (runs : ℕ → Bool) (frame offset size : ℕ) → IsCellAt rows runs frame offset size
    → tested rows runs (Ptr frame offset) size ≡ Ok (frame, offset)
tested_is rows runs frame offset size cell = rw (cell.found, cell.active, cell.fits) refl

ok_or_err : (cell : ℕ × ℕ) (fault : RunFault) → (let r : Result (ℕ × ℕ) RunFault = Ok cell in r) ≡ Err fault → ⊥
ok_or_err cell fault e = cc

only_pointer : (frame offset : ℕ) → offset < 2 ^ 32
    → OnlyCovers abstract_sets (pointer_value frame offset) (Ptr frame offset)
only_pointer frame offset small = (pointer_told (Unit {0}) frame offset small).only tt

no_faults_there : (rows : List FrameShape) (runs : ℕ → Bool) (frame offset size : ℕ) → offset < 2 ^ 32
    → IsCellAt rows runs frame offset size → (fault : RunFault)
    → has_fault (address_faults rows runs (pointer_value frame offset) size) fault ≡ true → ⊥
no_faults_there rows runs frame offset size small cell fault told =
    let f = address_from rows runs (pointer_value frame offset) size fault (pointer_is frame offset small) told in
    let same : f.0 ≡ Ptr frame offset = (only_pointer frame offset small).1 f.0 f.1 in
    ok_or_err (frame, offset) fault (sym (tested_is rows runs frame offset size cell) ∙ ap (λ (p : Value). tested rows runs p size) (sym same) ∙ f.2)

-- the store through the pointer fills the cell
pub stored_in_cell : (rows : List FrameShape) (m : Mem abstract_sets) (frame offset size : ℕ) (v : AbstractValue)
    → offset < 2 ^ 32 → IsCellSize size → IsCellAt rows m.runs frame offset size
    → stored_by rows m (pointer_value frame offset) v size ≡ all_left (filled m frame offset size v)
stored_in_cell rows m frame offset size v small is cell =
    let cells : cells_of rows m.runs (pointer_value frame offset).places size ≡ (frame, offset) ∷ [] =
    one_cell rows m.runs (pointer_value frame offset) (Ptr frame offset) size is (pointer_is frame offset small) (only_pointer frame offset small) ∙ ap cells_told (tested_is rows m.runs frame offset size cell) in
    let faults = none_is_empty (address_faults rows m.runs (pointer_value frame offset) size) (no_faults_there rows m.runs frame offset size small cell) in
    ap (λ (list : List (ℕ × ℕ)). record { left = where_possible list (stored abstract_sets m list size v); faults = address_faults rows m.runs (pointer_value frame offset) size }) cells
    ∙ ap (λ (set : FaultSet). record { left = Some (filled m frame offset size v); faults = set }) faults
