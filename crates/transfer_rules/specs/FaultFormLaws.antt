-- Sets of faults that are known by what is in them.
--   loaded_faults     the set of a load's faults is the transfer's
--   stored_faults     so is the set of a store's
use Rattle.std.specs.Prelude.{◌↔◌}
use Rattle.std.proofs.Common.{◌≡◌, ℕ, Bool, true, List, inl, inr}
use Rattle.alf_ops.specs.declared.history.RunFault.{RunFault}
use Rattle.alf_ops.specs.declared.history.FrameShape.{FrameShape}
use Rattle.domain_core.specs.declared.fault_set.FaultSet.{FaultSet}
use Rattle.domain_core.specs.FaultSets.{has_fault}
use Rattle.pointer_rules.specs.AbstractValues.{AbstractValue}
use Rattle.pointer_rules.specs.Covering.{IsValue}
use Rattle.memory_rules.specs.Memories.{Mem, faults_of}
use Rattle.memory_rules.specs.Addresses.{load_at, IsAddressFault, IsLoadFault}
use Rattle.memory_rules.specs.AbstractSets.{abstract_sets}
use Rattle.transfer_rules.specs.AddressFaults.{fault_set, address_faults}
use Rattle.transfer_rules.specs.Evaluating.{loaded}
use Rattle.transfer_rules.specs.RemainsLaws.{same_faults, truth, in_either, in_first, in_second, in_set, from_set}
use Rattle.transfer_rules.specs.AddressFaultLaws.{address_told, address_from}

-- a fault is told of a load exactly where it is one of the address or of a cell
pub load_fault_told : (rows : List FrameShape) (m : Mem abstract_sets) (size : ℕ) (at : AbstractValue) (fault : RunFault) → IsValue 32 at
    → (has_fault (loaded rows m size at).faults fault ≡ true) ↔ IsLoadFault rows m at size fault
load_fault_told rows m size at fault is =
    let of_cells = faults_of abstract_sets (load_at rows m at size) in (
      λ told. elim (in_either (address_faults rows m.runs at size) (fault_set of_cells) fault told) [
        | inl a ↦ inl (address_from rows m.runs at size fault is a)
        | inr c ↦ inr (from_set of_cells fault c)
      ],
      λ told. elim told [
        | inl a ↦ in_first (address_faults rows m.runs at size) (fault_set of_cells) fault (address_told rows m.runs at size fault is a)
        | inr c ↦ in_second (address_faults rows m.runs at size) (fault_set of_cells) fault (in_set of_cells fault c)
      ],
    )

-- the set of a load's faults is the transfer's
pub loaded_faults : (rows : List FrameShape) (m : Mem abstract_sets) (size : ℕ) (at : AbstractValue) (faults : FaultSet)
    → IsValue 32 at
    → ((fault : RunFault) → (has_fault faults fault ≡ true) ↔ IsLoadFault rows m at size fault) → faults ≡ (loaded rows m size at).faults
loaded_faults rows m size at faults is each =
    same_faults faults (loaded rows m size at).faults
    (λ fault. truth (has_fault faults fault) (has_fault (loaded rows m size at).faults fault)
    (λ e. (load_fault_told rows m size at fault is).1 ((each fault).0 e))
    (λ e. (each fault).1 ((load_fault_told rows m size at fault is).0 e)))

-- so is the set of a store's
pub stored_faults : (rows : List FrameShape) (runs : ℕ → Bool) (size : ℕ) (at : AbstractValue) (faults : FaultSet)
    → IsValue 32 at
    → ((fault : RunFault) → (has_fault faults fault ≡ true) ↔ IsAddressFault rows runs at size fault) → faults ≡ address_faults rows runs at size
stored_faults rows runs size at faults is each =
    same_faults faults (address_faults rows runs at size)
    (λ fault. truth (has_fault faults fault) (has_fault (address_faults rows runs at size) fault)
    (λ e. address_told rows runs at size fault is ((each fault).0 e))
    (λ e. (each fault).1 (address_from rows runs at size fault is e)))
