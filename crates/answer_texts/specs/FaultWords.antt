-- The words of faults.
--   fault_word cause   the word of a fault
use Rattle.std.specs.Prelude.{ℕ, List, codes}
use Rattle.alf_ops.specs.declared.history.RunFault.{RunFault}
use Rattle.alf_ops.specs.declared.history.RunFault.TheVariants.{Divide, Uninit, Mixed, Bounds, Dead, Kind, Pointers}

-- the word of a fault
abbrev pub fault_word : RunFault → List ℕ
fault_word Divide = codes "divide"
fault_word Uninit = codes "uninit"
fault_word Mixed = codes "mixed"
fault_word Bounds = codes "bounds"
fault_word Dead = codes "dead"
fault_word Kind = codes "kind"
fault_word Pointers = codes "pointers"
