-- Entries of inputs.
--   entry_some   an entry with its keys
use Rattle.std.proofs.Common.{◌≡◌, ℕ, pos, true, List, Some, refl}
use Rattle.std.specs.Prelude.{codes}
use Rattle.toml.specs.Data.{Members}
use Rattle.cost_table.specs.declared.input_entry.Cells.{Cells}
use Rattle.cost_table.specs.Documents.{only_keys, text_at, number_at, number_or}
use Rattle.cost_table.specs.Inputs.{is_input_key, input_members}

-- an entry with its keys
pub entry_some : (ms : Members) (frame : List ℕ) (cells : Cells) → only_keys is_input_key ms ≡ true
    → text_at (codes "frame") ms ≡ Some frame → number_at (codes "offset") ms ≡ Some cells.offset
    → number_at (codes "size") ms ≡ Some cells.size → number_at (codes "low") ms ≡ Some cells.low
    → number_at (codes "high") ms ≡ Some cells.high → number_or (pos 1) (codes "count") ms ≡ Some cells.count
    → input_members ms ≡ Some (frame, cells)
entry_some ms frame cells keys frame_is offset_is size_is low_is high_is count_is = rw (keys, frame_is, offset_is, size_is, low_is, high_is, count_is) refl
