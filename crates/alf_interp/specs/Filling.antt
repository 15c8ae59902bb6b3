-- Values that are put into frames where a function is entered and where a run starts, by stores that have no fault.
--   HasRoom frames history frame offset value        the store of the value has no fault
--   ArgumentsHaveRoom frames history args values     so each store of an argument
--   InitsHaveRoom frames history inits               so each store of what frames hold at first
--   InputsHaveRoom frames history rows words         so each store of an input's word
--   IsInitWord init, IsInputWord row word            these words can be stored
use Rattle.std.specs.Prelude.{◌≡◌, ℕ, List, [], ◌∷◌, Ok}
use Rattle.alf_ops.specs.declared.history.Value.{Value}
use Rattle.alf_ops.specs.declared.history.Value.TheVariants.{Int, Ptr}
use Rattle.alf_ops.specs.declared.history.FrameShape.{FrameShape}
use Rattle.alf_ops.specs.declared.history.RunEvent.{RunEvent}
use Rattle.alf_ops.specs.declared.history.RunEvent.TheVariants.{Store}
use Rattle.alf_ops.specs.Values.{size_of}
use Rattle.alf_ops.specs.Histories.{store}
use Rattle.alf_check.specs.declared.rows.InitRow.{InitRow}
use Rattle.alf_check.specs.declared.rows.InputRow.{InputRow}
use Rattle.alf_values.specs.Standing.{IsStorable}

-- the store of the value has no fault
abbrev pub HasRoom : List FrameShape → List RunEvent → ℕ → ℕ → Value → Type 0
HasRoom frames history frame offset value = store frames history (Ptr frame offset) value ≡ Ok (Store frame offset (size_of value) value ∷ history)

-- so each store of an argument
abbrev pub ArgumentsHaveRoom : List FrameShape → List RunEvent → List ℕ → List Value → Type 0
ArgumentsHaveRoom frames history [] values = Unit {0}
ArgumentsHaveRoom frames history (arg ∷ args) [] = Unit {0}
ArgumentsHaveRoom frames history (arg ∷ args) (value ∷ values) =
    HasRoom frames history arg 0 value × ArgumentsHaveRoom frames (Store arg 0 (size_of value) value ∷ history) args values

-- so each store of what frames hold at first
abbrev pub InitsHaveRoom : List FrameShape → List RunEvent → List InitRow → Type 0
InitsHaveRoom frames history [] = Unit {0}
InitsHaveRoom frames history (init ∷ inits) =
    HasRoom frames history init.frame init.offset (Int init.num.size init.num.bits)
    × InitsHaveRoom frames (Store init.frame init.offset init.num.size (Int init.num.size init.num.bits) ∷ history) inits

-- so each store of an input's word
abbrev pub InputsHaveRoom : List FrameShape → List RunEvent → List InputRow → List ℕ → Type 0
InputsHaveRoom frames history [] words = Unit {0}
InputsHaveRoom frames history (row ∷ rows) [] = Unit {0}
InputsHaveRoom frames history (row ∷ rows) (word ∷ words) =
    HasRoom frames history row.frame row.offset (Int row.size word)
    × InputsHaveRoom frames (Store row.frame row.offset row.size (Int row.size word) ∷ history) rows words

-- the word of what a frame holds at first can be stored
abbrev pub IsInitWord : InitRow → Type 0
IsInitWord init = IsStorable (Int init.num.size init.num.bits)

-- the word of an input can be stored
abbrev pub IsInputWord : InputRow → ℕ → Type 0
IsInputWord row word = IsStorable (Int row.size word)
