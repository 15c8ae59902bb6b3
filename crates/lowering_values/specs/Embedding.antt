-- Values and histories over one table of frames, seen in another that has a frame for each of them, and further frames
-- beside them.
--   embedded_value place v         the value, where frame o of the one table is frame `place o` of the other
--   embedded_values, embedded_result, embedded_results   those of values in a row, and of evaluations, whose faults stay what they are
--   embedded_history place h       the history over the other table: stores go to the frames of theirs, and functions are entered and left as they are
--   embedded_only is_embedded m    a history over the other table without the stores to its further frames
--   Places place is_embedded inner outer   each frame of the one table has one of its own in the other, of the same owner and size
use Rattle.std.specs.Prelude.{◌≡◌, ℕ, Bool, true, List, [], ◌∷◌, map, Result, Ok, Err, slice_get, if◌then◌else◌}
use Rattle.alf_ops.specs.declared.history.Value.{Value}
use Rattle.alf_ops.specs.declared.history.Value.TheVariants.{Int, Ptr}
use Rattle.alf_ops.specs.declared.history.RunFault.{RunFault}
use Rattle.alf_ops.specs.declared.history.FrameShape.{FrameShape}
use Rattle.alf_ops.specs.declared.history.RunEvent.{RunEvent}
use Rattle.alf_ops.specs.declared.history.RunEvent.TheVariants.{Enter, Leave, Store}

-- ---- values

abbrev pub embedded_value : (ℕ → ℕ) → Value → Value
embedded_value place (Int size word) = Int size word
embedded_value place (Ptr frame offset) = Ptr (place frame) offset

abbrev pub embedded_result : (ℕ → ℕ) → Result Value RunFault → Result Value RunFault
embedded_result place (Ok value) = Ok (embedded_value place value)
embedded_result place (Err fault) = Err fault

abbrev pub embedded_results : (ℕ → ℕ) → Result (List Value) RunFault → Result (List Value) RunFault
embedded_results place (Ok values) = Ok (map (embedded_value place) values)
embedded_results place (Err fault) = Err fault

-- ---- histories

abbrev pub embedded_history : (ℕ → ℕ) → List RunEvent → List RunEvent
embedded_history place [] = []
embedded_history place (Enter function ∷ history) = Enter function ∷ embedded_history place history
embedded_history place (Leave function ∷ history) = Leave function ∷ embedded_history place history
embedded_history place (Store frame offset size value ∷ history) = Store (place frame) offset size (embedded_value place value) ∷ embedded_history place history

abbrev pub embedded_only : (ℕ → Bool) → List RunEvent → List RunEvent
embedded_only is_embedded [] = []
embedded_only is_embedded (Enter function ∷ history) = Enter function ∷ embedded_only is_embedded history
embedded_only is_embedded (Leave function ∷ history) = Leave function ∷ embedded_only is_embedded history
embedded_only is_embedded (Store frame offset size value ∷ history) =
    if is_embedded frame then Store frame offset size value ∷ embedded_only is_embedded history else embedded_only is_embedded history

-- ---- tables

pub record Places (place : ℕ → ℕ) (is_embedded : ℕ → Bool) (inner outer : List FrameShape) : Type 0 where
  pub same : (frame : ℕ) → slice_get outer (place frame) ≡ slice_get inner frame
  pub apart : (frame other : ℕ) → place frame ≡ place other → frame ≡ other
  pub told : (frame : ℕ) → is_embedded (place frame) ≡ true
