-- Where a name stands first.
--   place_of is list           the place of the first member that passes, from 0
--   frame_place frames name    the place of the first frame of this name
--   function_place funcs name  the place of the first function of this name
--   label_place items name     the place of the first item that is the label of this name
use Rattle.std.specs.Prelude.{ℕ, ◌+◌, Bool, false, List, [], ◌∷◌, Option, Some, None, if◌then◌else◌}
use Rattle.std.specs.Option.{option_map}
use Rattle.std.specs.Str.{bytes_eq}
use Rattle.alf_program.specs.Tree.{BodyItem, Label, Do, Allocation, Function}

-- the place of the first member that passes
abbrev pub place_of : {A : Type 0} → (A → Bool) → List A → Option ℕ
place_of passes [] = None
place_of passes (x ∷ xs) = if passes x then Some 0 else option_map (λ place. place + 1) (place_of passes xs)

abbrev pub frame_place : List Allocation → List ℕ → Option ℕ
frame_place frames name = place_of (λ frame. bytes_eq frame.name name) frames

abbrev pub function_place : List Function → List ℕ → Option ℕ
function_place funcs name = place_of (λ func. bytes_eq func.name name) funcs

-- the item is the label of this name
abbrev pub is_label_named : List ℕ → BodyItem → Bool
is_label_named name (Label label) = bytes_eq label name
is_label_named name (Do act) = false

abbrev pub label_place : List BodyItem → List ℕ → Option ℕ
label_place items name = place_of (is_label_named name) items
