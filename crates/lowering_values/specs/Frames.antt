-- Where the objects of a unit lie among the frames of the program that it is lowered to.
--   is_row_of owner name row   the row is that of the frame of this name which this owner has
--   row_number owner name rows the number of the first such row; where there is none, the number after the last
--   frame_number unit o        the number of the frame of object o; what is no object has none, and has a number past all frames
--   is_object_frame unit f     the frame of this number is that of an object
--   frames_of unit             the table of frames of the lowered program
--   FramesStand unit           each object has a frame of its own
--   Sees unit f o              function f sees object o: it is global, or its own
--   ScopesSee unit f scopes    so it is with each object that a name in these scopes means
--   IsResultFrame unit f i frame   the frame is of function f and holds the result of a call, of the type i
--   IsNaming unit f frame      `frame` gives the number of each frame that code of function f names
--   Agrees unit m h            a history of the lowered program is one of the unit, but for the stores of results
use Rattle.std.specs.Prelude.{◌≡◌, ◌⊎◌, ℕ, suc, ◌+◌, ◌==◌, ◌&&◌, ◌||◌, Bool, false, List, [], ◌∷◌, Option, Some, None, Contains, length, nat_le, slice_get, if◌then◌else◌}
use Rattle.std.specs.Option.{option_map_or}
use Rattle.std.specs.List.{list_any, range_with_len}
use Rattle.std.specs.Str.{bytes_eq}
use Rattle.alf_ops.specs.declared.history.FrameShape.{FrameShape}
use Rattle.alf_ops.specs.declared.history.RunEvent.{RunEvent}
use Rattle.alf_program.specs.Tree.{Allocation}
use Rattle.alf_check.specs.declared.rows.FrameRow.{FrameRow}
use Rattle.alf_check.specs.Numbers.{frame_rows}
use Rattle.alf_check.specs.Shapes.{shapes_of}
use Rattle.c_unit.specs.declared.types.Integer.{Integer}
use Rattle.c_unit.specs.declared.types.Scalar.{Scalar}
use Rattle.c_unit.specs.Units.{UnitTree}
use Rattle.c_rules.specs.Names.{Entry, Scope, look_up}
use Rattle.c_rules.specs.Expressions.{value_type}
use Rattle.c_meaning.specs.Values.{bits_of_type}
use Rattle.c_meaning.specs.Objects.{Object, objects_of, program_of, object_at, function_at}
use Rattle.c_meaning.specs.Objects as meaning
use Rattle.c_lowered.specs.Names.{same_owner, name_at, call_name}
use Rattle.c_lowered.specs.Frames.{all_frames_in}
use Rattle.c_lowered.specs.Programs.{lowered}
use Rattle.lowering_values.specs.Embedding.{Places}
use Rattle.lowering_values.specs.EmbeddingLaws as histories

-- ---- the frames of objects

abbrev pub is_row_of : Option ℕ → List ℕ → FrameRow → Bool
is_row_of owner name row = same_owner row.owner owner && bytes_eq row.name name

abbrev pub row_number : Option ℕ → List ℕ → List FrameRow → ℕ
row_number owner name [] = 0
row_number owner name (row ∷ rows) = if is_row_of owner name row then 0 else suc (row_number owner name rows)

abbrev pub frame_number : UnitTree → ℕ → ℕ
frame_number unit o =
    option_map_or (λ (object : Object). row_number object.owner (name_at (program_of unit) o)
    (frame_rows (lowered unit)))
    (slice_get (objects_of unit) o) (length (frame_rows (lowered unit)) + o)

-- a number past all frames stands for none of a result
abbrev pub is_object_frame : UnitTree → ℕ → Bool
is_object_frame unit frame =
    list_any (λ o. frame_number unit o == frame)
    (range_with_len 0 (length (objects_of unit))) || nat_le (length (frame_rows (lowered unit))) frame

abbrev pub frames_of : UnitTree → List FrameShape
frames_of unit = shapes_of (frame_rows (lowered unit))

abbrev pub FramesStand : UnitTree → Type 0
FramesStand unit = Places (frame_number unit) (is_object_frame unit) (meaning.shapes_of (program_of unit))
    (frames_of unit)

-- ---- what a function sees

pub record Sees (unit : UnitTree) (f o : ℕ) : Type 0 where
  pub object : Object
  pub at : slice_get (objects_of unit) o ≡ Some object
  pub seen : (object.owner ≡ None) ⊎ (object.owner ≡ Some f)

abbrev pub ScopesSee : UnitTree → ℕ → List Scope → Type 0
ScopesSee unit f scopes = (token : ℕ) (e : Entry) (t : Scalar) → look_up unit.words scopes token ≡ Some e
    → value_type e.bound ≡ Some t → Sees unit f (object_at (objects_of unit) e.token)

pub record IsResultFrame (unit : UnitTree) (f : ℕ) (i : Integer) (frame : ℕ) : Type 0 where
  pub row : FrameRow
  pub at : slice_get (frame_rows (lowered unit)) frame ≡ Some row
  pub owned : row.owner ≡ Some f
  pub sized : row.bits ≡ bits_of_type i
  pub other : is_object_frame unit frame ≡ false

-- the frames of the locals and of the calls in function f
abbrev pub frames_in_body : UnitTree → ℕ → List Allocation
frames_in_body unit f = all_frames_in (program_of unit) f 0 (function_at (program_of unit) f).body

pub record IsNaming (unit : UnitTree) (f : ℕ) (frame : List ℕ → ℕ) : Type 0 where
  pub objects : (o : ℕ) → Sees unit f o → frame (name_at (program_of unit) o) ≡ frame_number unit o
  pub results : (k : ℕ) (i : Integer) → Contains (frames_in_body unit f)
      (record { name = call_name (program_of unit) f k; bits = bits_of_type i })
      → IsResultFrame unit f i (frame (call_name (program_of unit) f k))

-- ---- memories

abbrev pub Agrees : UnitTree → List RunEvent → List RunEvent → Type 0
Agrees unit m h = histories.Agrees (frame_number unit) (is_object_frame unit) m h
