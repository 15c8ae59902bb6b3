-- Frames of parts of a program.
--   IsFrameOf program f lo hi objects frame   the frame is that of one of the objects, or that of a result of function f with a number from lo up to hi
--   HasFrame program frames o   one of the frames is that of the object, with its size
--   HasResult program f frames k   one of the frames is that of the result of this number
--   Part program f objects lo n frames   the frames are those of the objects and of the n results from lo on, one for each, and no two have one name
--   parts_apart              frames of two parts have two names
use Rattle.std.proofs.Common.{◌≡◌, ◌≢◌, ◌<◌, ◌≤◌, ◌^◌, ◌+◌, ℕ, List, length, slice_get, Contains, Some}
use Rattle.alf_program.specs.Tree.{Allocation}
use Rattle.c_meaning.specs.Objects.{Object, Program}
use Rattle.c_lowered.specs.Names.{call_name, frame_of}
use Rattle.lowering_layout.specs.Lists.{EachOf, Apart}
use Rattle.lowering_layout.specs.Spelled.{HasNames}

abbrev pub DifferInName : Allocation → Allocation → Type 0
DifferInName a b = a.name ≢ b.name

module _ (program : Program) where
  abbrev pub IsObject : Object → Type 0
  IsObject o = (i : ℕ) × (slice_get program.objects i ≡ Some o)

  pub data IsFrameOf (f lo hi : ℕ) (objects : List Object) (frame : Allocation) : Type 0 where
    of_object : (o : Object) → Contains objects o → IsObject o → frame.name ≡ frame_of program o.token
        → frame.bits ≡ o.bits → IsFrameOf f lo hi objects frame
    of_result : (k : ℕ) → lo ≤ k → k < hi → f < length program.functions → k < 10 ^ 64
        → frame.name ≡ call_name program f k → IsFrameOf f lo hi objects frame

  pub record HasFrame (frames : List Allocation) (o : Object) : Type 0 where
    pub frame : Allocation
    pub among : Contains frames frame
    pub name : frame.name ≡ frame_of program o.token
    pub bits : frame.bits ≡ o.bits

  pub record HasResult (f : ℕ) (frames : List Allocation) (k : ℕ) : Type 0 where
    pub frame : Allocation
    pub among : Contains frames frame
    pub name : frame.name ≡ call_name program f k

  pub record Part (f : ℕ) (objects : List Object) (lo n : ℕ) (frames : List Allocation) : Type 0 where
    pub known : EachOf (IsFrameOf f lo (lo + n) objects) frames
    pub apart : Apart DifferInName frames
    pub objects_have : EachOf (HasFrame frames) objects
    pub results_have : (k : ℕ) → lo ≤ k → k < lo + n → HasResult f frames k
    pub count : length frames ≡ length objects + n
