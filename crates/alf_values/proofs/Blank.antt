-- Memory in which nothing was stored.
--   IsBlankFrame, blank_frame   each frame has the shape of its row, and slots that hold nothing
--   blank_stands                it stands for the empty history
--   blank_kept                  each frame is kept as it must be
--   blank_shapes                the frames are those of the rows
--   new_kept, new_stands, new_made   the same of memory whose functions are not running
use Rattle.std.specs.Prelude.{slice_get}
use Rattle.std.proofs.Common.{◌≡◌, sym, subst, ◌∙◌, ap, ℕ, suc, zero, false, List, [], ◌∷◌, map, replicate, Option, Some, None, refl, arith, ◌/◌, ◌≤◌, length}
use Rattle.std.proofs.lemmas.List.{length-replicate, length-map}
use Rattle.alf_ops.specs.declared.history.FrameShape.{FrameShape}
use Rattle.alf_ops.specs.Histories.{is_active}
use Rattle.alf_check.specs.declared.rows.FrameRow.{FrameRow}
use Rattle.alf_check.specs.CheckedPrograms.{NumberedProgram}
use Rattle.alf_check.specs.Shapes.{shapes_of}
use Rattle.alf_values.specs.declared.slots.Slot.{Slot}
use Rattle.alf_values.specs.declared.cells.Frame.{Frame}
use Rattle.alf_values.specs.declared.cells.Activity.{Activity}
use Rattle.alf_values.specs.Slots.{held, blank}
use Rattle.alf_values.specs.Memories.{is_live, true_or, shapes, IsMadeFor}
use Rattle.alf_values.specs.Standing.{StandsFor}
use Rattle.alf_values.specs.Cells.{mark_of, mark_or, running_of, memory_of, AreKept, parts_of, blank_parts, idle}
use Rattle.alf_values.proofs.Standing.{Stands, to_seen}

-- a frame has slots that hold nothing, one for each byte
pub record IsBlankFrame (frame : Frame) : Type 0 where
  pub slots_are : frame.slots.items ≡ replicate (frame.shape.bits / 8) blank

-- each frame of blank parts is one
blank_frame : (frames : List Frame) (rows : List FrameRow) (number : ℕ) (frame : Frame)
    → map parts_of frames ≡ map blank_parts rows
    → slice_get frames number ≡ Some frame → IsBlankFrame frame
blank_frame [] rows number frame same is = cc
blank_frame (one ∷ frames) [] number frame same is = cc
blank_frame (one ∷ frames) (row ∷ rows) zero frame same is =
    let e : one ≡ frame = cc in
    let parts : parts_of one ≡ blank_parts row = cc in
    let shape : one.shape ≡ record { owner = row.owner; bits = row.bits } = ap (λ p. p.0) parts in
    let slots : one.slots.items ≡ replicate (row.bits / 8) blank = ap (λ p. p.1) parts in
    subst (λ (f : Frame). IsBlankFrame f) e (record { slots_are = slots ∙ ap (λ (s : FrameShape). replicate (s.bits / 8) blank) (sym shape) })
blank_frame (one ∷ frames) (row ∷ rows) (suc number) frame same is = blank_frame frames rows number frame (cc) is

-- a member of a list of the same
get_replicate : {A : Type 0} (count : ℕ) (x y : A) (i : ℕ) → slice_get (replicate count x) i ≡ Some y → x ≡ y
get_replicate zero x y i found = cc
get_replicate (suc count) x y zero found = cc
get_replicate (suc count) x y (suc i) found = get_replicate count x y i found

-- functions that are not running
idle_live : (count : ℕ) (owner : Option ℕ) → is_live (running_of (replicate count idle)) owner ≡ is_active owner []
idle_live count None = refl
idle_live count (Some function) = go count function
  where
    go : (count function : ℕ) → true_or (slice_get (running_of (replicate count idle)) function) ≡ false
    go zero function = refl
    go (suc count) zero = refl
    go (suc count) (suc function) = go count function

idle_mark : (count : ℕ) (owner : Option ℕ) → mark_of (replicate count idle) owner ≡ 1
idle_mark count None = refl
idle_mark count (Some function) = go count function
  where
    go : (count function : ℕ) → mark_or (slice_get (replicate count idle) function) ≡ 1
    go zero function = refl
    go (suc count) zero = refl
    go (suc count) (suc function) = go count function

blank_held : (count byte : ℕ) → held (replicate count blank) 1 byte ≡ None
blank_held zero byte = refl
blank_held (suc count) zero = refl
blank_held (suc count) (suc byte) = blank_held count byte

module _ (frames : List Frame) (rows : List FrameRow) (count : ℕ) (same : map parts_of frames ≡ map blank_parts rows) where
  pub blank_stands : Stands frames (replicate count idle) []
  blank_stands = record {
    sound = tt;
    each = λ number frame is.
        let b = blank_frame frames rows number frame same is in
        record {
          same = idle_live count frame.shape.owner;
          bytes = λ lives byte inside. rw (idle_mark count frame.shape.owner, b.slots_are) (blank_held (frame.shape.bits / 8) byte);
        };
  }

  pub blank_kept : AreKept frames (replicate count idle)
  blank_kept number frame is =
      let b = blank_frame frames rows number frame same is in
      record {
        sized = ap length b.slots_are ∙ length-replicate (frame.shape.bits / 8) blank;
        older = λ byte slot get.
            let e : blank ≡ slot = get_replicate (frame.shape.bits / 8) blank slot byte (rw b.slots_are at get) in
            subst (λ (s : Slot). s.mark ≤ mark_of (replicate count idle) frame.shape.owner) e (omega arith);
      }

-- the frames are those of the rows
pub blank_shapes : (frames : List Frame) (rows : List FrameRow) (functions : List Activity)
    → map parts_of frames ≡ map blank_parts rows
    → shapes (memory_of frames functions) ≡ shapes_of rows
blank_shapes [] [] functions same = refl
blank_shapes [] (row ∷ rows) functions same = cc
blank_shapes (frame ∷ frames) [] functions same = cc
blank_shapes (frame ∷ frames) (row ∷ rows) functions same =
    let parts : parts_of frame ≡ blank_parts row = cc in
    let shape : frame.shape ≡ record { owner = row.owner; bits = row.bits } = ap (λ p. p.0) parts in
    let rest : map parts_of frames ≡ map blank_parts rows = cc in
    rw (shape, blank_shapes frames rows functions rest) refl

-- memory with such frames and functions
module _ (frames : List Frame) (functions : List Activity) (rows : List FrameRow) (count : ℕ)
    (same : map parts_of frames ≡ map blank_parts rows) (idles : functions ≡ replicate count idle) where
  -- each frame is kept as it must be
  pub new_kept : AreKept frames functions
  new_kept = subst (λ (all : List Activity). AreKept frames all) (sym idles) (blank_kept frames rows count same)

  -- it stands for the empty history
  pub new_stands : StandsFor (memory_of frames functions) []
  new_stands = to_seen frames functions [] (subst (λ (all : List Activity). Stands frames all []) (sym idles) (blank_stands frames rows count same))

  -- it has the frames and the functions of the program
  pub new_made : (program : NumberedProgram) → rows ≡ program.frames → count ≡ length program.funcs
      → IsMadeFor program (memory_of frames functions)
  new_made program frames_are count_is = record {
    shapes_are = blank_shapes frames rows functions same ∙ ap shapes_of frames_are;
    functions_are = length-map functions (λ activity. activity.runs) ∙ (ap length idles ∙ (length-replicate count idle ∙ count_is));
  }
