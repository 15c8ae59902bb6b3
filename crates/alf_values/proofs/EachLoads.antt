-- Loads of memory that stands for a history.
--   each_load   each cell of an active frame gives by its bytes what the history's load gives
use Rattle.std.specs.Prelude.{slice_get}
use Rattle.std.proofs.Common.{◌≡◌, sym, ◌∙◌, ap, true, Some, Ok, refl, arith, ◌*◌, ◌+◌}
use Rattle.std.proofs.lemmas.Bool.{le-leb}
use Rattle.alf_ops.specs.declared.history.Value.TheVariants.{Ptr}
use Rattle.alf_ops.specs.Histories.{is_active, fits_in, address_in, address_of}
use Rattle.alf_ops.specs.Histories as histories
use Rattle.alf_values.specs.Memories.{shapes, byte_in}
use Rattle.alf_values.specs.Standing.{EachLoad}
use Rattle.alf_values.proofs.Functions.{get_map}
use Rattle.alf_values.proofs.Loads.{held_as_stored}

-- each cell of an active frame gives by its bytes what the history's load gives
pub each_load : EachLoad
each_load memory history number frame offset size stands cell =
    let s = stands.each number frame cell.known in
    let shape : slice_get (shapes memory) number ≡ Some frame.shape = get_map (λ one. one.shape) memory.frames number frame cell.known in
    let active : is_active frame.shape.owner history ≡ true = sym s.active ∙ cell.active in
    let fits : fits_in frame.shape.bits offset size ≡ true = le-leb (offset * 8 + size) frame.shape.bits cell.within in
    let inside : address_in (Some frame.shape) history number offset size ≡ Ok (record { frame = number; owner = frame.shape.owner; offset = offset }) = rw (active, fits) refl in
    let place : address_of (shapes memory) history (Ptr number offset) size ≡ Ok (record { frame = number; owner = frame.shape.owner; offset = offset }) =
    ap (λ got. address_in got history number offset size) shape ∙ inside in
    held_as_stored frame.shape.owner number history (byte_in frame.bytes) offset size stands.sound (omega (arith, cell.cell.least), cell.cell.bytes)
    (λ byte low high. s.bytes cell.active byte (omega (arith, cell.within, cell.cell.bytes)))
    ∙ sym (ap (histories.loaded history size) place)
