-- What is left to show of `pin`: the frame has what the slot that was put holds.
use Rattle.std.specs.Prelude.{slice_set, length}
use Rattle.std.proofs.Common.{◌∙◌, sym, ap, refl, Some}
use Rattle.std.proofs.lemmas.Result.{on_ok_weaker}
use Rattle.pointer_rules.specs.AbstractValues.{Words, alone}
use Rattle.memory_pages.specs.Slots.{with_cell}
use Rattle.frame_memory.specs.Places.{known, known_seen}
use Rattle.frame_memory.proofs.Stores.{begins_in, pins, pinned_before}
use Rattle.memory_model.specs.HeldFrames.{frame_of}
use Rattle.frame_memory.proofs.pins.pin.Goals as goal

pub returns-clause-pinned : goal.returns-clause-pinned
returns-clause-pinned c = on_ok_weaker c.put.result (λ put.
    (pins c.args.slots.now c.put.new.slots c.args.offset c.args.size (alone (Words c.args.words)) c.in-Some.slot.now c.requires.size (sym c.in-Some.ensures)
    (begins_in c.args.offset c.args.size (length c.args.slots.now) c.requires.size c.requires.fits)
    (put ∙ ap (λ s. slice_set c.args.slots.now c.args.offset s)
    (c.in_ok-changed.ensures ∙ ap (λ v. with_cell c.in-Some.slot.now c.args.size (known v)) c.word-value.ensures))).frame)
    c.put.ensures

pub returns-clause-canonical : goal.returns-clause-canonical
returns-clause-canonical c = on_ok_weaker c.put.result (λ put.
    (pins c.args.slots.now c.put.new.slots c.args.offset c.args.size (alone (Words c.args.words)) c.in-Some.slot.now c.requires.size (sym c.in-Some.ensures)
    (begins_in c.args.offset c.args.size (length c.args.slots.now) c.requires.size c.requires.fits)
    (put ∙ ap (λ s. slice_set c.args.slots.now c.args.offset s)
    (c.in_ok-changed.ensures ∙ ap (λ v. with_cell c.in-Some.slot.now c.args.size (known v)) c.word-value.ensures))).canonical)
    c.put.ensures

pub returns-then-is_pinned-clause-pinned : goal.returns-then-is_pinned-clause-pinned
returns-then-is_pinned-clause-pinned c = pinned_before (frame_of c.args.slots.now) c.args.offset c.args.size (alone (Words c.args.words))
    (c.if-is_pinned.ensures refl ∙ ap (λ v. Some (known_seen v)) c.word-value.ensures)
