-- What is left to show of `store_first`: the frame has what the slot holds that was put or is there.
use Rattle.std.specs.Prelude.{slice_set}
use Rattle.std.proofs.Common.{◌∙◌, ap, refl, subst}
use Rattle.std.proofs.lemmas.Result.{on_ok_weaker}
use Rattle.memory_pages.specs.declared.byte.Byte.{Byte}
use Rattle.frame_memory.specs.Places.{IsStored}
use Rattle.frame_memory.proofs.Sizes.{first_room}
use Rattle.frame_memory.proofs.Stores.{strong_first, strong_kept}
use Rattle.frame_memory.proofs.strong.store_first.Goals as goal

pub new_byte-byte-requires : goal.new_byte-byte-requires
new_byte-byte-requires c = first_room c.args.value.now c.args.size c.requires.value c.requires.size

pub returns-then-is_stored : goal.returns-then-is_stored
returns-then-is_stored c =
    strong_kept c.args.slots.now c.args.offset c.args.size c.args.value.now c.requires.size c.requires.fits
    (subst (λ (b : Byte). IsStored c.args.slots.now c.args.offset c.args.size c.args.value.now b) c.new_byte-byte.ensures.byte (c.if-is_stored.ensures refl))

pub returns : goal.returns
returns c = on_ok_weaker c.put.result (λ put.
    strong_first c.args.slots.now c.args.offset c.args.size c.args.value.now c.requires.size c.requires.fits c.put.new.self
    (put ∙ ap (λ s. slice_set c.args.slots.now c.args.offset s) c.in_ok-slot.ensures))
    c.put.ensures
