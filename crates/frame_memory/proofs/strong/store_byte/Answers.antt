-- What is left to show of `store_byte`: the frame has the byte that was put.
use Rattle.std.specs.Prelude.{slice_set, length}
use Rattle.std.proofs.Common.{◌∙◌, ap, ◌<◌, arith}
use Rattle.std.proofs.lemmas.Result.{on_ok_weaker}
use Rattle.memory_pages.specs.Slots.{bare}
use Rattle.frame_memory.proofs.Stores.{strong_later}
use Rattle.frame_memory.proofs.strong.store_byte.Goals as goal

pub returns : goal.returns
returns c =
    let there : c.args.place < length c.args.slots.now = omega arith in
    on_ok_weaker c.put_bare.result (λ put.
    strong_later c.args.slots.now c.put_bare.new.slots c.args.offset c.args.size c.args.place c.args.value.now c.requires.size c.requires.after c.requires.inside there
    (put ∙ ap (λ b. slice_set c.args.slots.now c.args.place (bare b)) c.new_byte-byte.ensures.byte))
    c.put_bare.ensures
