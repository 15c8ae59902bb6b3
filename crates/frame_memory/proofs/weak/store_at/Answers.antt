-- What is left to show of `store_at`: the frame has what the slot that was put holds.
use Rattle.std.specs.Prelude.{length}
use Rattle.std.proofs.Common.{◌<◌, arith}
use Rattle.std.proofs.lemmas.Result.{on_ok_weaker}
use Rattle.frame_memory.proofs.Stores.{weak_inside}
use Rattle.frame_memory.proofs.weak.store_at.Goals as goal

pub returns : goal.returns
returns c =
    let there : c.args.place < length c.args.slots.now = omega arith in
    on_ok_weaker c.mix_at.result (λ mixed.
    weak_inside c.args.slots.now c.mix_at.new.slots c.args.offset c.args.size c.args.place c.args.cell.now c.args.value.now c.requires.size c.if-place-start.false c.requires.inside there mixed)
    c.mix_at.ensures
