-- What is left to show of `store_all`: facts of the proof files, applied.
use Rattle.std.proofs.lemmas.Result.{on_ok_weaker}
use Rattle.abstract_memory.proofs.Changing.{alone_changes, many_change}
use Rattle.abstract_memory.proofs.stores.store_all.Goals as goal

pub returns-in-len1 : goal.returns-in-len1
returns-in-len1 c =
    on_ok_weaker c.store_in.result
    (alone_changes c.args.frames.now c.store_in.new.frames c.args.cells.now _ c.args.size c.args.value.now c.in-len1.len_at_least c.in-len1.len_below)
    c.store_in.ensures

pub returns-in-len2-up : goal.returns-in-len2-up
returns-in-len2-up c =
    on_ok_weaker c.mix_all.result
    (many_change c.args.frames.now c.mix_all.new.frames c.args.cells.now c.args.size c.args.value.now c.in-len2-up.len_at_least)
    c.mix_all.ensures
