-- What is left to show of `mark_wider`: the frame has what the slot that was put holds.
use Rattle.std.specs.Prelude.{slice_set}
use Rattle.std.proofs.Common.{◌∙◌, sym, ap}
use Rattle.std.proofs.lemmas.Result.{on_ok_weaker}
use Rattle.frame_memory.proofs.Changes.{marked}
use Rattle.frame_memory.proofs.marked.mark_wider.Goals as goal

pub returns : goal.returns
returns c = on_ok_weaker c.put.result (λ put.
    marked c.args.slots.now c.args.place c.in-Some.slot.now c.args.than (sym c.in-Some.ensures) c.put.new.slots c.requires
    (put ∙ ap (λ s. slice_set c.args.slots.now c.args.place s) c.in_ok-marked.ensures))
    c.put.ensures
