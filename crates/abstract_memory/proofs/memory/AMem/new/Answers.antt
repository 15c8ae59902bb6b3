-- What is left to show of `new`: facts of the proof files, applied.
use Rattle.abstract_memory.proofs.Started.{new_fresh, new_kept}
use Rattle.abstract_memory.proofs.memory.AMem.new.Goals as goal

pub returns-clause-kept : goal.returns-clause-kept
returns-clause-kept c =
    new_kept c.args.checked.now c.in_ok-frames.frames.items c.in_ok-running.running c.frames.result.now c.func_count.result
    c.in_ok-frames.ensures c.in_ok-running.ensures c.frames.ensures.frames c.func_count.ensures c.held_memories_are_those_of_the_rules.ensures.fresh

pub returns-clause-fresh : goal.returns-clause-fresh
returns-clause-fresh c =
    new_fresh c.args.checked.now c.in_ok-frames.frames.items c.in_ok-running.running c.frames.result.now c.func_count.result
    c.in_ok-frames.ensures c.in_ok-running.ensures c.frames.ensures.frames c.func_count.ensures c.held_memories_are_those_of_the_rules.ensures.fresh
