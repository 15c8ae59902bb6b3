-- What is left to show of `leave`: facts of the proof files, applied.
use Rattle.std.proofs.Common.{◌∙◌, sym, subst, ap, ◌<◌, length, false, List, Bool}
use Rattle.memory_rules.specs.AbstractSets.{abstract_sets}
use Rattle.memory_rules.specs.Memories.{left}
use Rattle.memory_model.specs.HeldMemories.{memory_of}
use Rattle.memory_model.specs.KeptMemories.{MemoryParts, memory_in, IsMemory}
use Rattle.abstract_memory.proofs.Lent.{with_running}
use Rattle.abstract_memory.proofs.Started.{kept_after}
use Rattle.abstract_memory.proofs.memory.AMem.leave.Goals as goal

pub returns-clause-kept : goal.returns-clause-kept
returns-clause-kept c =
    let parts : MemoryParts = record { checked = c.self.inside.checked.now; running = c.self.inside.running; frames = c.self.inside.frames.items } in
    λ is. subst (λ (r : List Bool). IsMemory (with_running parts r)) (sym c.set.ensures) (kept_after parts c.args.func false (subst IsMemory (sym c.self.view_is) is))

pub returns-clause-left : goal.returns-clause-left
returns-clause-left c =
    ap (λ (r : List Bool). memory_of r c.self.inside.frames.items) c.set.ensures
    ∙ (c.held_memories_are_those_of_the_rules.ensures.left c.self.inside.running c.self.inside.frames.items c.args.func
    (subst (λ (m : MemoryParts). c.args.func < length m.running) (sym c.self.view_is) c.requires)
    ∙ ap (λ m. left abstract_sets (memory_in m) c.args.func) c.self.view_is)
