-- What is left to show of `enter`: facts of the proof files, applied.
use Rattle.std.proofs.Common.{◌≡◌, ◌∙◌, ap, sym, subst, ◌<◌, length, List, Bool}
use Rattle.std.specs.Vec.{with_items}
use Rattle.std.proofs.lemmas.List.{with_items_is}
use Rattle.alf_check.specs.declared.rows.FrameRow.{FrameRow}
use Rattle.alf_check.specs.Shapes.{shapes_of}
use Rattle.memory_rules.specs.AbstractSets.{abstract_sets}
use Rattle.memory_rules.specs.Memories.{entered}
use Rattle.memory_model.specs.HeldMemories.{entered_frames, memory_of}
use Rattle.memory_model.specs.KeptMemories.{MemoryParts, memory_in, rows_of, IsMemory}
use Rattle.abstract_memory.proofs.Entered.{kept_with, is_with}
use Rattle.abstract_memory.proofs.memory.AMem.enter.Goals as goal

pub returns-clause-kept : goal.returns-clause-kept
returns-clause-kept c =
    let parts : MemoryParts = record { checked = c.self.inside.checked.now; running = c.self.inside.running; frames = c.self.inside.frames.items } in
    let frames : (with_items c.self.inside.frames c.empty_frames.new.frames).items ≡ entered_frames (rows_of parts.checked) c.args.func parts.frames =
    with_items_is c.self.inside.frames c.empty_frames.new.frames (c.empty_frames.auto.frames ∙ c.deref_mut.ensures.len)
    ∙ (c.in_ok-empty_frames.ensures
    ∙ (ap (λ (rows : List FrameRow). entered_frames (shapes_of rows) c.args.func c.deref_mut.result.now) c.frames.ensures.frames
    ∙ ap (entered_frames (rows_of parts.checked) c.args.func) c.deref_mut.ensures.value)) in
    subst (λ (r : List Bool). IsMemory (record { checked = parts.checked; running = r; frames = (with_items c.self.inside.frames c.empty_frames.new.frames).items })) (sym c.set.ensures)
    (kept_with parts c.args.func (subst IsMemory (sym c.self.view_is) c.requires.kept) (subst (λ (m : MemoryParts). c.args.func < length m.running) (sym c.self.view_is) c.requires.func)
    c.held_memories_are_those_of_the_rules.ensures.entered (with_items c.self.inside.frames c.empty_frames.new.frames).items frames)

pub returns-clause-entered : goal.returns-clause-entered
returns-clause-entered c =
    let parts : MemoryParts = record { checked = c.self.inside.checked.now; running = c.self.inside.running; frames = c.self.inside.frames.items } in
    let frames : (with_items c.self.inside.frames c.empty_frames.new.frames).items ≡ entered_frames (rows_of parts.checked) c.args.func parts.frames =
    with_items_is c.self.inside.frames c.empty_frames.new.frames (c.empty_frames.auto.frames ∙ c.deref_mut.ensures.len)
    ∙ (c.in_ok-empty_frames.ensures
    ∙ (ap (λ (rows : List FrameRow). entered_frames (shapes_of rows) c.args.func c.deref_mut.result.now) c.frames.ensures.frames
    ∙ ap (entered_frames (rows_of parts.checked) c.args.func) c.deref_mut.ensures.value)) in
    ap (λ (r : List Bool). memory_of r (with_items c.self.inside.frames c.empty_frames.new.frames).items) c.set.ensures
    ∙ (is_with parts c.args.func (subst IsMemory (sym c.self.view_is) c.requires.kept) (subst (λ (m : MemoryParts). c.args.func < length m.running) (sym c.self.view_is) c.requires.func)
    c.held_memories_are_those_of_the_rules.ensures.entered (with_items c.self.inside.frames c.empty_frames.new.frames).items frames
    ∙ ap (λ (m : MemoryParts). entered abstract_sets (rows_of m.checked) (memory_in m) c.args.func) c.self.view_is)
