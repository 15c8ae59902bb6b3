-- What is left to show of `pin`: facts of the proof files, applied.
use Rattle.std.proofs.Common.{◌∙◌, ap, subst, List}
use Rattle.std.specs.Vec.{with_items}
use Rattle.std.proofs.lemmas.List.{with_items_is}
use Rattle.std.proofs.lemmas.Result.{on_ok_weaker}
use Rattle.pointer_rules.specs.AbstractValues.{Words, alone}
use Rattle.memory_pages.specs.Slots.{HeldSlot}
use Rattle.memory_rules.specs.AbstractSets.{abstract_sets}
use Rattle.memory_rules.specs.Memories.{Mem, pinned_at}
use Rattle.memory_model.specs.KeptMemories.{MemoryParts}
use Rattle.abstract_memory.specs.Cells.{Changes}
use Rattle.abstract_memory.proofs.Lent.{changed_in, kept_in}
use Rattle.abstract_memory.proofs.memory.AMem.pin.Goals as goal

pub returns-clause-kept : goal.returns-clause-kept
returns-clause-kept c =
    let parts : MemoryParts = record { checked = c.self.inside.checked.now; running = c.self.inside.running; frames = c.self.inside.frames.items } in
    let after = (λ (m : Mem abstract_sets). pinned_at abstract_sets m (c.args.frame, c.args.offset) c.args.size (alone (Words c.args.value))) in
    on_ok_weaker c.pin_in.result
    (λ changes. kept_in parts c.args.self.now c.pin_in.new.frames (with_items c.self.inside.frames c.pin_in.new.frames).items after c.self.view_is
    (with_items_is c.self.inside.frames c.pin_in.new.frames (c.pin_in.auto.frames ∙ c.deref_mut.ensures.len))
    (subst (λ (fs : List (List HeldSlot)). Changes fs c.pin_in.new.frames after) (c.deref_mut.ensures.value ∙ ap (λ (m : MemoryParts). m.frames) c.self.view_is) changes) c.requires.kept)
    c.pin_in.ensures

pub returns-clause-pinned : goal.returns-clause-pinned
returns-clause-pinned c =
    let parts : MemoryParts = record { checked = c.self.inside.checked.now; running = c.self.inside.running; frames = c.self.inside.frames.items } in
    let after = (λ (m : Mem abstract_sets). pinned_at abstract_sets m (c.args.frame, c.args.offset) c.args.size (alone (Words c.args.value))) in
    on_ok_weaker c.pin_in.result
    (λ changes. changed_in parts c.args.self.now c.pin_in.new.frames (with_items c.self.inside.frames c.pin_in.new.frames).items after c.self.view_is
    (with_items_is c.self.inside.frames c.pin_in.new.frames (c.pin_in.auto.frames ∙ c.deref_mut.ensures.len))
    (subst (λ (fs : List (List HeldSlot)). Changes fs c.pin_in.new.frames after) (c.deref_mut.ensures.value ∙ ap (λ (m : MemoryParts). m.frames) c.self.view_is) changes))
    c.pin_in.ensures
