-- What is left to show of `store`: facts of the proof files, applied.
use Rattle.std.proofs.Common.{◌≢◌, ◌↔◌, ◌∙◌, ap, subst, refl, Bool, [], List, IfOk, IsTrue}
use Rattle.std.specs.Vec.{with_items}
use Rattle.std.proofs.lemmas.List.{with_items_is}
use Rattle.std.proofs.lemmas.Result.{on_ok_weaker}
use Rattle.alf_check.specs.declared.rows.FrameRow.{FrameRow}
use Rattle.alf_check.specs.Shapes.{shapes_of}
use Rattle.abstract_memory.specs.Running.{runs_in}
use Rattle.memory_pages.specs.Slots.{HeldSlot}
use Rattle.memory_rules.specs.AbstractSets.{abstract_sets}
use Rattle.memory_rules.specs.Addresses.{cells_of}
use Rattle.memory_rules.specs.Memories.{Mem, stored}
use Rattle.memory_model.specs.KeptMemories.{MemoryParts}
use Rattle.abstract_memory.specs.Cells.{Changes}
use Rattle.abstract_memory.proofs.Lent.{lent, kept_in}
use Rattle.abstract_memory.proofs.memory.AMem.store.Goals as goal

pub returns-clause-kept : goal.returns-clause-kept
returns-clause-kept c =
    let parts : MemoryParts = record { checked = c.self.inside.checked.now; running = c.self.inside.running; frames = c.self.inside.frames.items } in
    let after = (λ (m : Mem abstract_sets). stored abstract_sets m (cells_of (shapes_of c.frames.result.now) (runs_in c.as_slice.result.now) c.args.at.now.places c.args.size) c.args.size c.args.value.now) in
    on_ok_weaker c.store_through.result
    (λ changes. kept_in parts c.args.self.now c.store_through.new.frames (with_items c.self.inside.frames c.store_through.new.frames).items after c.self.view_is
    (with_items_is c.self.inside.frames c.store_through.new.frames (c.store_through.auto.frames ∙ c.deref_mut.ensures.len))
    (subst (λ (fs : List (List HeldSlot)). Changes fs c.store_through.new.frames after) (c.deref_mut.ensures.value ∙ ap (λ (m : MemoryParts). m.frames) c.self.view_is) changes) c.requires.kept)
    c.store_through.ensures.changes

pub returns-clause-goes_on : goal.returns-clause-goes_on
returns-clause-goes_on c =
    let parts : MemoryParts = record { checked = c.self.inside.checked.now; running = c.self.inside.running; frames = c.self.inside.frames.items } in
    lent (λ (rows : List FrameRow) (running : List Bool) (frames : List (List HeldSlot)).
    IfOk c.store_through.result (λ stored. IsTrue stored.0 ↔ (cells_of (shapes_of rows) (runs_in running) c.args.at.now.places c.args.size ≢ [])))
    parts c.args.self.now c.frames.result.now c.as_slice.result.now parts.frames c.self.view_is c.frames.ensures.frames c.as_slice.ensures refl c.store_through.ensures.goes_on
