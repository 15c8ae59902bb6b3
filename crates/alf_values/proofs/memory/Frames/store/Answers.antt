-- What is left to show of `store`: facts of the proof files, applied.
use Rattle.std.proofs.Common.{◌≡◌, ◌∙◌, sym, subst, ap, Ok, List}
use Rattle.std.specs.Vec.{with_items}
use Rattle.std.proofs.lemmas.List.{with_items_is}
use Rattle.alf_ops.specs.Values.{size_of}
use Rattle.alf_values.specs.declared.cells.Frame.{Frame}
use Rattle.alf_values.specs.Memories.{shapes}
use Rattle.alf_values.specs.Standing.{StoresTo}
use Rattle.alf_values.specs.Cells.{mark_of, memory_of, running_of, tested, shapes_in, AreKept}
use Rattle.alf_values.proofs.Events.{shapes_seen, refused, kept_after, stores}
use Rattle.alf_values.proofs.memory.Frames.store.Goals as goal

pub invariant_of-self : goal.invariant_of-self
invariant_of-self c =
    let frames = c.self.inside.frames.items in
    let functions = c.self.inside.functions.items in
    let is : tested frames (running_of functions) c.args.at (size_of c.args.value) ≡ Ok c.in-Ok.cell =
    rw (c.deref.ensures.value, c.deref-2.ensures.value, c.bits_in-size.ensures) at (sym c.cell_at.ensures) ∙ c.in-Ok.is in
    let own : c.mark_in-mark.result ≡ mark_of functions c.in-Ok.cell.owner = c.mark_in-mark.ensures ∙ ap (λ all. mark_of all c.in-Ok.cell.owner) c.deref-in-Ok.ensures.value in
    let items : (with_items c.self.inside.frames c.write_in.new.frames).items ≡ c.write_in.new.frames =
    with_items_is c.self.inside.frames c.write_in.new.frames (c.write_in.auto.frames ∙ c.deref_mut.ensures.len) in
    subst (λ (new : List Frame). AreKept new functions) (sym items)
    (kept_after frames functions c.args.self.now c.self.view_is c.write_in.new.frames c.args.at c.args.value c.in-Ok.cell c.mark_in-mark.result is own
    (rw (c.deref_mut.ensures.value, c.bits_in-size.ensures) at c.write_in.ensures.here)
    (rw c.deref_mut.ensures.value at c.write_in.ensures.others)
    c.self.invariant)

pub returns-in-Err-clause-stands : goal.returns-in-Err-clause-stands
returns-in-Err-clause-stands c =
    refused c.self.inside.frames.items c.self.inside.functions.items c.args.self.now c.self.view_is c.args.at c.args.value c.in-Err.fault
    (rw (c.deref.ensures.value, c.deref-2.ensures.value, c.bits_in-size.ensures) at (sym c.cell_at.ensures) ∙ c.in-Err.is)

pub returns-in-Ok-clause-shapes : goal.returns-in-Ok-clause-shapes
returns-in-Ok-clause-shapes c =
    let items : (with_items c.self.inside.frames c.write_in.new.frames).items ≡ c.write_in.new.frames =
    with_items_is c.self.inside.frames c.write_in.new.frames (c.write_in.auto.frames ∙ c.deref_mut.ensures.len) in
    shapes_seen (with_items c.self.inside.frames c.write_in.new.frames).items c.self.inside.functions.items
    ∙ (ap shapes_in items
    ∙ ((rw c.deref_mut.ensures.value at c.write_in.ensures.shapes)
    ∙ (sym (shapes_seen c.self.inside.frames.items c.self.inside.functions.items)
    ∙ ap shapes c.self.view_is)))

pub returns-in-Ok-clause-stands : goal.returns-in-Ok-clause-stands
returns-in-Ok-clause-stands c = λ history stands.
    let frames = c.self.inside.frames.items in
    let functions = c.self.inside.functions.items in
    let is : tested frames (running_of functions) c.args.at (size_of c.args.value) ≡ Ok c.in-Ok.cell =
    rw (c.deref.ensures.value, c.deref-2.ensures.value, c.bits_in-size.ensures) at (sym c.cell_at.ensures) ∙ c.in-Ok.is in
    let own : c.mark_in-mark.result ≡ mark_of functions c.in-Ok.cell.owner = c.mark_in-mark.ensures ∙ ap (λ all. mark_of all c.in-Ok.cell.owner) c.deref-in-Ok.ensures.value in
    let items : (with_items c.self.inside.frames c.write_in.new.frames).items ≡ c.write_in.new.frames =
    with_items_is c.self.inside.frames c.write_in.new.frames (c.write_in.auto.frames ∙ c.deref_mut.ensures.len) in
    subst (λ (new : List Frame). StoresTo c.args.self.now (memory_of new functions) history c.args.at c.args.value) (sym items)
    (stores frames functions c.args.self.now c.self.view_is c.write_in.new.frames c.args.at c.args.value c.in-Ok.cell c.mark_in-mark.result is own
    (rw (c.deref_mut.ensures.value, c.bits_in-size.ensures) at c.write_in.ensures.here)
    (rw c.deref_mut.ensures.value at c.write_in.ensures.others)
    c.self.invariant c.requires history stands)
