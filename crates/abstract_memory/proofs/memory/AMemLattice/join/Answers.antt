-- What is left to show of `join`: facts of the proof files, applied.
use Rattle.std.proofs.Common.{◌≡◌, ◌∙◌, ap, sym, subst, Bool, List}
use Rattle.alf_check.specs.declared.rows.FrameRow.{FrameRow}
use Rattle.alf_check.specs.CheckedPrograms.{CheckedParts}
use Rattle.memory_pages.specs.Slots.{HeldSlot}
use Rattle.memory_model.specs.HeldMemories.{joined_frames}
use Rattle.memory_model.specs.KeptMemories.{MemoryParts}
use Rattle.abstract_memory.specs.Rows.{AreFrames}
use Rattle.abstract_memory.proofs.Joined.{are_frames, joined_parts}
use Rattle.abstract_memory.proofs.memory.AMemLattice.join.Goals as goal

pub frames_joined-requires-clause-first : goal.frames_joined-requires-clause-first
frames_joined-requires-clause-first c =
    let own = c.requires.first in
    subst (λ (rows : List FrameRow). AreFrames rows c.deref.result.now) (sym (c.frames.ensures.frames ∙ ap (λ (m : MemoryParts). m.checked.frames) c.self.view_is))
    (subst (λ (fs : List (List HeldSlot)). AreFrames c.args.self.now.checked.frames fs) (sym (c.deref.ensures.value ∙ ap (λ (m : MemoryParts). m.frames) c.self.view_is))
    (are_frames c.args.self.now.checked.frames c.args.self.now.frames own.frames own.canonical own.sized))

pub frames_joined-requires-clause-second : goal.frames_joined-requires-clause-second
frames_joined-requires-clause-second c =
    let own = c.requires.second in
    subst (λ (rows : List FrameRow). AreFrames rows c.deref-2.result.now)
    (sym (c.frames.ensures.frames ∙ ap (λ (m : MemoryParts). m.checked.frames) c.self.view_is ∙ ap (λ (k : CheckedParts). k.frames) c.requires.checked))
    (subst (λ (fs : List (List HeldSlot)). AreFrames c.args.other.now.checked.frames fs) (sym (c.deref-2.ensures.value ∙ ap (λ (m : MemoryParts). m.frames) c.other.view_is))
    (are_frames c.args.other.now.checked.frames c.args.other.now.frames own.frames own.canonical own.sized))

pub returns : goal.returns
returns c =
    let frames : c.in_ok-frames.frames.items ≡ joined_frames c.args.self.now.frames c.args.other.now.frames =
    c.in_ok-frames.ensures
    ∙ (ap (λ (fs : List (List HeldSlot)). joined_frames fs c.deref-2.result.now) (c.deref.ensures.value ∙ ap (λ (m : MemoryParts). m.frames) c.self.view_is)
    ∙ ap (joined_frames c.args.self.now.frames) (c.deref-2.ensures.value ∙ ap (λ (m : MemoryParts). m.frames) c.other.view_is)) in
    let running : c.in_ok-running.running ≡ c.args.self.now.running =
    c.in_ok-running.ensures ∙ ap (λ (m : MemoryParts). m.running) c.self.view_is in
    ap (λ (m : MemoryParts). record { checked = m.checked; running = c.in_ok-running.running; frames = c.in_ok-frames.frames.items }) c.self.view_is
    ∙ (ap (λ (r : List Bool). record { checked = c.args.self.now.checked; running = r; frames = c.in_ok-frames.frames.items }) running
    ∙ (ap (λ (fs : List (List HeldSlot)). record { checked = c.args.self.now.checked; running = c.args.self.now.running; frames = fs }) frames
    ∙ joined_parts c.args.self.now c.args.other.now c.requires c.held_memories_are_those_of_the_rules.ensures.joined))
