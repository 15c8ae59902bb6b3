-- What calls on the parts of a memory say of the memory.
--   lent, taken   a fact of the parts that were lent is one of the memory, and the other way round
--   with_running, with_frames   a memory with other flags, or other frames
--   changed_in    the memory after a change of its frames
--   kept_in       and what it keeps
use Rattle.std.proofs.Common.{Bool, ◌≡◌, ◌∙◌, ap, subst, sym, List}
use Rattle.alf_check.specs.declared.rows.FrameRow.{FrameRow}
use Rattle.memory_pages.specs.Slots.{HeldSlot}
use Rattle.memory_rules.specs.AbstractSets.{abstract_sets}
use Rattle.memory_rules.specs.Memories.{Mem}
use Rattle.memory_model.specs.HeldMemories.{memory_of}
use Rattle.memory_model.specs.KeptMemories.{MemoryParts, memory_in, IsMemory}
use Rattle.abstract_memory.specs.Cells.{Changes}
use Rattle.abstract_memory.proofs.Changing.{changed_kept}

-- a fact of rows, flags and frames
abbrev pub PartsFact : Type 1
PartsFact = List FrameRow → List Bool → List (List HeldSlot) → Type 0

-- a fact of the parts that were lent is one of the memory
pub lent : (P : PartsFact) (parts now : MemoryParts) (rows : List FrameRow) (running : List Bool) (frames : List (List HeldSlot))
    → parts ≡ now → rows ≡ parts.checked.frames → running ≡ parts.running → frames ≡ parts.frames
    → P rows running frames → P now.checked.frames now.running now.frames
lent P parts now rows running frames same rows_are running_is frames_are fact =
    subst (λ (m : MemoryParts). P m.checked.frames m.running m.frames) same
    (subst (λ (f : List (List HeldSlot)). P parts.checked.frames parts.running f) frames_are
    (subst (λ (r : List Bool). P parts.checked.frames r frames) running_is
    (subst (λ (r : List FrameRow). P r running frames) rows_are fact)))

-- and the other way round
pub taken : (P : PartsFact) (parts now : MemoryParts) (rows : List FrameRow) (running : List Bool) (frames : List (List HeldSlot))
    → parts ≡ now → rows ≡ parts.checked.frames → running ≡ parts.running → frames ≡ parts.frames
    → P now.checked.frames now.running now.frames → P rows running frames
taken P parts now rows running frames same rows_are running_is frames_are fact =
    subst (λ (r : List FrameRow). P r running frames) (sym rows_are)
    (subst (λ (r : List Bool). P parts.checked.frames r frames) (sym running_is)
    (subst (λ (f : List (List HeldSlot)). P parts.checked.frames parts.running f) (sym frames_are)
    (subst (λ (m : MemoryParts). P m.checked.frames m.running m.frames) (sym same) fact)))

abbrev pub with_running : MemoryParts → List Bool → MemoryParts
with_running parts running = record { checked = parts.checked; running = running; frames = parts.frames }

abbrev pub with_frames : MemoryParts → List (List HeldSlot) → MemoryParts
with_frames parts items = record { checked = parts.checked; running = parts.running; frames = items }

-- the memory after a change of its frames
pub changed_in : (parts now : MemoryParts) (frames items : List (List HeldSlot)) (f : Mem abstract_sets → Mem abstract_sets) → parts ≡ now → items ≡ frames
    → Changes now.frames frames f → memory_in (with_frames parts items) ≡ f (memory_in now)
changed_in parts now frames items f same is changes =
    ap (λ (fs : List (List HeldSlot)). memory_of parts.running fs) is
    ∙ (ap (λ (m : MemoryParts). memory_of m.running frames) same ∙ changes.memory now.running)

-- and what it keeps
pub kept_in : (parts now : MemoryParts) (frames items : List (List HeldSlot)) (f : Mem abstract_sets → Mem abstract_sets) → parts ≡ now → items ≡ frames
    → Changes now.frames frames f → IsMemory now → IsMemory (with_frames parts items)
kept_in parts now frames items f same is changes kept =
    subst (λ (fs : List (List HeldSlot)). IsMemory (with_frames parts fs)) (sym is)
    (subst (λ (m : MemoryParts). IsMemory (with_frames m frames)) (sym same) (changed_kept now frames f kept changes))
