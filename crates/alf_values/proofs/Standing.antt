-- Which histories the memory stands for after one more event.
--   FrameHolds                    the slots of one frame hold what the history left there
--   Stands frames functions history   each frame's do
--   from_seen, to_seen            what the memory is seen as stands for the same histories
--   new_stands, left_stands, entered_stands, stored_stands   after each event
--   new_kept, left_kept, entered_kept, stored_kept           each frame is kept as it must be
use Rattle.std.specs.Prelude.{slice_get, slice_set, ◌==◌}
use Rattle.std.proofs.Common.{◌≡◌, ◌≢◌, inl, inr, sym, subst, ◌∙◌, ap, ℕ, suc, zero, Bool, true, false, List, [], ◌∷◌, map, Option, Some, None, refl, arith, ◌-◌, ◌/◌, ◌<◌, ◌≤◌, length}
use Rattle.std.proofs.lemmas.Bool.{cases_eq, cases_lt, eq-eqb, ne_eqb, false≢true}
use Rattle.std.proofs.lemmas.Option.{slice_get_past}
use Rattle.lists.specs.TestLaws.{by_test}
use Rattle.alf_ops.specs.declared.history.Value.{Value}
use Rattle.alf_ops.specs.declared.history.RunEvent.{RunEvent}
use Rattle.alf_ops.specs.declared.history.RunEvent.TheVariants.{Enter, Leave, Store}
use Rattle.alf_ops.specs.declared.history.FrameShape.{FrameShape}
use Rattle.alf_ops.specs.Values.{FitsValue}
use Rattle.alf_ops.specs.Histories.{origin, is_active, is_byte_of, IsSoundHistory}
use Rattle.alf_ops.specs.TableLaws.{cell_ends, origin_elsewhere}
use Rattle.alf_values.specs.declared.slots.Slot.{Slot}
use Rattle.alf_values.specs.declared.cells.Frame.{Frame}
use Rattle.alf_values.specs.declared.cells.Activity.{Activity}
use Rattle.alf_values.specs.Contents.{content_of}
use Rattle.alf_values.specs.Slots.{live, held_in, held, written}
use Rattle.alf_values.specs.Memories.{is_live, byte_in}
use Rattle.alf_values.specs.Standing.{FrameStandsFor, StandsFor}
use Rattle.alf_values.specs.Cells.{mark_of, running_of, held_frame, memory_of, IsKeptFrame, AreKept, IsFilled}
use Rattle.alf_values.proofs.Writes.{length-written, written_in, written_out, out_of, held_after}
use Rattle.alf_values.proofs.Functions.{get_map, map_found, live_same, live_other, mark_same, mark_other}

-- the slots of one frame hold what the history left there, while it is active
pub record FrameHolds (owner : Option ℕ) (bits : ℕ) (slots : List Slot) (active : Bool) (mark number : ℕ)
    (history : List RunEvent) : Type 0 where
  pub same : active ≡ is_active owner history
  pub bytes : active ≡ true → (byte : ℕ) → byte < bits / 8
      → held slots mark byte ≡ content_of (origin owner number history byte)

-- those of a frame that is kept do
abbrev pub Holds : List Activity → Frame → ℕ → List RunEvent → Type 0
Holds functions frame number history =
    FrameHolds frame.shape.owner frame.shape.bits frame.slots.items (is_live (running_of functions) frame.shape.owner) (mark_of functions frame.shape.owner) number history

-- and those of each frame
pub record Stands (frames : List Frame) (functions : List Activity) (history : List RunEvent) : Type 0 where
  pub sound : IsSoundHistory history
  pub each : (number : ℕ) (frame : Frame) → slice_get frames number ≡ Some frame → Holds functions frame number history

-- ---- what is seen

-- what a byte is seen to hold is what its slot holds
pub held_seen : (mark : ℕ) (slots : List Slot) (byte : ℕ) → byte_in (map (live mark) slots) byte ≡ held slots mark byte
held_seen mark [] byte = refl
held_seen mark (slot ∷ slots) zero = refl
held_seen mark (slot ∷ slots) (suc byte) = held_seen mark slots byte

module _ (frames : List Frame) (functions : List Activity) (history : List RunEvent) where
  pub from_seen : StandsFor (memory_of frames functions) history → Stands frames functions history
  from_seen h = record {
    sound = h.sound;
    each = λ number frame is.
        let s = h.each number (held_frame functions frame) (get_map (held_frame functions) frames number frame is) in
        record {
          same = s.active;
          bytes = λ lives byte inside. sym (held_seen (mark_of functions frame.shape.owner) frame.slots.items byte) ∙ s.bytes lives byte inside;
        };
  }

  pub to_seen : Stands frames functions history → StandsFor (memory_of frames functions) history
  to_seen h = record {
    sound = h.sound;
    each = λ number seen is.
        let f = map_found (held_frame functions) frames number seen is in
        let s = h.each number f.member f.known in
        subst (λ x. FrameStandsFor x (is_live (running_of functions) x.shape.owner) number history) f.image (record {
          active = s.same;
          bytes = λ lives byte inside. held_seen (mark_of functions f.member.shape.owner) f.member.slots.items byte ∙ s.bytes lives byte inside;
        });
  }

-- ---- a function was left

module _ (frames : List Frame) (functions : List Activity) (function : ℕ) (activity : Activity) (history : List RunEvent) (low : function < length functions) where
  frame_left : (owner : Option ℕ) (bits : ℕ) (slots : List Slot) (number : ℕ) → activity.runs ≡ false
      → activity.mark ≡ mark_of functions (Some function)
      → FrameHolds owner bits slots (is_live (running_of functions) owner) (mark_of functions owner) number history
      → FrameHolds owner bits slots (is_live (running_of (slice_set functions function activity)) owner) (mark_of (slice_set functions function activity) owner) number (Leave function ∷ history)
  frame_left None bits slots number stopped is h = record { same = h.same; bytes = h.bytes }
  frame_left (Some own) bits slots number stopped is h = elim (cases_eq own function) [
    | inl same ↦
        let now : is_live (running_of (slice_set functions function activity)) (Some own) ≡ false = live_same functions function activity own same low ∙ stopped in
        record {
          same = now ∙ sym (ended own (eq-eqb function own (sym same)));
          bytes = λ lives byte inside. absurd (false≢true (sym now ∙ lives));
        }
    | inr other ↦
        let now : is_live (running_of (slice_set functions function activity)) (Some own) ≡ is_live (running_of functions) (Some own) = live_other functions function activity own other in
        record {
          same = now ∙ (h.same ∙ sym (goes_on own (ne_eqb function own (λ e. other (sym e)))));
          bytes = λ lives byte inside. ap (λ (m : ℕ). held slots m byte) (mark_other functions function activity own other) ∙ h.bytes (sym now ∙ lives) byte inside;
        }
  ]
    where
      ended : (own : ℕ) → (function == own) ≡ true → is_active (Some own) (Leave function ∷ history) ≡ false
      ended own is = rw is refl

      goes_on : (own : ℕ) → (function == own) ≡ false
          → is_active (Some own) (Leave function ∷ history) ≡ is_active (Some own) history
      goes_on own is = rw is refl

  pub left_stands : activity.runs ≡ false → activity.mark ≡ mark_of functions (Some function)
      → Stands frames functions history
      → Stands frames (slice_set functions function activity) (Leave function ∷ history)
  left_stands stopped is h = record {
    sound = h.sound;
    each = λ number frame known. frame_left frame.shape.owner frame.shape.bits frame.slots.items number stopped is (h.each number frame known);
  }

  -- ---- a function was entered

  frame_entered : (owner : Option ℕ) (bits : ℕ) (slots : List Slot) (number : ℕ) → activity.runs ≡ true
      → mark_of functions (Some function) < activity.mark
      → ((byte : ℕ) (slot : Slot) → slice_get slots byte ≡ Some slot → slot.mark ≤ mark_of functions owner)
      → FrameHolds owner bits slots (is_live (running_of functions) owner) (mark_of functions owner) number history
      → FrameHolds owner bits slots (is_live (running_of (slice_set functions function activity)) owner) (mark_of (slice_set functions function activity) owner) number (Enter function ∷ history)
  frame_entered None bits slots number runs later older h = record { same = h.same; bytes = h.bytes }
  frame_entered (Some own) bits slots number runs later older h = elim (cases_eq own function) [
    | inl same ↦
        let now : is_live (running_of (slice_set functions function activity)) (Some own) ≡ true = live_same functions function activity own same low ∙ runs in
        let mark : mark_of (slice_set functions function activity) (Some own) ≡ activity.mark = mark_same functions function activity own same low in
        let before : mark_of functions (Some own) ≡ mark_of functions (Some function) = ap (λ (n : ℕ). mark_of functions (Some n)) same in
        record {
          same = now ∙ sym (begun own (eq-eqb function own (sym same)));
          bytes = λ lives byte inside.
              ap (λ (m : ℕ). held slots m byte) mark
              ∙ (none (slice_get slots byte) (λ slot get. omega (arith, older byte slot get, later, before))
              ∙ sym (emptied own number byte (eq-eqb own function same)));
        }
    | inr other ↦
        let now : is_live (running_of (slice_set functions function activity)) (Some own) ≡ is_live (running_of functions) (Some own) = live_other functions function activity own other in
        record {
          same = now ∙ (h.same ∙ sym (goes_on own (ne_eqb function own (λ e. other (sym e)))));
          bytes = λ lives byte inside.
              ap (λ (m : ℕ). held slots m byte) (mark_other functions function activity own other)
              ∙ (h.bytes (sym now ∙ lives) byte inside
              ∙ sym (kept own number byte (ne_eqb own function other)));
        }
  ]
    where
      none : (slot : Option Slot) → ((one : Slot) → slot ≡ Some one → one.mark < activity.mark)
          → held_in activity.mark slot ≡ None
      none None old = refl
      none (Some slot) old =
          let differ : slot.mark ≢ activity.mark = λ e. omega (arith, old slot refl) in
          rw (ne_eqb slot.mark activity.mark differ) refl

      begun : (own : ℕ) → (function == own) ≡ true → is_active (Some own) (Enter function ∷ history) ≡ true
      begun own is = rw is refl

      goes_on : (own : ℕ) → (function == own) ≡ false
          → is_active (Some own) (Enter function ∷ history) ≡ is_active (Some own) history
      goes_on own is = rw is refl

      emptied : (own number byte : ℕ) → (own == function) ≡ true
          → content_of (origin (Some own) number (Enter function ∷ history) byte) ≡ None
      emptied own number byte is = rw is refl

      kept : (own number byte : ℕ) → (own == function) ≡ false
          → content_of (origin (Some own) number (Enter function ∷ history) byte) ≡ content_of (origin (Some own) number history byte)
      kept own number byte is = rw is refl

  pub entered_stands : activity.runs ≡ true → mark_of functions (Some function) < activity.mark
      → AreKept frames functions → Stands frames functions history
      → Stands frames (slice_set functions function activity) (Enter function ∷ history)
  entered_stands runs later keeps h = record {
    sound = h.sound;
    each = λ number frame known.
        frame_entered frame.shape.owner frame.shape.bits frame.slots.items number runs later (keeps number frame known).older (h.each number frame known);
  }

-- ---- a value was stored

-- a store leaves what is active
store_active : (owner : Option ℕ) (frame offset size : ℕ) (value : Value) (history : List RunEvent)
    → is_active owner (Store frame offset size value ∷ history) ≡ is_active owner history
store_active None frame offset size value history = refl
store_active (Some function) frame offset size value history = refl

module _ (old new : List Frame) (functions : List Activity) (number offset size : ℕ) (value : Value) (frame : Frame)
    (known : slice_get old number ≡ Some frame)
    (here : IsFilled new number frame.shape (written (mark_of functions frame.shape.owner) value frame.slots.items offset 0 (size / 8)))
    (others : (other : ℕ) → other ≢ number → slice_get new other ≡ slice_get old other)
    (keeps : AreKept old functions) where
  -- the frame after the store is the one that was filled
  same_frame : (now : Frame) → slice_get new number ≡ Some now → here.frame ≡ now
  same_frame now is = let e : Some here.frame ≡ Some now = sym here.known ∙ is in cc

  pub stored_stands : (history : List RunEvent) → FitsValue size value → Stands old functions history
      → Stands new functions (Store number offset size value ∷ history)
  stored_stands history fits h = record {
    sound = (fits, h.sound);
    each = λ other now is. elim (cases_eq other number) [
      | inl same ↦
          subst (λ (n : ℕ). Holds functions now n (Store number offset size value ∷ history)) (sym same)
          (subst (λ (x : Frame). Holds functions x number (Store number offset size value ∷ history)) (same_frame now (subst (λ (n : ℕ). slice_get new n ≡ Some now) same is)) filled)
      | inr differ ↦
          let before = h.each other now (sym (others other differ) ∙ is) in
          record {
            same = before.same ∙ sym (store_active now.shape.owner number offset size value history);
            bytes = λ lives byte inside.
                before.bytes lives byte inside
                ∙ ap content_of (sym (origin_elsewhere now.shape.owner other number offset size value history byte (λ e. differ (sym e))));
          }
    ];
  }
    where
      before : Holds functions frame number history
      before = h.each number frame known

      holds : FrameHolds frame.shape.owner frame.shape.bits (written (mark_of functions frame.shape.owner) value frame.slots.items offset 0 (size / 8))
          (is_live (running_of functions) frame.shape.owner) (mark_of functions frame.shape.owner) number (Store number offset size value ∷ history)
      holds = record {
        same = before.same ∙ sym (store_active frame.shape.owner number offset size value history);
        bytes = λ lives byte inside.
            held_after frame.shape.owner number offset size (mark_of functions frame.shape.owner) value history frame.slots.items byte
            (omega (arith, (keeps number frame known).sized)) (before.bytes lives byte inside);
      }

      filled : Holds functions here.frame number (Store number offset size value ∷ history)
      filled = subst (λ (slots : List Slot). FrameHolds here.frame.shape.owner here.frame.shape.bits slots
          (is_live (running_of functions) here.frame.shape.owner) (mark_of functions here.frame.shape.owner) number (Store number offset size value ∷ history))
          (sym here.slots_are)
          (subst (λ (shape : FrameShape). FrameHolds shape.owner shape.bits (written (mark_of functions frame.shape.owner) value frame.slots.items offset 0 (size / 8))
          (is_live (running_of functions) shape.owner) (mark_of functions shape.owner) number (Store number offset size value ∷ history))
          (sym here.shape_is) holds)

  pub stored_kept : AreKept new functions
  stored_kept other now is = elim (cases_eq other number) [
    | inl same ↦ subst (λ (x : Frame). IsKeptFrame (mark_of functions x.shape.owner) x) (same_frame now (subst (λ (n : ℕ). slice_get new n ≡ Some now) same is)) filled
    | inr differ ↦ keeps other now (sym (others other differ) ∙ is)
  ]
    where
      k : IsKeptFrame (mark_of functions frame.shape.owner) frame
      k = keeps number frame known

      older : (byte : ℕ) (slot : Slot) → slice_get (written (mark_of functions frame.shape.owner) value frame.slots.items offset 0 (size / 8)) byte ≡ Some slot
          → slot.mark ≤ mark_of functions frame.shape.owner
      older byte slot get = by_test (is_byte_of offset size byte)
          (λ inside.
          let ends = cell_ends offset size byte inside in
          elim (cases_lt byte (length frame.slots.items)) [
            | inl low ↦
                let e = sym (written_in (mark_of functions frame.shape.owner) value frame.slots.items offset 0 (size / 8) byte (byte - offset) ends.0 ends.1 (omega (arith, ends.0)) low) ∙ get in
                let m : mark_of functions frame.shape.owner ≡ slot.mark = cc in
                omega arith
            | inr past ↦
                let none : slice_get (written (mark_of functions frame.shape.owner) value frame.slots.items offset 0 (size / 8)) byte ≡ None =
                slice_get_past _ byte (omega (arith, length-written (mark_of functions frame.shape.owner) value frame.slots.items offset 0 (size / 8))) in
                cc
          ])
          (λ outside. k.older byte slot (sym (written_out (mark_of functions frame.shape.owner) value frame.slots.items offset 0 (size / 8) byte (out_of offset size byte outside)) ∙ get))

      filled : IsKeptFrame (mark_of functions here.frame.shape.owner) here.frame
      filled = record {
        sized = ap length here.slots_are
            ∙ (length-written (mark_of functions frame.shape.owner) value frame.slots.items offset 0 (size / 8)
            ∙ (k.sized ∙ ap (λ (shape : FrameShape). shape.bits / 8) (sym here.shape_is)));
        older = λ byte slot get.
            subst (λ (shape : FrameShape). slot.mark ≤ mark_of functions shape.owner) (sym here.shape_is)
            (older byte slot (ap (λ (slots : List Slot). slice_get slots byte) (sym here.slots_are) ∙ get));
      }
