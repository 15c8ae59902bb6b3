-- Slots after a write.
--   get_set_same, get_set_other   a member of a list, one of which was set
--   written_step                  the first byte, and the others
--   length-written                a write leaves the number of slots
--   written_out, written_in       a slot that is not written, and one that is
--   held_after                    what a byte of a frame holds after a store is what the history with the store left there
use Rattle.std.specs.Prelude.{slice_get, slice_set}
use Rattle.std.proofs.Common.{◌≡◌, ◌≢◌, ◌⊎◌, inl, inr, sym, ◌∙◌, ap, ℕ, suc, zero, false, List, [], ◌∷◌, Option, Some, refl, arith, ◌+◌, ◌-◌, ◌/◌, ◌<◌, ◌≤◌, length, length-set}
use Rattle.std.proofs.lemmas.Bool.{cases_eq, cases_lt, eq-eqb, false≢true}
use Rattle.lists.specs.TestLaws.{by_test}
use Rattle.alf_ops.specs.declared.history.Value.{Value}
use Rattle.alf_ops.specs.declared.history.RunEvent.{RunEvent}
use Rattle.alf_ops.specs.declared.history.RunEvent.TheVariants.{Store}
use Rattle.alf_ops.specs.Histories.{origin, is_byte_of, put}
use Rattle.alf_ops.specs.TableLaws.{in_cell, cell_ends, origin_stored}
use Rattle.alf_values.specs.declared.slots.Slot.{Slot}
use Rattle.alf_values.specs.Contents.{part, content_of}
use Rattle.alf_values.specs.Slots.{held_in, held, written}

-- the member that was set
pub get_set_same : {A : Type 0} (xs : List A) (i : ℕ) (x : A) → i < length xs → slice_get (slice_set xs i x) i ≡ Some x
get_set_same [] i x low = absurd (omega arith)
get_set_same (y ∷ ys) zero x low = refl
get_set_same (y ∷ ys) (suc i) x low = get_set_same ys i x (omega arith)

-- another member
pub get_set_other : {A : Type 0} (xs : List A) (i j : ℕ) (x : A) → j ≢ i
    → slice_get (slice_set xs i x) j ≡ slice_get xs j
get_set_other [] i j x differ = refl
get_set_other (y ∷ ys) zero zero x differ = absurd (differ refl)
get_set_other (y ∷ ys) zero (suc j) x differ = refl
get_set_other (y ∷ ys) (suc i) zero x differ = refl
get_set_other (y ∷ ys) (suc i) (suc j) x differ = get_set_other ys i j x (λ e. differ (ap (λ (n : ℕ). suc n) e))

-- the first byte, and the others
pub written_step : (mark : ℕ) (value : Value) (slots : List Slot) (byte place count : ℕ) → 0 < count
    → written mark value slots byte place count
    ≡ written mark value (slice_set slots byte (record { mark = mark; content = part value place })) (byte + 1) (place + 1) (count - 1)
written_step mark value slots byte place zero some = absurd (omega arith)
written_step mark value slots byte place (suc count) some =
    let one : suc count - 1 ≡ count = omega arith in
    let next : byte + 1 ≡ suc byte = omega arith in
    let number : place + 1 ≡ suc place = omega arith in
    rw (one, next, number) refl

-- the slot of a byte of a value
abbrev slot_of : ℕ → Value → ℕ → Slot
slot_of mark value place = record { mark = mark; content = part value place }

-- a write leaves the number of slots
pub length-written : (mark : ℕ) (value : Value) (slots : List Slot) (first place count : ℕ)
    → length (written mark value slots first place count) ≡ length slots
length-written mark value slots first place zero = refl
length-written mark value slots first place (suc count) =
    length-written mark value (slice_set slots first (slot_of mark value place)) (suc first) (suc place) count ∙ length-set slots first (slot_of mark value place)

-- a slot that is not written
pub written_out : (mark : ℕ) (value : Value) (slots : List Slot) (first place count byte : ℕ)
    → (byte < first) ⊎ (first + count ≤ byte)
    → slice_get (written mark value slots first place count) byte ≡ slice_get slots byte
written_out mark value slots first place zero byte out = refl
written_out mark value slots first place (suc count) byte out =
    let differ : byte ≢ first = λ e. elim out [ inl below ↦ omega arith | inr above ↦ omega arith ] in
    written_out mark value (slice_set slots first (slot_of mark value place)) (suc first) (suc place) count byte
    (elim out [ inl below ↦ inl (omega arith) | inr above ↦ inr (omega arith) ])
    ∙ get_set_other slots first byte (slot_of mark value place) differ

-- a slot that is written
pub written_in : (mark : ℕ) (value : Value) (slots : List Slot) (first place count byte number : ℕ) → first ≤ byte
    → byte < first + count
    → number + first ≡ place + byte → byte < length slots
    → slice_get (written mark value slots first place count) byte ≡ Some (record { mark = mark; content = part value number })
written_in mark value slots first place zero byte number low high is here = absurd (omega arith)
written_in mark value slots first place (suc count) byte number low high is here = elim (cases_eq byte first) [
  | inl same ↦
      let own : place ≡ number = omega arith in
      written_out mark value (slice_set slots first (slot_of mark value place)) (suc first) (suc place) count byte (inl (omega arith))
      ∙ (ap (λ (n : ℕ). slice_get (slice_set slots first (slot_of mark value place)) n) same
      ∙ (get_set_same slots first (slot_of mark value place) (omega arith) ∙ ap (λ (n : ℕ). Some (slot_of mark value n)) own))
  | inr differ ↦
      let kept : length (slice_set slots first (slot_of mark value place)) ≡ length slots = length-set slots first (slot_of mark value place) in
      written_in mark value (slice_set slots first (slot_of mark value place)) (suc first) (suc place) count byte number (omega arith) (omega arith) (omega arith) (omega arith)
]

-- a byte that is not one of the cell lies before it or after it
pub out_of : (offset size byte : ℕ) → is_byte_of offset size byte ≡ false → (byte < offset) ⊎ (offset + size / 8 ≤ byte)
out_of offset size byte outside = elim (cases_lt byte offset) [
  | inl below ↦ inl below
  | inr low ↦ elim (cases_lt byte (offset + size / 8)) [
    | inl high ↦ absurd (false≢true (sym outside ∙ in_cell offset size byte low high))
    | inr above ↦ inr above
  ]
]

-- what a byte of a frame holds after a store is what the history with the store left there
pub held_after : (owner : Option ℕ) (number offset size mark : ℕ) (value : Value) (history : List RunEvent) (slots : List Slot) (byte : ℕ) → byte < length slots
    → held slots mark byte ≡ content_of (origin owner number history byte)
    → held (written mark value slots offset 0 (size / 8)) mark byte ≡ content_of (origin owner number (Store number offset size value ∷ history) byte)
held_after owner number offset size mark value history slots byte here before =
    by_test (is_byte_of offset size byte)
    (λ inside.
    let ends = cell_ends offset size byte inside in
    let slot : slice_get (written mark value slots offset 0 (size / 8)) byte ≡ Some (record { mark = mark; content = part value (byte - offset) }) =
    written_in mark value slots offset 0 (size / 8) byte (byte - offset) ends.0 ends.1 (omega (arith, ends.0)) here in
    let now : held (written mark value slots offset 0 (size / 8)) mark byte ≡ Some (part value (byte - offset)) = rw (slot, eq-eqb mark mark refl) refl in
    let then : content_of (put offset size value (origin owner number history) byte) ≡ Some (part value (byte - offset)) = rw inside refl in
    now ∙ sym then)
    (λ outside.
    let now : held (written mark value slots offset 0 (size / 8)) mark byte ≡ held slots mark byte =
    ap (held_in mark) (written_out mark value slots offset 0 (size / 8) byte (out_of offset size byte outside)) in
    let then : content_of (put offset size value (origin owner number history) byte) ≡ content_of (origin owner number history byte) = rw outside refl in
    now ∙ (before ∙ sym then))
    ∙ ap content_of (sym (origin_stored owner number offset size value history byte))
