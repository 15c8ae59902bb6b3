-- The faults of an abstract address are those of the addresses that it covers.
--   greatest_above, greatest_covers   the greatest offset is one of the offsets, and no other is greater
--   address_told, address_from        a fault is one of the address exactly where some covered address has it
use Rattle.std.specs.Prelude.{slice_get, IsSomeAnd, IfSome, ◌==◌, ◌≤ℤ◌, ◌<ℤ◌, ◌+ℤ◌, ◌-ℤ◌, int_le, unsigned_abs}
use Rattle.std.proofs.Common.{◌≡◌, ◌⊎◌, inl, inr, ℕ, ℤ, pos, Bool, true, false, List, [], ◌∷◌, Option, Some, None, Result, Ok, Err, ◌<◌, ◌≤◌, ◌+◌, ◌*◌, ◌^◌, refl, sym, ap, subst, ◌∙◌, arith}
use Rattle.std.proofs.lemmas.Int.{ints, clamps}
use Rattle.std.proofs.lemmas.Bool.{eqb-true, eq-eqb, false≢true, leb-true, le-leb}
use Rattle.lists.specs.TestLaws.{by_test}
use Rattle.whole_numbers.specs.Numbers.{Divides}
use Rattle.whole_numbers.specs.MultipleLaws.{divides_same, divides_difference, divides_zero, divides_itself}
use Rattle.alf_ops.specs.declared.history.Value.TheVariants.{Int, Ptr}
use Rattle.alf_ops.specs.declared.history.RunFault.{RunFault}
use Rattle.alf_ops.specs.declared.history.RunFault.TheVariants.{Kind, Dead, Bounds}
use Rattle.alf_ops.specs.declared.history.FrameShape.{FrameShape}
use Rattle.alf_ops.specs.Histories.{fits_in}
use Rattle.domain_core.specs.FaultSets.{has_fault, no_faults, with_fault}
use Rattle.progressions.specs.declared.ends.Progression.{Progression}
use Rattle.progressions.specs.declared.ends.Pieces.{Pieces}
use Rattle.progressions.specs.Progressions.{Has, HasSome, IfProgression, full}
use Rattle.progressions.specs.Parts.{SomeHas, IfPiece, ArePieces}
use Rattle.progressions.specs.ProgressionLaws.{has_hi}
use Rattle.progressions.specs.PartLaws.{unsigned_has}
use Rattle.strided_rules.specs.Strides.{Stride, IsStride, Covers as CoversWord}
use Rattle.strided_rules.specs.Members.{unsigned_of, unsigned_greatest, greater_end, greatest_of}
use Rattle.strided_rules.specs.MemberLaws.{unsigned_some, of_unsigned, greatest_above as above_all, some_word}
use Rattle.strided_rules.specs.PlacedLaws.{member_other}
use Rattle.pointer_rules.specs.AbstractValues.{AbstractValue, offsets_in, ArePlaces, Ascends, AreAscending}
use Rattle.pointer_rules.specs.Covering.{IsValue}
use Rattle.memory_rules.specs.Memories.{is_on}
use Rattle.memory_rules.specs.Addresses.{tested, tested_in, IsAddressFault}
use Rattle.transfer_rules.specs.AddressFaults.{greatest_offset, word_fault, place_fault, place_faults, address_faults}
use Rattle.transfer_rules.specs.RemainsLaws.{no_fault, one_alone, in_either, in_first, in_second}

-- ---- the greatest offset

distance_above : (t : ℕ) (z : ℤ) → pos t ≤ℤ z → t ≤ unsigned_abs z
distance_above t z low = grind (arith, ints, low)

distance_is : (z : ℤ) → pos 0 ≤ℤ z → pos (unsigned_abs z) ≡ z
distance_is z low = grind (arith, ints, low)

-- no other is greater
pub greatest_above : (x : Stride) (t : ℕ) → IsStride x → CoversWord x t → t ≤ greatest_offset x
greatest_above x t is covers = distance_above t (unsigned_greatest x) (above_all (pos 0) (pos t) (unsigned_of x) (unsigned_some x t is covers))

attained : (so_far : ℤ) (o : Option Progression) → IfProgression o
    → (greater_end so_far o ≡ so_far) ⊎ HasSome o (greater_end so_far o)
attained so_far None is = inl refl
attained so_far (Some p) is = by_test (int_le p.hi so_far)
    (λ e. inl (omega (arith, ints, clamps, e)))
    (λ e. let same : greater_end so_far (Some p) ≡ p.hi = omega (arith, ints, clamps, e) in inr (subst (Has p) (sym same) (has_hi p is)))

piece_is : (least most : ℤ) (o : Option Progression) → IfPiece least most o → IfProgression o
piece_is least most None is = tt
piece_is least most (Some p) is = is.progression

greatest_had : (least most n : ℤ) (pieces : Pieces) → ArePieces least most pieces → SomeHas pieces n → least ≤ℤ n
    → SomeHas pieces (greatest_of least pieces)
greatest_had least most n pieces are some low =
    let one = greater_end least pieces.first in
    let two = greater_end one pieces.second in
    elim (attained two pieces.third (piece_is least most pieces.third are.third)) [
      | inr h ↦ inr (inr h)
      | inl e ↦ elim (attained one pieces.second (piece_is least most pieces.second are.second)) [
        | inr h ↦ inr (inl (subst (HasSome pieces.second) (sym e) h))
        | inl f ↦ elim (attained least pieces.first (piece_is least most pieces.first are.first)) [
          | inr h ↦ inl (subst (HasSome pieces.first) (sym (e ∙ f)) h)
          | inl g ↦
              let all : greatest_of least pieces ≡ least = e ∙ f ∙ g in
              let high : n ≤ℤ greatest_of least pieces = above_all least n pieces some in
              let same : n ≡ greatest_of least pieces = omega (arith, ints, all, high, low) in
              subst (SomeHas pieces) same some
        ]
      ]
    ]

near : (w t : ℕ) (g n : ℤ) → pos t ≡ g → (n ≡ g -ℤ full w) ⊎ ((n ≡ g) ⊎ (n ≡ g +ℤ full w))
    → Divides (full w) (n -ℤ pos t)
near w t g n at (inl e) = divides_same (full w) (pos 0 -ℤ full w) (n -ℤ pos t) (omega (arith, ints, at, e)) (divides_difference (full w) (pos 0) (full w) (divides_zero (full w)) (divides_itself (full w)))
near w t g n at (inr (inl e)) = divides_same (full w) (pos 0) (n -ℤ pos t) (omega (arith, ints, at, e)) (divides_zero (full w))
near w t g n at (inr (inr e)) = divides_same (full w) (full w) (n -ℤ pos t) (omega (arith, ints, at, e)) (divides_itself (full w))

small_distance : (w : ℕ) (z : ℤ) → pos 0 ≤ℤ z → z <ℤ full w → unsigned_abs z < 2 ^ w
small_distance w z low high = grind (arith, ints, low, high)

-- the greatest offset is one of the offsets
pub greatest_covers : (x : Stride) → IsStride x → CoversWord x (greatest_offset x)
greatest_covers x is =
    let w = some_word x is in
    let g = unsigned_greatest x in
    let had : SomeHas (unsigned_of x) g = greatest_had (pos 0) (full x.size -ℤ pos 1) (pos w.0) (unsigned_of x) (of_unsigned x is) (unsigned_some x w.0 is w.1) (omega (arith, ints)) in
    let told = (unsigned_has x.size x.numbers g is.size.least is.placed).0 had in
    let at : pos (greatest_offset x) ≡ g = distance_is g told.0 in
    let small : greatest_offset x < 2 ^ x.size = small_distance x.size g told.0 told.1 in
    elim told.2 [
      | inl h ↦ member_other x.size x.numbers (greatest_offset x) (g -ℤ full x.size) h (near x.size (greatest_offset x) g (g -ℤ full x.size) at (inl refl)) small
      | inr (inl h) ↦ member_other x.size x.numbers (greatest_offset x) g h (near x.size (greatest_offset x) g g at (inr (inl refl))) small
      | inr (inr h) ↦ member_other x.size x.numbers (greatest_offset x) (g +ℤ full x.size) h (near x.size (greatest_offset x) g (g +ℤ full x.size) at (inr (inr refl))) small
    ]

-- ---- a fault of a covered address is told

some_words : (words : Option Stride) (size bits : ℕ) → IsSomeAnd words (λ w. (w.size ≡ size) × CoversWord w bits)
    → has_fault (word_fault words) Kind ≡ true
some_words None size bits h = elim h [ ]
some_words (Some words) size bits h = refl

same_error : {A : Type 0} (told fault : RunFault) → (let r : Result A RunFault = Err told in r) ≡ Err fault
    → told ≡ fault
same_error told fault e = cc

fits_lower : (bits low high size : ℕ) → low ≤ high → fits_in bits high size ≡ true → fits_in bits low size ≡ true
fits_lower bits low high size order fits = let room = leb-true (high * 8 + size) bits fits in le-leb (low * 8 + size) bits (omega (arith, room, order))

place_told : (found : Option FrameShape) (runs : ℕ → Bool) (offsets : Stride) (frame offset size : ℕ) (fault : RunFault)
    → IsStride offsets → CoversWord offsets offset
    → tested_in found runs frame offset size ≡ Err fault → has_fault (place_fault found runs offsets size) fault ≡ true
place_told None runs offsets frame offset size fault is covers test = subst (λ (k : RunFault). has_fault (with_fault no_faults Dead) k ≡ true) (same_error Dead fault test) refl
place_told (Some row) runs offsets frame offset size fault is covers test = by_test (is_on runs row.owner)
    (λ on. by_test (fits_in row.bits offset size)
    (λ fits. let bad : Ok (frame, offset) ≡ Err fault = rw (on, fits) at test in cc)
    (λ past.
    let bounds : Err Bounds ≡ Err fault = rw (on, past) at test in
    by_test (fits_in row.bits (greatest_offset offsets) size)
    (λ fits. absurd (false≢true (sym past ∙ fits_lower row.bits offset (greatest_offset offsets) size (greatest_above offsets offset is covers) fits)))
    (λ none. rw (on, none) (subst (λ (k : RunFault). has_fault (with_fault no_faults Bounds) k ≡ true) (same_error Bounds fault bounds) refl))))
    (λ off.
    let dead : Err Dead ≡ Err fault = rw off at test in
    rw off (subst (λ (k : RunFault). has_fault (with_fault no_faults Dead) k ≡ true) (same_error Dead fault dead) refl))

places_told : (rows : List FrameShape) (runs : ℕ → Bool) (places : List (ℕ × Stride)) (frame offset size : ℕ) (fault : RunFault) → ArePlaces places
    → IsSomeAnd (offsets_in places frame) (λ offsets. CoversWord offsets offset)
    → tested rows runs (Ptr frame offset) size ≡ Err fault → has_fault (place_faults rows runs places size) fault ≡ true
places_told rows runs [] frame offset size fault are covers test = elim covers [ ]
places_told rows runs (place ∷ places) frame offset size fault are covers test = by_test (place.0 == frame)
    (λ e.
    let same : place.0 ≡ frame = eqb-true place.0 frame e in
    let member : CoversWord place.1 offset = rw e at covers in
    let own : tested_in (slice_get rows place.0) runs frame offset size ≡ Err fault = ap (λ (f : ℕ). tested_in (slice_get rows f) runs frame offset size) same ∙ test in
    in_first (place_fault (slice_get rows place.0) runs place.1 size) (place_faults rows runs places size) fault
    (place_told (slice_get rows place.0) runs place.1 frame offset size fault are.0.offsets member own))
    (λ e. in_second (place_fault (slice_get rows place.0) runs place.1 size) (place_faults rows runs places size) fault
    (places_told rows runs places frame offset size fault are.1 (rw e at covers) test))

pub address_told : (rows : List FrameShape) (runs : ℕ → Bool) (at : AbstractValue) (size : ℕ) (fault : RunFault)
    → IsValue 32 at → IsAddressFault rows runs at size fault
    → has_fault (address_faults rows runs at size) fault ≡ true
address_told rows runs at size fault is (Int own word, covers, test) =
    subst (λ (k : RunFault). has_fault (address_faults rows runs at size) k ≡ true) (same_error Kind fault test)
    (in_first (word_fault at.words) (place_faults rows runs at.places size) Kind (some_words at.words own word covers))
address_told rows runs at size fault is (Ptr frame offset, covers, test) =
    in_second (word_fault at.words) (place_faults rows runs at.places size) fault (places_told rows runs at.places frame offset size fault is.is.places covers test)

-- ---- and each fault that is told is one of a covered address

-- a covered address with the fault
pub record Faulty (rows : List FrameShape) (runs : ℕ → Bool) (places : List (ℕ × Stride)) (size : ℕ)
    (fault : RunFault) : Type 0 where
  pub frame : ℕ
  pub offset : ℕ
  pub covers : IsSomeAnd (offsets_in places frame) (λ offsets. CoversWord offsets offset)
  pub test : tested rows runs (Ptr frame offset) size ≡ Err fault

place_from : (found : Option FrameShape) (runs : ℕ → Bool) (offsets : Stride) (frame size : ℕ) (fault : RunFault)
    → IsStride offsets
    → has_fault (place_fault found runs offsets size) fault ≡ true → (offset : ℕ) × CoversWord offsets offset × (tested_in found runs frame offset size ≡ Err fault)
place_from None runs offsets frame size fault is told =
    let w = some_word offsets is in (w.0, w.1, ap (λ (k : RunFault). Err k) (sym (one_alone Dead fault told)))
place_from (Some row) runs offsets frame size fault is told = by_test (is_on runs row.owner)
    (λ on. by_test (fits_in row.bits (greatest_offset offsets) size)
    (λ fits. let none : has_fault no_faults fault ≡ true = rw (on, fits) at told in absurd (no_fault fault none))
    (λ past.
    let bounds : has_fault (with_fault no_faults Bounds) fault ≡ true = rw (on, past) at told in
    (greatest_offset offsets, greatest_covers offsets is, rw (on, past) (ap (λ (k : RunFault). Err k) (sym (one_alone Bounds fault bounds))))))
    (λ off.
    let dead : has_fault (with_fault no_faults Dead) fault ≡ true = rw off at told in
    let w = some_word offsets is in (w.0, w.1, rw off (ap (λ (k : RunFault). Err k) (sym (one_alone Dead fault dead)))))

-- a frame below all is not pointed to
absent : (least frame : ℕ) (places : List (ℕ × Stride)) → Ascends least places → frame ≤ least
    → offsets_in places frame ≡ None
absent least frame [] ascends low = refl
absent least frame (place ∷ places) ascends low = by_test (place.0 == frame)
    (λ e. absurd (let same : place.0 ≡ frame = eqb-true place.0 frame e in omega (arith, same, ascends.0, low)))
    (λ e. rw e (absent place.0 frame places ascends.1 (let above : least < place.0 = ascends.0 in omega (arith, above, low))))

rest_ascends : (least : ℕ) (places : List (ℕ × Stride)) → Ascends least places → AreAscending places
rest_ascends least [] ascends = tt
rest_ascends least (place ∷ places) ascends = ascends.1

places_from : (rows : List FrameShape) (runs : ℕ → Bool) (places : List (ℕ × Stride)) (size : ℕ) (fault : RunFault)
    → ArePlaces places → AreAscending places
    → has_fault (place_faults rows runs places size) fault ≡ true → Faulty rows runs places size fault
places_from rows runs [] size fault are ascending told = absurd (no_fault fault told)
places_from rows runs (place ∷ places) size fault are ascending told =
    elim (in_either (place_fault (slice_get rows place.0) runs place.1 size) (place_faults rows runs places size) fault told) [
      | inl h ↦
          let p = place_from (slice_get rows place.0) runs place.1 place.0 size fault are.0.offsets h in
          record { frame = place.0; offset = p.0; covers = rw (eq-eqb place.0 place.0 refl) p.1; test = p.2 }
      | inr h ↦
          let rest = places_from rows runs places size fault are.1 (rest_ascends place.0 places ascending) h in
          by_test (place.0 == rest.frame)
          (λ e.
          let same : place.0 ≡ rest.frame = eqb-true place.0 rest.frame e in
          let none : offsets_in places rest.frame ≡ None = absent place.0 rest.frame places ascending (omega (arith, same)) in
          absurd (subst (λ (o : Option Stride). IsSomeAnd o (λ offsets. CoversWord offsets rest.offset)) none rest.covers))
          (λ e. record { frame = rest.frame; offset = rest.offset; covers = rw e rest.covers; test = rest.test })
    ]

word_from : (words : Option Stride) (fault : RunFault) → IfSome words IsStride
    → has_fault (word_fault words) fault ≡ true
    → (Kind ≡ fault) × ((size : ℕ) × (bits : ℕ) × IsSomeAnd words (λ w. (w.size ≡ size) × CoversWord w bits))
word_from None fault is told = absurd (no_fault fault told)
word_from (Some words) fault is told = let w = some_word words is in (sym (one_alone Kind fault told), (words.size, w.0, (refl, w.1)))

pub address_from : (rows : List FrameShape) (runs : ℕ → Bool) (at : AbstractValue) (size : ℕ) (fault : RunFault)
    → IsValue 32 at
    → has_fault (address_faults rows runs at size) fault ≡ true → IsAddressFault rows runs at size fault
address_from rows runs at size fault is told =
    elim (in_either (word_fault at.words) (place_faults rows runs at.places size) fault told) [
      | inl h ↦ let w = word_from at.words fault is.is.words h in (Int w.1.0 w.1.1, w.1.2, ap (λ (k : RunFault). Err k) w.0)
      | inr h ↦ let p = places_from rows runs at.places size fault is.is.places is.is.ascending h in (Ptr p.frame p.offset, p.covers, p.test)
    ]
