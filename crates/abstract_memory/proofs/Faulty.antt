-- The faults of an address, by its alternatives.
--   in_either              a fault of a union is one of either set
--   none_told, alone_told  an empty set, and a set of one fault
--   bounds_told, dead_told the faults of pointers into a frame
--   of_address             the faults of an address are those of its words and of its places
use Rattle.std.proofs.Common.{◌≡◌, ◌⊎◌, inl, inr, ℕ, Bool, true, false, List, [], ◌∷◌, Option, Some, None, Result, Ok, Err, ◌<◌, ◌≤◌, ◌+◌, ◌*◌, ◌↔◌, refl, sym, ap, subst, ◌∙◌, arith}
use Rattle.std.specs.Prelude.{◌==◌, ◌||◌, if◌then◌else◌, slice_get, IsSomeAnd, IfSome, nat_lt}
use Rattle.std.proofs.lemmas.Bool.{false≢true, or_left, or_right, eqb-true, eq-eqb, leb-false, ltb-false}
use Rattle.lists.specs.TestLaws.{by_test}
use Rattle.alf_ops.specs.declared.history.Value.{Value}
use Rattle.alf_ops.specs.declared.history.Value.TheVariants.{Int, Ptr}
use Rattle.alf_ops.specs.declared.history.RunFault.{RunFault}
use Rattle.alf_ops.specs.declared.history.RunFault.TheVariants.{Divide, Uninit, Mixed, Bounds, Dead, Kind, Pointers}
use Rattle.alf_ops.specs.declared.history.FrameShape.{FrameShape}
use Rattle.alf_ops.specs.Histories.{fits_in}
use Rattle.domain_core.specs.declared.fault_set.FaultSet.{FaultSet}
use Rattle.domain_core.specs.FaultSets.{has_fault, no_faults, with_fault, either}
use Rattle.domain_core.specs.FaultLaws.{is_empty, is_new, is_united}
use Rattle.strided_rules.specs.Strides.{Stride, IsStride, Covers as CoversWord}
use Rattle.strided_rules.specs.MemberLaws.{some_word}
use Rattle.pointer_rules.specs.AbstractValues.{AbstractValue, Covers, IsAbstract, IsPlace, Ascends, AreAscending, offsets_in}
use Rattle.memory_rules.specs.Addresses.{tested, tested_in, IsAddressFault}
use Rattle.abstract_memory.specs.Running.{bits_on}
use Rattle.abstract_memory.specs.NextOffsets.{Finds, first_past}
use Rattle.abstract_memory.specs.PlaceFaults.{IsWordFault, IsBoundsFault, IsPlaceFault, IsFaultOf}
use Rattle.abstract_memory.proofs.ActiveFrames.{tested_none, tested_some}

-- ---- sets of faults

or_cases : (a b : Bool) → (a || b) ≡ true → (a ≡ true) ⊎ (b ≡ true)
or_cases true b e = inl refl
or_cases false b e = inr e

pub in_either : (a b : FaultSet) (A B : Type 0) (fault : RunFault) → (has_fault a fault ≡ true) ↔ A
    → (has_fault b fault ≡ true) ↔ B → (has_fault (either a b) fault ≡ true) ↔ (A ⊎ B)
in_either a b A B fault of_a of_b = (
  λ e. elim (or_cases (has_fault a fault) (has_fault b fault) (sym (is_united a b fault) ∙ e)) [ inl h ↦ inl (of_a.0 h) | inr h ↦ inr (of_b.0 h) ],
  λ h. is_united a b fault ∙ elim h [ inl x ↦ or_left (has_fault a fault) (has_fault b fault) (of_a.1 x) | inr y ↦ or_right (has_fault a fault) (has_fault b fault) (of_b.1 y) ],
)

pub none_told : (P : Type 0) (fault : RunFault) → (P → ⊥) → (has_fault no_faults fault ≡ true) ↔ P
none_told P fault none = (λ e. absurd (false≢true (sym (is_empty fault) ∙ e)), λ h. absurd (none h))

pub alone_told : (told fault : RunFault) → has_fault (with_fault no_faults told) fault ≡ true → told ≡ fault
alone_told Kind Kind e = refl
alone_told Dead Dead e = refl
alone_told Bounds Bounds e = refl
alone_told Divide Divide e = refl
alone_told Uninit Uninit e = refl
alone_told Mixed Mixed e = refl
alone_told Pointers Pointers e = refl
alone_told _ _ e = absurd (false≢true e)

pub one_told : (told fault : RunFault) (P : Type 0) → P
    → (has_fault (with_fault no_faults told) fault ≡ true) ↔ ((told ≡ fault) × P)
one_told told fault P holds = (
  λ e. (alone_told told fault e, holds),
  λ h. subst (λ (k : RunFault). has_fault (with_fault no_faults told) k ≡ true) h.0 (is_new no_faults told),
)

pub word_told : (words : Stride) (fault : RunFault)
    → (has_fault (with_fault no_faults Kind) fault ≡ true) ↔ IsWordFault (Some words) fault
word_told words fault = (λ e. alone_told Kind fault e, λ h. ((one_told Kind fault (Unit {0}) tt).1 (h, tt)))

-- ---- a cell past the last that fits

pub past_fits : (bits size t : ℕ) → fits_in bits t size ≡ false → first_past bits size ≤ t
past_fits bits size t past =
    let high : bits < t * 8 + size = leb-false (t * 8 + size) bits past in
    by_test (nat_lt bits size)
    (λ e. rw e (omega arith))
    (λ e. let room : size ≤ bits = ltb-false bits size e in rw e (omega (arith, high, room)))

pub bounds_none : (x : Stride) (bits size : ℕ) (fault : RunFault) → Finds (CoversWord x) (first_past bits size) None
    → (has_fault no_faults fault ≡ true) ↔ IsBoundsFault x bits size fault
bounds_none x bits size fault none = none_told (IsBoundsFault x bits size fault) fault (λ h. none h.1.0 h.1.1 (past_fits bits size h.1.0 h.1.2))

-- ---- pointers into one frame

same_error : (told fault : RunFault) → (let r : Result (ℕ × ℕ) RunFault = Err told in r) ≡ Err fault → told ≡ fault
same_error told fault e = cc

pub dead_told : (found : Option FrameShape) (runs : ℕ → Bool) (place : ℕ × Stride) (size : ℕ) (fault : RunFault)
    → IsPlace place → None ≡ bits_on found runs
    → (has_fault (with_fault no_faults Dead) fault ≡ true) ↔ IsPlaceFault found runs place size fault
dead_told found runs place size fault is none =
    let some = some_word place.1 is.offsets in
    let each : (offset : ℕ) → tested_in found runs place.0 offset size ≡ Err Dead = λ offset. tested_none found runs place.0 offset size none in (
      λ e. (some.0, some.1, each some.0 ∙ ap (λ (k : RunFault). Err k) (alone_told Dead fault e)),
      λ h. (one_told Dead fault (Unit {0}) tt).1 (same_error Dead fault (sym (each h.0) ∙ h.2), tt),
    )

pub bounds_told : (found : Option FrameShape) (runs : ℕ → Bool) (place : ℕ × Stride) (size bits : ℕ) (fault : RunFault) (told : Type 0) → Some bits ≡ bits_on found runs
    → told ↔ IsBoundsFault place.1 bits size fault → told ↔ IsPlaceFault found runs place size fault
bounds_told found runs place size bits fault told some of_bounds =
    let each : (offset : ℕ) → tested_in found runs place.0 offset size ≡ (if fits_in bits offset size then Ok (place.0, offset) else Err Bounds) = λ offset. tested_some found runs place.0 offset size bits some in (
      λ e. let h = of_bounds.0 e in
          let test : tested_in found runs place.0 h.1.0 size ≡ Err Bounds = each h.1.0 ∙ rw h.1.2 refl in
          (h.1.0, h.1.1, test ∙ ap (λ (k : RunFault). Err k) h.0),
      λ h. let test : (if fits_in bits h.0 size then Ok (place.0, h.0) else Err Bounds) ≡ Err fault = sym (each h.0) ∙ h.2 in
          of_bounds.1 (by_test (fits_in bits h.0 size)
          (λ fits. let bad : Ok (place.0, h.0) ≡ Err fault = rw fits at test in cc)
          (λ past. let error : Err Bounds ≡ Err fault = rw past at test in (same_error Bounds fault error, (h.0, h.1, past)))),
    )

-- ---- all alternatives

-- a frame below all is not pointed to
absent : (least frame : ℕ) (places : List (ℕ × Stride)) → Ascends least places → frame ≤ least
    → offsets_in places frame ≡ None
absent least frame [] ascends low = refl
absent least frame (place ∷ places) ascends low = by_test (place.0 == frame)
    (λ e. absurd (let same : place.0 ≡ frame = eqb-true place.0 frame e in omega (arith, same, ascends.0, low)))
    (λ e. rw e (absent place.0 frame places ascends.1 (let above : least < place.0 = ascends.0 in omega (arith, above, low))))

rest_ascends : (least : ℕ) (places : List (ℕ × Stride)) → Ascends least places → AreAscending places
rest_ascends least [] ascends = tt
rest_ascends least (place ∷ places) ascends = ascends.1

-- a pointer that is covered, and its fault
record Faulty (rows : List FrameShape) (runs : ℕ → Bool) (places : List (ℕ × Stride)) (size : ℕ)
    (fault : RunFault) : Type 0 where
  frame : ℕ
  offset : ℕ
  covers : IsSomeAnd (offsets_in places frame) (λ offsets. CoversWord offsets offset)
  test : tested rows runs (Ptr frame offset) size ≡ Err fault

places_from : (rows : List FrameShape) (runs : ℕ → Bool) (places : List (ℕ × Stride)) (size : ℕ) (fault : RunFault)
    → AreAscending places → IsFaultOf rows runs places size fault
    → Faulty rows runs places size fault
places_from rows runs [] size fault ascending h = elim h [ ]
places_from rows runs (place ∷ places) size fault ascending (inl h) = record { frame = place.0; offset = h.0; covers = rw (eq-eqb place.0 place.0 refl) h.1; test = h.2 }
places_from rows runs (place ∷ places) size fault ascending (inr h) =
    let rest = places_from rows runs places size fault (rest_ascends place.0 places ascending) h in
    by_test (place.0 == rest.frame)
    (λ e.
    let same : place.0 ≡ rest.frame = eqb-true place.0 rest.frame e in
    let none : offsets_in places rest.frame ≡ None = absent place.0 rest.frame places ascending (omega (arith, same)) in
    absurd (subst (λ (o : Option Stride). IsSomeAnd o (λ offsets. CoversWord offsets rest.offset)) none rest.covers))
    (λ e. record { frame = rest.frame; offset = rest.offset; covers = rw e rest.covers; test = rest.test })

places_told : (rows : List FrameShape) (runs : ℕ → Bool) (places : List (ℕ × Stride)) (frame offset size : ℕ) (fault : RunFault)
    → IsSomeAnd (offsets_in places frame) (λ offsets. CoversWord offsets offset)
    → tested rows runs (Ptr frame offset) size ≡ Err fault → IsFaultOf rows runs places size fault
places_told rows runs [] frame offset size fault covers test = elim covers [ ]
places_told rows runs (place ∷ places) frame offset size fault covers test = by_test (place.0 == frame)
    (λ e.
    let same : place.0 ≡ frame = eqb-true place.0 frame e in
    let member : CoversWord place.1 offset = rw e at covers in
    inl (offset, member, ap (λ (f : ℕ). tested_in (slice_get rows f) runs f offset size) same ∙ test))
    (λ e. inr (places_told rows runs places frame offset size fault (rw e at covers) test))

some_words : (words : Option Stride) (size bits : ℕ) (fault : RunFault) → Kind ≡ fault
    → IsSomeAnd words (λ w. (w.size ≡ size) × CoversWord w bits) → IsWordFault words fault
some_words None size bits fault same h = elim h [ ]
some_words (Some words) size bits fault same h = same

word_from : (words : Option Stride) (fault : RunFault) → IfSome words IsStride → IsWordFault words fault
    → (Kind ≡ fault) × ((size : ℕ) × (bits : ℕ) × IsSomeAnd words (λ w. (w.size ≡ size) × CoversWord w bits))
word_from None fault is h = elim h [ ]
word_from (Some words) fault is h = let w = some_word words is in (h, (words.size, w.0, (refl, w.1)))

-- the faults of an address are those of its words and of its places
pub of_address : (rows : List FrameShape) (runs : ℕ → Bool) (at : AbstractValue) (size : ℕ) (fault : RunFault)
    → IsAbstract at
    → (IsWordFault at.words fault ⊎ IsFaultOf rows runs at.places size fault) ↔ IsAddressFault rows runs at size fault
of_address rows runs at size fault is = (
  λ h. elim h [
    | inl w ↦ let from = word_from at.words fault is.words w in (Int from.1.0 from.1.1, from.1.2, ap (λ (k : RunFault). Err k) from.0)
    | inr p ↦ let from = places_from rows runs at.places size fault is.ascending p in (Ptr from.frame from.offset, from.covers, from.test)
  ],
  λ h. told h.0 h.1 h.2,
)
  where
    told : (place : Value) → Covers at place → tested rows runs place size ≡ Err fault
        → IsWordFault at.words fault ⊎ IsFaultOf rows runs at.places size fault
    told (Int own word) covers test = inl (some_words at.words own word fault (same_error Kind fault test) covers)
    told (Ptr frame offset) covers test = inr (places_told rows runs at.places frame offset size fault covers test)
