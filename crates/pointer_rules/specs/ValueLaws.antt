-- The laws of abstract values.
--   joined_is, joined_size    the join of two values of one size is a value of this size
--   value_is_order            abstract values are a lattice
use Rattle.std.proofs.Common.{◌≡◌, ◌≢◌, ℕ, List, [], ◌∷◌, ◌++◌, map, Option, Some, None, ◌<◌, ◌≤◌, arith, refl, sym, subst, ◌∙◌}
use Rattle.std.specs.Prelude.{IsSomeAnd, IfSome, ◌==◌, nat_lt}
use Rattle.std.proofs.lemmas.Bool.{eqb-true, eqb-false, eq-eqb, ltb-true, ltb-false}
use Rattle.alf_ops.specs.declared.history.Value.{Value}
use Rattle.alf_ops.specs.declared.history.Value.TheVariants.{Int, Ptr}
use Rattle.domain_core.specs.Orders.{IsOrder}
use Rattle.lists.specs.TestLaws.{by_test}
use Rattle.strided_rules.specs.Strides.{Stride, IsStride, joined as joined_words, Covers as CoversWord}
use Rattle.strided_rules.specs.Domains.{AreAlike as AreAlikeWords}
use Rattle.strided_rules.specs.DomainLaws.{stride_is_order}
use Rattle.strided_rules.specs.StrideLaws.{stride_is_sets}
use Rattle.pointer_rules.specs.AbstractValues.{AbstractValue, Covers, offsets_in, IsPlace, ArePlaces, Ascends, AreAscending, IsAbstract, HasSize, IsPointerSize, AreAlike, words_first, place_of, either_words, with_place, with_places, joined, value_order}

-- the offset is among them
abbrev pub CoversAt : Option Stride → ℕ → Type 0
CoversAt offsets offset = IsSomeAnd offsets (λ d. CoversWord d offset)

-- ---- frames that ascend

-- a frame below all is not pointed to
absent : (least frame : ℕ) (places : List (ℕ × Stride)) → Ascends least places → frame ≤ least
    → offsets_in places frame ≡ None
absent least frame [] ascends low = refl
absent least frame (place ∷ places) ascends low = by_test (place.0 == frame)
    (λ e. absurd (let same : place.0 ≡ frame = eqb-true place.0 frame e in omega (arith, same, ascends.0, low)))
    (λ e. rw e (absent place.0 frame places ascends.1 (let above : least < place.0 = ascends.0 in omega (arith, above, low))))

pub rest_ascends : (least : ℕ) (places : List (ℕ × Stride)) → Ascends least places → AreAscending places
rest_ascends least [] ascends = tt
rest_ascends least (place ∷ places) ascends = ascends.1

-- ---- one more place

like : (a b : ℕ × Stride) → IsPlace a → IsPlace b → AreAlikeWords a.1 b.1
like a b is_a is_b = record { first = is_a.offsets; second = is_b.offsets; size = is_a.size ∙ sym is_b.size }

-- offsets that are there are there still
still_there : (places : List (ℕ × Stride)) (new : ℕ × Stride) (frame offset : ℕ) → ArePlaces places
    → AreAscending places → IsPlace new
    → CoversAt (offsets_in places frame) offset → CoversAt (offsets_in (with_place places new) frame) offset
still_there [] new frame offset are ascending is there = absurd there
still_there (place ∷ places) new frame offset are ascending is there = by_test (place.0 == new.0)
    (λ e. by_test (place.0 == frame)
    (λ f. rw (e, f) ((stride_is_order.left place.1 new.1 (like place new are.0 is)).1 offset (rw f at there)))
    (λ f. rw (e, f) (rw f at there)))
    (λ e. by_test (nat_lt new.0 place.0)
    (λ g. by_test (new.0 == frame)
    (λ k. let same : new.0 ≡ frame = eqb-true new.0 frame k in
    let none : offsets_in (place ∷ places) frame ≡ None = absent new.0 frame (place ∷ places) (ltb-true new.0 place.0 g, ascending) (omega (arith, same)) in
    absurd (subst (λ o. CoversAt o offset) none there))
    (λ k. rw (e, g, k) there))
    (λ g. by_test (place.0 == frame)
    (λ f. rw (e, g, f) (rw f at there))
    (λ f. rw (e, g, f) (still_there places new frame offset are.1 (rest_ascends place.0 places ascending) is (rw f at there)))))

-- and the new ones are
now_there : (places : List (ℕ × Stride)) (new : ℕ × Stride) (offset : ℕ) → ArePlaces places → IsPlace new
    → CoversWord new.1 offset → CoversAt (offsets_in (with_place places new) new.0) offset
now_there [] new offset are is there = rw (eq-eqb new.0 new.0 refl) there
now_there (place ∷ places) new offset are is there = by_test (place.0 == new.0)
    (λ e. rw (e, e) ((stride_is_order.right place.1 new.1 (like place new are.0 is)).1 offset there))
    (λ e. by_test (nat_lt new.0 place.0)
    (λ g. rw (e, g, eq-eqb new.0 new.0 refl) there)
    (λ g. rw (e, g, e) (now_there places new offset are.1 is there)))

pub with_place_are : (places : List (ℕ × Stride)) (new : ℕ × Stride) → ArePlaces places → IsPlace new
    → ArePlaces (with_place places new)
with_place_are [] new are is = (is, tt)
with_place_are (place ∷ places) new are is = by_test (place.0 == new.0)
    (λ e. rw e (let size = stride_is_sets.joined_size place.1 new.1 are.0.offsets is.offsets (are.0.size ∙ sym is.size) in
    (record { offsets = size.kept; size = size.size ∙ are.0.size }, are.1)))
    (λ e. by_test (nat_lt new.0 place.0)
    (λ g. rw (e, g) (is, are))
    (λ g. rw (e, g) (are.0, with_place_are places new are.1 is)))

with_place_above : (least : ℕ) (places : List (ℕ × Stride)) (new : ℕ × Stride) → Ascends least places → least < new.0
    → Ascends least (with_place places new)
with_place_above least [] new ascends above = (above, tt)
with_place_above least (place ∷ places) new ascends above = by_test (place.0 == new.0)
    (λ e. rw e ascends)
    (λ e. by_test (nat_lt new.0 place.0)
    (λ g. rw (e, g) (above, (ltb-true new.0 place.0 g, ascends.1)))
    (λ g. rw (e, g) (
      ascends.0,
      with_place_above place.0 places new ascends.1
          (let apart : place.0 ≢ new.0 = eqb-false place.0 new.0 e in let no_less = ltb-false new.0 place.0 g in omega (arith, apart, no_less)),
    )))

with_place_ascending : (places : List (ℕ × Stride)) (new : ℕ × Stride) → AreAscending places
    → AreAscending (with_place places new)
with_place_ascending [] new ascending = tt
with_place_ascending (place ∷ places) new ascending = by_test (place.0 == new.0)
    (λ e. rw e ascending)
    (λ e. by_test (nat_lt new.0 place.0)
    (λ g. rw (e, g) (ltb-true new.0 place.0 g, ascending))
    (λ g. rw (e, g) (with_place_above place.0 places new ascending
    (let apart : place.0 ≢ new.0 = eqb-false place.0 new.0 e in let no_less = ltb-false new.0 place.0 g in omega (arith, apart, no_less)))))

-- ---- many more places

all_still_there : (places others : List (ℕ × Stride)) (frame offset : ℕ) → ArePlaces places → AreAscending places
    → ArePlaces others
    → CoversAt (offsets_in places frame) offset → CoversAt (offsets_in (with_places places others) frame) offset
all_still_there places [] frame offset are ascending others_are there = there
all_still_there places (new ∷ others) frame offset are ascending others_are there =
    all_still_there (with_place places new) others frame offset (with_place_are places new are others_are.0) (with_place_ascending places new ascending) others_are.1
    (still_there places new frame offset are ascending others_are.0 there)

all_now_there : (places others : List (ℕ × Stride)) (frame offset : ℕ) → ArePlaces places → AreAscending places
    → ArePlaces others
    → CoversAt (offsets_in others frame) offset → CoversAt (offsets_in (with_places places others) frame) offset
all_now_there places [] frame offset are ascending others_are there = absurd there
all_now_there places (new ∷ others) frame offset are ascending others_are there = by_test (new.0 == frame)
    (λ e. all_still_there (with_place places new) others frame offset (with_place_are places new are others_are.0) (with_place_ascending places new ascending) others_are.1
    (subst (λ f. CoversAt (offsets_in (with_place places new) f) offset) (eqb-true new.0 frame e) (now_there places new offset are others_are.0 (rw e at there))))
    (λ e. all_now_there (with_place places new) others frame offset (with_place_are places new are others_are.0) (with_place_ascending places new ascending) others_are.1 (rw e at there))

with_places_are : (places others : List (ℕ × Stride)) → ArePlaces places → ArePlaces others
    → ArePlaces (with_places places others)
with_places_are places [] are others_are = are
with_places_are places (new ∷ others) are others_are = with_places_are (with_place places new) others (with_place_are places new are others_are.0) others_are.1

with_places_ascending : (places others : List (ℕ × Stride)) → AreAscending places
    → AreAscending (with_places places others)
with_places_ascending places [] ascending = ascending
with_places_ascending places (new ∷ others) ascending = with_places_ascending (with_place places new) others (with_place_ascending places new ascending)

-- there is some place
some_place : (places : List (ℕ × Stride)) (new : ℕ × Stride) → with_place places new ≢ []
some_place [] new e = cc
some_place (place ∷ places) new e = by_test (place.0 == new.0)
    (λ f. let none : (place.0, joined_words place.1 new.1) ∷ places ≡ [] = rw f at e in cc)
    (λ f. by_test (nat_lt new.0 place.0)
    (λ g. let none : new ∷ place ∷ places ≡ [] = rw (f, g) at e in cc)
    (λ g. let none : place ∷ with_place places new ≡ [] = rw (f, g) at e in cc))

all_some_place : (places others : List (ℕ × Stride)) → places ≢ [] → with_places places others ≢ []
all_some_place places [] some = some
all_some_place places (new ∷ others) some = all_some_place (with_place places new) others (some_place places new)

-- the size of pointers goes over
with_place_size : (places : List (ℕ × Stride)) (new : ℕ × Stride) (size : ℕ) → size ≡ 32
    → IsPointerSize (with_place places new) size
with_place_size [] new size same = same
with_place_size (place ∷ places) new size same = by_test (place.0 == new.0)
    (λ e. rw e same)
    (λ e. by_test (nat_lt new.0 place.0) (λ g. rw (e, g) same) (λ g. rw (e, g) same))

with_places_size : (places others : List (ℕ × Stride)) (size : ℕ) → IsPointerSize places size
    → IsPointerSize others size → IsPointerSize (with_places places others) size
with_places_size places [] size one two = one
with_places_size places (new ∷ []) size one two = with_place_size places new size two
with_places_size places (new ∷ other ∷ others) size one two = with_places_size (with_place places new) (other ∷ others) size (with_place_size places new size two) two

-- ---- words

words_left : (a b : Option Stride) (size own bits : ℕ) → IfSome a IsStride → IfSome b IsStride
    → IfSome a (λ d. d.size ≡ size) → IfSome b (λ d. d.size ≡ size)
    → IsSomeAnd a (λ d. (d.size ≡ own) × CoversWord d bits) → IsSomeAnd (either_words a b) (λ d. (d.size ≡ own) × CoversWord d bits)
words_left None b size own bits is_a is_b size_a size_b there = absurd there
words_left (Some a) None size own bits is_a is_b size_a size_b there = there
words_left (Some a) (Some b) size own bits is_a is_b size_a size_b there =
    (there.0, (stride_is_order.left a b (record { first = is_a; second = is_b; size = size_a ∙ sym size_b })).1 bits there.1)

words_right : (a b : Option Stride) (size own bits : ℕ) → IfSome a IsStride → IfSome b IsStride
    → IfSome a (λ d. d.size ≡ size) → IfSome b (λ d. d.size ≡ size)
    → IsSomeAnd b (λ d. (d.size ≡ own) × CoversWord d bits) → IsSomeAnd (either_words a b) (λ d. (d.size ≡ own) × CoversWord d bits)
words_right a None size own bits is_a is_b size_a size_b there = absurd there
words_right None (Some b) size own bits is_a is_b size_a size_b there = there
words_right (Some a) (Some b) size own bits is_a is_b size_a size_b there =
    (size_a ∙ sym size_b ∙ there.0, (stride_is_order.right a b (record { first = is_a; second = is_b; size = size_a ∙ sym size_b })).1 bits there.1)

words_are : (a b : Option Stride) (size : ℕ) → IfSome a IsStride → IfSome b IsStride → IfSome a (λ d. d.size ≡ size)
    → IfSome b (λ d. d.size ≡ size)
    → IfSome (either_words a b) IsStride × IfSome (either_words a b) (λ d. d.size ≡ size)
words_are None None size is_a is_b size_a size_b = (tt, tt)
words_are None (Some b) size is_a is_b size_a size_b = (is_b, size_b)
words_are (Some a) None size is_a is_b size_a size_b = (is_a, size_a)
words_are (Some a) (Some b) size is_a is_b size_a size_b = let r = stride_is_sets.joined_size a b is_a is_b (size_a ∙ sym size_b) in (r.kept, r.size ∙ size_a)

-- ---- values

some_words : (a b : Option Stride) (places others : List (ℕ × Stride)) → words_first a ++ map place_of places ≢ []
    → words_first (either_words a b) ++ map place_of (with_places places others) ≢ []
some_words None None [] others some e = some refl
some_words None None (place ∷ places) others some e = none_left (with_places (place ∷ places) others) (all_some_place (place ∷ places) others (λ f. cc)) e
  where
    none_left : (all : List (ℕ × Stride)) → all ≢ [] → map place_of all ≡ [] → ⊥
    none_left [] is_some is_none = is_some refl
    none_left (first ∷ further) is_some is_none = cc
some_words None (Some b) places others some e = cc
some_words (Some a) None places others some e = cc
some_words (Some a) (Some b) places others some e = cc

-- the join of two values of one size is a value of this size
pub joined_is : (a b : AbstractValue) → AreAlike a b → IsAbstract (joined a b)
joined_is a b alike = record {
  words = (words_are a.words b.words alike.size alike.first.0.words alike.second.0.words alike.first.1.words alike.second.1.words).0;
  places = with_places_are a.places b.places alike.first.0.places alike.second.0.places;
  ascending = with_places_ascending a.places b.places alike.first.0.ascending;
  some = some_words a.words b.words a.places b.places alike.first.0.some;
}

pub joined_size : (a b : AbstractValue) (alike : AreAlike a b) → HasSize (joined a b) alike.size
joined_size a b alike = record {
  words = (words_are a.words b.words alike.size alike.first.0.words alike.second.0.words alike.first.1.words alike.second.1.words).1;
  places = with_places_size a.places b.places alike.size alike.first.1.places alike.second.1.places;
}

left_covers : (a b : AbstractValue) → AreAlike a b → (value : Value) → Covers a value → Covers (joined a b) value
left_covers a b alike (Int size bits) there =
    words_left a.words b.words alike.size size bits alike.first.0.words alike.second.0.words alike.first.1.words alike.second.1.words there
left_covers a b alike (Ptr frame offset) there =
    all_still_there a.places b.places frame offset alike.first.0.places alike.first.0.ascending alike.second.0.places there

right_covers : (a b : AbstractValue) → AreAlike a b → (value : Value) → Covers b value → Covers (joined a b) value
right_covers a b alike (Int size bits) there =
    words_right a.words b.words alike.size size bits alike.first.0.words alike.second.0.words alike.first.1.words alike.second.1.words there
right_covers a b alike (Ptr frame offset) there =
    all_now_there a.places b.places frame offset alike.first.0.places alike.first.0.ascending alike.second.0.places there

pub value_is_order : IsOrder AbstractValue value_order
value_is_order = record {
  itself = λ a value there. there;
  farther = λ a b c h k value there. k value (h value there);
  left = left_covers;
  right = right_covers;
}
