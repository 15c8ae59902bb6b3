-- Abstract values: words of one size, and pointers, as strided values.
--   AbstractValue        the words, if there are some, and the offsets in each frame that is pointed to, by ascending frame
--   Alternative          the words, or the offsets in one frame
--   alternatives v       the words, then the offsets frame by frame
--   alone x              this alternative and no other
--   offsets_in places f  the offsets in the frame, if it is pointed to
--   Covers v value       the value of a run is among them
--   OnlyCovers v value   and no other value is
--   IsAbstract v         each part is in normal form, offsets have 32 bits, frames ascend, and there is some alternative
--   HasSize v size       its words and pointers have this size
--   joined a b           the join, part by part
--   value_order          abstract values as a lattice
use Rattle.std.specs.Prelude.{◌≡◌, ◌≢◌, ◌<◌, ℕ, List, [], ◌∷◌, ◌++◌, map, Option, Some, None, IsSomeAnd, IfSome, ◌==◌, nat_lt, if◌then◌else◌}
use Rattle.alf_ops.specs.declared.history.Value.{Value}
use Rattle.alf_ops.specs.declared.history.Value.TheVariants.{Int, Ptr}
use Rattle.domain_core.specs.Orders.{Order}
use Rattle.strided_rules.specs.Strides.{Stride, IsStride, joined as joined_words, Covers as CoversWord}

pub record AbstractValue : Type 0 where
  pub words : Option Stride
  pub places : List (ℕ × Stride)

-- the words, or the offsets in one frame
pub data Alternative : Type 0 where
  Words : Stride → Alternative
  Places : ℕ → Stride → Alternative

-- the numbers of an alternative: its words or its offsets
abbrev pub numbers_of : Alternative → Stride
numbers_of (Words words) = words
numbers_of (Places frame offsets) = offsets

abbrev pub words_first : Option Stride → List Alternative
words_first None = []
words_first (Some words) = Words words ∷ []

abbrev pub place_of : ℕ × Stride → Alternative
place_of place = Places place.0 place.1

-- the words, then the offsets frame by frame
abbrev pub alternatives : AbstractValue → List Alternative
alternatives v = words_first v.words ++ map place_of v.places

-- this alternative and no other
abbrev pub alone : Alternative → AbstractValue
alone (Words words) = record { words = Some words; places = [] }
alone (Places frame offsets) = record { words = None; places = (frame, offsets) ∷ [] }

-- the offsets in the frame, if it is pointed to
abbrev pub offsets_in : List (ℕ × Stride) → ℕ → Option Stride
offsets_in [] frame = None
offsets_in (place ∷ places) frame = if place.0 == frame then Some place.1 else offsets_in places frame

-- ---- covering

abbrev pub CoversInt : AbstractValue → ℕ → ℕ → Type 0
CoversInt v size bits = IsSomeAnd v.words (λ words. (words.size ≡ size) × CoversWord words bits)

abbrev pub CoversPtr : AbstractValue → ℕ → ℕ → Type 0
CoversPtr v frame offset = IsSomeAnd (offsets_in v.places frame) (λ offsets. CoversWord offsets offset)

-- the value of a run is among them
abbrev pub Covers : AbstractValue → Value → Type 0
Covers v (Int size bits) = CoversInt v size bits
Covers v (Ptr frame offset) = CoversPtr v frame offset

-- and no other value is
pub record OnlyCovers (v : AbstractValue) (value : Value) : Type 0 where
  pub is : Covers v value
  pub one : (other : Value) → Covers v other → other ≡ value

-- ---- what each value keeps

-- offsets have 32 bits
pub record IsPlace (place : ℕ × Stride) : Type 0 where
  pub offsets : IsStride place.1
  pub size : place.1.size ≡ 32

abbrev pub ArePlaces : List (ℕ × Stride) → Type 0
ArePlaces [] = Unit {0}
ArePlaces (place ∷ places) = IsPlace place × ArePlaces places

-- each frame is greater than the one before, and than this one
abbrev pub Ascends : ℕ → List (ℕ × Stride) → Type 0
Ascends least [] = Unit {0}
Ascends least (place ∷ places) = (least < place.0) × Ascends place.0 places

abbrev pub AreAscending : List (ℕ × Stride) → Type 0
AreAscending [] = Unit {0}
AreAscending (place ∷ places) = Ascends place.0 places

pub record IsAbstract (v : AbstractValue) : Type 0 where
  pub words : IfSome v.words IsStride
  pub places : ArePlaces v.places
  pub ascending : AreAscending v.places
  pub some : alternatives v ≢ []

-- where there is a pointer, the size is 32
abbrev pub IsPointerSize : List (ℕ × Stride) → ℕ → Type 0
IsPointerSize [] size = Unit {0}
IsPointerSize (place ∷ places) size = size ≡ 32

-- its words and pointers have this size
pub record HasSize (v : AbstractValue) (size : ℕ) : Type 0 where
  pub words : IfSome v.words (λ words. words.size ≡ size)
  pub places : IsPointerSize v.places size

-- ---- joins

-- joined where both are there
abbrev pub either_words : Option Stride → Option Stride → Option Stride
either_words None b = b
either_words (Some a) None = Some a
either_words (Some a) (Some b) = Some (joined_words a b)

-- with offsets in one more frame: joined to those that are there
abbrev pub with_place : List (ℕ × Stride) → ℕ × Stride → List (ℕ × Stride)
with_place [] new = new ∷ []
with_place (place ∷ places) new =
    if place.0 == new.0
    then (place.0, joined_words place.1 new.1) ∷ places
    else (if nat_lt new.0 place.0 then new ∷ place ∷ places else place ∷ with_place places new)

abbrev pub with_places : List (ℕ × Stride) → List (ℕ × Stride) → List (ℕ × Stride)
with_places places [] = places
with_places places (new ∷ others) = with_places (with_place places new) others

-- the join, part by part
abbrev pub joined : AbstractValue → AbstractValue → AbstractValue
joined a b = record { words = either_words a.words b.words; places = with_places a.places b.places }

-- both are abstract values of one size
pub record AreAlike (a b : AbstractValue) : Type 0 where
  pub size : ℕ
  pub first : IsAbstract a × HasSize a size
  pub second : IsAbstract b × HasSize b size

abbrev pub value_order : Order AbstractValue
value_order = record {
  alike = AreAlike;
  under = λ a b. (value : Value) → Covers a value → Covers b value;
  joined = joined;
}
