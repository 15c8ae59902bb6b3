-- Strided words and abstract values are what a memory needs.
--   byte_applied, conc_applied   the operators select and conc at the sizes of a byte
--   abstract_is_sets             the laws
use Rattle.std.specs.Prelude.{IsSomeAnd, IfSome}
use Rattle.std.proofs.Common.{◌≡◌, sym, subst, ◌∙◌, ap, ℕ, true, List, [], ◌∷◌, Option, Some, None, IsSome, refl, arith, ◌+◌, ◌-◌, ◌*◌, ◌<◌, ◌≤◌, ◌/◌, ◌%◌, ◌^◌}
use Rattle.std.proofs.lemmas.Bool.{le-leb, lt-ltb, false≢true}
use Rattle.std.proofs.lemmas.Option.{same_Some}
use Rattle.std.proofs.lemmas.Nat.{pow-add}
use Rattle.std.proofs.Math.Nat.{mod-eq_of_lt}
use Rattle.lists.specs.MemberLaws.{first_or_further, no_member}
use Rattle.alf_ops.specs.declared.history.Value.{Value}
use Rattle.alf_ops.specs.declared.history.Value.TheVariants.{Int, Ptr}
use Rattle.alf_ops.specs.declared.operator.Op.TheVariants.{Select, Conc}
use Rattle.alf_ops.specs.Table.{result_size}
use Rattle.alf_ops.specs.Words.{value}
use Rattle.alf_ops.specs.Histories.{byte_of}
use Rattle.domain_core.specs.WordSets.{IsOnly, IsOfSize, IsApplied, AreKept, Gives, GivesOnly, GivesSize, IsWordSize}
use Rattle.strided_rules.specs.Strides.{Stride, IsStride, Covers as CoversWord, joined as joined_words}
use Rattle.strided_rules.specs.MemberLaws.{some_word}
use Rattle.strided_rules.specs.Domains.{operand_of, applied, stride_sets, AreAlike as AreAlikeWords}
use Rattle.strided_rules.specs.DomainLaws.{stride_is_order}
use Rattle.strided_rules.specs.StrideLaws.{stride_is_sets}
use Rattle.pointer_rules.specs.AbstractValues.{AbstractValue, Alternative, Words, Places, Covers, OnlyCovers as OnlyCoversValue, alone, offsets_in, joined, AreAlike}
use Rattle.pointer_rules.specs.Covering.{IsValue, OnlyOf}
use Rattle.pointer_rules.specs.ValueLaws.{value_is_order}
use Rattle.pointer_rules.specs.ApplyLaws.{joined_value, joined_only, value_alone}
use Rattle.memory_rules.specs.ValueSets.{IsValueSets, OnlyHas, OnlyCovers, HasWords, HasOneWord, IsWordOf}
use Rattle.memory_rules.specs.AbstractSets.{low_byte, above_byte, some_place, has_pointer, abstract_sets}

-- ---- the answer of an operator

-- there is an answer, and it has the word
gives_word : (answer : Option Stride) (v : ℕ) → Gives stride_sets answer v → CoversWord (operand_of answer) v
gives_word None v g = let none : None ≡ Some g.0 = g.1 in cc
gives_word (Some w) v g = subst (λ (d : Stride). CoversWord d v) (sym (same_Some w g.0 g.1)) g.2

gives_only : (answer : Option Stride) (v : ℕ) → GivesOnly stride_sets answer v
    → IsOnly stride_sets (operand_of answer) v
gives_only None v g = let none : None ≡ Some g.0 = g.1 in cc
gives_only (Some w) v g = subst (λ (d : Stride). IsOnly stride_sets d v) (sym (same_Some w g.0 g.1)) g.2

gives_size : (answer : Option Stride) (v s : ℕ) → Gives stride_sets answer v → GivesSize stride_sets answer s
    → IsOfSize stride_sets s (operand_of answer)
gives_size None v s g sized = let none : None ≡ Some g.0 = g.1 in cc
gives_size (Some w) v s g sized = sized w refl

-- one word, and two
one_kept : (a : Stride) → IsStride a → AreKept stride_sets (a ∷ [])
one_kept a of_a e c = first_or_further a [] e c (λ same. subst IsStride same of_a) (λ none. no_member e none)

two_kept : (a b : Stride) → IsStride a → IsStride b → AreKept stride_sets (a ∷ b ∷ [])
two_kept a b of_a of_b e c = first_or_further a (b ∷ []) e c (λ same. subst IsStride same of_a) (λ other. one_kept b of_b e other)

-- the single word of a set, and the same with its size
only_of : (x : Stride) (size bits : ℕ) → OnlyHas abstract_sets x size bits → IsOnly stride_sets x bits
only_of x size bits h = record { is = h.0.1; one = λ y c. (h.1 size y (h.0.0, c)).1 }

only_has : (x : Stride) (size bits : ℕ) → x.size ≡ size → IsOnly stride_sets x bits → OnlyHas abstract_sets x size bits
only_has x size bits s only = ((s, only.is), λ own k h. (sym h.0 ∙ s, only.one k h.1))

-- ---- bytes

select_typed : (size low : ℕ) → IsWordSize size → low + 8 ≤ size
    → IsSome (result_size Select (size ∷ low ∷ (low + 7) ∷ []))
select_typed size low is room =
    let last : low + 7 < size = omega (arith, room) in
    let first : low ≤ low + 7 = omega arith in
    rw (le-leb 1 size is.least, le-leb size 64 is.most, le-leb low (low + 7) first, lt-ltb (low + 7) size last) refl

byte_applied : (x : Stride) (place : ℕ) → IsStride x → 8 * place + 8 ≤ x.size
    → IsApplied stride_sets Select (x.size ∷ 8 * place ∷ (8 * place + 7) ∷ []) (x ∷ []) (applied Select (x.size ∷ 8 * place ∷ (8 * place + 7) ∷ []) (x ∷ []))
byte_applied x place of_x room =
    stride_is_sets.applied Select (x.size ∷ 8 * place ∷ (8 * place + 7) ∷ []) (x ∷ []) (select_typed x.size (8 * place) of_x.size room) (refl, tt) (one_kept x of_x)

byte_size : (low : ℕ) → (low + 7) - low + 1 ≡ 8
byte_size low = omega arith

-- the value of select is the byte
byte_value : (size place bits : ℕ)
    → value Select (size ∷ 8 * place ∷ (8 * place + 7) ∷ []) (bits ∷ []) ≡ byte_of place bits
byte_value size place bits = ap (λ (n : ℕ). bits / 2 ^ (8 * place) % 2 ^ n) (byte_size (8 * place))

room_in : (x : Stride) (size place : ℕ) → x.size ≡ size → 8 * place + 8 ≤ size → 8 * place + 8 ≤ x.size
room_in x size place s room = omega (arith, s, room)

byte_sized : (x : Stride) (size place : ℕ) → 8 * place + 8 ≤ size → IsOfSize stride_sets size x
    → IsOfSize stride_sets 8 (low_byte place x)
byte_sized x size place room of_x =
    let r = byte_applied x place of_x.kept (room_in x size place of_x.size room) in
    let t = some_word x of_x.kept in
    subst (λ (n : ℕ). IsOfSize stride_sets n (low_byte place x)) (byte_size (8 * place))
    (gives_size (applied Select (x.size ∷ 8 * place ∷ (8 * place + 7) ∷ []) (x ∷ [])).value _ _ (r.covering (t.0 ∷ []) (t.1, tt) (λ z. false≢true z.0)) r.size)

byte_has : (x : Stride) (size bits place : ℕ) → 8 * place + 8 ≤ size → IsOfSize stride_sets size x
    → (x.size ≡ size) × CoversWord x bits
    → ((low_byte place x).size ≡ 8) × CoversWord (low_byte place x) (byte_of place bits)
byte_has x size bits place room of_x h =
    let r = byte_applied x place of_x.kept (room_in x size place of_x.size room) in (
      (byte_sized x size place room of_x).size,
      subst (λ (n : ℕ). CoversWord (low_byte place x) n) (byte_value x.size place bits)
          (gives_word (applied Select (x.size ∷ 8 * place ∷ (8 * place + 7) ∷ []) (x ∷ [])).value _ (r.covering (bits ∷ []) (h.1, tt) (λ z. false≢true z.0))),
    )

byte_only : (x : Stride) (size bits place : ℕ) → 8 * place + 8 ≤ size → IsOfSize stride_sets size x
    → OnlyHas abstract_sets x size bits
    → OnlyHas abstract_sets (low_byte place x) 8 (byte_of place bits)
byte_only x size bits place room of_x h =
    let r = byte_applied x place of_x.kept (room_in x size place of_x.size room) in
    let g = r.sharp (bits ∷ []) (only_of x size bits h, tt) (λ z. false≢true z.0) in
    only_has (low_byte place x) 8 (byte_of place bits) (byte_sized x size place room of_x).size
    (subst (λ (n : ℕ). IsOnly stride_sets (low_byte place x) n) (byte_value x.size place bits)
    (gives_only (applied Select (x.size ∷ 8 * place ∷ (8 * place + 7) ∷ []) (x ∷ [])).value _ g.0))

-- ---- concatenations

conc_typed : (m n : ℕ) → IsWordSize m → IsWordSize n → m + n ≤ 64 → IsSome (result_size Conc (m ∷ n ∷ []))
conc_typed m n is_m is_n few =
    let some : 1 ≤ m + n = omega (arith, is_m.least) in
    rw (le-leb 1 m is_m.least, le-leb m 64 is_m.most, le-leb 1 n is_n.least, le-leb n 64 is_n.most, le-leb 1 (m + n) some, le-leb (m + n) 64 few) refl

conc_applied : (a b : Stride) → IsStride a → IsStride b → a.size + b.size ≤ 64
    → IsApplied stride_sets Conc (a.size ∷ b.size ∷ []) (a ∷ b ∷ []) (applied Conc (a.size ∷ b.size ∷ []) (a ∷ b ∷ []))
conc_applied a b of_a of_b few =
    stride_is_sets.applied Conc (a.size ∷ b.size ∷ []) (a ∷ b ∷ []) (conc_typed a.size b.size of_a.size of_b.size few) (refl, (refl, tt)) (two_kept a b of_a of_b)

-- the value of conc is the first word above the byte
above : (m n x y : ℕ) → n ≡ 8 → x < 2 ^ m → y < 2 ^ n → value Conc (m ∷ n ∷ []) (x ∷ y ∷ []) ≡ x * 256 + y
above m n x y eight small few = subst (λ (k : ℕ). y < 2 ^ k → (x * 2 ^ k + y) % 2 ^ (m + k) ≡ x * 256 + y) (sym eight) at_eight few
  where
    at_eight : y < 2 ^ 8 → (x * 2 ^ 8 + y) % 2 ^ (m + 8) ≡ x * 256 + y
    at_eight low =
        let wide : 2 ^ (m + 8) ≡ 2 ^ m * 2 ^ 8 = pow-add 2 m 8 in
        let below : x * 256 + y < 2 ^ (m + 8) = omega (arith, small, low, wide) in
        mod-eq_of_lt below

sizes_fit : (a b size : ℕ) → a ≡ size → b ≡ 8 → size + 8 ≤ 64 → a + b ≤ 64
sizes_fit a b size s t few = omega (arith, s, t, few)

sizes_sum : (a b size : ℕ) → a ≡ size → b ≡ 8 → a + b ≡ size + 8
sizes_sum a b size s t = omega (arith, s, t)

conc_sized : (a b : Stride) (size : ℕ) → size + 8 ≤ 64 → IsOfSize stride_sets size a → IsOfSize stride_sets 8 b
    → IsOfSize stride_sets (size + 8) (above_byte a b)
conc_sized a b size few of_a of_b =
    let r = conc_applied a b of_a.kept of_b.kept (sizes_fit a.size b.size size of_a.size of_b.size few) in
    let t = some_word a of_a.kept in let u = some_word b of_b.kept in
    subst (λ (n : ℕ). IsOfSize stride_sets n (above_byte a b)) (sizes_sum a.size b.size size of_a.size of_b.size)
    (gives_size (applied Conc (a.size ∷ b.size ∷ []) (a ∷ b ∷ [])).value _ _ (r.covering (t.0 ∷ u.0 ∷ []) (t.1, (u.1, tt)) (λ z. false≢true z.0)) r.size)

conc_has : (a b : Stride) (size x y : ℕ) → size + 8 ≤ 64 → IsOfSize stride_sets size a → IsOfSize stride_sets 8 b
    → (a.size ≡ size) × CoversWord a x → (b.size ≡ 8) × CoversWord b y → ((above_byte a b).size ≡ size + 8) × CoversWord (above_byte a b) (x * 256 + y)
conc_has a b size x y few of_a of_b h k =
    let r = conc_applied a b of_a.kept of_b.kept (sizes_fit a.size b.size size of_a.size of_b.size few) in (
      (conc_sized a b size few of_a of_b).size,
      subst (λ (n : ℕ). CoversWord (above_byte a b) n) (above a.size b.size x y of_b.size (stride_is_sets.fits a x of_a.kept h.1) (stride_is_sets.fits b y of_b.kept k.1))
          (gives_word (applied Conc (a.size ∷ b.size ∷ []) (a ∷ b ∷ [])).value _ (r.covering (x ∷ y ∷ []) (h.1, (k.1, tt)) (λ z. false≢true z.0))),
    )

conc_only : (a b : Stride) (size x y : ℕ) → size + 8 ≤ 64 → IsOfSize stride_sets size a → IsOfSize stride_sets 8 b
    → OnlyHas abstract_sets a size x → OnlyHas abstract_sets b 8 y → OnlyHas abstract_sets (above_byte a b) (size + 8) (x * 256 + y)
conc_only a b size x y few of_a of_b h k =
    let r = conc_applied a b of_a.kept of_b.kept (sizes_fit a.size b.size size of_a.size of_b.size few) in
    let g = r.sharp (x ∷ y ∷ []) (only_of a size x h, (only_of b 8 y k, tt)) (λ z. false≢true z.0) in
    only_has (above_byte a b) (size + 8) (x * 256 + y) (conc_sized a b size few of_a of_b).size
    (subst (λ (n : ℕ). IsOnly stride_sets (above_byte a b) n) (above a.size b.size x y of_b.size (stride_is_sets.fits a x of_a.kept h.0.1) (stride_is_sets.fits b y of_b.kept k.0.1))
    (gives_only (applied Conc (a.size ∷ b.size ∷ []) (a ∷ b ∷ [])).value _ g.0))

-- ---- joins

alike_words : (size : ℕ) (a b : Stride) → IsOfSize stride_sets size a → IsOfSize stride_sets size b → AreAlikeWords a b
alike_words size a b of_a of_b = record { first = of_a.kept; second = of_b.kept; size = of_a.size ∙ sym of_b.size }

alike : (size : ℕ) (a b : AbstractValue) → IsValue size a → IsValue size b → AreAlike a b
alike size a b of_a of_b = record { size = size; first = (of_a.is, of_a.sized); second = (of_b.is, of_b.sized) }

words_sized : (a b : Stride) (size : ℕ) → IsOfSize stride_sets size a → IsOfSize stride_sets size b
    → IsOfSize stride_sets size (joined_words a b)
words_sized a b size of_a of_b =
    let r = stride_is_sets.joined_size a b of_a.kept of_b.kept (of_a.size ∙ sym of_b.size) in
    record { kept = r.kept; size = r.size ∙ of_a.size }

-- ---- values

covers_word : (x : Stride) (v : Value) → Covers (alone (Words x)) v → IsWordOf abstract_sets x v
covers_word x (Int size bits) h = record { size = size; bits = bits; is = refl; member = h }
covers_word x (Ptr frame offset) h = elim h [ ]

word_parts : (v : AbstractValue) (size bits : ℕ) → Covers v (Int size bits) → HasWords abstract_sets v size bits
word_parts v size bits h = go v.words refl h
  where
    go : (words : Option Stride) → v.words ≡ words → IsSomeAnd words (λ x. (x.size ≡ size) × CoversWord x bits)
        → HasWords abstract_sets v size bits
    go None is h = elim h [ ]
    go (Some x) is h = record { word = x; is = is; member = h }

pointer_parts : (v : AbstractValue) (frame offset : ℕ) → Covers v (Ptr frame offset) → has_pointer v ≡ true
pointer_parts v frame offset h = go v.places h
  where
    go : (places : List (ℕ × Stride)) → IsSomeAnd (offsets_in places frame) (λ offsets. CoversWord offsets offset)
        → some_place places ≡ true
    go [] h = elim h [ ]
    go (place ∷ places) h = refl

of_word_sized : (x : Stride) (size : ℕ) → IsOfSize stride_sets size x → IsValue size (alone (Words x))
of_word_sized x size of_x = record {
  is = record { words = of_x.kept; places = tt; ascending = tt; some = λ e. cc };
  sized = record { words = of_x.size; places = tt };
}

word_part_sized : (v : AbstractValue) (size : ℕ) (x : Stride) → IsValue size v → v.words ≡ Some x
    → IsOfSize stride_sets size x
word_part_sized v size x of_v is = go v.words is of_v.is.words of_v.sized.words
  where
    go : (words : Option Stride) → words ≡ Some x → IfSome words IsStride → IfSome words (λ d. d.size ≡ size)
        → IsOfSize stride_sets size x
    go None e k s = cc
    go (Some w) e k s = subst (IsOfSize stride_sets size) (same_Some w x e) (record { kept = k; size = s })

as_only : (v : AbstractValue) (own : Value) → OnlyCovers abstract_sets v own → OnlyCoversValue v own
as_only v own h = record { is = h.0; one = h.1 }

only_word : (v : AbstractValue) (own size bits : ℕ) → IsValue own v → OnlyCovers abstract_sets v (Int size bits)
    → HasOneWord abstract_sets v size bits
only_word v own size bits of_v only =
    let one = value_alone own v (Int size bits) of_v (as_only v (Int size bits) only) in
    go one.0 one.1 one.2
  where
    go : (x : Alternative) → v ≡ alone x → OnlyOf x (Int size bits) → HasOneWord abstract_sets v size bits
    go (Words x) e h = record {
      word = x;
      is = ap (λ (u : AbstractValue). u.words) e;
      member = only_has x size bits h.0 h.1;
      no_pointer = ap has_pointer e;
    }
    go (Places frame offsets) e h = elim h [ ]

only_pointer : (v : AbstractValue) (own frame offset : ℕ) → IsValue own v
    → OnlyCovers abstract_sets v (Ptr frame offset)
    → (v.words ≡ None) × (has_pointer v ≡ true)
only_pointer v own frame offset of_v only =
    let one = value_alone own v (Ptr frame offset) of_v (as_only v (Ptr frame offset) only) in
    go one.0 one.1 one.2
  where
    go : (x : Alternative) → v ≡ alone x → OnlyOf x (Ptr frame offset) → (v.words ≡ None) × (has_pointer v ≡ true)
    go (Words x) e h = elim h [ ]
    go (Places f offsets) e h = (ap (λ (u : AbstractValue). u.words) e, ap has_pointer e)

both_only : (a b : AbstractValue) (size : ℕ) (own : Value) → IsValue size a → IsValue size b
    → OnlyCovers abstract_sets a own → OnlyCovers abstract_sets b own
    → OnlyCovers abstract_sets (joined a b) own
both_only a b size own of_a of_b h k =
    let r = joined_only size a b own of_a of_b (as_only a own h) (as_only b own k) in (r.is, r.one)

-- the laws
pub abstract_is_sets : IsValueSets abstract_sets
abstract_is_sets = record {
  word_covers = λ x size bits h. h;
  covers_word = covers_word;
  word_parts = word_parts;
  pointer_parts = pointer_parts;
  joined_words_left = λ a b size bits of_a of_b h. (h.0, (stride_is_order.left a b (alike_words size a b of_a of_b)).1 bits h.1);
  joined_words_right = λ a b size bits of_a of_b h. (of_a.size, (stride_is_order.right a b (alike_words size a b of_a of_b)).1 bits h.1);
  joined_left = λ a b size own of_a of_b h. value_is_order.left a b (alike size a b of_a of_b) own h;
  joined_right = λ a b size own of_a of_b h. value_is_order.right a b (alike size a b of_a of_b) own h;
  byte_has = byte_has;
  conc_has = conc_has;
  byte_sized = byte_sized;
  conc_sized = conc_sized;
  of_word_sized = of_word_sized;
  word_part_sized = word_part_sized;
  joined_words_sized = words_sized;
  joined_sized = λ a b size of_a of_b. joined_value size a b of_a of_b;
  byte_only = byte_only;
  conc_only = conc_only;
  only_word = only_word;
  only_pointer = only_pointer;
  joined_only = both_only;
}
