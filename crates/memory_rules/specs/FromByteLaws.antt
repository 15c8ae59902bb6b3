-- Laws of from bytes.
--   among_left, among_right, among_cases   the results of two lists together
--   some_u, some_p, all_stored, word_at     flags and values of bytes that cover what they come from
--   bytes_concatenate, one_word, word_among the concatenation has the word of the bytes, and is the one result of words
--   both_hold   what holds where there is some, and of some
use Rattle.std.specs.Prelude.{IsSomeAnd, IfSome, is_some}
use Rattle.std.proofs.Common.{◌≡◌, ◌⊎◌, inl, inr, sym, subst, ℕ, suc, zero, true, false, List, [], ◌∷◌, ◌++◌, map, Option, Some, None, Result, Ok, refl, arith, ◌+◌, ◌*◌, ◌<◌, ◌≤◌}
use Rattle.std.specs.List.{list_all, list_any}
use Rattle.std.proofs.lemmas.Bool.{or_left, or_right, false≢true}
use Rattle.alf_ops.specs.declared.history.Value.{Value}
use Rattle.alf_ops.specs.declared.history.Value.TheVariants.{Int, Ptr}
use Rattle.alf_ops.specs.declared.history.RunFault.{RunFault}
use Rattle.alf_ops.specs.Histories.{Byte, byte_of, bits_at, offsets, is_empty, of_pointer, word_of}
use Rattle.alf_ops.specs.Values.{bits_of, is_pointer}
use Rattle.alf_ops.specs.SpanLaws.{one_passes, each_fails, some_pass, all_pass}
use Rattle.memory_rules.specs.ValueSets.{ValueSets, IsValueSets}
use Rattle.memory_rules.specs.Frames.{AbstractByte, is_stored, values_in, appended, concatenated, from_bytes, words_result}
use Rattle.memory_rules.specs.Covers.{HoldsByte, ByteCovers, Among}
use Rattle.memory_rules.specs.FromBytes.{Member, OnlyMember, Holds, Concatenates}

module _ (d : ValueSets) where
  pub among_left : (r : Result Value RunFault) (xs ys : List (Result d.Val RunFault)) → Among d r xs
      → Among d r (xs ++ ys)
  among_left r [] ys h = elim h [ ]
  among_left r (x ∷ xs) ys (inl h) = inl h
  among_left r (x ∷ xs) ys (inr h) = inr (among_left r xs ys h)

  pub among_right : (r : Result Value RunFault) (xs ys : List (Result d.Val RunFault)) → Among d r ys
      → Among d r (xs ++ ys)
  among_right r [] ys h = h
  among_right r (x ∷ xs) ys h = inr (among_right r xs ys h)

  pub among_cases : (r : Result Value RunFault) (xs ys : List (Result d.Val RunFault)) → Among d r (xs ++ ys)
      → Among d r xs ⊎ Among d r ys
  among_cases r [] ys h = inr h
  among_cases r (x ∷ xs) ys (inl h) = inl (inl h)
  among_cases r (x ∷ xs) ys (inr h) = elim (among_cases r xs ys h) [ inl a ↦ inl (inr a) | inr b ↦ inr b ]

module _ (d : ValueSets) (laws : IsValueSets d) (bytes : ℕ → AbstractByte d.Word) (from : ℕ → Option Byte) (covered : (byte : ℕ) → ByteCovers d (bytes byte) (from byte)) where
  -- a byte without a store has u
  u_at : (byte : ℕ) → is_empty (from byte) ≡ true → (bytes byte).u ≡ true
  u_at byte none = go (from byte) (covered byte) none
    where
      go : (stored : Option Byte) → ByteCovers d (bytes byte) stored → is_empty stored ≡ true → (bytes byte).u ≡ true
      go None h none = h
      go (Some stored) h none = absurd (false≢true none)

  pub some_u : (offset count : ℕ) → list_any is_empty (map from (offsets offset count)) ≡ true
      → list_any (λ (byte : AbstractByte d.Word). byte.u) (map bytes (offsets offset count)) ≡ true
  some_u offset count none =
      let found = one_passes is_empty from offset count none in
      some_pass (λ (byte : AbstractByte d.Word). byte.u) bytes offset count found.0 found.1 found.2 (u_at found.0 found.3)

  -- a byte that comes from a pointer has p
  p_at : (byte : ℕ) → of_pointer (from byte) ≡ true → (bytes byte).p ≡ true
  p_at byte pointer = go (from byte) (covered byte) pointer
    where
      at : (value : Value) (place : ℕ) → HoldsByte d (bytes byte) value place → is_pointer value ≡ true
          → (bytes byte).p ≡ true
      at (Int size bits) place h pointer = absurd (false≢true pointer)
      at (Ptr frame offset) place h pointer = h

      go : (stored : Option Byte) → ByteCovers d (bytes byte) stored → of_pointer stored ≡ true → (bytes byte).p ≡ true
      go None h pointer = absurd (false≢true pointer)
      go (Some stored) h pointer = at stored.value stored.place h pointer

  pub some_p : (offset count : ℕ) → list_any of_pointer (map from (offsets offset count)) ≡ true
      → list_any (λ (byte : AbstractByte d.Word). byte.p) (map bytes (offsets offset count)) ≡ true
  some_p offset count pointer =
      let found = one_passes of_pointer from offset count pointer in
      some_pass (λ (byte : AbstractByte d.Word). byte.p) bytes offset count found.0 found.1 found.2 (p_at found.0 found.3)

  -- a byte with a store has a value or p
  stored_at : (byte : ℕ) → is_empty (from byte) ≡ false → is_stored (bytes byte) ≡ true
  stored_at byte some = go (from byte) (covered byte) some
    where
      has_some : (value : Option d.Word) (P : d.Word → Type 0) → IsSomeAnd value P → is_some value ≡ true
      has_some None P h = elim h [ ]
      has_some (Some word) P h = refl

      at : (value : Value) (place : ℕ) → HoldsByte d (bytes byte) value place → is_stored (bytes byte) ≡ true
      at (Int size bits) place h = or_left _ _ (has_some (bytes byte).value (λ word. d.has word 8 (byte_of place bits)) h)
      at (Ptr frame offset) place h = or_right _ _ h

      go : (stored : Option Byte) → ByteCovers d (bytes byte) stored → is_empty stored ≡ false
          → is_stored (bytes byte) ≡ true
      go None h some = absurd (false≢true (sym some))
      go (Some stored) h some = at stored.value stored.place h

  pub all_stored : (offset count : ℕ) → list_any is_empty (map from (offsets offset count)) ≡ false
      → list_all is_stored (map bytes (offsets offset count)) ≡ true
  all_stored offset count some =
      all_pass is_stored bytes offset count (λ byte low high. stored_at byte (each_fails is_empty from offset count some byte low high))

  -- a byte that comes from a word has a value that covers it
  pub word_at : (byte : ℕ) → is_empty (from byte) ≡ false → of_pointer (from byte) ≡ false
      → IsSomeAnd (bytes byte).value (λ word. d.has word 8 (bits_at (from byte)))
  word_at byte some words = go (from byte) (covered byte) some words
    where
      at : (value : Value) (place : ℕ) → HoldsByte d (bytes byte) value place → is_pointer value ≡ false
          → IsSomeAnd (bytes byte).value (λ word. d.has word 8 (byte_of place (bits_of value)))
      at (Int size bits) place h words = h
      at (Ptr frame offset) place h words = absurd (false≢true (sym words))

      go : (stored : Option Byte) → ByteCovers d (bytes byte) stored → is_empty stored ≡ false
          → of_pointer stored ≡ false
          → IsSomeAnd (bytes byte).value (λ word. d.has word 8 (bits_at stored))
      go None h some words = absurd (false≢true (sym some))
      go (Some stored) h some words = at stored.value stored.place h words

-- what holds where there is some, and of some
pub both_hold : {A : Type 0} (S P : A → Type 0) (value : Option A) → IfSome value S → IsSomeAnd value P
    → IsSomeAnd value (λ a. S a × P a)
both_hold S P None s h = elim h [ ]
both_hold S P (Some a) s h = (s, h)

pub member_conc : (d : ValueSets) (laws : IsValueSets d) (a b : d.Word) (size x y : ℕ) → size + 8 ≤ 64
    → Member d a size x → Member d b 8 y
    → Member d (d.conc a b) (size + 8) (x * 256 + y)
member_conc d laws a b size x y few h k = (laws.conc_sized a b size few h.0 k.0, laws.conc_has a b size x y few h.0 k.0 h.1 k.1)

pub only_conc : (d : ValueSets) (laws : IsValueSets d) (a b : d.Word) (size x y : ℕ) → size + 8 ≤ 64
    → OnlyMember d a size x → OnlyMember d b 8 y
    → OnlyMember d (d.conc a b) (size + 8) (x * 256 + y)
only_conc d laws a b size x y few h k = (laws.conc_sized a b size few h.0 k.0, laws.conc_only a b size x y few h.0 k.0 h.1 k.1)

-- a relation that concatenation keeps: membership, and being the only member
module _ (d : ValueSets) (H : d.Word → ℕ → ℕ → Type 0) (conc_keeps : (a b : d.Word) (size x y : ℕ) → size + 8 ≤ 64 → H a size x → H b 8 y → H (d.conc a b) (size + 8) (x * 256 + y)) where
  appended_keeps : (high : Option d.Word) (low : d.Word) (size x y : ℕ) → size + 8 ≤ 64 → Holds d H high size x
      → H low 8 y
      → H (appended d high low) (size + 8) (x * 256 + y)
  appended_keeps None low size x y few (no_size, no_bits) h =
      let s : 8 ≡ size + 8 = omega arith in
      let b : y ≡ x * 256 + y = omega arith in
      subst (λ (n : ℕ). H low n (x * 256 + y)) s (subst (λ (n : ℕ). H low 8 n) b h)
  appended_keeps (Some high) low size x y few high_has h = conc_keeps high low size x y few high_has h

  pub bytes_concatenate : (bytes : ℕ → AbstractByte d.Word) (from : ℕ → Option Byte) (offset count : ℕ) → count * 8 ≤ 64
      → ((byte : ℕ) → offset ≤ byte → byte < offset + count → IsSomeAnd (bytes byte).value (λ word. H word 8 (bits_at (from byte))))
      → Concatenates d H (map bytes (offsets offset count)) (count * 8) (word_of (map from (offsets offset count)))
  bytes_concatenate bytes from offset zero few each = record { words = []; are = refl; hold = (refl, refl) }
  bytes_concatenate bytes from offset (suc count) few each =
      let fewer : count * 8 ≤ 64 = omega (arith, few) in
      go (bytes offset).value refl (each offset (omega arith) (omega arith)) (bytes_concatenate bytes from (suc offset) count fewer (λ byte low high. each byte (omega arith) (omega arith)))
    where
      go : (value : Option d.Word) → (bytes offset).value ≡ value
          → IsSomeAnd value (λ word. H word 8 (bits_at (from offset)))
          → Concatenates d H (map bytes (offsets (suc offset) count)) (count * 8) (word_of (map from (offsets (suc offset) count)))
          → Concatenates d H (map bytes (offsets offset (suc count))) (suc count * 8) (word_of (map from (offsets offset (suc count))))
      go None is h rest = elim h [ ]
      go (Some low) is h rest =
          let size : count * 8 + 8 ≡ suc count * 8 = omega arith in
          record {
            words = low ∷ rest.words;
            are = rw (is, rest.are) refl;
            hold = subst (λ (n : ℕ). H (appended d (concatenated d rest.words) low) n (word_of (map from (offsets offset (suc count))))) size
                (appended_keeps (concatenated d rest.words) low (count * 8) (word_of (map from (offsets (suc offset) count))) (bits_at (from offset)) (omega (arith, few)) rest.hold h);
          }

  -- bytes with a size have one concatenation
  pub one_word : (bytes : List (AbstractByte d.Word)) (size bits : ℕ) → 0 < size → Concatenates d H bytes size bits
      → (word : d.Word) × (words_result d (values_in bytes) ≡ Ok (d.of_word word) ∷ []) × H word size bits
  one_word bytes size bits some h = go (concatenated d h.words) refl h.hold
    where
      go : (word : Option d.Word) → concatenated d h.words ≡ word → Holds d H word size bits
          → (word : d.Word) × (words_result d (values_in bytes) ≡ Ok (d.of_word word) ∷ []) × H word size bits
      go None is (no_size, no_bits) = absurd (omega arith)
      go (Some word) is has = (word, rw (h.are, is) refl, has)

-- the concatenation is among the results from bytes
pub word_among : (d : ValueSets) (laws : IsValueSets d) (bytes : List (AbstractByte d.Word)) (size bits : ℕ) → 0 < size
    → Concatenates d (Member d) bytes size bits → Among d (Ok (Int size bits)) (from_bytes d bytes)
word_among d laws bytes size bits some h =
    let w = one_word d (Member d) (member_conc d laws) bytes size bits some h in
    let among : Among d (Ok (Int size bits)) (words_result d (values_in bytes)) = rw w.1 (inl (laws.word_covers w.0 size bits w.2.1)) in
    among_left d (Ok (Int size bits)) (words_result d (values_in bytes)) _ among
