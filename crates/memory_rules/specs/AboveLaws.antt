-- What knows less covers at least as much: bytes and cells.
--   either_left, either_right, either_alike   what holds of a side holds of both joined
--   byte_above, cell_above                    more values and more flags
--   new_byte_holds                            the byte that a store leaves
--   weak_old, weak_new, weak_cell_old, weak_cell_new            joined with a new value
--   join_bytes_left, join_bytes_right, join_cells_left, join_cells_right   two sides
use Rattle.std.specs.Prelude.{IsSomeAnd, IfSome}
use Rattle.std.proofs.Common.{◌≡◌, inl, inr, sym, subst, ℕ, true, Option, Some, None, Result, Ok, Err, arith, ◌+◌, ◌*◌, ◌≤◌}
use Rattle.std.proofs.lemmas.Bool.{or_left, or_right}
use Rattle.alf_ops.specs.declared.history.Value.{Value}
use Rattle.alf_ops.specs.declared.history.Value.TheVariants.{Int, Ptr}
use Rattle.alf_ops.specs.declared.history.RunFault.{RunFault}
use Rattle.alf_ops.specs.declared.history.RunFault.TheVariants.{Uninit, Mixed, Bounds, Dead, Kind, Divide, Pointers}
use Rattle.alf_ops.specs.Histories.{Byte, byte_of}
use Rattle.alf_ops.specs.Values.{FitsValue}
use Rattle.memory_rules.specs.ValueSets.{ValueSets, IsValueSets}
use Rattle.memory_rules.specs.Frames.{AbstractByte, Cell, either, new_byte, weak_byte, weak_cell, join_bytes, join_cells}
use Rattle.memory_rules.specs.Covers.{HoldsByte, ByteCovers}
use Rattle.memory_rules.specs.Flags.{FlagCovers, FlagFault}

-- what holds of a side holds of both sides joined, where both are alike
module _ {A : Type 0} (join : A → A → A) (S P : A → Type 0) where
  pub either_left : ((a b : A) → S a → S b → P a → P (join a b)) → (a b : Option A) → IfSome a S → IfSome b S
      → IsSomeAnd a P → IsSomeAnd (either join a b) P
  either_left left None b s t h = elim h [ ]
  either_left left (Some a) None s t h = h
  either_left left (Some a) (Some b) s t h = left a b s t h

  pub either_right : ((a b : A) → S a → S b → P b → P (join a b)) → (a b : Option A) → IfSome a S → IfSome b S
      → IsSomeAnd b P → IsSomeAnd (either join a b) P
  either_right right None b s t h = h
  either_right right (Some a) None s t h = elim h [ ]
  either_right right (Some a) (Some b) s t h = right a b s t h

  pub either_alike : ((a b : A) → S a → S b → S (join a b)) → (a b : Option A) → IfSome a S → IfSome b S
      → IfSome (either join a b) S
  either_alike alike None b s t = t
  either_alike alike (Some a) None s t = s
  either_alike alike (Some a) (Some b) s t = alike a b s t

module _ (d : ValueSets) (laws : IsValueSets d) where
  -- a byte with more values and more flags
  pub byte_above : (a b : AbstractByte d.Word)
      → ((bits : ℕ) → IsSomeAnd a.value (λ w. d.has w 8 bits) → IsSomeAnd b.value (λ w. d.has w 8 bits))
      → (a.u ≡ true → b.u ≡ true) → (a.p ≡ true → b.p ≡ true) → (stored : Option Byte) → ByteCovers d a stored → ByteCovers d b stored
  byte_above a b values u p None h = u h
  byte_above a b values u p (Some stored) h = go stored.value stored.place h
    where
      go : (value : Value) (place : ℕ) → HoldsByte d a value place → HoldsByte d b value place
      go (Int size bits) place h = values (byte_of place bits) h
      go (Ptr frame offset) place h = p h

  -- a cell with more values and more flags
  pub cell_above : (a b : Cell d.Val) → ((value : Value) → IsSomeAnd a.value (λ set. d.covers set value) → IsSomeAnd b.value (λ set. d.covers set value))
      → (a.u ≡ true → b.u ≡ true) → (a.x ≡ true → b.x ≡ true) → (r : Result Value RunFault) → FlagCovers d a r → FlagCovers d b r
  cell_above a b values u x (Ok value) (inl h) = inl (values value h)
  cell_above a b values u x (Ok value) (inr h) = inr (x h.0, h.1)
  cell_above a b values u x (Err fault) h = go fault h
    where
      go : (fault : RunFault) → FlagFault a fault → FlagFault b fault
      go Uninit h = u h
      go Mixed h = x h
      go Bounds h = h
      go Dead h = h
      go Kind h = h
      go Divide h = h
      go Pointers h = h

  words_left : (a b : Option d.Word) → IfSome a (λ w. d.sized w 8) → IfSome b (λ w. d.sized w 8) → (bits : ℕ)
      → IsSomeAnd a (λ w. d.has w 8 bits)
      → IsSomeAnd (either d.join_words a b) (λ w. d.has w 8 bits)
  words_left a b s t bits h = either_left d.join_words (λ w. d.sized w 8) (λ w. d.has w 8 bits) (λ x y. laws.joined_words_left x y 8 bits) a b s t h

  words_right : (a b : Option d.Word) → IfSome a (λ w. d.sized w 8) → IfSome b (λ w. d.sized w 8) → (bits : ℕ)
      → IsSomeAnd b (λ w. d.has w 8 bits)
      → IsSomeAnd (either d.join_words a b) (λ w. d.has w 8 bits)
  words_right a b s t bits h = either_right d.join_words (λ w. d.sized w 8) (λ w. d.has w 8 bits) (λ x y. laws.joined_words_right x y 8 bits) a b s t h

  values_left : (size : ℕ) (a b : Option d.Val) → IfSome a (λ set. d.val_sized set size)
      → IfSome b (λ set. d.val_sized set size) → (value : Value)
      → IsSomeAnd a (λ set. d.covers set value) → IsSomeAnd (either d.join a b) (λ set. d.covers set value)
  values_left size a b s t value h =
      either_left d.join (λ set. d.val_sized set size) (λ set. d.covers set value) (λ x y. laws.joined_left x y size value) a b s t h

  values_right : (size : ℕ) (a b : Option d.Val) → IfSome a (λ set. d.val_sized set size)
      → IfSome b (λ set. d.val_sized set size) → (value : Value)
      → IsSomeAnd b (λ set. d.covers set value) → IsSomeAnd (either d.join a b) (λ set. d.covers set value)
  values_right size a b s t value h =
      either_right d.join (λ set. d.val_sized set size) (λ set. d.covers set value) (λ x y. laws.joined_right x y size value) a b s t h

  -- the byte that a store leaves
  pub new_byte_holds : (set : d.Val) (value : Value) (size place : ℕ) → d.val_sized set size → d.covers set value
      → FitsValue size value
      → 8 * place + 8 ≤ size → HoldsByte d (new_byte d set place) value place
  new_byte_holds set (Int own bits) size place s covers fits room =
      let w = laws.word_parts set own bits covers in
      let inside : 8 * place + 8 ≤ own = omega (arith, fits.0) in
      let kept : d.sized w.word own = subst (λ (n : ℕ). d.sized w.word n) (sym fits.0) (laws.word_part_sized set size w.word s w.is) in
      rw w.is (laws.byte_has w.word own bits place inside kept w.member)
  new_byte_holds set (Ptr frame offset) size place s covers fits room = laws.pointer_parts set frame offset covers

  -- a byte joined with a new one
  pub weak_old : (old new : AbstractByte d.Word) → IfSome old.value (λ w. d.sized w 8)
      → IfSome new.value (λ w. d.sized w 8) → (stored : Option Byte)
      → ByteCovers d old stored → ByteCovers d (weak_byte d old new) stored
  weak_old old new s t stored h = byte_above old (weak_byte d old new) (words_left old.value new.value s t) (λ u. u) (λ p. or_left _ _ p) stored h

  pub weak_new : (old new : AbstractByte d.Word) → IfSome old.value (λ w. d.sized w 8)
      → IfSome new.value (λ w. d.sized w 8) → (stored : Byte)
      → ByteCovers d new (Some stored) → ByteCovers d (weak_byte d old new) (Some stored)
  weak_new old new s t stored h = go stored.value stored.place h
    where
      go : (value : Value) (place : ℕ) → HoldsByte d new value place → HoldsByte d (weak_byte d old new) value place
      go (Int size bits) place h = words_right old.value new.value s t (byte_of place bits) h
      go (Ptr frame offset) place h = or_right _ _ h

  -- a cell joined with a new value
  pub weak_cell_old : (size : ℕ) (old : Cell d.Val) (new : d.Val) → IfSome old.value (λ set. d.val_sized set size)
      → d.val_sized new size
      → (r : Result Value RunFault) → FlagCovers d old r → FlagCovers d (weak_cell d old new) r
  weak_cell_old size old new s t r h = cell_above old (weak_cell d old new) (values_left size old.value (Some new) s t) (λ u. u) (λ x. x) r h

  pub weak_cell_new : (size : ℕ) (old : Cell d.Val) (new : d.Val) → IfSome old.value (λ set. d.val_sized set size)
      → d.val_sized new size → (value : Value)
      → d.covers new value → FlagCovers d (weak_cell d old new) (Ok value)
  weak_cell_new size old new s t value h = inl (values_right size old.value (Some new) s t value h)

  -- two sides
  pub join_bytes_left : (a b : AbstractByte d.Word) → IfSome a.value (λ w. d.sized w 8)
      → IfSome b.value (λ w. d.sized w 8) → (stored : Option Byte)
      → ByteCovers d a stored → ByteCovers d (join_bytes d a b) stored
  join_bytes_left a b s t stored h = byte_above a (join_bytes d a b) (words_left a.value b.value s t) (λ u. or_left _ _ u) (λ p. or_left _ _ p) stored h

  pub join_bytes_right : (a b : AbstractByte d.Word) → IfSome a.value (λ w. d.sized w 8)
      → IfSome b.value (λ w. d.sized w 8) → (stored : Option Byte)
      → ByteCovers d b stored → ByteCovers d (join_bytes d a b) stored
  join_bytes_right a b s t stored h = byte_above b (join_bytes d a b) (words_right a.value b.value s t) (λ u. or_right _ _ u) (λ p. or_right _ _ p) stored h

  pub join_cells_left : (size : ℕ) (a b : Cell d.Val) → IfSome a.value (λ set. d.val_sized set size)
      → IfSome b.value (λ set. d.val_sized set size)
      → (r : Result Value RunFault) → FlagCovers d a r → FlagCovers d (join_cells d a b) r
  join_cells_left size a b s t r h = cell_above a (join_cells d a b) (values_left size a.value b.value s t) (λ u. or_left _ _ u) (λ x. or_left _ _ x) r h

  pub join_cells_right : (size : ℕ) (a b : Cell d.Val) → IfSome a.value (λ set. d.val_sized set size)
      → IfSome b.value (λ set. d.val_sized set size)
      → (r : Result Value RunFault) → FlagCovers d b r → FlagCovers d (join_cells d a b) r
  join_cells_right size a b s t r h = cell_above b (join_cells d a b) (values_right size a.value b.value s t) (λ u. or_right _ _ u) (λ x. or_right _ _ x) r h
