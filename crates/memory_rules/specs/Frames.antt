-- The abstract memory of one frame, and its calls.
--   AbstractByte   values of size 8, if any; u: perhaps it has no store; p: perhaps its newest store is of a pointer
--   Cell           values, if any; u: perhaps some byte has no store; x: perhaps every byte has a store and the cell is read from its bytes
--   FrameMem       the bytes, and the kept cells by offset and size
--   stands m o s   the cell as it stands, kept or not
--   results        what a load of the cell may give, in the order in which a load joins it
--   strong, weak   after a store where this is the one possible cell, or one of several
--   joined, pinned, empty
use Rattle.std.specs.Prelude.{ℕ, Bool, true, false, List, [], ◌∷◌, ◌++◌, map, Option, Some, None, Result, Ok, Err, is_some, ◌+◌, ◌-◌, ◌/◌, ◌==◌, ◌&&◌, ◌||◌, nat_lt, if◌then◌else◌}
use Rattle.std.specs.List.{list_all, list_any}
use Rattle.alf_ops.specs.declared.history.RunFault.{RunFault}
use Rattle.alf_ops.specs.declared.history.RunFault.TheVariants.{Uninit, Mixed}
use Rattle.alf_ops.specs.Histories.{is_byte_of, bytes_of}
use Rattle.memory_rules.specs.ValueSets.{ValueSets}

-- a byte of the frame
pub record AbstractByte (W : Type 0) : Type 0 where
  pub value : Option W
  pub u : Bool
  pub p : Bool

-- a cell of the frame
pub record Cell (V : Type 0) : Type 0 where
  pub value : Option V
  pub u : Bool
  pub x : Bool

pub record FrameMem (d : ValueSets) : Type 0 where
  pub bytes : ℕ → AbstractByte d.Word
  pub cells : ℕ → ℕ → Option (Cell d.Val)

-- two cells are the same
abbrev pub is_same : ℕ → ℕ → ℕ → ℕ → Bool
is_same offset size place width = (place == offset) && (width == size)

-- two cells share a byte
abbrev pub share_byte : ℕ → ℕ → ℕ → ℕ → Bool
share_byte offset size place width = nat_lt offset (place + width / 8) && nat_lt place (offset + size / 8)

-- where there are values on both sides they are joined
abbrev pub either : {A : Type 0} → (A → A → A) → Option A → Option A → Option A
either join None b = b
either join (Some a) None = Some a
either join (Some a) (Some b) = Some (join a b)

-- a byte that is not kept
abbrev pub no_byte : {W : Type 0} → AbstractByte W
no_byte = record { value = None; u = true; p = false }

-- the values of the bytes, the lowest first, where each has one
abbrev pub and_values : {W : Type 0} → Option W → Option (List W) → Option (List W)
and_values None words = None
and_values (Some word) None = None
and_values (Some word) (Some words) = Some (word ∷ words)

abbrev pub values_in : {W : Type 0} → List (AbstractByte W) → Option (List W)
values_in [] = Some []
values_in (byte ∷ bytes) = and_values byte.value (values_in bytes)

-- the byte has a value or p
abbrev pub is_stored : {W : Type 0} → AbstractByte W → Bool
is_stored byte = is_some byte.value || byte.p

-- a cell that is not kept, over its bytes
abbrev pub not_kept : {W V : Type 0} → List (AbstractByte W) → Cell V
not_kept taken = record { value = None; u = list_any (λ byte. byte.u) taken; x = list_all is_stored taken }

-- the cell as it stands, where perhaps it is kept
abbrev pub kept_or : {V : Type 0} → Option (Cell V) → Cell V → Cell V
kept_or None other = other
kept_or (Some cell) other = cell

module _ (d : ValueSets) where
  -- the bytes of a cell
  abbrev pub taken : FrameMem d → ℕ → ℕ → List (AbstractByte d.Word)
  taken m offset size = map m.bytes (bytes_of offset size)

  abbrev pub stands : FrameMem d → ℕ → ℕ → Cell d.Val
  stands m offset size = kept_or (m.cells offset size) (not_kept (taken m offset size))

  -- a byte below a word, or alone
  abbrev pub appended : Option d.Word → d.Word → d.Word
  appended None low = low
  appended (Some high) low = d.conc high low

  -- the concatenation of bytes: the highest first, each next lower byte appended
  abbrev pub concatenated : List d.Word → Option d.Word
  concatenated [] = None
  concatenated (low ∷ words) = Some (appended (concatenated words) low)

  abbrev pub word_result : Option d.Word → List (Result d.Val RunFault)
  word_result None = []
  word_result (Some word) = Ok (d.of_word word) ∷ []

  abbrev pub words_result : Option (List d.Word) → List (Result d.Val RunFault)
  words_result None = []
  words_result (Some words) = word_result (concatenated words)

  -- the results from bytes
  abbrev pub from_bytes : List (AbstractByte d.Word) → List (Result d.Val RunFault)
  from_bytes bytes = words_result (values_in bytes) ++ (if list_any (λ byte. byte.p) bytes then Err Mixed ∷ [] else [])

  abbrev pub value_result : Option d.Val → List (Result d.Val RunFault)
  value_result None = []
  value_result (Some value) = Ok value ∷ []

  -- the results of a cell over its bytes
  abbrev pub results : List (AbstractByte d.Word) → Cell d.Val → List (Result d.Val RunFault)
  results bytes cell = value_result cell.value ++ ((if cell.u then Err Uninit ∷ [] else []) ++ (if cell.x then from_bytes bytes else []))

  -- what a load of one cell of the frame may give
  abbrev pub load_results : FrameMem d → ℕ → ℕ → List (Result d.Val RunFault)
  load_results m offset size = results (taken m offset size) (stands m offset size)

  -- this byte of the words, if there are words
  abbrev pub byte_part : ℕ → Option d.Word → Option d.Word
  byte_part place None = None
  byte_part place (Some word) = Some (d.byte place word)

  -- the byte that a store of the value leaves there
  abbrev pub new_byte : d.Val → ℕ → AbstractByte d.Word
  new_byte value place = record { value = byte_part place (d.word_part value); u = false; p = d.has_pointer value }

  -- the frame after a store where this is the one possible cell
  abbrev pub strong : FrameMem d → ℕ → ℕ → d.Val → FrameMem d
  strong m offset size value = record {
    bytes = λ byte. if is_byte_of offset size byte then new_byte value (byte - offset) else m.bytes byte;
    cells = λ place width.
        if is_same offset size place width then Some (record { value = Some value; u = false; x = false })
        else (if share_byte offset size place width then None else m.cells place width);
  }

  -- a byte joined with a new one: u stays
  abbrev pub weak_byte : AbstractByte d.Word → AbstractByte d.Word → AbstractByte d.Word
  weak_byte old new = record { value = either d.join_words old.value new.value; u = old.u; p = old.p || new.p }

  -- a cell joined with the new value
  abbrev pub weak_cell : Cell d.Val → d.Val → Cell d.Val
  weak_cell old value = record { value = either d.join old.value (Some value); u = old.u; x = old.x }

  -- a kept cell gets x
  abbrev pub with_x : Option (Cell d.Val) → Option (Cell d.Val)
  with_x None = None
  with_x (Some cell) = Some (record { value = cell.value; u = cell.u; x = true })

  -- the frame after a store where this is one of several possible cells
  abbrev pub weak : FrameMem d → ℕ → ℕ → d.Val → FrameMem d
  weak m offset size value = record {
    bytes = λ byte. if is_byte_of offset size byte then weak_byte (m.bytes byte) (new_byte value (byte - offset)) else m.bytes byte;
    cells = λ place width.
        if is_same offset size place width then Some (weak_cell (stands m offset size) value)
        else (if share_byte offset size place width then with_x (m.cells place width) else m.cells place width);
  }

  -- a frame whose function is entered
  abbrev pub empty : FrameMem d
  empty = record { bytes = λ byte. no_byte; cells = λ offset size. None }

  abbrev pub join_bytes : AbstractByte d.Word → AbstractByte d.Word → AbstractByte d.Word
  join_bytes a b = record { value = either d.join_words a.value b.value; u = a.u || b.u; p = a.p || b.p }

  abbrev pub join_cells : Cell d.Val → Cell d.Val → Cell d.Val
  join_cells a b = record { value = either d.join a.value b.value; u = a.u || b.u; x = a.x || b.x }

  -- byte by byte, and cell by cell over those kept on either side
  abbrev pub joined : FrameMem d → FrameMem d → FrameMem d
  joined a b = record {
    bytes = λ byte. join_bytes (a.bytes byte) (b.bytes byte);
    cells = λ offset size.
        if is_some (a.cells offset size) || is_some (b.cells offset size) then Some (join_cells (stands a offset size) (stands b offset size)) else None;
  }

  -- the cell is kept with this value; the bytes stay
  abbrev pub pinned : FrameMem d → ℕ → ℕ → d.Val → FrameMem d
  pinned m offset size value = record {
    bytes = m.bytes;
    cells = λ place width.
        if is_same offset size place width then Some (record { value = Some value; u = false; x = false }) else m.cells place width;
  }
