-- A source read to its end, and bytes that an output takes whole; and what contracts see of a shelf and of a sink over such.
--   IsReadWhole limit left result    where what was left is told, the answer is all of it; it is too long exactly where it is told so
--   IsContent files name limit result          the same of the file of this name, where the files are told
--   OpenedFiles O                    a shelf over what opens its files: that, its counts, the last name that failed
--   seen_stream_shelf files shelf    what it is seen as, where `files` says what is told of its files
--   IsWrittenWhole before after bytes result   all of them were added, or the write failed after a prefix
--   PiecesTaken W                    a sink over an output: that, and its counts
--   seen_stream_sink taken sink      what it is seen as, where `taken` says what is told of what was taken
use Rattle.std.specs.Prelude.{◌≡◌, ◌≤◌, ◌<◌, ℕ, List, length, Option, None, IfSome, IsSomeAnd, Some, Result, Ok, Err, Vec}
use Rattle.std.specs.declared.alloc.Global.{Global}
use Rattle.flow_base.specs.Outside.{Files}
use Rattle.flow_base.specs.Shelves.{ShelfState}
use Rattle.flow_base.specs.Sinks.{SinkState, Appended, AppendedPrefix}
use Rattle.flow_base.specs.declared.shelf.ReadError.{ReadError}
use Rattle.flow_base.specs.declared.shelf.ReadError.TheVariants.{Failed, TooLong, Memory}
use Rattle.flow_base.specs.declared.sink.WriteError.{WriteError}
use Rattle.flow_base.specs.declared.sink.WriteError.TheVariants as write

-- the bytes are all that was left, and within the limit; too long is told only where more was left than the limit
abbrev pub IsReadWhole : ℕ → Option (List ℕ) → Result (Vec ℕ Global) ReadError → Type 0
IsReadWhole limit left (Ok bytes) = (length bytes.items ≤ limit) × IfSome left (λ all. bytes.items ≡ all)
IsReadWhole limit left (Err (TooLong most)) = (most ≡ limit) × IfSome left (λ all. limit < length all)
IsReadWhole limit left (Err Failed) = Unit {0}
IsReadWhole limit left (Err Memory) = Unit {0}

-- the bytes are within the limit, and those of the file; too long is told only where the file has more bytes than the limit
abbrev pub IsContent : Option Files → List ℕ → ℕ → Result (Vec ℕ Global) ReadError → Type 0
IsContent files name limit (Ok bytes) = (length bytes.items ≤ limit) × IfSome files (λ told. told name ≡ Some bytes.items)
IsContent files name limit (Err (TooLong most)) =
    (most ≡ limit) × IfSome files (λ told. IsSomeAnd (told name) (λ all. limit < length all))
IsContent files name limit (Err Failed) = Unit {0}
IsContent files name limit (Err Memory) = Unit {0}

pub record OpenedFiles (O : Type 0) : Type 0 where
  -- what opens them
  pub opener : O
  pub reads : ℕ
  pub faults : ℕ
  pub failed : Option (List ℕ)

-- it tells the files that are told of what opens them, and no names
abbrev pub seen_stream_shelf : {O : Type 0} → (O → Option Files) → OpenedFiles O → ShelfState
seen_stream_shelf files shelf =
    record { files = files shelf.opener; reads = shelf.reads; names = None; faults = shelf.faults; failed = shelf.failed }

-- all of the bytes were added, or the write failed and a prefix of them was
abbrev pub IsWrittenWhole : Option (List ℕ) → Option (List ℕ) → List ℕ → Result (Unit {0}) WriteError → Type 0
IsWrittenWhole before after bytes (Ok done) = Appended before after bytes
IsWrittenWhole before after bytes (Err write.Failed) = AppendedPrefix before after bytes
IsWrittenWhole before after bytes (Err write.Memory) = ⊥

pub record PiecesTaken (W : Type 0) : Type 0 where
  -- what takes them
  pub output : W
  pub writes : ℕ
  pub faults : ℕ

-- it tells what is told of the output
abbrev pub seen_stream_sink : {W : Type 0} → (W → Option (List ℕ)) → PiecesTaken W → SinkState
seen_stream_sink taken sink = record { taken = taken sink.output; writes = sink.writes; faults = sink.faults }
