-- A shelf in memory whose reads fail as they are told to.
--   HeldShelf                  what contracts see of it
--   seen_shelf shelf           what each shelf is seen as: it tells everything
--   is_due_to_fail shelf name  the next read, of this name, is to fail
--   FailsUnlessMemory result   the read failed, or found no memory
use Rattle.std.specs.Prelude.{◌==◌, ◌||◌, ℕ, Bool, List, Option, Some, is_none, Result, Ok, Err, Vec}
use Rattle.std.specs.List.{list_any}
use Rattle.std.specs.declared.alloc.Global.{Global}
use Rattle.flow_base.specs.Held.{found_in}
use Rattle.flow_base.specs.Shelves.{ShelfState}
use Rattle.flow_base.specs.declared.shelf.ReadError.{ReadError}
use Rattle.flow_base.specs.declared.shelf.ReadError.TheVariants.{Failed, TooLong, Memory}

pub record HeldShelf : Type 0 where
  pub files : List (List ℕ × List ℕ)
  -- the numbers of the reads that are to fail, from 0
  pub failing : List ℕ
  pub reads : ℕ
  pub names : List (List ℕ)
  pub faults : ℕ
  pub failed : Option (List ℕ)

-- it tells everything
abbrev pub seen_shelf : HeldShelf → ShelfState
seen_shelf shelf = record { files = Some (found_in shelf.files); reads = shelf.reads; names = Some shelf.names; faults = shelf.faults; failed = shelf.failed }

-- the next read is listed, or no file has this name
abbrev pub is_due_to_fail : HeldShelf → List ℕ → Bool
is_due_to_fail shelf name = list_any (λ number. number == shelf.reads) shelf.failing || is_none (found_in shelf.files name)

-- the read failed, or found no memory
abbrev pub FailsUnlessMemory : Result (Vec ℕ Global) ReadError → Type 0
FailsUnlessMemory (Ok bytes) = ⊥
FailsUnlessMemory (Err Failed) = Unit {0}
FailsUnlessMemory (Err (TooLong limit)) = ⊥
FailsUnlessMemory (Err Memory) = Unit {0}
