-- Files of entries. The top gives the entries of a document, or none where a key at the top is at fault; the judging
-- says what entries are right.
--   HasEntries bytes top entries    the file is a document with these entries
--   HasWrongTop bytes top           the file is a document, and a key at the top is at fault
--   Refuses bytes top judging fault the file is refused for this fault
use Rattle.std.specs.Prelude.{◌≡◌, ℕ, List, Option, Some, None}
use Rattle.toml.specs.Data.{Data, Members}
use Rattle.cost_table.specs.declared.fault.TableFault.{TableFault}
use Rattle.cost_table.specs.declared.fault.TableFault.TheVariants as faults
use Rattle.cost_table.specs.Documents.{IsDocument}
use Rattle.cost_table.specs.Entries.{Judging, IsFirstFault}

-- the file is a document with these entries
pub record HasEntries (bytes : List ℕ) (top : Members → Option (List Data)) (entries : List Data) : Type 0 where
  pub members : Members
  pub document : IsDocument bytes members
  pub told : top members ≡ Some entries

-- the file is a document, and a key at the top is at fault
pub record HasWrongTop (bytes : List ℕ) (top : Members → Option (List Data)) : Type 0 where
  pub members : Members
  pub document : IsDocument bytes members
  pub untold : top members ≡ None

-- the fault is that of the first entry that is not right
pub record HasWrongEntry (bytes : List ℕ) (top : Members → Option (List Data)) (judging : Judging)
    (fault : TableFault) : Type 0 where
  pub entries : List Data
  pub told : HasEntries bytes top entries
  pub first : IsFirstFault judging entries fault

-- the file is no document, or has a key fault at the top, or the fault of an entry
pub data Refuses (bytes : List ℕ) (top : Members → Option (List Data)) (judging : Judging) : TableFault → Type 0 where
  NoDocument : ((members : Members) → ¬ IsDocument bytes members) → Refuses bytes top judging faults.Toml
  WrongTop : HasWrongTop bytes top → Refuses bytes top judging (faults.Key None)
  WrongEntry : (fault : TableFault) → HasWrongEntry bytes top judging fault → Refuses bytes top judging fault
