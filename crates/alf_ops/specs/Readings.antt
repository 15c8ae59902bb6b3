-- What a cell gives, by cases.
--   Reading taken offset size r   the four cases of a cell's bytes, each with the result r that is due
use Rattle.std.proofs.Common.{◌≡◌, ℕ, true, false, List, Option, Result, Ok, Err}
use Rattle.std.specs.List.{list_all, list_any}
use Rattle.alf_ops.specs.declared.history.Value.{Value}
use Rattle.alf_ops.specs.declared.history.Value.TheVariants.{Int}
use Rattle.alf_ops.specs.declared.history.RunFault.{RunFault}
use Rattle.alf_ops.specs.declared.history.RunFault.TheVariants.{Uninit, Mixed}
use Rattle.alf_ops.specs.Histories.{Byte, is_empty, is_from, of_pointer, first_value, word_of}

-- some byte is empty, or all are of stores of this cell, or one is of a pointer, or all are of words
pub data Reading (taken : List (Option Byte)) (offset size : ℕ) (r : Result Value RunFault) : Type 0 where
  reads_empty : list_any is_empty taken ≡ true → r ≡ Err Uninit → Reading taken offset size r
  reads_whole : list_any is_empty taken ≡ false → list_all (is_from offset size) taken ≡ true → r ≡ first_value taken
      → Reading taken offset size r
  reads_pointers : list_any is_empty taken ≡ false → list_all (is_from offset size) taken ≡ false
      → list_any of_pointer taken ≡ true → r ≡ Err Mixed
      → Reading taken offset size r
  reads_word : list_any is_empty taken ≡ false → list_all (is_from offset size) taken ≡ false
      → list_any of_pointer taken ≡ false
      → r ≡ Ok (Int size (word_of taken)) → Reading taken offset size r
