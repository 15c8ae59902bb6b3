-- Laws of readings.
--   reading                       what a cell of a table gives is one of them
use Rattle.std.proofs.Common.{ℕ, List, Option, refl, map}
use Rattle.std.specs.List.{list_all, list_any}
use Rattle.alf_ops.specs.Histories.{Byte, bytes_of, is_empty, is_from, of_pointer, cell_in}
use Rattle.lists.specs.TestLaws.{by_test}
use Rattle.alf_ops.specs.Readings.{Reading, reads_empty, reads_whole, reads_pointers, reads_word}

-- a cell is read in one of these ways
pub reading : (from : ℕ → Option Byte) (offset size : ℕ)
    → Reading (map from (bytes_of offset size)) offset size (cell_in from offset size)
reading from offset size =
    let bytes : List (Option Byte) = map from (bytes_of offset size) in
    by_test (list_any is_empty bytes)
    (λ none. reads_empty none (rw none refl))
    (λ some. by_test (list_all (is_from offset size) bytes)
    (λ one. reads_whole some one (rw (some, one) refl))
    (λ many. by_test (list_any of_pointer bytes)
    (λ pointer. reads_pointers some many pointer (rw (some, many, pointer) refl))
    (λ words. reads_word some many words (rw (some, many, words) refl))))
