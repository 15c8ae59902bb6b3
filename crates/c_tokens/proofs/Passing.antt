-- Looking for an end byte by byte, as a loop does.
--   passed_by n end                   the end, counted from so many bytes before
--   EndPassed n bytes rest end all    so many of the bytes were passed, the rest is left, and its end is that of all
use Rattle.std.proofs.Common.{◌≡◌, ℕ, ◌+◌, List, length, Option, Some, None}

abbrev pub passed_by : ℕ → Option ℕ → Option ℕ
passed_by n None = None
passed_by n (Some k) = Some (k + n)

pub record EndPassed (n : ℕ) (bytes rest : List ℕ) (end all : Option ℕ) : Type 0 where
  pub same : passed_by n end ≡ all
  pub counts : n + length rest ≡ length bytes
