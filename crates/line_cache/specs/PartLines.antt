-- The lines of a part of the code, which begins at an address and has a size.
--   part_lines line part   from that of its first byte to that of its last; a part of no size has none
--   HasByteIn line part l   some byte of the part lies in the line, which is where its address divided by the bytes of a line is l
use Rattle.std.proofs.Common.{◌≡◌, ◌≤◌, ◌<◌, ◌+◌, ◌-◌, ◌/◌, ℕ, List}
use Rattle.std.specs.List.{range_with_len}
use Rattle.line_cache.specs.Lines.{first_line, end_line}

-- from the line of its first byte to that of its last
abbrev pub part_lines : ℕ → ℕ × ℕ → List ℕ
part_lines line part = range_with_len (first_line line part) (end_line line part - first_line line part)

-- some byte of the part lies in the line
pub record HasByteIn (line : ℕ) (part : ℕ × ℕ) (l : ℕ) : Type 0 where
  pub byte : ℕ
  pub begun : part.0 ≤ byte
  pub within : byte < part.0 + part.1
  pub there : byte / line ≡ l
