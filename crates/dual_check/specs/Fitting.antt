-- Numbers where they have 128 signed bits.
--   fitting z    the number, where it fits
use Rattle.std.specs.Prelude.{ℤ, Option, None, Some, if◌then◌else◌}
use Rattle.ipet_rows.specs.Firsts.{fits}

-- the number, where it fits
abbrev pub fitting : ℤ → Option ℤ
fitting z = if fits z then Some z else None
