-- Lists of spans, as they are kept.
--   only c          the span of one number alone
--   spans_in ends   the spans that have these ends
--   room_of ends    the bytes of memory that they take beside their 32 bytes
--   IsSingle ends   one number is kept for each span
use Rattle.std.specs.Prelude.{ℕ, ◌*◌, List, map, replicate, length}
use Rattle.flow_recorders.specs.declared.ends.Ends.{Ends}
use Rattle.flow_recorders.specs.declared.ends.Ends.TheVariants.{Zeros, Few, Narrow, Same, Apart}

-- the span of one number alone
abbrev pub only : ℕ → ℕ × ℕ
only c = (c, c)

-- the spans that have these ends
abbrev pub spans_in : Ends → List (ℕ × ℕ)
spans_in (Zeros count) = replicate count (0, 0)
spans_in (Few counts) = map only counts
spans_in (Narrow counts) = map only counts.items
spans_in (Same counts) = map only counts.items
spans_in (Apart spans) = spans.items

-- the bytes of memory that they take beside their 32 bytes
abbrev pub room_of : Ends → ℕ
room_of (Zeros count) = 0
room_of (Few counts) = 0
room_of (Narrow counts) = length counts.items
room_of (Same counts) = 4 * length counts.items
room_of (Apart spans) = 8 * length spans.items

-- one number is kept for each span
abbrev pub IsSingle : Ends → Type 0
IsSingle (Zeros count) = Unit {0}
IsSingle (Few counts) = Unit {0}
IsSingle (Narrow counts) = Unit {0}
IsSingle (Same counts) = Unit {0}
IsSingle (Apart spans) = ⊥
