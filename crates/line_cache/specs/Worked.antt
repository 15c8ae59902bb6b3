-- The caches of the worked rows.
--   two_sets    lines 6 and 4 in set 0, and line 3 in set 1
--   set_ahead   line 6 in set 1, which is not its own of two
--   shape       two sets of four ways, lines of 16 bytes, a penalty of 10
use Rattle.std.specs.Prelude.{◌==◌, if◌then◌else◌, [], ◌∷◌}
use Rattle.line_cache.specs.declared.shape.Shape.{Shape}
use Rattle.line_cache.specs.Lru.{Contents}

abbrev pub two_sets : Contents
two_sets s = if s == 0 then 6 ∷ 4 ∷ [] else 3 ∷ []

abbrev pub set_ahead : Contents
set_ahead s = if s == 0 then [] else 6 ∷ []

abbrev pub shape : Shape
shape = record { sets = 2; ways = 4; line = 16; penalty = 10 }
