-- What `cache` tells of an instruction cache.
--   hit_line n          the line of a node at which each access hits
--   cache_bound_line v  the line of the bound on the cost of a run with its misses
--   cache_text lines    a line for each such node, and that of the bound
use Rattle.std.specs.Prelude.{ℕ, List, [], ◌∷◌, ◌++◌, codes, decimal}
use Rattle.std.specs.List.{flat_map}
use Rattle.cached_runs.specs.Answers.{CacheLines}

-- `hit N`
abbrev pub hit_line : ℕ → List ℕ
hit_line n = codes "hit " ++ (decimal n ++ 10 ∷ [])

-- `cache-bound V`
abbrev pub cache_bound_line : ℕ → List ℕ
cache_bound_line v = codes "cache-bound " ++ (decimal v ++ 10 ∷ [])

-- a line for each node at which each access hits, in order, and the bound
abbrev pub cache_text : CacheLines → List ℕ
cache_text lines = flat_map hit_line lines.hits ++ cache_bound_line lines.bound
