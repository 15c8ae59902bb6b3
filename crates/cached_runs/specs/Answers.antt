-- What an exploration tells of a cache, without where it lies in memory.
--   CacheLines            nodes at which each access hits, and a bound on the cost of a run with its misses
--   CacheAnswer           such lines, or the scope in which the exploration was left
--   lines_of, answer_of   what the code's values stand for
--   IfTold answer P       P holds of the lines, if the answer has some
use Rattle.std.specs.Prelude.{ℕ, List}
use Rattle.cached_runs.specs.declared.answer.CachedLines.{CachedLines}
use Rattle.cached_runs.specs.declared.answer.Cached.{Cached}
use Rattle.cached_runs.specs.declared.answer.Cached.TheVariants as answers

-- nodes at which each access hits, and a bound on the cost of a run with its misses
pub record CacheLines : Type 0 where
  pub hits : List ℕ
  pub bound : ℕ

-- such lines, or the scope in which the exploration was left
pub data CacheAnswer : Type 0 where
  Told : CacheLines → CacheAnswer
  Unbounded : ℕ → CacheAnswer

-- what the code's values stand for
abbrev pub lines_of : CachedLines → CacheLines
lines_of lines = record { hits = lines.hits.items; bound = lines.bound }

abbrev pub answer_of : Cached → CacheAnswer
answer_of (answers.Told lines) = Told (lines_of lines)
answer_of (answers.Unbounded scope) = Unbounded scope

-- P holds of the lines, if the answer has some
abbrev pub IfTold : CacheAnswer → (CacheLines → Type 0) → Type 0
IfTold (Told lines) P = P lines
IfTold (Unbounded scope) P = Unit {0}
