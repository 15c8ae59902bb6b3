-- Spans of counts: the least and the greatest.
--   visits n nodes      the places of the node n among the nodes
--   IsWithin c s        the count lies in the span
--   IsInside a b        the span a lies in the span b
--   one_more s          the span of counts that are one more
--   span_of a b         the least span around both
--   collected t s       what a book has once the span s is collected, where it had t: None is nothing
--   IsWider t u         u has at least what t has
--   spread_of counts    what a book has once each of the counts is collected, the last first
--   AllInside as bs     the spans lie in those of the second list, one by one
--   greatest spans      the greatest number of all the spans
use Rattle.std.specs.Prelude.{◌≡◌, ℕ, ◌+◌, ◌<◌, ◌≤◌, min, max, List, [], ◌∷◌, length, slice_index_or, Option, Some, None, ◌==◌, if◌then◌else◌}

-- the places of the node n among the nodes
abbrev pub visits : ℕ → List ℕ → ℕ
visits n [] = 0
visits n (m ∷ nodes) = if n == m then visits n nodes + 1 else visits n nodes

-- the count lies in the span
abbrev pub IsWithin : ℕ → ℕ × ℕ → Type 0
IsWithin c s = (s.0 ≤ c) × (c ≤ s.1)

-- the span a lies in the span b
abbrev pub IsInside : ℕ × ℕ → ℕ × ℕ → Type 0
IsInside a b = (b.0 ≤ a.0) × (a.1 ≤ b.1)

-- the span of counts that are one more
abbrev pub one_more : ℕ × ℕ → ℕ × ℕ
one_more s = (s.0 + 1, s.1 + 1)

-- the least span around both
abbrev pub span_of : ℕ × ℕ → ℕ × ℕ → ℕ × ℕ
span_of a b = (min a.0 b.0, max a.1 b.1)

-- what a book has once the span is collected
abbrev pub collected : Option (ℕ × ℕ) → ℕ × ℕ → Option (ℕ × ℕ)
collected None s = Some s
collected (Some t) s = Some (span_of t s)

-- the second has at least what the first has
abbrev pub IsWider : Option (ℕ × ℕ) → Option (ℕ × ℕ) → Type 0
IsWider None u = Unit {0}
IsWider (Some a) None = ⊥
IsWider (Some a) (Some b) = IsInside a b

-- the least and the greatest of the counts, or None
abbrev pub spread_of : List ℕ → Option (ℕ × ℕ)
spread_of [] = None
spread_of (c ∷ counts) = collected (spread_of counts) (c, c)

-- the spans lie in those of the second list, one by one
pub record AllInside (first second : List (ℕ × ℕ)) : Type 0 where
  pub same_length : length first ≡ length second
  pub each : (i : ℕ) → i < length first → IsInside (slice_index_or first i (0, 0)) (slice_index_or second i (0, 0))

-- the greatest number of all the spans
abbrev pub greatest : List (ℕ × ℕ) → ℕ
greatest [] = 0
greatest (s ∷ spans) = max (max s.0 s.1) (greatest spans)
