-- Visits counted in the executions of scopes, as a recorder keeps them.
--   Tally               what is counted: at each number the scope in whose executions, and the node whose visits
--   Ledger              a book: what is counted, and what was collected of each number
--   is_at key k         the key is there and is k
--   is_left o t n k     the step from n to k leaves the scope t
--   leaves, is_within   the scope of a number is left, or holds the node
--   open_count, closed_counts, all_counts o t m past   the visits of the node m in the execution of the scope t that is not
--                       over, in each of those that are, and in each of all
--   IsTally o w         each node that is counted lies in its scope
--   IsTallied, IsSummed o w r b past   the spans have the counts of the trace, and the book those of the executions that are over
--   IsSharpTally, IsExactTally         and nothing else
--   tally_recording w   what a recorder of these counts keeps, covers and answers
use Rattle.std.specs.Prelude.{◌≡◌, ℕ, ◌<◌, List, map, length, replicate, slice_index_or, Option, Some, None, Bool, true, false, not, ◌&&◌, ◌==◌, if◌then◌else◌}
use Rattle.domain_core.specs.Outlines.{Outlined, Shape, shape_of, is_held}
use Rattle.domain_core.specs.Executions.{open_execution, closed_executions, executions}
use Rattle.domain_core.specs.Recordings.{Recording}
use Rattle.recorder_rules.specs.Generated.{generated}
use Rattle.recorder_rules.specs.Spans.{visits, IsWithin, one_more, collected, IsWider, spread_of, greatest}
use Rattle.recorder_rules.specs.TotalRules.{span_at, spread_at, AllWider}

-- what is counted: None counts nothing
pub record Tally : Type 0 where
  pub scopes : List (Option ℕ)
  pub nodes : List (Option ℕ)

pub record Ledger : Type 0 where
  pub tally : Tally
  pub spreads : List (Option (ℕ × ℕ))

abbrev pub key_at : List (Option ℕ) → ℕ → Option ℕ
key_at keys i = slice_index_or keys i None

-- ---- one number

-- the key is there and is k
abbrev pub is_at : Option ℕ → ℕ → Bool
is_at None k = false
is_at (Some m) k = m == k

-- the step from n to k leaves the scope t
abbrev pub is_left : Shape → ℕ → ℕ → ℕ → Bool
is_left o t n k = is_held o t n && not (is_held o t k)

-- the scope of a number is left
abbrev pub leaves : Shape → Option ℕ → ℕ → ℕ → Bool
leaves o None n k = false
leaves o (Some t) n k = is_left o t n k

-- the scope of a number holds the node
abbrev pub is_within : Shape → Option ℕ → ℕ → Bool
is_within o None n = false
is_within o (Some t) n = is_held o t n

-- a span goes on: from the beginning where the scope is left, and by one more where the node is entered
abbrev pub span_after : Bool → Bool → ℕ × ℕ → ℕ × ℕ
span_after left entered s = let base = if left then (0, 0) else s in if entered then one_more base else base

-- a span is collected where the scope is left
abbrev pub spread_after : Bool → Option (ℕ × ℕ) → ℕ × ℕ → Option (ℕ × ℕ)
spread_after left t s = if left then collected t s else t

-- ---- the counts of a trace

abbrev pub open_count : Shape → ℕ → ℕ → List ℕ → ℕ
open_count o t m past = visits m (open_execution o t past)

abbrev pub closed_counts : Shape → ℕ → ℕ → List ℕ → List ℕ
closed_counts o t m past = map (λ e. visits m e) (closed_executions o t past)

abbrev pub all_counts : Shape → ℕ → ℕ → List ℕ → List ℕ
all_counts o t m past = map (λ e. visits m e) (executions o t past)

-- ---- all numbers

-- each node that is counted lies in its scope
pub record IsTally (o : Shape) (w : Tally) : Type 0 where
  pub same_length : length w.scopes ≡ length w.nodes
  pub held : (i t m : ℕ) → key_at w.scopes i ≡ Some t → key_at w.nodes i ≡ Some m → is_held o t m ≡ true

-- the spans have the counts of the trace, and the book those of the executions that are over
abbrev pub IsTallied : Shape → Tally → List (ℕ × ℕ) → List (Option (ℕ × ℕ)) → List ℕ → Type 0
IsTallied o w r b past =
    (i t m : ℕ) → i < length w.scopes → key_at w.scopes i ≡ Some t → key_at w.nodes i ≡ Some m → IsWithin (open_count o t m past) (span_at r i) × IsWider (spread_of (closed_counts o t m past)) (spread_at b i)

-- the book has the counts of all executions
abbrev pub IsSummed : Shape → Tally → List (Option (ℕ × ℕ)) → List ℕ → Type 0
IsSummed o w b past = (i t m : ℕ) → i < length w.scopes → key_at w.scopes i ≡ Some t → key_at w.nodes i ≡ Some m → IsWider (spread_of (all_counts o t m past)) (spread_at b i)

-- where nothing is counted nothing is collected
abbrev pub IsElsewhereEmpty : Tally → List (Option (ℕ × ℕ)) → Type 0
IsElsewhereEmpty w b = (i : ℕ) → i < length w.scopes → key_at w.scopes i ≡ None → spread_at b i ≡ None

-- they have nothing else
pub record IsSharpTally (o : Shape) (w : Tally) (r : List (ℕ × ℕ)) (b : List (Option (ℕ × ℕ)))
    (past : List ℕ) : Type 0 where
  pub spans : (i t m : ℕ) → i < length w.scopes → key_at w.scopes i ≡ Some t → key_at w.nodes i ≡ Some m
      → span_at r i ≡ (open_count o t m past, open_count o t m past)
  pub spreads : (i t m : ℕ) → i < length w.scopes → key_at w.scopes i ≡ Some t → key_at w.nodes i ≡ Some m
      → spread_at b i ≡ spread_of (closed_counts o t m past)
  pub elsewhere : IsElsewhereEmpty w b

pub record IsExactTally (o : Shape) (w : Tally) (b : List (Option (ℕ × ℕ))) (past : List ℕ) : Type 0 where
  pub spreads : (i t m : ℕ) → i < length w.scopes → key_at w.scopes i ≡ Some t → key_at w.nodes i ≡ Some m
      → spread_at b i ≡ spread_of (all_counts o t m past)
  pub elsewhere : IsElsewhereEmpty w b

-- the spans once the step from n to k is made, and what the book then has
abbrev pub spans_gone : Shape → Tally → List (ℕ × ℕ) → ℕ → ℕ → List (ℕ × ℕ)
spans_gone o w r n k = generated (length r) (λ i. span_after (leaves o (key_at w.scopes i) n k) (is_at (key_at w.nodes i) k) (span_at r i))

abbrev pub spreads_gone : Shape → Tally → List (ℕ × ℕ) → List (Option (ℕ × ℕ)) → ℕ → ℕ → List (Option (ℕ × ℕ))
spreads_gone o w r b n k = generated (length b) (λ i. spread_after (leaves o (key_at w.scopes i) n k) (spread_at b i) (span_at r i))

-- what it has once the run ends at n
abbrev pub spreads_ended : Shape → Tally → List (ℕ × ℕ) → List (Option (ℕ × ℕ)) → ℕ → List (Option (ℕ × ℕ))
spreads_ended o w r b n = generated (length b) (λ i. spread_after (is_within o (key_at w.scopes i) n) (spread_at b i) (span_at r i))

abbrev pub tally_recording : (Outlined → Tally) → Recording (List (ℕ × ℕ)) Ledger
tally_recording w = record {
  suits = λ o. Unit {0};
  is_of = λ o r. length r ≡ length (w o).scopes;
  book_is_of = λ o b. (b.tally ≡ w o) × (length b.spreads ≡ length (w o).scopes);
  length_of = greatest;
  first = λ o. generated (length (w o).scopes) (λ i. if is_at (key_at (w o).nodes i) 0 then (1, 1) else (0, 0));
  first_book = λ o. record { tally = w o; spreads = replicate (length (w o).scopes) None };
  gone = λ o r b n k. spans_gone (shape_of o) b.tally r n k;
  gone_book = λ o r b n k. record { tally = b.tally; spreads = spreads_gone (shape_of o) b.tally r b.spreads n k };
  finished = λ o r b n. record { tally = b.tally; spreads = spreads_ended (shape_of o) b.tally r b.spreads n };
  covers = λ o r b past. IsTallied (shape_of o) (w o) r b.spreads past;
  sums_up = λ o b past. IsSummed (shape_of o) (w o) b.spreads past;
  sharp = λ o r b past. IsSharpTally (shape_of o) (w o) r b.spreads past;
  exact = λ o b past. IsExactTally (shape_of o) (w o) b.spreads past;
  grows = λ a b. AllWider a.spreads b.spreads;
}
