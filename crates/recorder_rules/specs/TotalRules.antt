-- How often a run visits each node, as a recorder keeps it.
--   total_order        spans, one for each node, by inclusion
--   total_recording    what `Totals` keeps, covers and answers
-- A recorder has for each node a span of its visits so far, a book for each node what was collected.
use Rattle.std.specs.Prelude.{◌≡◌, ℕ, ◌<◌, List, length, replicate, slice_set, slice_index_or, Option, Some, None}
use Rattle.domain_core.specs.Orders.{Order}
use Rattle.domain_core.specs.Recordings.{Recording}
use Rattle.recorder_rules.specs.Generated.{generated}
use Rattle.recorder_rules.specs.Spans.{visits, IsWithin, one_more, collected, IsWider, AllInside, greatest}
use Rattle.recorder_rules.specs.SpanLaws.{spans_of}

abbrev pub span_at : List (ℕ × ℕ) → ℕ → ℕ × ℕ
span_at spans i = slice_index_or spans i (0, 0)

abbrev pub spread_at : List (Option (ℕ × ℕ)) → ℕ → Option (ℕ × ℕ)
spread_at spreads i = slice_index_or spreads i None

abbrev pub span_order : Order (List (ℕ × ℕ))
span_order = record {
  alike = λ a b. length a ≡ length b;
  under = AllInside;
  joined = spans_of;
}

-- the second has at least what the first has, of each number
abbrev pub AllWider : List (Option (ℕ × ℕ)) → List (Option (ℕ × ℕ)) → Type 0
AllWider a b = (i : ℕ) → IsWider (spread_at a i) (spread_at b i)

-- each span collected in its place
abbrev pub all_collected : List (Option (ℕ × ℕ)) → List (ℕ × ℕ) → List (Option (ℕ × ℕ))
all_collected spreads spans = generated (length spreads) (λ i. collected (spread_at spreads i) (span_at spans i))

abbrev pub total_recording : Recording (List (ℕ × ℕ)) (List (Option (ℕ × ℕ)))
total_recording = record {
  suits = λ o. Unit {0};
  is_of = λ o r. length r ≡ length o.nodes;
  book_is_of = λ o b. length b ≡ length o.nodes;
  length_of = greatest;
  first = λ o. slice_set (replicate (length o.nodes) (0, 0)) 0 (1, 1);
  first_book = λ o. replicate (length o.nodes) None;
  gone = λ o r b n k. slice_set r k (one_more (span_at r k));
  gone_book = λ o r b n k. b;
  finished = λ o r b n. all_collected b r;
  covers = λ o r b past. (n : ℕ) → n < length o.nodes → IsWithin (visits n past) (span_at r n);
  sums_up = λ o b past. (n : ℕ) → n < length o.nodes → IsWider (Some (visits n past, visits n past)) (spread_at b n);
  sharp = λ o r b past. ((n : ℕ) → n < length o.nodes → span_at r n ≡ (visits n past, visits n past)) × (b ≡ replicate (length o.nodes) None);
  exact = λ o b past. (n : ℕ) → n < length o.nodes → spread_at b n ≡ Some (visits n past, visits n past);
  grows = AllWider;
}
