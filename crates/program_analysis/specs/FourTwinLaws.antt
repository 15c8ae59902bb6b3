-- The four recorders answer the same along outlines of one shape.
--   by_shape       what is made of the shape and the count of nodes is the same
--   four_twins     totals, loops, counts and pairs do
use Rattle.std.specs.Prelude.{replicate, slice_set, if◌then◌else◌}
use Rattle.std.proofs.Common.{◌≡◌, ℕ, length, None, Some, false, ◌==◌, ◌&&◌, refl, sym, ap, ◌∙◌}
use Rattle.std.proofs.lemmas.List.{length-map}
use Rattle.domain_core.specs.Outlines.{Outlined, Shape, shape_of, header_of}
use Rattle.domain_core.specs.Recordings.{Recording}
use Rattle.flow_recorders.specs.declared.both.Both.{Both}
use Rattle.flow_recorders.specs.declared.both.BothBook.{BothBook}
use Rattle.flow_recorders.specs.BothRules.{both_recording}
use Rattle.recorder_rules.specs.Generated.{generated}
use Rattle.recorder_rules.specs.TotalRules.{total_recording}
use Rattle.recorder_rules.specs.TallyRules.{Tally, key_at, is_at, spans_gone, spreads_gone, spreads_ended, tally_recording}
use Rattle.recorder_rules.specs.LoopRules.{loop_tally, count_tally, counted_scope, counted_node, own_of, loop_recording, count_recording}
use Rattle.recorder_rules.specs.Tables.{tabled}
use Rattle.recorder_rules.specs.PairRules.{seen_after, pair_after, book_after, book_ended, pair_recording}
use Rattle.program_analysis.specs.Twins.{AreTwins}

module _ (o other : Outlined) (same : shape_of o ≡ shape_of other) where
  same_count : length o.nodes ≡ length other.nodes
  same_count = sym (length-map o.nodes (λ row. row.scope)) ∙ ap (λ (shape : Shape). length shape.own) same ∙ length-map other.nodes (λ row. row.scope)

  -- what is made of the shape and the count of nodes is the same
  pub by_shape : {X : Type 0} (made : Shape → ℕ → X)
      → made (shape_of o) (length o.nodes) ≡ made (shape_of other) (length other.nodes)
  by_shape made = ap (λ (shape : Shape). made shape (length o.nodes)) same ∙ ap (made (shape_of other)) same_count

  total_twins : AreTwins total_recording o other
  total_twins = record {
    shape = same;
    count = same_count;
    first = by_shape (λ shape count. slice_set (replicate count (0, 0)) 0 (1, 1));
    first_book = by_shape (λ shape count. replicate count None);
    gone = λ r b n k. refl;
    gone_book = λ r b n k. refl;
    finished = λ r b n. refl;
  }

  tally_twins : (w : Outlined → Tally) → w o ≡ w other → AreTwins (tally_recording w) o other
  tally_twins w tallies = record {
    shape = same;
    count = same_count;
    first = ap (λ (tally : Tally). generated (length tally.scopes) (λ i. if is_at (key_at tally.nodes i) 0 then (1, 1) else (0, 0))) tallies;
    first_book = ap (λ (tally : Tally). record { tally = tally; spreads = replicate (length tally.scopes) None }) tallies;
    gone = λ r b n k. ap (λ (shape : Shape). spans_gone shape b.tally r n k) same;
    gone_book = λ r b n k. ap (λ (shape : Shape). record { tally = b.tally; spreads = spreads_gone shape b.tally r b.spreads n k }) same;
    finished = λ r b n. ap (λ (shape : Shape). record { tally = b.tally; spreads = spreads_ended shape b.tally r b.spreads n }) same;
  }

  loop_twins : AreTwins loop_recording o other
  loop_twins = tally_twins loop_tally
      (by_shape (λ shape count. record { scopes = generated (length shape.scopes) (λ t. Some t); nodes = generated (length shape.scopes) (λ t. Some (header_of shape.scopes t)) }))

  count_twins : AreTwins count_recording o other
  count_twins = tally_twins count_tally (by_shape (λ shape count. record { scopes = generated count (counted_scope shape); nodes = generated count (counted_node shape) }))

  pair_twins : AreTwins pair_recording o other
  pair_twins = record {
    shape = same;
    count = same_count;
    first = by_shape (λ shape count. record { seen = generated count (λ a. a == 0); pairs = tabled count count (λ a c. (a == 0) && (c == 0)) });
    first_book = by_shape (λ shape count. record { owned = tabled (length shape.scopes) count (λ t a. own_of shape a == t); pairs = tabled count count (λ a c. false) });
    gone = λ r b n k. by_shape (λ shape count. record { seen = generated count (λ a. seen_after shape r.seen n k a); pairs = tabled count count (λ a c. pair_after shape r n k a c) });
    gone_book = λ r b n k. by_shape (λ shape count. record { owned = b.owned; pairs = tabled count count (λ a c. book_after shape r b n k a c) });
    finished = λ r b n. by_shape (λ shape count. record { owned = b.owned; pairs = tabled count count (λ a c. book_ended r b a c) });
  }

both_twins : {X Y P Q : Type 0} (a : Recording X P) (b : Recording Y Q) (o other : Outlined) → AreTwins a o other
    → AreTwins b o other → AreTwins (both_recording a b) o other
both_twins {X} {Y} {P} {Q} a b o other first second =
    let side : X → Y → Both X Y = λ x y. record { first = x; second = y } in
    let books : P → Q → BothBook P Q = λ p q. record { first = p; second = q } in
    record {
      shape = first.shape;
      count = first.count;
      first = ap (λ (x : X). side x (b.first o)) first.first ∙ ap (side (a.first other)) second.first;
      first_book = ap (λ (p : P). books p (b.first_book o)) first.first_book ∙ ap (books (a.first_book other)) second.first_book;
      gone = λ r k n m. ap (λ (x : X). side x (b.gone o r.second k.second n m)) (first.gone r.first k.first n m) ∙ ap (side (a.gone other r.first k.first n m)) (second.gone r.second k.second n m);
      gone_book = λ r k n m. ap (λ (p : P). books p (b.gone_book o r.second k.second n m)) (first.gone_book r.first k.first n m) ∙ ap (books (a.gone_book other r.first k.first n m)) (second.gone_book r.second k.second n m);
      finished = λ r k n. ap (λ (p : P). books p (b.finished o r.second k.second n)) (first.finished r.first k.first n) ∙ ap (books (a.finished other r.first k.first n)) (second.finished r.second k.second n);
    }

-- totals, loops, counts and pairs do
pub four_twins : (o other : Outlined) → shape_of o ≡ shape_of other
    → AreTwins (both_recording (both_recording total_recording loop_recording) (both_recording count_recording pair_recording)) o other
four_twins o other same =
    both_twins (both_recording total_recording loop_recording) (both_recording count_recording pair_recording) o other
    (both_twins total_recording loop_recording o other (total_twins o other same) (loop_twins o other same))
    (both_twins count_recording pair_recording o other (count_twins o other same) (pair_twins o other same))
