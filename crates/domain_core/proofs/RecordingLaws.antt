-- What follows from the laws of a recorder.
--   joined_left, joined_right   a join of two recorders of one outline covers what either covers
--   still_covered, still_summed   what is covered stays so after another recorder goes on, and ended_covered, ended_summed after it ends
use Rattle.std.proofs.Common.{◌<◌, ℕ, List, Contains, length}
use Rattle.domain_core.specs.Orders.{Order, IsOrder}
use Rattle.domain_core.specs.Outlines.{Outlined}
use Rattle.domain_core.specs.Recordings.{Recording, IsRecording, IsSuited, IsOf}

module _ {R B : Type 0} (order : Order R) (ordered : IsOrder R order) (z : Recording R B) (laws : IsRecording R B order z) (o : Outlined) where
  -- a join of two recorders of one outline covers what either covers
  pub joined_left : (r s : R) (b : B) (past : List ℕ) → IsSuited z o → z.is_of o r → z.is_of o s → z.covers o r b past
      → z.covers o (order.joined r s) b past
  joined_left r s b past suited of_r of_s there = laws.above_covers o r (order.joined r s) b past (ordered.left r s (laws.alike o r s suited of_r of_s)) there

  pub joined_right : (r s : R) (b : B) (past : List ℕ) → IsSuited z o → z.is_of o r → z.is_of o s → z.covers o s b past
      → z.covers o (order.joined r s) b past
  joined_right r s b past suited of_r of_s there = laws.above_covers o s (order.joined r s) b past (ordered.right r s (laws.alike o r s suited of_r of_s)) there

  -- what is covered stays so after another recorder goes on
  pub still_covered : (r s : R) (b : B) (n k : ℕ) (past : List ℕ) → IsOf z o r b → Contains o.edges (n, k)
      → k < length o.nodes → z.covers o s b past → z.covers o s (z.gone_book o r b n k) past
  still_covered r s b n k past is edge low there = laws.covers_grown o s b (z.gone_book o r b n k) past (laws.gone_grows o r b n k is edge low) there

  pub still_summed : (r : R) (b : B) (n k : ℕ) (past : List ℕ) → IsOf z o r b → Contains o.edges (n, k)
      → k < length o.nodes → z.sums_up o b past → z.sums_up o (z.gone_book o r b n k) past
  still_summed r b n k past is edge low there = laws.sums_up_grown o b (z.gone_book o r b n k) past (laws.gone_grows o r b n k is edge low) there

  -- and after it ends
  pub ended_covered : (r s : R) (b : B) (n : ℕ) (past : List ℕ) → IsOf z o r b → n < length o.nodes
      → z.covers o s b past → z.covers o s (z.finished o r b n) past
  ended_covered r s b n past is low there = laws.covers_grown o s b (z.finished o r b n) past (laws.finished_grows o r b n is low) there

  pub ended_summed : (r : R) (b : B) (n : ℕ) (past : List ℕ) → IsOf z o r b → n < length o.nodes → z.sums_up o b past
      → z.sums_up o (z.finished o r b n) past
  ended_summed r b n past is low there = laws.sums_up_grown o b (z.finished o r b n) past (laws.finished_grows o r b n is low) there
