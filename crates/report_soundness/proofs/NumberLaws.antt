-- Of a pool that events led to, each number of the books is at most the count of its steps.
--   orderly_events    so it is, and the least of each span is not greater than the greatest
use Rattle.std.proofs.Common.{◌≡◌, ◌≤◌, ◌+◌, ◌==◌, ℕ, zero, suc, List, [], ◌∷◌, Option, Some, None, Bool, true, false, cond, length, get_or, set, replicate, slice_get, Contains, inl, inr, sym, subst, arith}
use Rattle.std.specs.Prelude.{slice_set}
use Rattle.lists.specs.MemberLaws.{contained, no_member, first_or_further}
use Rattle.std.proofs.lemmas.List.Elements.{Contains-append_cases}
use Rattle.domain_core.specs.declared.event.Event.{Event}
use Rattle.domain_core.specs.declared.event.Event.TheVariants.{Step, Merge}
use Rattle.domain_core.specs.Orders.{Order}
use Rattle.domain_core.specs.Outlines.{Outlined, shape_of}
use Rattle.domain_core.specs.Machines.{Machine}
use Rattle.recorder_rules.specs.Generated.{generated}
use Rattle.recorder_rules.specs.GeneratedLaws.{length-generated, at-generated}
use Rattle.recorder_rules.specs.Spans.{one_more, span_of, collected}
use Rattle.recorder_rules.specs.SpanLaws.{low_or_over}
use Rattle.recorder_rules.specs.TotalRules.{span_at, spread_at}
use Rattle.recorder_rules.specs.TotalLaws.{past_end}
use Rattle.recorder_rules.specs.TallyRules.{Tally, key_at, is_at, leaves, is_within, span_after, spread_after, spans_gone, spreads_gone, spreads_ended}
use Rattle.recorder_rules.specs.LoopRules.{loop_tally, count_tally}
use Rattle.worklist_rules.specs.Pools.{Spot, Pooled, may_fault}
use Rattle.worklist_rules.specs.PlaceLaws.{from_room, from_set, from_remove}
use Rattle.worklist_rules.specs.Events.{next_spot, book_after, spots_after, spread_book, spread_spots, book_at_faults, opened, stepped_at, met, merged_at, Happens, HappenAll}
use Rattle.report_soundness.specs.ReportTold.{FourRecorders, FourBooks, four_order, four_recording}
use Rattle.report_soundness.specs.Numbers.{IsOrderly, IsOrderlySpread}
use Rattle.report_soundness.proofs.NumberLemmas.{OrderlyRecorders, OrderlyBooks}

-- ---- one span

weaker : (k l : ℕ) (s : ℕ × ℕ) → k ≤ l → IsOrderly k s → IsOrderly l s
weaker k l s le is = let high = is.1 in (is.0, omega (arith, le, high))

weaker_spread : (k l : ℕ) (t : Option (ℕ × ℕ)) → k ≤ l → IsOrderlySpread k t → IsOrderlySpread l t
weaker_spread k l None le is = tt
weaker_spread k l (Some s) le is = weaker k l s le is

united : (k : ℕ) (s t : ℕ × ℕ) → IsOrderly k s → IsOrderly k t → IsOrderly k (span_of s t)
united k s t first second = let a = first.0 in let b = first.1 in let c = second.0 in let d = second.1 in (omega arith, omega arith)

one_later : (k : ℕ) (s : ℕ × ℕ) → IsOrderly k s → IsOrderly (k + 1) (one_more s)
one_later k s is = let a = is.0 in let b = is.1 in (omega arith, omega arith)

zeros : (k : ℕ) → IsOrderly k (0, 0)
zeros k = (omega arith, omega arith)

after_step : (k : ℕ) (left entered : Bool) (s : ℕ × ℕ) → IsOrderly k s → IsOrderly (k + 1) (span_after left entered s)
after_step k true true s is = one_later k (0, 0) (zeros k)
after_step k true false s is = zeros (k + 1)
after_step k false true s is = one_later k s is
after_step k false false s is = weaker k (k + 1) s (omega arith) is

collects : (k : ℕ) (t : Option (ℕ × ℕ)) (s : ℕ × ℕ) → IsOrderlySpread k t → IsOrderly k s
    → IsOrderlySpread k (collected t s)
collects k None s old is = is
collects k (Some u) s old is = united k u s old is

spread_step : (k : ℕ) (left : Bool) (t : Option (ℕ × ℕ)) (s : ℕ × ℕ) → IsOrderlySpread k t → IsOrderly k s
    → IsOrderlySpread k (spread_after left t s)
spread_step k true t s old is = collects k t s old is
spread_step k false t s old is = old

-- ---- lists

module _ {A : Type 0} (P : A → Type 0) where
  all_generated : (n : ℕ) (f : ℕ → A) (d : A) → ((i : ℕ) → P (f i)) → P d → (i : ℕ) → P (get_or (generated n f) i d)
  all_generated n f d each rest i =
      elim (low_or_over i n) [
        | inl low ↦ subst P (sym (at-generated n f i d low)) (each i)
        | inr over ↦ subst P (sym (past_end (generated n f) i d (let e = length-generated n f in omega (arith, e, over)))) rest
      ]

  all_replicated : (n : ℕ) (x d : A) → P x → P d → (i : ℕ) → P (get_or (replicate n x) i d)
  all_replicated zero x d is rest i = rest
  all_replicated (suc n) x d is rest zero = is
  all_replicated (suc n) x d is rest (suc i) = all_replicated n x d is rest i

  all_set : (xs : List A) (k : ℕ) (v d : A) → P v → ((i : ℕ) → P (get_or xs i d)) → (i : ℕ)
      → P (get_or (set xs k v) i d)
  all_set [] zero v d is each i = each i
  all_set [] (suc k) v d is each i = each i
  all_set (x ∷ xs) zero v d is each zero = is
  all_set (x ∷ xs) zero v d is each (suc i) = each (suc i)
  all_set (x ∷ xs) (suc k) v d is each zero = each zero
  all_set (x ∷ xs) (suc k) v d is each (suc i) = all_set xs k v d is (λ j. each (suc j)) i

-- ---- the recorders and the books

spans_step : (k : ℕ) (o : Outlined) (w : Tally) (r : List (ℕ × ℕ)) (n m : ℕ) → ((i : ℕ) → IsOrderly k (span_at r i))
    → (i : ℕ) → IsOrderly (k + 1) (span_at (spans_gone (shape_of o) w r n m) i)
spans_step k o w r n m each =
    all_generated (IsOrderly (k + 1)) (length r) (λ i. span_after (leaves (shape_of o) (key_at w.scopes i) n m) (is_at (key_at w.nodes i) m) (span_at r i)) (0, 0)
    (λ i. after_step k (leaves (shape_of o) (key_at w.scopes i) n m) (is_at (key_at w.nodes i) m) (span_at r i) (each i)) (zeros (k + 1))

spreads_step : (k : ℕ) (o : Outlined) (w : Tally) (r : List (ℕ × ℕ)) (b : List (Option (ℕ × ℕ))) (n m : ℕ)
    → ((i : ℕ) → IsOrderly k (span_at r i)) → ((i : ℕ) → IsOrderlySpread k (spread_at b i))
    → (i : ℕ) → IsOrderlySpread k (spread_at (spreads_gone (shape_of o) w r b n m) i)
spreads_step k o w r b n m each old =
    all_generated (IsOrderlySpread k) (length b) (λ i. spread_after (leaves (shape_of o) (key_at w.scopes i) n m) (spread_at b i) (span_at r i)) None
    (λ i. spread_step k (leaves (shape_of o) (key_at w.scopes i) n m) (spread_at b i) (span_at r i) (old i) (each i)) tt

spreads_end : (k : ℕ) (o : Outlined) (w : Tally) (r : List (ℕ × ℕ)) (b : List (Option (ℕ × ℕ))) (n : ℕ)
    → ((i : ℕ) → IsOrderly k (span_at r i)) → ((i : ℕ) → IsOrderlySpread k (spread_at b i))
    → (i : ℕ) → IsOrderlySpread k (spread_at (spreads_ended (shape_of o) w r b n) i)
spreads_end k o w r b n each old =
    all_generated (IsOrderlySpread k) (length b) (λ i. spread_after (is_within (shape_of o) (key_at w.scopes i) n) (spread_at b i) (span_at r i)) None
    (λ i. spread_step k (is_within (shape_of o) (key_at w.scopes i) n) (spread_at b i) (span_at r i) (old i) (each i)) tt

spans_joined : (k : ℕ) (r s : List (ℕ × ℕ)) → ((i : ℕ) → IsOrderly k (span_at r i))
    → ((i : ℕ) → IsOrderly k (span_at s i))
    → (i : ℕ) → IsOrderly k (span_at (generated (length r) (λ j. span_of (get_or r j (0, 0)) (get_or s j (0, 0)))) i)
spans_joined k r s first second =
    all_generated (IsOrderly k) (length r) (λ j. span_of (get_or r j (0, 0)) (get_or s j (0, 0))) (0, 0) (λ i. united k (span_at r i) (span_at s i) (first i) (second i)) (zeros k)

first_tally : (w : Tally) → (i : ℕ)
    → IsOrderly 1 (span_at (generated (length w.scopes) (λ j. cond (is_at (key_at w.nodes j) 0) (1, 1) (0, 0))) i)
first_tally w =
    all_generated (IsOrderly 1) (length w.scopes) (λ j. cond (is_at (key_at w.nodes j) 0) (1, 1) (0, 0)) (0, 0) (λ i. one (is_at (key_at w.nodes i) 0)) (zeros 1)
  where
    one : (v : Bool) → IsOrderly 1 (cond v (1, 1) (0, 0))
    one true = (omega arith, omega arith)
    one false = (omega arith, omega arith)

module _ (o : Outlined) where
  first_orderly : OrderlyRecorders 1 (four_recording.first o)
  first_orderly = record {
    totals = all_set (IsOrderly 1) (replicate (length o.nodes) (0, 0)) 0 (1, 1) (0, 0) (omega arith, omega arith) (all_replicated (IsOrderly 1) (length o.nodes) (0, 0) (0, 0) (zeros 1) (zeros 1));
    loops = first_tally (loop_tally o);
    counts = first_tally (count_tally o);
  }

  empty_orderly : OrderlyBooks 0 (four_recording.first_book o)
  empty_orderly = record {
    totals = all_replicated (IsOrderlySpread 0) (length o.nodes) None None tt tt;
    loops = all_replicated (IsOrderlySpread 0) (length (loop_tally o).scopes) None None tt tt;
    counts = all_replicated (IsOrderlySpread 0) (length (count_tally o).scopes) None None tt tt;
  }

  gone_orderly : (k : ℕ) (r : FourRecorders) (b : FourBooks) (n m : ℕ) → OrderlyRecorders k r
      → OrderlyRecorders (k + 1) (four_recording.gone o r b n m)
  gone_orderly k r b n m is = record {
    totals = all_set (IsOrderly (k + 1)) r.first.first m (one_more (span_at r.first.first m)) (0, 0) (one_later k (span_at r.first.first m) (is.totals m)) (λ i. weaker k (k + 1) (span_at r.first.first i) (omega arith) (is.totals i));
    loops = spans_step k o b.first.second.tally r.first.second n m is.loops;
    counts = spans_step k o b.second.first.tally r.second.first n m is.counts;
  }

  kept_orderly : (k : ℕ) (r : FourRecorders) (b : FourBooks) (n m : ℕ) → OrderlyRecorders k r → OrderlyBooks k b
      → OrderlyBooks k (four_recording.gone_book o r b n m)
  kept_orderly k r b n m is old = record {
    totals = old.totals;
    loops = spreads_step k o b.first.second.tally r.first.second b.first.second.spreads n m is.loops old.loops;
    counts = spreads_step k o b.second.first.tally r.second.first b.second.first.spreads n m is.counts old.counts;
  }

  finished_orderly : (k : ℕ) (r : FourRecorders) (b : FourBooks) (n : ℕ) → OrderlyRecorders k r → OrderlyBooks k b
      → OrderlyBooks k (four_recording.finished o r b n)
  finished_orderly k r b n is old = record {
    totals = all_generated (IsOrderlySpread k) (length b.first.first) (λ i. collected (spread_at b.first.first i) (span_at r.first.first i)) None
        (λ i. collects k (spread_at b.first.first i) (span_at r.first.first i) (old.totals i) (is.totals i)) tt;
    loops = spreads_end k o b.first.second.tally r.first.second b.first.second.spreads n is.loops old.loops;
    counts = spreads_end k o b.second.first.tally r.second.first b.second.first.spreads n is.counts old.counts;
  }

  -- ---- one successor, and all of them

  after_orderly : {T : Type 0} (k : ℕ) (r : FourRecorders) (n : ℕ) (b : FourBooks) (s : ℕ × T) → OrderlyRecorders k r
      → OrderlyBooks k b → OrderlyBooks k (book_after four_recording o r n b s)
  after_orderly k r n b s is old = by_end (s.0 == length o.nodes)
    where
      by_end : (v : Bool)
          → OrderlyBooks k (cond v (four_recording.finished o r b n) (four_recording.gone_book o r b n s.0))
      by_end true = finished_orderly k r b n is old
      by_end false = kept_orderly k r b n s.0 is old

  spread_orderly : {T : Type 0} (k : ℕ) (r : FourRecorders) (n : ℕ) (next : List (ℕ × T)) (b : FourBooks)
      → OrderlyRecorders k r → OrderlyBooks k b → OrderlyBooks k (spread_book four_recording o r n b next)
  spread_orderly k r n [] b is old = old
  spread_orderly k r n (s ∷ next) b is old = spread_orderly k r n next (book_after four_recording o r n b s) is (after_orderly k r n b s is old)

  spots_orderly : {T : Type 0} (k : ℕ) (position : List ℕ) (r : FourRecorders) (n : ℕ) (next : List (ℕ × T)) (b : FourBooks) → OrderlyRecorders k r
      → (spot : Spot T FourRecorders) → Contains (spread_spots four_recording o position r n b next) spot → OrderlyRecorders (k + 1) spot.recorder
  spots_orderly k position r n [] b is spot there = no_member spot there
  spots_orderly {T} k position r n (s ∷ next) b is spot there =
      elim (Contains-append_cases (spots_after four_recording o position r n b s) (spread_spots four_recording o position r n (book_after four_recording o r n b s) next) spot there) [
        | inl here ↦ by_end (s.0 == length o.nodes) here
        | inr later ↦ spots_orderly k position r n next (book_after four_recording o r n b s) is spot later
      ]
    where
      by_end : (v : Bool) → Contains (cond v [] (next_spot four_recording o position r n b s ∷ [])) spot
          → OrderlyRecorders (k + 1) spot.recorder
      by_end true there = no_member spot there
      by_end false there =
          first_or_further (next_spot four_recording o position r n b s) [] spot there
          (λ same. subst (λ (x : Spot T FourRecorders). OrderlyRecorders (k + 1) x.recorder) same (gone_orderly k r b n s.0 is))
          (λ none. no_member spot none)

-- ---- pools

joined_orderly : (k : ℕ) (r s : FourRecorders) → OrderlyRecorders k r → OrderlyRecorders k s
    → OrderlyRecorders k (four_order.joined r s)
joined_orderly k r s first second = record {
  totals = spans_joined k r.first.first s.first.first first.totals second.totals;
  loops = spans_joined k r.first.second s.first.second first.loops second.loops;
  counts = spans_joined k r.second.first s.second.first first.counts second.counts;
}

weaker_recorders : (k l : ℕ) (r : FourRecorders) → k ≤ l → OrderlyRecorders k r → OrderlyRecorders l r
weaker_recorders k l r le is = record {
  totals = λ i. weaker k l (span_at r.first.first i) le (is.totals i);
  loops = λ i. weaker k l (span_at r.first.second i) le (is.loops i);
  counts = λ i. weaker k l (span_at r.second.first i) le (is.counts i);
}

weaker_books : (k l : ℕ) (b : FourBooks) → k ≤ l → OrderlyBooks k b → OrderlyBooks l b
weaker_books k l b le is = record {
  totals = λ i. weaker_spread k l (spread_at b.first.first i) le (is.totals i);
  loops = λ i. weaker_spread k l (spread_at b.first.second.spreads i) le (is.loops i);
  counts = λ i. weaker_spread k l (spread_at b.second.first.spreads i) le (is.counts i);
}

-- so it is of each place, and of the books
pub record OrderlyPool {S T : Type 0} (w : Pooled S T FourRecorders FourBooks) : Type 0 where
  pub spots : (spot : Spot T FourRecorders) → Contains w.spots spot → OrderlyRecorders (w.steps + 1) spot.recorder
  pub books : OrderlyBooks w.steps w.book

module _ {S T C : Type 0} (machine : S → Machine T C) (states : Order T) where
  start_orderly : (stepper : S) (o : Outlined) → OrderlyPool (opened machine four_recording stepper o)
  start_orderly stepper o =
      let first = (opened machine four_recording stepper o).spots in
      record {
        spots = λ spot there. first_or_further _ [] spot there (λ same. subst (λ (x : Spot T FourRecorders). OrderlyRecorders 1 x.recorder) same (first_orderly o)) (λ none. no_member spot none);
        books = empty_orderly o;
      }

  step_orderly : (w : Pooled S T FourRecorders FourBooks) (i : ℕ) (spot : Spot T FourRecorders)
      → slice_get w.spots i ≡ Some spot → OrderlyPool w → OrderlyPool (stepped_at machine four_recording w i spot)
  step_orderly w i spot at is =
      let k = w.steps in
      let o = w.outline in
      let r = spot.recorder in
      let n = spot.node in
      let faults = (machine w.stepper).faults n spot.state in
      let next = (machine w.stepper).next n spot.state in
      let mine = is.spots spot (contained w.spots i spot at) in
      let old = weaker_books k (k + 1) w.book (omega arith) is.books in
      let told : OrderlyBooks (k + 1) (book_at_faults four_recording o r n w.book faults) = by_faults o (k + 1) r n w.book (may_fault faults) mine old in
      let b = book_at_faults four_recording o r n w.book faults in
      record {
        spots = λ x there. elim (from_room w.spots (spread_spots four_recording o spot.position r n b next) i x there) [
          | inl before ↦ weaker_recorders (k + 1) (k + 1 + 1) x.recorder (omega arith) (is.spots x before)
          | inr made ↦ spots_orderly o (k + 1) spot.position r n next b mine x made
        ];
        books = spread_orderly o (k + 1) r n next b mine told;
      }
    where
      by_faults : (o : Outlined) (k : ℕ) (r : FourRecorders) (n : ℕ) (b : FourBooks) (v : Bool) → OrderlyRecorders k r
          → OrderlyBooks k b → OrderlyBooks k (cond v (four_recording.finished o r b n) b)
      by_faults o k r n b true mine old = finished_orderly o k r b n mine old
      by_faults o k r n b false mine old = old

  merge_orderly : (w : Pooled S T FourRecorders FourBooks) (i j : ℕ) (a b : Spot T FourRecorders)
      → slice_get w.spots i ≡ Some a → slice_get w.spots j ≡ Some b → OrderlyPool w
      → OrderlyPool (merged_at states four_order w i j a b)
  merge_orderly w i j a b first second is =
      let joined = met states four_order a b in
      record {
        spots = λ x there. elim (from_set w.spots i x joined (from_remove (slice_set w.spots i joined) j x there)) [
          | inl before ↦ is.spots x before
          | inr same ↦ subst (λ (y : Spot T FourRecorders). OrderlyRecorders (w.steps + 1) y.recorder) same
              (joined_orderly (w.steps + 1) a.recorder b.recorder (is.spots a (contained w.spots i a first)) (is.spots b (contained w.spots j b second)))
        ];
        books = is.books;
      }

  event_orderly : (old new : Pooled S T FourRecorders FourBooks) (event : Event)
      → Happens machine states four_order four_recording old event new → OrderlyPool old → OrderlyPool new
  event_orderly old new (Step i) (spot, found, is) orderly = subst (λ (w : Pooled S T FourRecorders FourBooks). OrderlyPool w) (sym is) (step_orderly old i spot found orderly)
  event_orderly old new (Merge i j) (a, b, before, first, second, same, is) orderly = subst (λ (w : Pooled S T FourRecorders FourBooks). OrderlyPool w) (sym is) (merge_orderly old i j a b first second orderly)

  events_orderly : (events : List Event) (old new : Pooled S T FourRecorders FourBooks)
      → HappenAll machine states four_order four_recording old events new → OrderlyPool old → OrderlyPool new
  events_orderly [] old new is orderly = subst (λ (w : Pooled S T FourRecorders FourBooks). OrderlyPool w) (sym is) orderly
  events_orderly (event ∷ events) old new (mid, happens, rest) orderly = events_orderly events mid new rest (event_orderly old mid event happens orderly)

  -- so it is of each pool that events led to
  pub orderly_events : (events : List Event) (stepper : S) (o : Outlined) (w : Pooled S T FourRecorders FourBooks)
      → HappenAll machine states four_order four_recording (opened machine four_recording stepper o) events w
      → OrderlyBooks w.steps w.book
  orderly_events events stepper o w happen = (events_orderly events (opened machine four_recording stepper o) w happen (start_orderly stepper o)).books
