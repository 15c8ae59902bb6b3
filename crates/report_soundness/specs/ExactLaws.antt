-- Where a system has one start, the report of a closed exploration tells exactly its run.
--   Alone o found past n fault   exactly this run was collected: its own numbers, its nodes, and its fault
--   exact_report      so the report tells exactly it
use Rattle.std.proofs.Common.{◌≡◌, ◌<◌, ◌≤◌, ◌+◌, ◌*◌, ◌==◌, ◌&&◌, ◌↔◌, ℕ, zero, suc, List, [], ◌∷◌, ◌++◌, Option, Some, Bool, true, false, cond, length, reverse, slice_get, Contains, sym, ap, ◌∙◌, subst, arith}
use Rattle.std.specs.Prelude.{slice_index, slice_index_or}
use Rattle.std.specs.Option.{option_map_or}
use Rattle.std.proofs.lemmas.Bool.{eq-eqb}
use Rattle.std.proofs.lemmas.Option.{same_Some}
use Rattle.std.proofs.lemmas.List.{reverse-append, reverse-reverse, length-map}
use Rattle.lists.specs.MemberLaws.{no_member, first_member, first_or_further}
use Rattle.lists.specs.TestLaws.{by_test}
use Rattle.alf_ops.specs.declared.history.RunFault.{RunFault}
use Rattle.domain_core.specs.FaultSets.{has_fault}
use Rattle.domain_core.specs.Outlines.{Outlined, Shape, shape_of, IsOutline, header_of, kind_of}
use Rattle.domain_core.specs.OutlineLaws.{in_reverse, of_reverse}
use Rattle.domain_core.specs.Executions.{IsExecution, IsIteration, header_count}
use Rattle.domain_core.specs.Traces.{IsTrace}
use Rattle.flow_facts.specs.declared.fact.Fact.TheVariants.{Loop, Count, Dead, Total, Pair, Alarm}
use Rattle.flow_facts.specs.Facts.{places}
use Rattle.ipet_rows.specs.Uses.{run_cost}
use Rattle.recorder_rules.specs.Spans.{visits, IsWider, spread_of}
use Rattle.recorder_rules.specs.SpanLaws.{wider_itself}
use Rattle.recorder_rules.specs.TotalRules.{spread_at, total_recording}
use Rattle.recorder_rules.specs.TallyRules.{Tally, all_counts, IsSummed, IsExactTally}
use Rattle.recorder_rules.specs.LoopRules.{is_loop, own_of, loop_tally, count_tally, loop_recording, count_recording}
use Rattle.recorder_rules.specs.BookLaws.{header_visits, loop_bounds, count_bounds, loop_least, loop_most, count_least, count_most}
use Rattle.recorder_rules.specs.PairRules.{is_shared, any_follows, whole, together, pair_recording}
use Rattle.recorder_rules.specs.PairBookLaws.{pair_is_of}
use Rattle.report_soundness.specs.BookTold.{Books, SumUp, IsCountedIn}
use Rattle.report_soundness.specs.BookToldLaws.{turned}
use Rattle.worklist_rules.specs.Pools.{alarm_at}
use Rattle.worklist_rules.specs.Runs.{AllStepped}
use Rattle.report_soundness.specs.ReportTold.{Found, is_stepped, greatest_total, costs_of, count_bound, told_report}
use Rattle.report_soundness.specs.Lines.{IsLine}
use Rattle.report_soundness.specs.Exact.{AreExtremes, IsLonePair, IsLast, IsExact}
use Rattle.report_soundness.specs.BelowLaws.{sum_same}
use Rattle.report_soundness.specs.LineLaws.{told_line, line_told}
use Rattle.report_soundness.specs.CostLaws.{cost_is}
use Rattle.report_soundness.specs.CollectedLaws.{SummedUp}
use Rattle.report_soundness.specs.SoundLaws.{stepped_there, greatest_is, no_visit, line_is_met, node_low, visits_turned}

-- the books have exactly the run
pub record ExactBooks (o : Outlined) (books : Books) (past : List ℕ) : Type 0 where
  pub totals : total_recording.exact o books.totals past
  pub loops : loop_recording.exact o books.loops past
  pub counts : count_recording.exact o books.counts past
  pub pairs : pair_recording.exact o books.pairs past

-- exactly this run, whose newest node is n, was collected
pub record Alone (o : Outlined) (found : Found) (past : List ℕ) (n : ℕ) (fault : Option RunFault) : Type 0 where
  pub kept : IsOutline (shape_of o)
  pub walk : IsTrace (shape_of o) (n ∷ past)
  pub sized : length found.books.pairs.pairs ≡ length o.nodes
  pub books : ExactBooks o found.books (n ∷ past)
  pub flags : length found.stepped ≡ length o.nodes
  pub all : AllStepped found.stepped (n ∷ past)
  pub only : (k : ℕ) → slice_get found.stepped k ≡ Some true → Contains (n ∷ past) k
  pub told : (k : ℕ) (kind : RunFault)
      → (has_fault (alarm_at found.alarms k) kind ≡ true) ↔ ((fault ≡ Some kind) × (k ≡ n))

-- a node that is there has a visit
some_visit : (n : ℕ) (nodes : List ℕ) → Contains nodes n → 0 < visits n nodes
some_visit n [] there = no_member n there
some_visit n (m ∷ nodes) there = by_test (n == m)
    (λ hit. let more : visits n (m ∷ nodes) ≡ visits n nodes + 1 = ap (λ (v : Bool). cond v (visits n nodes + 1) (visits n nodes)) hit in omega (arith, more))
    (λ miss.
    let same : visits n (m ∷ nodes) ≡ visits n nodes = ap (λ (v : Bool). cond v (visits n nodes + 1) (visits n nodes)) miss in
    first_or_further m nodes n there
    (λ first. absurd (let hit = eq-eqb n m (sym first) in let bad : true ≡ false = sym hit ∙ miss in cc))
    (λ older. let more = some_visit n nodes older in omega (arith, same, more)))

-- the two numbers of a span
span_is : (t : Option (ℕ × ℕ)) (low high v : ℕ) → t ≡ Some (low, high) → t ≡ Some (v, v) → (low ≡ v) × (high ≡ v)
span_is t low high v first second =
    let same : (low, high) ≡ (v, v) = same_Some (low, high) (v, v) (sym first ∙ second) in
    (ap (λ (s : ℕ × ℕ). s.0) same, ap (λ (s : ℕ × ℕ). s.1) same)

summed_tally : (o : Shape) (w : Tally) (b : List (Option (ℕ × ℕ))) (past : List ℕ) → IsExactTally o w b past
    → IsSummed o w b past
summed_tally o w b past exact i t m low scope node =
    subst (λ (u : Option (ℕ × ℕ)). IsWider (spread_of (all_counts o t m past)) u) (sym (exact.spreads i t m low scope node)) (wider_itself (spread_of (all_counts o t m past)))

both_true : (a b : Bool) → a ≡ true → b ≡ true → (a && b) ≡ true
both_true true b first second = second
both_true false b first second = first

module _ (o : Outlined) (found : Found) (past : List ℕ) (n : ℕ) (fault : Option RunFault) (run : Alone o found past n fault) where
  abbrev full : List ℕ
  full = n ∷ past

  abbrev trace : List ℕ
  trace = reverse (n ∷ past)

  -- the books sum it up
  sums : SumUp o found.books full
  sums = record {
    totals = λ k low. subst (λ (t : Option (ℕ × ℕ)). IsWider (Some (visits k full, visits k full)) t) (sym (run.books.totals k low)) (wider_itself (Some (visits k full, visits k full)));
    loops = summed_tally (shape_of o) (loop_tally o) found.books.loops.spreads full run.books.loops;
    counts = summed_tally (shape_of o) (count_tally o) found.books.counts.spreads full run.books.counts;
    pairs = record {
      book_is_of = run.sized;
      pairs = λ a c low within shared follows.
          run.books.pairs a c low within ∙ both_true (is_shared (shape_of o) a c) (any_follows a c (whole (shape_of o) a full)) shared follows;
    };
  }

  collected : SummedUp o found full
  collected = record { kept = run.kept; walk = run.walk; books = sums; stepped = run.all }

  -- ---- visited nodes

  visited_stepped : (k : ℕ) → Contains trace k → is_stepped found k ≡ true
  visited_stepped k there = stepped_there found.stepped full run.all k (of_reverse full k there)

  stepped_visited : (k : ℕ) → is_stepped found k ≡ true → Contains trace k
  stepped_visited k is = in_reverse full k (run.only k (at_place found.stepped k is))
    where
      at_place : (flags : List Bool) (i : ℕ) → slice_index_or flags i false ≡ true → slice_get flags i ≡ Some true
      at_place [] i is = absurd (let bad : false ≡ true = is in cc)
      at_place (flag ∷ flags) zero is = ap Some is
      at_place (flag ∷ flags) (suc i) is = at_place flags i is

  low_of : (k : ℕ) → Contains trace k → k < length o.nodes
  low_of k there = node_low o found full collected k there

  -- ---- totals, and dead nodes

  total_told : (k low high : ℕ) → IsLine o found (Total k low high)
      → Contains trace k × (low ≡ places k trace) × (high ≡ places k trace)
  total_told k low high is =
      let both = span_is (spread_at found.books.totals k) low high (visits k full) is.1.span (run.books.totals k is.1.there) in
      (stepped_visited k is.0, both.0 ∙ sym (turned k full), both.1 ∙ sym (turned k full))

  told_total : (k low high : ℕ) → Contains trace k × (low ≡ places k trace) × (high ≡ places k trace)
      → IsLine o found (Total k low high)
  told_total k low high (there, least, most) =
      let within = low_of k there in
      let first : low ≡ visits k full = least ∙ turned k full in
      let second : high ≡ visits k full = most ∙ turned k full in (
        visited_stepped k there,
        record {
          there = within;
          span = run.books.totals k within ∙ ap (λ (v : ℕ). Some (v, visits k full)) (sym first) ∙ ap (λ (v : ℕ). Some (low, v)) (sym second);
        },
      )

  dead_told : (k : ℕ) → IsLine o found (Dead k) → (k < length o.nodes) × (places k trace ≡ 0)
  dead_told k is = (is.0, turned k full ∙ no_visit o found full collected k is.1)

  told_dead : (k : ℕ) → (k < length o.nodes) × (places k trace ≡ 0) → IsLine o found (Dead k)
  told_dead k (low, none) = (
    low,
    by_test (is_stepped found k)
        (λ is. absurd (let some = some_visit k full (of_reverse full k (stepped_visited k is)) in let same = turned k full in omega (arith, some, same, none)))
        (λ never. never),
  )

  -- ---- loops

  -- an execution in the order of the run
  ordered : (s : ℕ) (execution : List ℕ) → IsExecution (shape_of o) s trace execution
      → IsExecution (shape_of o) s trace (reverse (reverse execution))
  ordered s execution is = subst (λ (e : List ℕ). IsExecution (shape_of o) s trace e) (sym (reverse-reverse execution)) is

  same_places : (k : ℕ) (execution : List ℕ) → places k execution ≡ visits k (reverse execution)
  same_places k execution = ap (λ (e : List ℕ). places k e) (sym (reverse-reverse execution)) ∙ turned k (reverse execution)

  header_places : (s : ℕ) (e : List ℕ) → places (header_of o.scopes s) (reverse e) ≡ header_count (shape_of o) s e
  header_places s e = turned (header_of o.scopes s) e ∙ header_visits (shape_of o) s e

  loop_told : (s low high : ℕ) → IsLine o found (Loop s low high)
      → (s < length o.scopes) × (is_loop (kind_of o.scopes s) ≡ true)
      × AreExtremes (shape_of o) s trace (places (header_of o.scopes s)) low high
  loop_told s low high is =
      let least = loop_least o run.kept found.books.loops full s (low, high) run.books.loops is.1.there is.1.span in
      let most = loop_most o run.kept found.books.loops full s (low, high) run.books.loops is.1.there is.1.span in (
        is.1.there,
        is.0,
        record {
          each = line_is_met o found full collected (Loop s low high) is;
          least = (reverse least.0, least.1, header_places s least.0 ∙ least.2);
          most = (reverse most.0, most.1, header_places s most.0 ∙ most.2);
        },
      )

  told_loop : (s low high : ℕ)
      → (s < length o.scopes) × (is_loop (kind_of o.scopes s) ≡ true)
      × AreExtremes (shape_of o) s trace (places (header_of o.scopes s)) low high → IsLine o found (Loop s low high)
  told_loop s low high (within, kind, extremes) =
      let e = extremes.least.0 in
      let bounds = loop_bounds o run.kept found.books.loops full s (reverse e) sums.loops within (ordered s e extremes.least.1) in
      let f = extremes.most.0 in
      let upper = loop_bounds o run.kept found.books.loops full s (reverse f) sums.loops within (ordered s f extremes.most.1) in
      let span = bounds.span in
      let line : IsLine o found (Loop s span.0 span.1) = (kind, record { there = within; span = bounds.is }) in
      let told = (loop_told s span.0 span.1 line).2 in
      let same_span : upper.span ≡ span = same_Some upper.span span (sym upper.is ∙ bounds.is) in
      let least_is : header_count (shape_of o) s (reverse e) ≡ low = sym (header_places s (reverse e)) ∙ ap (λ (x : List ℕ). places (header_of o.scopes s) x) (reverse-reverse e) ∙ extremes.least.2 in
      let most_is : header_count (shape_of o) s (reverse f) ≡ high = sym (header_places s (reverse f)) ∙ ap (λ (x : List ℕ). places (header_of o.scopes s) x) (reverse-reverse f) ∙ extremes.most.2 in
      let first : span.0 ≡ low = one_least span.0 low (extremes.each told.least.0 told.least.1).0 told.least.2 (bounds.within).0 least_is in
      let second : span.1 ≡ high = one_most span.1 high (extremes.each told.most.0 told.most.1).1 told.most.2 (subst (λ (t : ℕ × ℕ). header_count (shape_of o) s (reverse f) ≤ t.1) same_span upper.within.1) most_is in
      subst (λ (x : ℕ). IsLine o found (Loop s x high)) first (subst (λ (x : ℕ). IsLine o found (Loop s span.0 x)) second line)
    where
      one_least : (a b : ℕ) {c d : ℕ} → b ≤ c → c ≡ a → a ≤ d → d ≡ b → a ≡ b
      one_least a b le is le_too is_too = omega (arith, le, is, le_too, is_too)

      one_most : (a b : ℕ) {c d : ℕ} → c ≤ b → c ≡ a → d ≤ a → d ≡ b → a ≡ b
      one_most a b le is le_too is_too = omega (arith, le, is, le_too, is_too)

  -- ---- counts

  count_told : (s k low high : ℕ) → IsLine o found (Count s k low high)
      → Contains trace k × IsCountedIn o s k × AreExtremes (shape_of o) s trace (places k) low high
  count_told s k low high (within, stepped, counted, span) =
      let least = count_least o run.kept found.books.counts full k (low, high) run.books.counts span.there counted.counted span.span in
      let most = count_most o run.kept found.books.counts full k (low, high) run.books.counts span.there counted.counted span.span in (
        stepped_visited k stepped,
        counted,
        record {
          each = line_is_met o found full collected (Count s k low high) (within, stepped, counted, span);
          least = (reverse least.0, subst (λ (t : ℕ). IsExecution (shape_of o) t trace (reverse least.0)) counted.own least.1, turned k least.0 ∙ least.2);
          most = (reverse most.0, subst (λ (t : ℕ). IsExecution (shape_of o) t trace (reverse most.0)) counted.own most.1, turned k most.0 ∙ most.2);
        },
      )

  scope_low : (s k : ℕ) → k < length o.nodes → own_of (shape_of o) k ≡ s → s < length o.scopes
  scope_low s k low own =
      let same : length (shape_of o).own ≡ length o.nodes = length-map o.nodes (λ row. row.scope) in
      let within = run.kept.scopes_within k (omega (arith, low, same)) in
      subst (λ (t : ℕ). t < length o.scopes) own within

  told_count : (s k low high : ℕ)
      → Contains trace k × IsCountedIn o s k × AreExtremes (shape_of o) s trace (places k) low high
      → IsLine o found (Count s k low high)
  told_count s k low high (there, counted, extremes) =
      let node = low_of k there in
      let e = extremes.least.0 in
      let f = extremes.most.0 in
      let own_e = subst (λ (t : ℕ). IsExecution (shape_of o) t trace e) (sym counted.own) extremes.least.1 in
      let own_f = subst (λ (t : ℕ). IsExecution (shape_of o) t trace f) (sym counted.own) extremes.most.1 in
      let bounds = count_bounds o run.kept found.books.counts full k (reverse e) sums.counts node counted.counted (ordered (own_of (shape_of o) k) e own_e) in
      let upper = count_bounds o run.kept found.books.counts full k (reverse f) sums.counts node counted.counted (ordered (own_of (shape_of o) k) f own_f) in
      let span = bounds.span in
      let line : IsLine o found (Count s k span.0 span.1) = (scope_low s k node counted.own, visited_stepped k there, counted, record { there = node; span = bounds.is }) in
      let told = (count_told s k span.0 span.1 line).2 in
      let same_span : upper.span ≡ span = same_Some upper.span span (sym upper.is ∙ bounds.is) in
      let least_is : visits k (reverse e) ≡ low = sym (same_places k e) ∙ extremes.least.2 in
      let most_is : visits k (reverse f) ≡ high = sym (same_places k f) ∙ extremes.most.2 in
      let first : span.0 ≡ low = one_least span.0 low (extremes.each told.least.0 told.least.1).0 told.least.2 (bounds.within).0 least_is in
      let second : span.1 ≡ high = one_most span.1 high (extremes.each told.most.0 told.most.1).1 told.most.2 (subst (λ (t : ℕ × ℕ). visits k (reverse f) ≤ t.1) same_span upper.within.1) most_is in
      subst (λ (x : ℕ). IsLine o found (Count s k x high)) first (subst (λ (x : ℕ). IsLine o found (Count s k span.0 x)) second line)
    where
      one_least : (a b : ℕ) {c d : ℕ} → b ≤ c → c ≡ a → a ≤ d → d ≡ b → a ≡ b
      one_least a b le is le_too is_too = omega (arith, le, is, le_too, is_too)

      one_most : (a b : ℕ) {c d : ℕ} → c ≤ b → c ≡ a → d ≤ a → d ≡ b → a ≡ b
      one_most a b le is le_too is_too = omega (arith, le, is, le_too, is_too)

  -- ---- pairs

  pair_told : (s a b : ℕ) → IsLine o found (Pair s a b) → IsLonePair (shape_of o) trace s a b
  pair_told s a b (low, is) = record {
    ordered = is.ordered;
    first = stepped_visited a is.first;
    second = stepped_visited b is.second;
    own = is.apart.own;
    other_own = is.apart.other_own;
    no_header = is.no_header;
    apart = line_is_met o found full collected (Pair s a b) (low, is);
  }

  told_pair : (s a b : ℕ) → IsLonePair (shape_of o) trace s a b → IsLine o found (Pair s a b)
  told_pair s a b is =
      let first = low_of a is.first in
      let second = low_of b is.second in (
        scope_low s a first is.own,
        record {
          ordered = is.ordered;
          first = visited_stepped a is.first;
          second = visited_stepped b is.second;
          no_header = is.no_header;
          apart = record {
            first = first;
            second = second;
            own = is.own;
            other_own = is.other_own;
            apart = by_test (together found.books.pairs a b)
                (λ there.
                let met = pair_is_of o run.kept found.books.pairs full a b run.books.pairs first second there in
                absurd (is.apart met.iteration (subst (λ (t : ℕ). IsIteration (shape_of o) t trace met.iteration) is.own met.is) met.first met.second))
                (λ none. none);
          };
        },
      )

  -- ---- alarms

  last_is : trace ≡ reverse past ++ n ∷ []
  last_is = reverse-append (n ∷ []) past

  alarm_told : (k : ℕ) (kind : RunFault) → IsLine o found (Alarm k kind) → (fault ≡ Some kind) × IsLast trace k
  alarm_told k kind is =
      let so = (run.told k kind).0 is.1 in
      (so.0, (reverse past, last_is ∙ ap (λ (m : ℕ). reverse past ++ m ∷ []) (sym so.1)))

  -- the last node of a list is one
  one_last : (xs ys : List ℕ) (a b : ℕ) → xs ++ a ∷ [] ≡ ys ++ b ∷ [] → a ≡ b
  one_last xs ys a b same =
      let turned_first : a ∷ reverse xs ≡ b ∷ reverse ys = sym (reverse-append xs (a ∷ [])) ∙ ap (λ (l : List ℕ). reverse l) same ∙ reverse-append ys (b ∷ []) in
      same_Some a b (ap (λ (l : List ℕ). slice_get l 0) turned_first)

  told_alarm : (k : ℕ) (kind : RunFault) → (fault ≡ Some kind) × IsLast trace k → IsLine o found (Alarm k kind)
  told_alarm k kind (is, (before, last)) =
      let same : k ≡ n = one_last before (reverse past) k n (sym last ∙ last_is) in
      let there : Contains trace k = subst (λ (m : ℕ). Contains trace m) (sym same) (in_reverse full n (first_member n past)) in
      (low_of k there, (run.told k kind).1 (is, same))

  -- ---- the bound

  greatest_exact : (k : ℕ) → k < length o.nodes → greatest_total found k ≡ visits k full
  greatest_exact k low = by_test (is_stepped found k)
      (λ is. greatest_is (is_stepped found k) (spread_at found.books.totals k) (visits k full, visits k full) is (run.books.totals k low))
      (λ never. ap (λ (v : Bool). cond v (option_map_or (λ (span : ℕ × ℕ). span.1) (spread_at found.books.totals k) 0) 0) never ∙ sym (no_visit o found full collected k never))

  bound_exact : count_bound o found ≡ run_cost (costs_of o) trace
  bound_exact =
      sum_same (λ k. slice_index (costs_of o) k * greatest_total found k) (λ k. slice_index (costs_of o) k * visits k trace) (length o.nodes)
      (λ k low. ap (λ (v : ℕ). slice_index (costs_of o) k * v) (greatest_exact k low ∙ sym (visits_turned o found full collected k)))
      ∙ sym (cost_is (costs_of o) trace (length o.nodes) low_of)

  -- the report tells exactly it
  pub exact_report : IsExact o (told_report o found) trace fault
  exact_report = record {
    totals = λ k low high. (λ there. total_told k low high (told_line o found (Total k low high) there), λ so. line_told o found (Total k low high) (told_total k low high so));
    deads = λ k. (λ there. dead_told k (told_line o found (Dead k) there), λ so. line_told o found (Dead k) (told_dead k so));
    loops = λ s low high. (λ there. loop_told s low high (told_line o found (Loop s low high) there), λ so. line_told o found (Loop s low high) (told_loop s low high so));
    counts = λ s k low high. (λ there. count_told s k low high (told_line o found (Count s k low high) there), λ so. line_told o found (Count s k low high) (told_count s k low high so));
    pairs = λ s a b. (λ there. pair_told s a b (told_line o found (Pair s a b) there), λ so. line_told o found (Pair s a b) (told_pair s a b so));
    alarms = λ k kind. (λ there. alarm_told k kind (told_line o found (Alarm k kind) there), λ so. line_told o found (Alarm k kind) (told_alarm k kind so));
    bound = bound_exact;
  }
