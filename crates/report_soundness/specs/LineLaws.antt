-- The facts of a report are its lines.
--   line_told     each fact that it is to tell is there
--   told_line     and no other
use Rattle.std.proofs.Common.{◌≡◌, ◌≢◌, ◌<◌, ◌==◌, ◌&&◌, not, ℕ, List, [], ◌∷◌, ◌++◌, Bool, true, false, length, Contains, inl, inr, refl, sym, ◌∙◌, subst, arith}
use Rattle.std.specs.Prelude.{nat_lt}
use Rattle.std.proofs.lemmas.Bool.{lt-ltb, ltb-true, eq-eqb, eqb-true, ne_eqb, and_parts}
use Rattle.std.proofs.lemmas.List.Elements.{Contains-append_left, Contains-append_right, Contains-append_cases}
use Rattle.lists.specs.MemberLaws.{first_member}
use Rattle.lists.specs.ImageLaws.{joined, from_joined}
use Rattle.alf_ops.specs.declared.history.RunFault.{RunFault}
use Rattle.alf_ops.specs.declared.history.RunFault.TheVariants.{Divide, Uninit, Mixed, Bounds, Dead as DeadFrame, Kind, Pointers}
use Rattle.domain_core.specs.FaultSets.{has_fault}
use Rattle.domain_core.specs.Outlines.{Outlined, shape_of, header_of, kind_of}
use Rattle.flow_facts.specs.declared.fact.Fact.{Fact}
use Rattle.flow_facts.specs.declared.fact.Fact.TheVariants.{Loop, Count, Dead, Total, Pair, Alarm}
use Rattle.recorder_rules.specs.TotalRules.{spread_at}
use Rattle.recorder_rules.specs.LoopRules.{is_loop, own_of, is_counted}
use Rattle.recorder_rules.specs.PairRules.{together}
use Rattle.worklist_rules.specs.Pools.{alarm_at}
use Rattle.report_soundness.specs.ReportTold.{Found, is_stepped, below, span_lines, loop_lines, count_line, count_lines, dead_lines, total_lines, may_pair, pair_line, pairs_with, pair_lines, all_faults, alarm_line, alarm_lines, told_facts}
use Rattle.report_soundness.specs.Lines.{IsPair, IsLine}
use Rattle.report_soundness.specs.BelowLaws.{in_if, from_if, in_unless, from_unless, only_member, in_below, from_below, in_span, from_span}

both_true : (a b : Bool) → a ≡ true → b ≡ true → (a && b) ≡ true
both_true true b first second = second
both_true false b first second = first

not_true : (a : Bool) → a ≡ false → not a ≡ true
not_true false is = refl
not_true true is = absurd (let bad : true ≡ false = is in cc)

not_false : (a : Bool) → not a ≡ true → a ≡ false
not_false false is = refl
not_false true is = absurd (let bad : false ≡ true = is in cc)

differ : (m n : ℕ) → (m == n) ≡ false → m ≢ n
differ m n is = λ (same : m ≡ n). let hit = eq-eqb m n same in let bad : true ≡ false = sym hit ∙ is in cc

module _ (o : Outlined) (found : Found) where
  -- ---- what is told is a line

  -- a line where a span was collected, as the fact that it is
  as_line : (x y : Fact) → x ≡ y → IsLine o found x → IsLine o found y
  as_line x y same is = subst (λ (fact : Fact). IsLine o found fact) same is

  loop_is : (s : ℕ) → s < length o.scopes → (fact : Fact) → Contains (loop_lines o found s) fact → IsLine o found fact
  loop_is s low fact there =
      let lines = span_lines (λ low high. Loop s low high) (spread_at found.books.loops.spreads s) in
      let parts = from_if (is_loop (kind_of o.scopes s)) lines fact there in
      let m = from_span (λ low high. Loop s low high) (spread_at found.books.loops.spreads s) fact parts.1 in
      as_line (Loop s m.low m.high) fact m.is (parts.0, record { there = low; span = m.span })

  count_is : (s n : ℕ) → s < length o.scopes → n < length o.nodes → (fact : Fact)
      → Contains (count_line o found s n) fact → IsLine o found fact
  count_is s n low within fact there =
      let lines = span_lines (λ low high. Count s n low high) (spread_at found.books.counts.spreads n) in
      let parts = from_if (is_stepped found n && (is_counted (shape_of o) n && (own_of (shape_of o) n == s))) lines fact there in
      let tests = and_parts (is_stepped found n) (is_counted (shape_of o) n && (own_of (shape_of o) n == s)) parts.0 in
      let counted = and_parts (is_counted (shape_of o) n) (own_of (shape_of o) n == s) tests.1 in
      let m = from_span (λ low high. Count s n low high) (spread_at found.books.counts.spreads n) fact parts.1 in
      as_line (Count s n m.low m.high) fact m.is (low, tests.0, record { counted = counted.0; own = eqb-true (own_of (shape_of o) n) s counted.1 }, record { there = within; span = m.span })

  dead_is : (n : ℕ) → n < length o.nodes → (fact : Fact) → Contains (dead_lines found n) fact → IsLine o found fact
  dead_is n low fact there =
      let parts = from_unless (is_stepped found n) (Dead n ∷ []) fact there in
      as_line (Dead n) fact (only_member (Dead n) fact parts.1) (low, parts.0)

  total_is : (n : ℕ) → n < length o.nodes → (fact : Fact) → Contains (total_lines found n) fact → IsLine o found fact
  total_is n low fact there =
      let parts = from_if (is_stepped found n) (span_lines (λ low high. Total n low high) (spread_at found.books.totals n)) fact there in
      let m = from_span (λ low high. Total n low high) (spread_at found.books.totals n) fact parts.1 in
      as_line (Total n m.low m.high) fact m.is (parts.0, record { there = low; span = m.span })

  -- what the test of a node says
  record MayPair (s n : ℕ) : Type 0 where
    stepped : is_stepped found n ≡ true
    own : own_of (shape_of o) n ≡ s
    no_header : header_of o.scopes s ≢ n

  may_pair_is : (s n : ℕ) → may_pair o found s n ≡ true → MayPair s n
  may_pair_is s n is =
      let outer = and_parts (is_stepped found n) ((own_of (shape_of o) n == s) && not (header_of o.scopes s == n)) is in
      let inner = and_parts (own_of (shape_of o) n == s) (not (header_of o.scopes s == n)) outer.1 in
      record { stepped = outer.0; own = eqb-true (own_of (shape_of o) n) s inner.0; no_header = differ (header_of o.scopes s) n (not_false (header_of o.scopes s == n) inner.1) }

  pair_is : (s a b : ℕ) → s < length o.scopes → a < length o.nodes → b < length o.nodes → may_pair o found s a ≡ true
      → (fact : Fact) → Contains (pair_line o found s a b) fact → IsLine o found fact
  pair_is s a b low first second may fact there =
      let parts = from_if (nat_lt a b && (may_pair o found s b && not (together found.books.pairs a b))) (Pair s a b ∷ []) fact there in
      let outer = and_parts (nat_lt a b) (may_pair o found s b && not (together found.books.pairs a b)) parts.0 in
      let inner = and_parts (may_pair o found s b) (not (together found.books.pairs a b)) outer.1 in
      let left = may_pair_is s a may in
      let right = may_pair_is s b inner.0 in
      as_line (Pair s a b) fact (only_member (Pair s a b) fact parts.1) (
        low,
        record {
          ordered = ltb-true a b outer.0;
          first = left.stepped;
          second = right.stepped;
          no_header = (left.no_header, right.no_header);
          apart = record { first = first; second = second; own = left.own; other_own = right.own; apart = not_false (together found.books.pairs a b) inner.1 };
        },
      )

  alarm_is : (n : ℕ) → n < length o.nodes → (fact : Fact) → Contains (alarm_lines found n) fact → IsLine o found fact
  alarm_is n low fact there =
      let set = alarm_at found.alarms n in
      let m = from_joined (alarm_line set n) all_faults fact there in
      let parts = from_if (has_fault set m.0) (Alarm n m.0 ∷ []) fact m.2 in
      as_line (Alarm n m.0) fact (only_member (Alarm n m.0) fact parts.1) (low, parts.0)

  -- ---- the lists of the kinds

  abbrev loops : List Fact
  loops = below (loop_lines o found) (length o.scopes)

  abbrev counts : List Fact
  counts = below (count_lines o found) (length o.scopes)

  abbrev deads : List Fact
  deads = below (dead_lines found) (length o.nodes)

  abbrev totals : List Fact
  totals = below (total_lines found) (length o.nodes)

  abbrev pairs : List Fact
  pairs = below (pair_lines o found) (length o.scopes)

  abbrev alarms : List Fact
  alarms = below (alarm_lines found) (length o.nodes)

  counts_are : (fact : Fact) → Contains counts fact → IsLine o found fact
  counts_are fact there =
      let m = from_below (count_lines o found) (length o.scopes) fact there in
      let n = from_below (count_line o found m.0) (length o.nodes) fact m.2 in
      count_is m.0 n.0 m.1 n.1 fact n.2

  pairs_are : (fact : Fact) → Contains pairs fact → IsLine o found fact
  pairs_are fact there =
      let s = from_below (pair_lines o found) (length o.scopes) fact there in
      let a = from_below (pairs_with o found s.0) (length o.nodes) fact s.2 in
      let parts = from_if (may_pair o found s.0 a.0) (below (pair_line o found s.0 a.0) (length o.nodes)) fact a.2 in
      let b = from_below (pair_line o found s.0 a.0) (length o.nodes) fact parts.1 in
      pair_is s.0 a.0 b.0 s.1 a.1 b.1 parts.0 fact b.2

  -- each fact that is told is a line
  pub told_line : (fact : Fact) → Contains (told_facts o found) fact → IsLine o found fact
  told_line fact there =
      elim (Contains-append_cases loops (counts ++ (deads ++ (totals ++ (pairs ++ alarms)))) fact there) [
        | inl one ↦ let m = from_below (loop_lines o found) (length o.scopes) fact one in loop_is m.0 m.1 fact m.2
        | inr from_1 ↦ elim (Contains-append_cases counts (deads ++ (totals ++ (pairs ++ alarms))) fact from_1) [
          | inl one ↦ counts_are fact one
          | inr from_2 ↦ elim (Contains-append_cases deads (totals ++ (pairs ++ alarms)) fact from_2) [
            | inl one ↦ let m = from_below (dead_lines found) (length o.nodes) fact one in dead_is m.0 m.1 fact m.2
            | inr from_3 ↦ elim (Contains-append_cases totals (pairs ++ alarms) fact from_3) [
              | inl one ↦ let m = from_below (total_lines found) (length o.nodes) fact one in total_is m.0 m.1 fact m.2
              | inr from_4 ↦ elim (Contains-append_cases pairs alarms fact from_4) [
                | inl one ↦ pairs_are fact one
                | inr one ↦ let m = from_below (alarm_lines found) (length o.nodes) fact one in alarm_is m.0 m.1 fact m.2
              ]
            ]
          ]
        ]
      ]

  -- ---- each line is told

  in_counts : (fact : Fact) → Contains counts fact → Contains (told_facts o found) fact
  in_counts fact there = Contains-append_right loops (counts ++ (deads ++ (totals ++ (pairs ++ alarms)))) fact (Contains-append_left counts (deads ++ (totals ++ (pairs ++ alarms))) fact there)

  from_deads : (fact : Fact) → Contains (deads ++ (totals ++ (pairs ++ alarms))) fact
      → Contains (told_facts o found) fact
  from_deads fact there = Contains-append_right loops (counts ++ (deads ++ (totals ++ (pairs ++ alarms)))) fact (Contains-append_right counts (deads ++ (totals ++ (pairs ++ alarms))) fact there)

  from_totals : (fact : Fact) → Contains (totals ++ (pairs ++ alarms)) fact → Contains (told_facts o found) fact
  from_totals fact there = from_deads fact (Contains-append_right deads (totals ++ (pairs ++ alarms)) fact there)

  from_pairs : (fact : Fact) → Contains (pairs ++ alarms) fact → Contains (told_facts o found) fact
  from_pairs fact there = from_totals fact (Contains-append_right totals (pairs ++ alarms) fact there)

  among_faults : (fault : RunFault) → Contains all_faults fault
  among_faults Divide = (0, omega arith, refl)
  among_faults Uninit = (1, omega arith, refl)
  among_faults Mixed = (2, omega arith, refl)
  among_faults Bounds = (3, omega arith, refl)
  among_faults DeadFrame = (4, omega arith, refl)
  among_faults Kind = (5, omega arith, refl)
  among_faults Pointers = (6, omega arith, refl)

  may_pair_so : (s n : ℕ) → is_stepped found n ≡ true → own_of (shape_of o) n ≡ s → header_of o.scopes s ≢ n
      → may_pair o found s n ≡ true
  may_pair_so s n stepped own other =
      both_true (is_stepped found n) ((own_of (shape_of o) n == s) && not (header_of o.scopes s == n)) stepped
      (both_true (own_of (shape_of o) n == s) (not (header_of o.scopes s == n)) (eq-eqb (own_of (shape_of o) n) s own) (not_true (header_of o.scopes s == n) (ne_eqb (header_of o.scopes s) n other)))

  pair_there : (s a b : ℕ) → s < length o.scopes → IsPair o found s a b → Contains pairs (Pair s a b)
  pair_there s a b low is =
      in_below (pair_lines o found) (length o.scopes) s (Pair s a b) low
      (in_below (pairs_with o found s) (length o.nodes) a (Pair s a b) is.apart.first
      (in_if (may_pair o found s a) (below (pair_line o found s a) (length o.nodes)) (Pair s a b) (may_pair_so s a is.first is.apart.own is.no_header.0)
      (in_below (pair_line o found s a) (length o.nodes) b (Pair s a b) is.apart.second
      (in_if (nat_lt a b && (may_pair o found s b && not (together found.books.pairs a b))) (Pair s a b ∷ []) (Pair s a b)
      (both_true (nat_lt a b) (may_pair o found s b && not (together found.books.pairs a b)) (lt-ltb a b is.ordered)
      (both_true (may_pair o found s b) (not (together found.books.pairs a b)) (may_pair_so s b is.second is.apart.other_own is.no_header.1) (not_true (together found.books.pairs a b) is.apart.apart)))
      (first_member (Pair s a b) [])))))

  -- each line is told
  pub line_told : (fact : Fact) → IsLine o found fact → Contains (told_facts o found) fact
  line_told (Loop s low high) is =
      Contains-append_left loops (counts ++ (deads ++ (totals ++ (pairs ++ alarms)))) (Loop s low high)
      (in_below (loop_lines o found) (length o.scopes) s (Loop s low high) is.1.there
      (in_if (is_loop (kind_of o.scopes s)) (span_lines (λ l h. Loop s l h) (spread_at found.books.loops.spreads s)) (Loop s low high) is.0
      (in_span (λ l h. Loop s l h) (spread_at found.books.loops.spreads s) low high is.1.span)))
  line_told (Count s n low high) (within, stepped, counted, span) =
      in_counts (Count s n low high)
      (in_below (count_lines o found) (length o.scopes) s (Count s n low high) within
      (in_below (count_line o found s) (length o.nodes) n (Count s n low high) span.there
      (in_if (is_stepped found n && (is_counted (shape_of o) n && (own_of (shape_of o) n == s))) (span_lines (λ l h. Count s n l h) (spread_at found.books.counts.spreads n)) (Count s n low high)
      (both_true (is_stepped found n) (is_counted (shape_of o) n && (own_of (shape_of o) n == s)) stepped
      (both_true (is_counted (shape_of o) n) (own_of (shape_of o) n == s) counted.counted (eq-eqb (own_of (shape_of o) n) s counted.own)))
      (in_span (λ l h. Count s n l h) (spread_at found.books.counts.spreads n) low high span.span))))
  line_told (Dead n) is =
      from_deads (Dead n) (Contains-append_left deads (totals ++ (pairs ++ alarms)) (Dead n)
      (in_below (dead_lines found) (length o.nodes) n (Dead n) is.0 (in_unless (is_stepped found n) (Dead n ∷ []) (Dead n) is.1 (first_member (Dead n) []))))
  line_told (Total n low high) is =
      from_totals (Total n low high) (Contains-append_left totals (pairs ++ alarms) (Total n low high)
      (in_below (total_lines found) (length o.nodes) n (Total n low high) is.1.there
      (in_if (is_stepped found n) (span_lines (λ l h. Total n l h) (spread_at found.books.totals n)) (Total n low high) is.0
      (in_span (λ l h. Total n l h) (spread_at found.books.totals n) low high is.1.span))))
  line_told (Pair s a b) is = from_pairs (Pair s a b) (Contains-append_left pairs alarms (Pair s a b) (pair_there s a b is.0 is.1))
  line_told (Alarm n fault) is =
      from_pairs (Alarm n fault) (Contains-append_right pairs alarms (Alarm n fault)
      (in_below (alarm_lines found) (length o.nodes) n (Alarm n fault) is.0
      (joined (alarm_line (alarm_at found.alarms n) n) all_faults fault (Alarm n fault) (among_faults fault)
      (in_if (has_fault (alarm_at found.alarms n) fault) (Alarm n fault ∷ []) (Alarm n fault) is.1 (first_member (Alarm n fault) [])))))
