-- The facts that an exploration tells have what a path bound asks for.
--   told_fit       and fits it
--   told_limited   of each node some fact says how often a run leaves it at most, where totals were collected
--   told_within    the sum over the openings is at most the count bound
--   summed_totals  where a run was collected, each node has a total
use Rattle.std.proofs.Common.{◌≡◌, ◌≢◌, ◌<◌, ◌*◌, ◌==◌, ◌&&◌, not, ℕ, zero, suc, pos, Bool, true, false, List, length, Option, Some, None, inl, inr, refl, ap, sym, ◌∙◌, subst, arith}
use Rattle.std.specs.Prelude.{◌≤ℤ◌, slice_index}
use Rattle.std.specs.Option.{option_map_or}
use Rattle.std.proofs.lemmas.Bool.{eq-eqb}
use Rattle.std.proofs.lemmas.Int.{ints}
use Rattle.std.proofs.lemmas.List.{length-map}
use Rattle.lists.specs.MemberLaws.{all_members}
use Rattle.lists.specs.TestLaws.{by_test}
use Rattle.domain_core.specs.declared.outline.NodeRow.{NodeRow}
use Rattle.domain_core.specs.declared.scope_kind.ScopeKind.{ScopeKind}
use Rattle.domain_core.specs.declared.scope_kind.ScopeKind.TheVariants.{Call, Loop as LoopScope}
use Rattle.domain_core.specs.Outlines.{Outlined, shape_of, header_of, kind_of}
use Rattle.flow_facts.specs.declared.fact.Fact.{Fact}
use Rattle.flow_facts.specs.declared.fact.Fact.TheVariants.{Loop, Count, Dead, Total, Pair, Alarm}
use Rattle.ipet_rows.specs.Sums.{total}
use Rattle.ipet_rows.specs.Shaped.{FitsOutline, FitOutline}
use Rattle.recorder_rules.specs.Spans.{visits, IsWider}
use Rattle.recorder_rules.specs.TotalRules.{spread_at}
use Rattle.recorder_rules.specs.LoopRules.{is_loop, own_of}
use Rattle.report_soundness.specs.BookTold.{SumUp}
use Rattle.simplex_rules.specs.OutlineOpenings.{AreLimited}
use Rattle.report_soundness.specs.ReportTold.{Found, is_stepped, sum_below, told_facts, greatest_total, costs_of, count_bound}
use Rattle.report_soundness.specs.Lines.{IsLine}
use Rattle.report_soundness.specs.LineLaws.{told_line, line_told}
use Rattle.path_lp.specs.Bounding.{opening_sum}
use Rattle.path_lp.specs.OpeningCosts.{AreWithin}
use Rattle.path_lp.specs.OpeningCostLaws.{openings_within}
use Rattle.report_soundness.specs.BoundTold.{IsTotalOf, HaveTotals}

-- ---- shapes

loop_kind : (kind : ScopeKind) → is_loop kind ≡ true → kind ≡ LoopScope
loop_kind LoopScope is = refl
loop_kind Call is = absurd cc

both_are : (a b : Bool) → (a && b) ≡ true → (a ≡ true) × (b ≡ true)
both_are true true is = (refl, refl)
both_are true false is = absurd cc
both_are false b is = absurd cc

differ : (a b : ℕ) → not (a == b) ≡ true → a ≢ b
differ a b is same = let here : (a == b) ≡ true = eq-eqb a b same in let bad : not true ≡ true = subst (λ (v : Bool). not v ≡ true) here is in absurd cc

module _ (o : Outlined) (found : Found) where
  same_length : length (shape_of o).own ≡ length o.nodes
  same_length = length-map o.nodes (λ (row : NodeRow). row.scope)

  pub low : (n : ℕ) → n < length o.nodes → n < length (shape_of o).own
  low n below = let same = same_length in omega (arith, below, same)

  line_fits : (fact : Fact) → IsLine o found fact → FitsOutline (shape_of o) fact
  line_fits (Loop s least most) is = (is.1.there, loop_kind (kind_of o.scopes s) is.0)
  line_fits (Count s n least most) (within, stepped, counted, span) =
      let tests = both_are (is_loop (kind_of o.scopes (own_of (shape_of o) n))) (not (header_of o.scopes (own_of (shape_of o) n) == n)) counted.counted in
      let kind : kind_of o.scopes s ≡ LoopScope = ap (λ (t : ℕ). kind_of o.scopes t) (sym counted.own) ∙ loop_kind (kind_of o.scopes (own_of (shape_of o) n)) tests.0 in
      let other : header_of o.scopes s ≢ n = subst (λ (t : ℕ). header_of o.scopes t ≢ n) counted.own (differ (header_of o.scopes (own_of (shape_of o) n)) n tests.1) in
      (within, kind, low n span.there, counted.own, other)
  line_fits (Dead n) is = low n is.0
  line_fits (Total n least most) is = low n is.1.there
  line_fits (Pair s a b) is =
      let pair = is.1 in
      (is.0, pair.ordered, low b pair.apart.second, pair.apart.own, pair.apart.other_own, pair.no_header.0, pair.no_header.1)
  line_fits (Alarm n fault) is = low n is.0

  -- and fits it
  pub told_fit : FitOutline (shape_of o) (told_facts o found)
  told_fit = all_members (λ f. FitsOutline (shape_of o) f) (told_facts o found) (λ fact there. line_fits fact (told_line o found fact there))

  -- ---- totals

  -- of each node some fact says how often a run leaves it at most, where totals were collected
  pub told_limited : HaveTotals o found → AreLimited (length o.nodes) (told_facts o found)
  told_limited have n below = by_test (is_stepped found n)
      (λ stepped.
      let told = have n below stepped in
      inr (told.low, told.high, line_told o found (Total n told.low told.high) (stepped, record { there = below; span = told.span })))
      (λ clear. inl (line_told o found (Dead n) (below, clear)))

  pub within : AreWithin (greatest_total found) (told_facts o found)
  within n least most there =
      let is = told_line o found (Total n least most) there in
      let same : greatest_total found n ≡ most = rw is.0 (ap (λ (t : Option (ℕ × ℕ)). option_map_or (λ span. span.1) t 0) is.1.span) in
      omega (arith, same)

  sums_are : (f : ℕ → ℕ) (n : ℕ) → total n (λ k. pos (f k)) ≡ pos (sum_below f n)
  sums_are f zero = refl
  sums_are f (suc n) = omega (arith, ints, sums_are f n)

  -- the sum over the openings is at most the count bound
  pub told_within : opening_sum o (told_facts o found) ≤ℤ pos (count_bound o found)
  told_within =
      let most = openings_within o (told_facts o found) (greatest_total found) within in
      let sum : total (length o.nodes) (λ n. pos (slice_index (costs_of o) n * greatest_total found n)) ≡ pos (count_bound o found) =
      sums_are (λ n. slice_index (costs_of o) n * greatest_total found n) (length o.nodes) in
      omega (arith, ints, most, sum)

  -- where a run was collected, each node has a total
  pub summed_totals : (past : List ℕ) → SumUp o found.books past → HaveTotals o found
  summed_totals past sums n below stepped = by_spread (spread_at found.books.totals n) refl (sums.totals n below)
    where
      by_spread : (t : Option (ℕ × ℕ)) → spread_at found.books.totals n ≡ t
          → IsWider (Some (visits n past, visits n past)) t → IsTotalOf found n
      by_spread None is wider = absurd wider
      by_spread (Some span) is wider = record { low = span.0; high = span.1; span = is }
