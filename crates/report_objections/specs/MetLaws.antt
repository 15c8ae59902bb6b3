-- Runs that were collected meet the lines that do not exclude what was collected.
--   fact_is_met        such a run meets each line that does not exclude what was collected
use Rattle.std.proofs.Common.{◌≡◌, ◌≢◌, ◌≤◌, ◌==◌, ◌&&◌, not, ℕ, List, Option, Some, None, Bool, true, false, reverse, sym, ap, ◌∙◌, subst, arith}
use Rattle.std.specs.Prelude.{nat_lt}
use Rattle.std.proofs.lemmas.Bool.{ltb-false, or_parts, ne_eqb}
use Rattle.std.proofs.lemmas.Option.{none-some, same_Some}
use Rattle.std.proofs.lemmas.List.{reverse-reverse}
use Rattle.domain_core.specs.declared.scope_kind.ScopeKind.{ScopeKind}
use Rattle.domain_core.specs.declared.scope_kind.ScopeKind.TheVariants.{Loop as LoopScope}
use Rattle.domain_core.specs.Outlines.{Outlined, Shape, shape_of, header_of, kind_of}
use Rattle.domain_core.specs.Executions.{IsExecution, IsIteration, header_count}
use Rattle.flow_facts.specs.declared.fact.Fact.{Fact}
use Rattle.flow_facts.specs.declared.fact.Fact.TheVariants.{Loop, Count, Dead, Total, Pair, Alarm}
use Rattle.flow_facts.specs.Facts.{places, IsBetween, Meets}
use Rattle.ipet_rows.specs.Shaped.{FitsOutline}
use Rattle.recorder_rules.specs.Spans.{visits, IsWithin}
use Rattle.recorder_rules.specs.TotalRules.{spread_at}
use Rattle.recorder_rules.specs.LoopRules.{is_loop, own_of, is_counted}
use Rattle.recorder_rules.specs.BookLaws.{Bounds, header_visits, loop_bounds, count_bounds, total_bounds}
use Rattle.recorder_rules.specs.PairBookLaws.{never_together}
use Rattle.report_soundness.specs.BookToldLaws.{turned}
use Rattle.report_soundness.specs.ReportTold.{Found}
use Rattle.report_soundness.specs.CollectedLaws.{node_in, SummedUp}
use Rattle.report_soundness.specs.SoundLaws.{no_visit}
use Rattle.report_objections.specs.Objecting.{is_outside, excludes}

-- ---- facts

-- a count in a span that is inside the numbers
inside : (low high c : ℕ) (spread : Option (ℕ × ℕ)) → is_outside low high spread ≡ false → Bounds spread c
    → IsBetween low high c
inside low high c None free bounds = absurd (none-some bounds.span bounds.is)
inside low high c (Some s) free bounds =
    let within : IsWithin c s = subst (λ (t : ℕ × ℕ). IsWithin c t) (sym (same_Some s bounds.span bounds.is)) bounds.within in
    let tests = or_parts (nat_lt s.0 low) (nat_lt high s.1) free in
    let least : low ≤ s.0 = ltb-false s.0 low tests.0 in
    let most : s.1 ≤ high = ltb-false high s.1 tests.1 in
    let first = within.0 in
    let last = within.1 in
    (omega (arith, least, first), omega (arith, most, last))

both_true : (a b : Bool) → a ≡ true → b ≡ true → (a && b) ≡ true
both_true true b first second = second
both_true false b first second = first

-- a node of a loop that is not its header is counted
pub counted_is : (o : Shape) (s n : ℕ) → own_of o n ≡ s → kind_of o.scopes s ≡ LoopScope → header_of o.scopes s ≢ n
    → is_counted o n ≡ true
counted_is o s n own kind other =
    subst (λ (t : ℕ). (is_loop (kind_of o.scopes t) && not (header_of o.scopes t == n)) ≡ true) (sym own)
    (both_true (is_loop (kind_of o.scopes s)) (not (header_of o.scopes s == n)) (ap (λ (k : ScopeKind). is_loop k) kind) (ap (λ (v : Bool). not v) (ne_eqb (header_of o.scopes s) n other)))

module _ (o : Outlined) (found : Found) (past : List ℕ) (run : SummedUp o found past) where
  -- an execution in its order, as one with the newest node first
  ordered : (s : ℕ) (execution : List ℕ) → IsExecution (shape_of o) s (reverse past) execution
      → IsExecution (shape_of o) s (reverse past) (reverse (reverse execution))
  ordered s execution is = subst (λ (e : List ℕ). IsExecution (shape_of o) s (reverse past) e) (sym (reverse-reverse execution)) is

  same_places : (n : ℕ) (execution : List ℕ) → places n execution ≡ visits n (reverse execution)
  same_places n execution = ap (λ (e : List ℕ). places n e) (sym (reverse-reverse execution)) ∙ turned n (reverse execution)

  -- the run meets each line that does not exclude what was collected
  pub fact_is_met : (fact : Fact) → FitsOutline (shape_of o) fact → excludes found fact ≡ false
      → Meets (shape_of o) (reverse past) fact
  fact_is_met (Loop s low high) fits free = λ execution is.
      let bounds = loop_bounds o run.kept found.books.loops past s (reverse execution) run.books.loops fits.0 (ordered s execution is) in
      let header = header_of (shape_of o).scopes s in
      let count : places header execution ≡ header_count (shape_of o) s (reverse execution) = same_places header execution ∙ header_visits (shape_of o) s (reverse execution) in
      subst (λ (c : ℕ). IsBetween low high c) (sym count) (inside low high (header_count (shape_of o) s (reverse execution)) (spread_at found.books.loops.spreads s) free bounds)
  fact_is_met (Count s n low high) fits free = λ execution is.
      let own = subst (λ (t : ℕ). IsExecution (shape_of o) t (reverse past) execution) (sym fits.3) is in
      let bounds = count_bounds o run.kept found.books.counts past n (reverse execution) run.books.counts (node_in o n fits.2) (counted_is (shape_of o) s n fits.3 fits.1 fits.4)
      (ordered (own_of (shape_of o) n) execution own) in
      subst (λ (c : ℕ). IsBetween low high c) (sym (same_places n execution)) (inside low high (visits n (reverse execution)) (spread_at found.books.counts.spreads n) free bounds)
  fact_is_met (Dead n) fits free = turned n past ∙ no_visit o found past run n free
  fact_is_met (Total n low high) fits free =
      subst (λ (c : ℕ). IsBetween low high c) (sym (turned n past))
      (inside low high (visits n past) (spread_at found.books.totals n) free (total_bounds o found.books.totals past n run.books.totals (node_in o n fits)))
  fact_is_met (Pair s a b) fits free = λ iteration is first second.
      let low = fits.1 in
      let within = fits.2 in
      never_together o run.kept found.books.pairs past a b run.books.pairs (node_in o a (omega (arith, low, within))) (node_in o b within) free (record {
        shared = fits.3 ∙ sym fits.4;
        iteration = iteration;
        is = subst (λ (t : ℕ). IsIteration (shape_of o) t (reverse past) iteration) (sym fits.3) is;
        first = first;
        second = second;
      })
  fact_is_met (Alarm n fault) fits free = tt
