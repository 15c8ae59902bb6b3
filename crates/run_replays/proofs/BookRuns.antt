-- The books that have a run tell of each line whether the run meets it.
--   HasRun o books past      the books have exactly the run whose nodes are these, the newest first
--   unbroken_is_met, met_is_unbroken   a line that the books do not break is met, and one that is met they do not break
--   sized_books              the books of an outline have a number for each of its nodes and scopes
--   entered_run              what is entered in a book is the run of its books
use Rattle.std.proofs.Common.{◌≡◌, ◌<◌, ◌≤◌, ◌||◌, ℕ, List, [], ◌∷◌, Bool, true, false, Option, Some, None, length, reverse, refl, sym, ap, ◌∙◌, subst, arith}
use Rattle.std.specs.Prelude.{nat_lt}
use Rattle.std.proofs.lemmas.Bool.{le-ltb, ltb-false, or_parts}
use Rattle.std.proofs.lemmas.List.{reverse-reverse}
use Rattle.std.proofs.lemmas.Option.{none-some, same_Some}
use Rattle.lists.specs.TestLaws.{by_test}
use Rattle.domain_core.specs.Outlines.{Outlined, IsOutline, shape_of, header_of}
use Rattle.domain_core.specs.Executions.{IsExecution, IsIteration, header_count}
use Rattle.flow_facts.specs.declared.fact.Fact.{Fact}
use Rattle.flow_facts.specs.declared.fact.Fact.TheVariants.{Loop, Count, Dead, Total, Pair, Alarm}
use Rattle.flow_facts.specs.Facts.{places, IsBetween, Meets}
use Rattle.ipet_rows.specs.Shaped.{FitsOutline}
use Rattle.recorder_rules.specs.GeneratedLaws.{length-generated}
use Rattle.recorder_rules.specs.Spans.{visits, IsWithin}
use Rattle.recorder_rules.specs.TotalRules.{spread_at}
use Rattle.recorder_rules.specs.LoopRules.{own_of, is_counted, counted_scope}
use Rattle.recorder_rules.specs.BookLaws.{Bounds, header_visits, loop_bounds, count_bounds, total_bounds, loop_least, loop_most, count_least, count_most}
use Rattle.recorder_rules.specs.PairRules.{together}
use Rattle.recorder_rules.specs.PairBookLaws.{never_together, pair_is_of}
use Rattle.report_soundness.specs.BookTold.{Books, SumUp}
use Rattle.report_soundness.specs.BookToldLaws.{turned}
use Rattle.report_soundness.specs.ReportTold.{FourBooks, books_of, four_recording}
use Rattle.report_soundness.specs.ExactLaws.{ExactBooks}
use Rattle.report_objections.specs.Objecting.{is_outside}
use Rattle.report_objections.specs.MetLaws.{counted_is}
use Rattle.report_soundness.specs.CollectedLaws.{node_in}
use Rattle.run_replays.specs.Tests.{AreSized, breaks}
use Rattle.run_replays.specs.Walks.{IsEntered}

-- the books have exactly the run
pub record HasRun (o : Outlined) (books : Books) (past : List ℕ) : Type 0 where
  pub kept : IsOutline (shape_of o)
  pub sums : SumUp o books past
  pub exact : ExactBooks o books past

-- a count in a span that is inside the numbers
inside : (low high c : ℕ) (spread : Option (ℕ × ℕ)) → is_outside low high spread ≡ false → Bounds spread c
    → IsBetween low high c
inside low high c None free bounds = absurd (none-some bounds.span bounds.is)
inside low high c (Some s) free bounds =
    let within : IsWithin c s = subst (λ (t : ℕ × ℕ). IsWithin c t) (sym (same_Some s bounds.span bounds.is)) bounds.within in
    let tests = or_parts (nat_lt s.0 low) (nat_lt high s.1) free in
    let least : low ≤ s.0 = ltb-false s.0 low tests.0 in
    let most : s.1 ≤ high = ltb-false high s.1 tests.1 in
    let first = within.0 in
    let last = within.1 in
    (omega (arith, least, first), omega (arith, most, last))

inside_numbers : (low high : ℕ) (s : ℕ × ℕ) → low ≤ s.0 → s.1 ≤ high → is_outside low high (Some s) ≡ false
inside_numbers low high s least most = ap (λ (v : Bool). v || nat_lt high s.1) (le-ltb s.0 low least) ∙ le-ltb high s.1 most

module _ (o : Outlined) (books : Books) (past : List ℕ) (run : HasRun o books past) where
  -- an execution in its order, as one with the newest node first
  ordered : (s : ℕ) (execution : List ℕ) → IsExecution (shape_of o) s (reverse past) execution
      → IsExecution (shape_of o) s (reverse past) (reverse (reverse execution))
  ordered s execution is = subst (λ (e : List ℕ). IsExecution (shape_of o) s (reverse past) e) (sym (reverse-reverse execution)) is

  same_places : (n : ℕ) (execution : List ℕ) → places n execution ≡ visits n (reverse execution)
  same_places n execution = ap (λ (e : List ℕ). places n e) (sym (reverse-reverse execution)) ∙ turned n (reverse execution)

  -- a line that the books do not break is met
  pub unbroken_is_met : (fact : Fact) → FitsOutline (shape_of o) fact → breaks books fact ≡ false
      → Meets (shape_of o) (reverse past) fact
  unbroken_is_met (Loop s low high) fits free = λ execution is.
      let bounds = loop_bounds o run.kept books.loops past s (reverse execution) run.sums.loops fits.0 (ordered s execution is) in
      let header = header_of (shape_of o).scopes s in
      let count : places header execution ≡ header_count (shape_of o) s (reverse execution) = same_places header execution ∙ header_visits (shape_of o) s (reverse execution) in
      subst (λ (c : ℕ). IsBetween low high c) (sym count) (inside low high (header_count (shape_of o) s (reverse execution)) (spread_at books.loops.spreads s) free bounds)
  unbroken_is_met (Count s n low high) fits free = λ execution is.
      let own = subst (λ (t : ℕ). IsExecution (shape_of o) t (reverse past) execution) (sym fits.3) is in
      let bounds = count_bounds o run.kept books.counts past n (reverse execution) run.sums.counts (node_in o n fits.2) (counted_is (shape_of o) s n fits.3 fits.1 fits.4)
      (ordered (own_of (shape_of o) n) execution own) in
      subst (λ (c : ℕ). IsBetween low high c) (sym (same_places n execution)) (inside low high (visits n (reverse execution)) (spread_at books.counts.spreads n) free bounds)
  unbroken_is_met (Dead n) fits free =
      let none = inside 0 0 (visits n past) (spread_at books.totals n) free (total_bounds o books.totals past n run.sums.totals (node_in o n fits)) in
      let most = none.1 in
      turned n past ∙ omega (arith, most)
  unbroken_is_met (Total n low high) fits free =
      subst (λ (c : ℕ). IsBetween low high c) (sym (turned n past))
      (inside low high (visits n past) (spread_at books.totals n) free (total_bounds o books.totals past n run.sums.totals (node_in o n fits)))
  unbroken_is_met (Pair s a b) fits free = λ iteration is first second.
      let low = fits.1 in
      let within = fits.2 in
      never_together o run.kept books.pairs past a b run.sums.pairs (node_in o a (omega (arith, low, within))) (node_in o b within) free (record {
        shared = fits.3 ∙ sym fits.4;
        iteration = iteration;
        is = subst (λ (t : ℕ). IsIteration (shape_of o) t (reverse past) iteration) (sym fits.3) is;
        first = first;
        second = second;
      })
  unbroken_is_met (Alarm n fault) fits free = tt

  header_places : (s : ℕ) (e : List ℕ) → places (header_of o.scopes s) (reverse e) ≡ header_count (shape_of o) s e
  header_places s e = turned (header_of o.scopes s) e ∙ header_visits (shape_of o) s e

  loop_free : (s low high : ℕ) → FitsOutline (shape_of o) (Loop s low high)
      → Meets (shape_of o) (reverse past) (Loop s low high) → (t : Option (ℕ × ℕ)) → spread_at books.loops.spreads s ≡ t
      → is_outside low high t ≡ false
  loop_free s low high fits meets None is = refl
  loop_free s low high fits meets (Some span) is =
      let least = loop_least o run.kept books.loops past s span run.exact.loops fits.0 is in
      let most = loop_most o run.kept books.loops past s span run.exact.loops fits.0 is in
      let below = (meets (reverse least.0) least.1).0 in
      let above = (meets (reverse most.0) most.1).1 in
      let first : places (header_of o.scopes s) (reverse least.0) ≡ span.0 = header_places s least.0 ∙ least.2 in
      let last : places (header_of o.scopes s) (reverse most.0) ≡ span.1 = header_places s most.0 ∙ most.2 in
      inside_numbers low high span (omega (arith, below, first)) (omega (arith, above, last))

  count_free : (s k low high : ℕ) → FitsOutline (shape_of o) (Count s k low high)
      → Meets (shape_of o) (reverse past) (Count s k low high) → (t : Option (ℕ × ℕ))
      → spread_at books.counts.spreads k ≡ t → is_outside low high t ≡ false
  count_free s k low high fits meets None is = refl
  count_free s k low high fits meets (Some span) is =
      let node = node_in o k fits.2 in
      let counted : is_counted (shape_of o) k ≡ true = counted_is (shape_of o) s k fits.3 fits.1 fits.4 in
      let least = count_least o run.kept books.counts past k span run.exact.counts node counted is in
      let most = count_most o run.kept books.counts past k span run.exact.counts node counted is in
      let below = (meets (reverse least.0) (subst (λ (t : ℕ). IsExecution (shape_of o) t (reverse past) (reverse least.0)) fits.3 least.1)).0 in
      let above = (meets (reverse most.0) (subst (λ (t : ℕ). IsExecution (shape_of o) t (reverse past) (reverse most.0)) fits.3 most.1)).1 in
      let first : places k (reverse least.0) ≡ span.0 = turned k least.0 ∙ least.2 in
      let last : places k (reverse most.0) ≡ span.1 = turned k most.0 ∙ most.2 in
      inside_numbers low high span (omega (arith, below, first)) (omega (arith, above, last))

  -- the total of a node is its visits
  total_free : (k low high : ℕ) → k < length o.nodes → IsBetween low high (places k (reverse past))
      → is_outside low high (spread_at books.totals k) ≡ false
  total_free k low high there meets =
      let same = turned k past in
      let below = meets.0 in
      let above = meets.1 in
      ap (λ (t : Option (ℕ × ℕ)). is_outside low high t) (run.exact.totals k there)
      ∙ inside_numbers low high (visits k past, visits k past) (omega (arith, same, below)) (omega (arith, same, above))

  -- and one that is met they do not break
  pub met_is_unbroken : (fact : Fact) → FitsOutline (shape_of o) fact → Meets (shape_of o) (reverse past) fact
      → breaks books fact ≡ false
  met_is_unbroken (Loop s low high) fits meets = loop_free s low high fits meets (spread_at books.loops.spreads s) refl
  met_is_unbroken (Count s n low high) fits meets = count_free s n low high fits meets (spread_at books.counts.spreads n) refl
  met_is_unbroken (Dead n) fits meets = total_free n 0 0 (node_in o n fits) (omega arith, omega (arith, meets))
  met_is_unbroken (Total n low high) fits meets = total_free n low high (node_in o n fits) meets
  met_is_unbroken (Pair s a b) fits meets =
      by_test (together books.pairs a b)
      (λ there.
      let low = fits.1 in
      let within = fits.2 in
      let met = pair_is_of o run.kept books.pairs past a b run.exact.pairs (node_in o a (omega (arith, low, within))) (node_in o b within) there in
      absurd (meets met.iteration (subst (λ (t : ℕ). IsIteration (shape_of o) t (reverse past) met.iteration) fits.3 met.is) met.first met.second))
      (λ none. none)
  met_is_unbroken (Alarm n fault) fits meets = refl

-- ---- the four recorders

-- the books of an outline have a number for each of its nodes and scopes
pub sized_books : (o : Outlined) (book : FourBooks) → four_recording.book_is_of o book → AreSized o (books_of book)
sized_books o book ((totals_long, (loop_tally_is, loops_long)), ((count_tally_is, counts_long), (owned_is, pairs_long))) = record {
  totals = totals_long;
  loops = loops_long ∙ length-generated (length o.scopes) (λ s. Some s);
  counts = counts_long ∙ length-generated (length o.nodes) (counted_scope (shape_of o));
  pairs = pairs_long;
}

-- what is entered in a book is the run of its books
pub entered_run : (o : Outlined) (book : FourBooks) (past : List ℕ) → IsEntered four_recording o book past
    → HasRun o (books_of book) past
entered_run o book past is = record {
  kept = is.kept;
  sums = record { totals = is.sums.0.0; loops = is.sums.0.1; counts = is.sums.1.0; pairs = is.sums.1.1 };
  exact = record { totals = is.exact.0.0; loops = is.exact.0.1; counts = is.exact.1.0; pairs = is.exact.1.1 };
}
