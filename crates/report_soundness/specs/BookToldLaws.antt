-- Each run that the books sum up meets each fact that they tell.
--   places_are_visits   how often a node stands among nodes
--   turned              and among them in the other order
--   told_is_met         kind by kind
use Rattle.std.proofs.Common.{◌≡◌, ◌+◌, ◌==◌, ℕ, Bool, true, false, List, [], ◌∷◌, Option, Some, cond, reverse, refl, sym, ap, ◌∙◌, subst, arith}
use Rattle.std.proofs.lemmas.List.{reverse-reverse, reverse-append}
use Rattle.std.proofs.lemmas.List.Sums.{sum_by-cons, sum_by-append}
use Rattle.domain_core.specs.Outlines.{Outlined, shape_of, header_of, IsOutline}
use Rattle.domain_core.specs.Executions.{IsExecution, IsIteration, header_count}
use Rattle.flow_facts.specs.declared.fact.Fact.{Fact}
use Rattle.flow_facts.specs.declared.fact.Fact.TheVariants.{Loop, Count, Dead, Total, Pair, Alarm}
use Rattle.flow_facts.specs.Facts.{places, IsBetween, Meets}
use Rattle.recorder_rules.specs.Spans.{visits, IsWithin}
use Rattle.recorder_rules.specs.TotalRules.{spread_at}
use Rattle.recorder_rules.specs.LoopRules.{own_of}
use Rattle.recorder_rules.specs.BookLaws.{Bounds, header_visits, loop_bounds, count_bounds, total_bounds}
use Rattle.recorder_rules.specs.PairBookLaws.{never_together}
use Rattle.report_soundness.specs.BookTold.{Books, SumUp, Tells}

-- how often a node stands among nodes
pub places_are_visits : (n : ℕ) (nodes : List ℕ) → places n nodes ≡ visits n nodes
places_are_visits n [] = refl
places_are_visits n (m ∷ nodes) =
    let rest = places_are_visits n nodes in
    let one : places n (m ∷ nodes) ≡ cond (n == m) 1 0 + places n nodes = sum_by-cons (λ k. cond (n == k) 1 0) m nodes in
    one ∙ by_hit (n == m) rest
  where
    by_hit : (hit : Bool) → places n nodes ≡ visits n nodes
        → cond hit 1 0 + places n nodes ≡ cond hit (visits n nodes + 1) (visits n nodes)
    by_hit true rest = omega (arith, rest)
    by_hit false rest = omega (arith, rest)

-- and among them in the other order
pub turned : (n : ℕ) (nodes : List ℕ) → places n (reverse nodes) ≡ visits n nodes
turned n [] = refl
turned n (m ∷ nodes) =
    let rest = turned n nodes in
    let back = places_are_visits n nodes in
    let front = places_are_visits n (m ∷ nodes) in
    let one : places n (m ∷ nodes) ≡ cond (n == m) 1 0 + places n nodes = sum_by-cons (λ k. cond (n == k) 1 0) m nodes in
    let last : places n (m ∷ []) ≡ cond (n == m) 1 0 + places n [] = sum_by-cons (λ k. cond (n == k) 1 0) m [] in
    let none : places n [] ≡ 0 = refl in
    ap (λ (xs : List ℕ). places n xs) (reverse-append (m ∷ []) nodes)
    ∙ sum_by-append (λ k. cond (n == k) 1 0) (reverse nodes) (m ∷ [])
    ∙ omega (arith, rest, back, front, one, last, none)

-- a count that the span bounds
between : (spread : Option (ℕ × ℕ)) (c low high : ℕ) → spread ≡ Some (low, high) → Bounds spread c
    → IsBetween low high c
between spread c low high is bounds =
    let same : Some bounds.span ≡ Some (low, high) = sym bounds.is ∙ is in
    let first : bounds.span ≡ (low, high) = cc in
    subst (λ (s : ℕ × ℕ). IsWithin c s) first bounds.within

module _ (o : Outlined) (ok : IsOutline (shape_of o)) (books : Books) (past : List ℕ) (sums : SumUp o books past) where
  -- an execution in its order, as one with the newest node first
  ordered : (s : ℕ) (execution : List ℕ) → IsExecution (shape_of o) s (reverse past) execution
      → IsExecution (shape_of o) s (reverse past) (reverse (reverse execution))
  ordered s execution is = subst (λ (e : List ℕ). IsExecution (shape_of o) s (reverse past) e) (sym (reverse-reverse execution)) is

  same_places : (n : ℕ) (execution : List ℕ) → places n execution ≡ visits n (reverse execution)
  same_places n execution = ap (λ (e : List ℕ). places n e) (sym (reverse-reverse execution)) ∙ turned n (reverse execution)

  pub told_is_met : (fact : Fact) → Tells o books fact → Meets (shape_of o) (reverse past) fact
  told_is_met (Loop s low high) told = λ execution is.
      let bounds = loop_bounds o ok books.loops past s (reverse execution) sums.loops told.there (ordered s execution is) in
      let header = header_of (shape_of o).scopes s in
      let count : places header execution ≡ header_count (shape_of o) s (reverse execution) = same_places header execution ∙ header_visits (shape_of o) s (reverse execution) in
      subst (λ (c : ℕ). IsBetween low high c) (sym count) (between (spread_at books.loops.spreads s) (header_count (shape_of o) s (reverse execution)) low high told.span bounds)
  told_is_met (Count s n low high) told = λ execution is.
      let own = subst (λ (t : ℕ). IsExecution (shape_of o) t (reverse past) execution) (sym told.1.own) is in
      let bounds = count_bounds o ok books.counts past n (reverse execution) sums.counts told.0.there told.1.counted (ordered (own_of (shape_of o) n) execution own) in
      subst (λ (c : ℕ). IsBetween low high c) (sym (same_places n execution)) (between (spread_at books.counts.spreads n) (visits n (reverse execution)) low high told.0.span bounds)
  told_is_met (Dead n) told =
      let within = between (spread_at books.totals n) (visits n past) 0 0 told.span (total_bounds o books.totals past n sums.totals told.there) in
      turned n past ∙ omega (arith, within)
  told_is_met (Total n low high) told =
      subst (λ (c : ℕ). IsBetween low high c) (sym (turned n past)) (between (spread_at books.totals n) (visits n past) low high told.span (total_bounds o books.totals past n sums.totals told.there))
  told_is_met (Pair s a b) told = λ iteration is first second.
      never_together o ok books.pairs past a b sums.pairs told.first told.second told.apart (record {
        shared = told.own ∙ sym told.other_own;
        iteration = iteration;
        is = subst (λ (t : ℕ). IsIteration (shape_of o) t (reverse past) iteration) (sym told.own) is;
        first = first;
        second = second;
      })
  told_is_met (Alarm n fault) told = tt
