-- Why what is told of a cache is right.
--   sound_lines   where no place is left, the lines are sound
use Rattle.std.proofs.Common.{◌≡◌, ℕ, zero, suc, ◌*◌, Bool, true, false, not, ◌&&◌, List, [], ◌∷◌, ◌++◌, reverse, length, get_or, Contains, refl, sym, ap, ◌∙◌, subst, arith, ⊎_elim}
use Rattle.std.specs.Prelude.{sum_by, slice_index_or}
use Rattle.std.proofs.lemmas.Bool.{false≢true, and_parts, not-true, cases_Bool}
use Rattle.std.proofs.lemmas.List.{reverse-append}
use Rattle.std.proofs.lemmas.List.Sums.{sum_by-cons, sum_by-append}
use Rattle.std.proofs.lemmas.List.Elements.{Contains-append_cases}
use Rattle.lists.specs.MemberLaws.{no_member, first_or_further}
use Rattle.lists.specs.TestLaws.{by_test}
use Rattle.domain_core.specs.declared.event.Event.{Event}
use Rattle.domain_core.specs.Orders.{Order}
use Rattle.domain_core.specs.Outlines.{Outlined}
use Rattle.domain_core.specs.Machines.{Machine}
use Rattle.ipet_rows.specs.Uses.{run_cost}
use Rattle.worklist_rules.specs.declared.policy.Policy.{Policy}
use Rattle.worklist_rules.specs.Pools.{Pooled}
use Rattle.worklist_rules.specs.Events.{opened}
use Rattle.worklist_rules.specs.Policies.{IsPolicyRun}
use Rattle.abstract_exec.specs.Explorations.{IsLeftIn}
use Rattle.worklist_rules.specs.Runs.{EachIsHandled}
use Rattle.worklist_rules.specs.SummedLaws.{each_is_summed}
use Rattle.report_soundness.specs.ReportTold.{costs_of}
use Rattle.line_cache.specs.Lines.{penalty_of}
use Rattle.line_cache.specs.Lru.{Contents, Access, missed_of}
use Rattle.line_cache.specs.LruLaws.{accesses_turned}
use Rattle.line_cache.specs.Traced.{accesses_of, accesses_along, cost_of}
use Rattle.line_cache.specs.MissRules.{Counted, Collected, may_miss, IsBounded, miss_order, miss_recording}
use Rattle.cached_runs.specs.Answers.{CacheLines}
use Rattle.cached_runs.specs.CachedRuns.{has_line, hits_at, hits_below, told_lines, IsBoundFor, AreSoundLines, IsClosed, IsLeft}

-- a sum in the other order
sum_turned : (f : ℕ → ℕ) (xs : List ℕ) → sum_by f (reverse xs) ≡ sum_by f xs
sum_turned f [] = refl
sum_turned f (x ∷ xs) =
    let rest = sum_turned f xs in
    let turned : sum_by f (reverse (x ∷ xs)) ≡ sum_by f (reverse xs ++ x ∷ []) = ap (λ (ys : List ℕ). sum_by f ys) (reverse-append (x ∷ []) xs) in
    let apart = sum_by-append f (reverse xs) (x ∷ []) in
    let last = sum_by-cons f x [] in
    let first = sum_by-cons f x xs in
    omega arith

-- a node that is told is not missed
told_hit : (o : Outlined) (b : Collected) (stepped : List Bool) (k n : ℕ) → Contains (hits_below o b stepped k) n
    → may_miss b n ≡ false
told_hit o b stepped zero n there = no_member n there
told_hit o b stepped (suc k) n there = ⊎_elim
    (λ (early : Contains (hits_below o b stepped k) n). told_hit o b stepped k n early)
    (λ (late : Contains (hits_at o b stepped k) n). here late)
    (Contains-append_cases (hits_below o b stepped k) (hits_at o b stepped k) n there)
  where
    here : Contains (hits_at o b stepped k) n → may_miss b n ≡ false
    here late = by_test (slice_index_or stepped k false && (has_line o k && not (may_miss b k)))
        (λ told. first_or_further k [] n (subst (λ (xs : List ℕ). Contains xs n) (is told) late)
        (λ same. subst (λ (i : ℕ). may_miss b i ≡ false) same (not-true (may_miss b k) (and_parts (has_line o k) (not (may_miss b k)) (and_parts (slice_index_or stepped k false) (has_line o k && not (may_miss b k)) told).1).1))
        (λ none. no_member n none))
        (λ missed. no_member n (subst (λ (xs : List ℕ). Contains xs n) (is_not missed) late))
      where
        is : (slice_index_or stepped k false && (has_line o k && not (may_miss b k))) ≡ true
            → hits_at o b stepped k ≡ k ∷ []
        is told = rw told refl

        is_not : (slice_index_or stepped k false && (has_line o k && not (may_miss b k))) ≡ false
            → hits_at o b stepped k ≡ []
        is_not missed = rw missed refl

-- what a book bounds, in the order of the run
bound_for : (o : Outlined) (b : Collected) (stepped : List Bool) (past trace : List ℕ) (c : Contents)
    → reverse past ≡ trace → IsBounded o b past c
    → IsBoundFor o (record { hits = hits_below o b stepped (length o.nodes); bound = b.worst }) trace c
bound_for o b stepped past trace c turned bounded = record {
  bound =
      let cost : run_cost (costs_of o) trace ≡ cost_of o past = ap (λ (nodes : List ℕ). run_cost (costs_of o) nodes) (sym turned) ∙ sum_turned (λ n. get_or (costs_of o) n 0) past in
      let misses : penalty_of o * missed_of (accesses_along o c trace) ≡ penalty_of o * missed_of (accesses_of o c past) = ap (λ (accesses : List Access). penalty_of o * missed_of accesses) same in
      let worst = bounded.worst in
      omega (arith, cost, misses, worst);
  hits = λ a there among.
      ⊎_elim
      (λ (hits : a.hits ≡ true). hits)
      (λ (missed : a.hits ≡ false). absurd (false≢true (sym (told_hit o b stepped (length o.nodes) a.node among) ∙ bounded.noted a (subst (λ (accesses : List Access). Contains accesses a) same there) missed)))
      (cases_Bool a.hits);
}
  where
    same : accesses_along o c trace ≡ accesses_of o c past
    same = ap (λ (nodes : List ℕ). accesses_along o c nodes) (sym turned) ∙ accesses_turned o c past

-- where no place is left, the lines are sound
pub sound_lines : {S T C : Type 0} (machine : S → Machine T C) (w : Pooled S T Counted Collected)
    → EachIsHandled machine miss_recording w → w.spots ≡ []
    → AreSoundLines (machine w.stepper).system w.outline (told_lines w)
sound_lines machine w handled empty =
    let each = each_is_summed machine miss_recording w handled empty in
    record {
      ends = each.ends;
      right = λ c trace fault starts passes contents fits.
          let is = each.right c trace fault starts passes in
          bound_for w.outline w.book w.stepped (is.last ∷ is.past) trace contents is.turned (is.summed contents fits);
    }

-- so are lines that tell it along the outline that it explores
pub sound_told : {S T C : Type 0} (machine : S → Machine T C) (w : Pooled S T Counted Collected) (o : Outlined) (hits : List ℕ) (bound : ℕ) → EachIsHandled machine miss_recording w → w.outline ≡ o
    → hits ≡ hits_below o w.book w.stepped (length o.nodes) → bound ≡ w.book.worst → w.spots ≡ [] → AreSoundLines (machine w.stepper).system o (record { hits = hits; bound = bound })
sound_told machine w o hits bound handled along hits_are bound_is empty =
    subst (λ (lines : CacheLines). AreSoundLines (machine w.stepper).system o lines) (sym (ap (λ (xs : List ℕ). record { hits = xs; bound = bound }) hits_are ∙ ap (λ (n : ℕ). record { hits = hits_below o w.book w.stepped (length o.nodes); bound = n }) bound_is))
    (subst (λ (p : Outlined). AreSoundLines (machine w.stepper).system p (record { hits = hits_below p w.book w.stepped (length p.nodes); bound = w.book.worst })) along (sound_lines machine w handled empty))

-- ---- what the policy finds

pub closed_found : {S T C : Type 0} (machine : S → Machine T C) (states : Order T) (stepper : S) (o : Outlined) (policy : Policy) (turns : ℕ) (events : List Event) (first pool : Pooled S T Counted Collected) (lines : CacheLines)
    → first ≡ opened machine miss_recording stepper o → IsPolicyRun machine states miss_order miss_recording policy turns first events pool → pool.spots ≡ [] → lines ≡ told_lines pool → IsClosed machine states stepper o policy turns lines
closed_found {S} {T} machine states stepper o policy turns events first pool lines start run empty told =
    record { events = events; pool = pool; explored = subst (λ (p : Pooled S T Counted Collected). IsPolicyRun machine states miss_order miss_recording policy turns p events pool) start run; empty = empty; told = told }

pub left_found : {S T C : Type 0} (machine : S → Machine T C) (states : Order T) (stepper : S) (o : Outlined) (policy : Policy) (turns scope : ℕ) (events : List Event) (first pool : Pooled S T Counted Collected)
    → first ≡ opened machine miss_recording stepper o → IsPolicyRun machine states miss_order miss_recording policy turns first events pool → IsLeftIn pool scope → IsLeft machine states stepper o policy turns scope
left_found {S} {T} machine states stepper o policy turns scope events first pool start run left =
    record { events = events; pool = pool; explored = subst (λ (p : Pooled S T Counted Collected). IsPolicyRun machine states miss_order miss_recording policy turns p events pool) start run; left = left }
