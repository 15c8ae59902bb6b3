-- From each start handled to each run that ends: such a run follows the tree of what is handled.
--   in_order         one node more, in the order of the run
--   run_ends         a run that is over passes from its start through its nodes
--   each_is_summed   where no place is left, each run ends, and each run that ends is summed up
use Rattle.std.proofs.Common.{◌≡◌, ℕ, zero, suc, ◌+◌, List, [], ◌∷◌, ◌++◌, Option, Some, None, reverse, Contains, ◌⊎◌, inl, inr, sym, ap, ◌∙◌, subst, arith}
use Rattle.std.proofs.lemmas.List.{reverse-append, append_assoc}
use Rattle.std.proofs.lemmas.Option.{none-some}
use Rattle.lists.specs.MemberLaws.{no_member}
use Rattle.alf_ops.specs.declared.history.RunFault.{RunFault}
use Rattle.domain_core.specs.Outlines.{shape_of}
use Rattle.domain_core.specs.Traces.{IsTrace}
use Rattle.domain_core.specs.Machines.{System, Machine}
use Rattle.domain_core.specs.SystemRuns.{IsRun}
use Rattle.domain_core.specs.Recordings.{Recording}
use Rattle.worklist_rules.specs.Pools.{Spot, Pooled}
use Rattle.worklist_rules.specs.Runs.{IsHandled, waits, passed, AllStepped, EachIsHandled}
use Rattle.worklist_rules.specs.RunLaws.{each_run_is_over}
use Rattle.worklist_rules.specs.EndedRuns.{Passes, stops, moves, RunEnds, FaultIsTold, IsSummed, EachIsSummed}

-- one node more, in the order of the run
pub in_order : (past trace : List ℕ) (n : ℕ) → reverse (n ∷ past) ++ trace ≡ reverse past ++ (n ∷ trace)
in_order past trace n = ap (λ (xs : List ℕ). xs ++ trace) (reverse-append (n ∷ []) past) ∙ append_assoc (reverse past) (n ∷ []) trace

-- ---- each run that ends is summed up

module _ {S T C R B : Type 0} (m : Machine T C) (z : Recording R B) (w : Pooled S T R B) (empty : w.spots ≡ []) where
  -- a run that is over at its newest node
  summed_at : (past : List ℕ) (n : ℕ) (fault : Option RunFault) → IsTrace (shape_of w.outline) (n ∷ past)
      → z.sums_up w.outline w.book (n ∷ past)
      → AllStepped w.stepped (n ∷ past) → FaultIsTold w.alarms n fault → IsSummed z w (reverse past ++ n ∷ []) fault
  summed_at past n fault walk summed stepped told =
      record { past = past; last = n; turned = reverse-append (n ∷ []) past; walk = walk; summed = summed; stepped = stepped; told = told }

  -- a run that goes on from a point that is handled
  follow : {past : List ℕ} {n : ℕ} {c : C} {trace : List ℕ} {fault : Option RunFault} → IsHandled m z w past n c
      → Passes m.system n c trace fault → AllStepped w.stepped past
      → IsSummed z w (reverse past ++ trace) fault
  follow (waits spot among stands) passes before = no_member spot (subst (λ (spots : List (Spot T R)). Contains spots spot) empty among)
  follow {past} {n} {c} (passed walk stepped goes ends fails) (stops {fault = None} way) before = summed_at past n None walk (ends way) (stepped, before) tt
  follow {past} {n} {c} (passed walk stepped goes ends fails) (stops {fault = Some kind} way) before =
      let told = fails kind way in
      summed_at past n (Some kind) walk told.1 (stepped, before) told.0
  follow {past} {n} {c} {fault = fault} (passed walk stepped goes ends fails) (moves {k = k} {d = d} {trace = trace} step rest) before =
      subst (λ (nodes : List ℕ). IsSummed z w nodes fault) (in_order past trace n) (follow (goes k d step) rest (stepped, before))

-- ---- each run ends

stopped : {C : Type 0} (system : System C) (n : ℕ) (c : C)
    → system.ends n c ⊎ ((kind : RunFault) × system.fails n c kind)
    → (trace : List ℕ) × (fault : Option RunFault) × Passes system n c trace fault
stopped system n c (inl done) = (n ∷ [], None, stops done)
stopped system n c (inr failed) = (n ∷ [], Some failed.0, stops failed.1)

module _ {C : Type 0} (system : System C) (run : ℕ → Option (ℕ × C)) (is_run : IsRun system run) (last : ℕ) (over : run (suc last) ≡ None) where
  -- from each moment up to the last one
  pass_on : (left k n : ℕ) (c : C) → k + left ≡ last → run k ≡ Some (n, c)
      → (trace : List ℕ) × (fault : Option RunFault) × Passes system n c trace fault
  pass_on zero k n c same here =
      elim (is_run.on k n c here) [
        | inl (j, d, step, next) ↦ absurd (none-some (j, d) (sym (subst (λ (i : ℕ). run (suc i) ≡ None) (let e : last ≡ k = omega (arith, same) in e) over) ∙ next))
        | inr (way, none) ↦ stopped system n c way
      ]
  pass_on (suc left) k n c same here =
      elim (is_run.on k n c here) [
        | inl (j, d, step, next) ↦ let rest = pass_on left (suc k) j d (omega (arith, same)) next in (n ∷ rest.0, rest.1, moves step rest.2)
        | inr (way, none) ↦ stopped system n c way
      ]

  -- from its start
  pub run_ends : RunEnds system run
  run_ends =
      let first = is_run.first in
      let rest = pass_on last 0 0 first.0 (omega arith) first.1 in
      record { start = first.0; here = first.1; starts = first.2; trace = rest.0; fault = rest.1; passes = rest.2 }

-- where no place is left, each run ends, and each run that ends is summed up
pub each_is_summed : {S T C R B : Type 0} (machine : S → Machine T C) (z : Recording R B) (w : Pooled S T R B)
    → EachIsHandled machine z w → w.spots ≡ [] → EachIsSummed machine z w
each_is_summed machine z w handled empty = record {
  ends = λ run is_run. let over = each_run_is_over machine z w handled empty run is_run in run_ends (machine w.stepper).system run is_run over.last over.over;
  right = λ c trace fault starts passes. follow (machine w.stepper) z w empty (handled c starts) passes tt;
}
