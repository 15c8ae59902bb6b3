-- From each start handled to each run: a run follows the tree of what is handled.
--   each_run           each run is waited for or is over
--   each_run_is_over   where no place is left, each run is over
use Rattle.std.proofs.Common.{◌≡◌, ℕ, suc, List, [], ◌∷◌, Option, Some, ◌⊎◌, inl, inr, refl, subst, Contains}
use Rattle.lists.specs.MemberLaws.{no_member}
use Rattle.domain_core.specs.Machines.{Machine}
use Rattle.domain_core.specs.Recordings.{Recording}
use Rattle.worklist_rules.specs.Pools.{Spot, Pooled}
use Rattle.domain_core.specs.SystemRuns.{IsRun, trace_to}
use Rattle.worklist_rules.specs.Runs.{IsHandled, waits, passed, EachIsHandled, EachRun, EachRunIsOver, IsWaited, IsOver, AllStepped}

module _ {S T C R B : Type 0} (m : Machine T C) (z : Recording R B) (w : Pooled S T R B) (run : ℕ → Option (ℕ × C)) (is_run : IsRun m.system run) where
  follow : {past : List ℕ} {n : ℕ} {c : C} → IsHandled m z w past n c → (k : ℕ) → run k ≡ Some (n, c)
      → past ≡ trace_to run k → AllStepped w.stepped past → IsWaited m z w run ⊎ IsOver m z w run
  follow {past} {n} {c} (waits spot among stands) k here so_far before =
      inl (record {
        moment = k;
        node = n;
        value = c;
        here = here;
        spot = spot;
        among = among;
        stands = rw so_far at stands;
        before = rw so_far at before;
      })
  follow {past} {n} {c} (passed walk stepped goes ends fails) k here so_far before =
      elim (is_run.on k n c here) [
        | inl (j, d, step, next) ↦ follow (goes j d step) (suc k) next (rw (here, so_far) refl) (stepped, before)
        | inr (way, over) ↦ inr (record {
          last = k;
          node = n;
          value = c;
          here = here;
          over = over;
          way = elim way [ inl done ↦ inl done | inr (kind, failed) ↦ inr (kind, failed, (fails kind failed).0) ];
          trace = rw so_far at walk;
          summed = rw so_far at (let sum : z.sums_up w.outline w.book (n ∷ past) = elim way [ inl done ↦ ends done | inr (kind, failed) ↦ (fails kind failed).1 ] in sum);
          all = rw so_far at (let both : AllStepped w.stepped (n ∷ past) = (stepped, before) in both);
        })
      ]

pub each_run : {S T C R B : Type 0} (machine : S → Machine T C) (z : Recording R B) (w : Pooled S T R B)
    → EachIsHandled machine z w → EachRun machine z w
each_run machine z w handled run is_run =
    let (c, here, starts) = is_run.first in follow (machine w.stepper) z w run is_run (handled c starts) 0 here refl tt

-- where no place is left, no run is waited for
pub each_run_is_over : {S T C R B : Type 0} (machine : S → Machine T C) (z : Recording R B) (w : Pooled S T R B)
    → EachIsHandled machine z w → w.spots ≡ [] → EachRunIsOver machine z w
each_run_is_over {T = T} {R = R} machine z w handled empty run is_run =
    elim (each_run machine z w handled run is_run) [
      | inl waited ↦ no_member waited.spot (subst (λ (spots : List (Spot T R)). Contains spots waited.spot) empty waited.among)
      | inr over ↦ over
    ]
