-- What each state of a schedule keeps.
use Rattle.std.proofs.Common.{◌≡◌, ◌<◌, ◌≤◌, ℕ, zero, suc, List, [], ◌∷◌, Option, Some, None, length, set, slice_get, replicate, ◌⊎◌, length-set, inl, inr, sym, ap, ◌∙◌, subst, arith}
use Rattle.std.proofs.lemmas.List.{length-replicate}
use Rattle.std.proofs.lemmas.List.Elements.{All-push, All-nil}
use Rattle.std.proofs.lemmas.Option.{slice_get_within}
use Rattle.std.specs.List.{All}
use Rattle.cost_table.specs.declared.task_set.Task.{Task}
use Rattle.response_time.specs.Schedules.{Job, State, Event, Release, Run, Idle, IsReleased, IsRun, IsIdled, IsStep, Schedule, begins, goes_on, empty_state}
use Rattle.response_time.proofs.Backlog.{run_keeps}

-- what every state of a schedule keeps
pub record IsSound (tasks : List Task) (state : State) : Type 0 where
  pub one_each : length state.last ≡ length tasks
  pub earlier : (k before : ℕ) → slice_get state.last k ≡ Some (Some before) → before ≤ state.time
  pub alive : All (λ job. 1 ≤ job.left) state.pending
  pub known : All (λ job. job.task < length tasks) state.pending

-- what stands in a list after a write is what was written or stood there
set_cases : {X : Type 0} (xs : List X) (i k : ℕ) (x y : X) → slice_get (set xs i x) k ≡ Some y
    → (x ≡ y) ⊎ (slice_get xs k ≡ Some y)
set_cases [] i k x y is = inr is
set_cases (z ∷ xs) zero zero x y is = inl (cc)
set_cases (z ∷ xs) zero (suc k) x y is = inr is
set_cases (z ∷ xs) (suc i) zero x y is = inr is
set_cases (z ∷ xs) (suc i) (suc k) x y is = set_cases xs i k x y is

-- before any release none was
pub none_released : (n k before : ℕ) → let none : Option ℕ = None in slice_get (replicate n none) k ≡ Some (Some before) → ⊥
none_released zero k before is = cc
none_released (suc n) zero before is = cc
none_released (suc n) (suc k) before is = none_released n k before is

-- each event keeps the sound
module _ (tasks : List Task) where
  pub sound_released : (state : State) (i work : ℕ) (next : State) → IsSound tasks state
      → IsReleased tasks state i work next → IsSound tasks next
  sound_released state i work next sound step =
      let job : Job = record { task = i; release = state.time; left = work } in
      record {
        one_each = rw step.last (length-set state.last i (Some state.time) ∙ sound.one_each);
        earlier = λ k before is. elim (set_cases state.last i k (Some state.time) (Some before) (ap (λ (l : List (Option ℕ)). slice_get l k) (sym step.last) ∙ is)) [
          | inl e ↦ let same : state.time ≡ before = cc in let now = step.time in omega arith
          | inr was ↦ let low = sound.earlier k before was in let now = step.time in omega arith
        ];
        alive = subst (λ (jobs : List Job). All (λ (j : Job). 1 ≤ j.left) jobs) (sym step.pending) (All-push (λ (j : Job). 1 ≤ j.left) state.pending job sound.alive step.some);
        known = subst (λ (jobs : List Job). All (λ (j : Job). j.task < length tasks) jobs) (sym step.pending)
            (All-push (λ (j : Job). j.task < length tasks) state.pending job sound.known (slice_get_within tasks i step.task step.is));
      }

  pub sound_run : (state : State) (i : ℕ) (next : State) → IsSound tasks state → IsRun tasks state i next
      → IsSound tasks next
  sound_run state i next sound step = record {
    one_each = ap length step.last ∙ sound.one_each;
    earlier = λ k before is. let low = sound.earlier k before (ap (λ (l : List (Option ℕ)). slice_get l k) (sym step.last) ∙ is) in let now = step.time in omega arith;
    alive = run_keeps tasks (λ (j : Job). 1 ≤ j.left) state i next step sound.alive (λ more some. omega arith);
    known = run_keeps tasks (λ (j : Job). j.task < length tasks) state i next step sound.known (λ more low. low);
  }

  pub sound_idled : (state next : State) → IsSound tasks state → IsIdled state next → IsSound tasks next
  sound_idled state next sound step = record {
    one_each = ap length step.last ∙ sound.one_each;
    earlier = λ k before is. let low = sound.earlier k before (ap (λ (l : List (Option ℕ)). slice_get l k) (sym step.last) ∙ is) in let now = step.time in omega arith;
    alive = rw step.pending (All-nil (λ (j : Job). 1 ≤ j.left));
    known = rw step.pending (All-nil (λ (j : Job). j.task < length tasks));
  }

  pub sound_first : IsSound tasks (empty_state tasks)
  sound_first = record {
    one_each = length-replicate (length tasks) None;
    earlier = λ k before is. absurd (none_released (length tasks) k before is);
    alive = All-nil (λ (j : Job). 1 ≤ j.left);
    known = All-nil (λ (j : Job). j.task < length tasks);
  }

  -- each event keeps it
  pub sound_step : (state : State) (event : Event) (next : State) → IsSound tasks state → IsStep tasks state event next
      → IsSound tasks next
  sound_step state (Release i work) next sound step = sound_released state i work next sound step
  sound_step state (Run i) next sound step = sound_run state i next sound step
  sound_step state Idle next sound step = sound_idled state next sound step

  pub sound : (events : List Event) (state : State) → Schedule tasks events state → IsSound tasks state
  sound events state begins = sound_first
  sound events state (goes_on {events = before} {state = old} event next schedule step) = sound_step old event next (sound before old schedule) step
