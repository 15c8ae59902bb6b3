-- Schedules event by event, where what allows each event is tested.
use Rattle.std.proofs.Common.{◌≡◌, ◌≤◌, ◌+◌, ◌||◌, ℕ, Bool, true, not, List, [], ◌∷◌, ◌++◌, Option, Some, None, slice_get, set, refl, arith}
use Rattle.std.proofs.lemmas.Bool.{leb-true, eq-eqb}
use Rattle.std.proofs.lemmas.List.Elements.{All-weaker}
use Rattle.std.proofs.lemmas.List.Sums.{AllPass-from_list_all}
use Rattle.std.specs.Bool.{nat_le, nat_eq}
use Rattle.std.specs.List.{list_all}
use Rattle.cost_table.specs.declared.task_set.Task.{Task}
use Rattle.cost_table.specs.Tasks.{IsTask, priority_of}
use Rattle.response_time.specs.Schedules.{Job, State, Event, Release, Run, IsRun, Schedule, goes_on, after_a_unit}

-- a task was released at least its period ago, if it ever was
abbrev pub is_rested : Task → Option (Option ℕ) → ℕ → Bool
is_rested task None now = true
is_rested task (Some None) now = true
is_rested task (Some (Some before)) now = nat_le (before + task.period) now

rested : (task : Task) (last : Option (Option ℕ)) (now : ℕ) → is_rested task last now ≡ true
    → (before : ℕ) → last ≡ Some (Some before) → before + task.period ≤ now
rested task None now is before e = absurd (cc)
rested task (Some None) now is before e = absurd (cc)
rested task (Some (Some then)) now is before e =
    let same : then ≡ before = cc in
    let le = leb-true (then + task.period) now is in
    omega arith

module _ (tasks : List Task) where
  pub release : (events : List Event) (state : State) (i work : ℕ) (task : Task) → Schedule tasks events state
      → IsTask tasks i task → nat_le 1 work ≡ true → nat_le work task.cost ≡ true
      → is_rested task (slice_get state.last i) state.time ≡ true
      → Schedule tasks (events ++ Release i work ∷ [])
      (record { time = state.time; pending = state.pending ++ record { task = i; release = state.time; left = work } ∷ []; last = set state.last i (Some state.time) })
  release events state i work task schedule is some within apart =
      goes_on (Release i work)
      (record { time = state.time; pending = state.pending ++ record { task = i; release = state.time; left = work } ∷ []; last = set state.last i (Some state.time) })
      schedule
      (record {
        task = task;
        is = is;
        some = leb-true 1 work some;
        within = leb-true work task.cost within;
        apart = rested task (slice_get state.last i) state.time apart;
        time = refl;
        pending = refl;
        last = refl;
      })

  -- a job runs where no pending one is of a higher priority, and none of its task is earlier
  pub runs : (state : State) (front rest : List Job) (job : Job) → state.pending ≡ front ++ job ∷ rest
      → list_all (λ other. not (nat_eq other.task job.task) || nat_le job.release other.release) state.pending ≡ true
      → list_all (λ other. nat_le (priority_of tasks job.task) (priority_of tasks other.task)) state.pending ≡ true
      → IsRun tasks state job.task (record { time = state.time + 1; pending = front ++ after_a_unit job ++ rest; last = state.last })
  runs state front rest job is earliest highest =
      let early = λ (other : Job). not (nat_eq other.task job.task) || nat_le job.release other.release in
      let high = λ (other : Job). nat_le (priority_of tasks job.task) (priority_of tasks other.task) in
      record {
        front = front;
        job = job;
        rest = rest;
        is = is;
        of_task = refl;
        earliest = All-weaker (λ (other : Job). early other ≡ true) (λ (other : Job). other.task ≡ job.task → job.release ≤ other.release)
            (λ other e same. let own = eq-eqb other.task job.task same in leb-true job.release other.release (rw own at e))
            state.pending (AllPass-from_list_all early state.pending earliest);
        highest = All-weaker (λ (other : Job). high other ≡ true) (λ (other : Job). priority_of tasks job.task ≤ priority_of tasks other.task)
            (λ other e. leb-true (priority_of tasks job.task) (priority_of tasks other.task) e)
            state.pending (AllPass-from_list_all high state.pending highest);
        time = refl;
        pending = refl;
        last = refl;
      }

  pub run : (events : List Event) (state : State) (front rest : List Job) (job : Job) → Schedule tasks events state → state.pending ≡ front ++ job ∷ rest
      → list_all (λ other. not (nat_eq other.task job.task) || nat_le job.release other.release) state.pending ≡ true
      → list_all (λ other. nat_le (priority_of tasks job.task) (priority_of tasks other.task)) state.pending ≡ true
      → Schedule tasks (events ++ Run job.task ∷ []) (record { time = state.time + 1; pending = front ++ after_a_unit job ++ rest; last = state.last })
  run events state front rest job schedule is earliest highest =
      goes_on (Run job.task) (record { time = state.time + 1; pending = front ++ after_a_unit job ++ rest; last = state.last }) schedule
      (runs state front rest job is earliest highest)
