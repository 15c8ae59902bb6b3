-- In each state time can pass: a job of the highest priority that is pending runs, the earliest of these.
use Rattle.std.proofs.Common.{◌≡◌, ◌≤◌, ◌+◌, ℕ, List, [], ◌∷◌, ◌++◌, refl, sym, ap, subst}
use Rattle.std.proofs.lemmas.List.Elements.{All-weaker}
use Rattle.std.specs.List.{All}
use Rattle.cost_table.specs.declared.task_set.Task.{Task}
use Rattle.cost_table.specs.Tasks.{priority_of}
use Rattle.response_time.specs.Schedules.{Job, State, Run, Idle, IsRun, after_a_unit}
use Rattle.response_time.specs.ScheduleLaws.{TimePasses}
use Rattle.response_time.proofs.First.{Precedes, First, first_of}

module _ (tasks : List Task) where
  -- a job may run that is first by a rank which all jobs of its task share, where its priority is the highest
  pub run_of : (rank : Job → ℕ) (state : State) (f : First rank state.pending)
      → ((j : Job) → j.task ≡ f.job.task → rank j ≡ rank f.job)
      → All (λ j. priority_of tasks f.job.task ≤ priority_of tasks j.task) state.pending
      → IsRun tasks state f.job.task (record { time = state.time + 1; pending = f.front ++ after_a_unit f.job ++ f.rest; last = state.last })
  run_of rank state f same highest = record {
    front = f.front;
    job = f.job;
    rest = f.rest;
    is = f.is;
    of_task = refl;
    earliest = All-weaker (Precedes rank f.job) (λ (j : Job). j.task ≡ f.job.task → f.job.release ≤ j.release) (λ j p e. p.earlier (same j e)) state.pending f.first;
    highest = highest;
    time = refl;
    pending = refl;
    last = refl;
  }

  -- a job of the highest priority does
  runs : (state : State) → First (λ job. priority_of tasks job.task) state.pending → TimePasses tasks state
  runs state f =
      let rank = λ (job : Job). priority_of tasks job.task in
      record {
        event = Run f.job.task;
        next = record { time = state.time + 1; pending = f.front ++ after_a_unit f.job ++ f.rest; last = state.last };
        step = run_of rank state f (λ j e. ap (priority_of tasks) e)
            (All-weaker (Precedes rank f.job) (λ (j : Job). priority_of tasks f.job.task ≤ priority_of tasks j.task) (λ j p. p.higher) state.pending f.first);
        later = refl;
      }

  passes : (state : State) (jobs : List Job) → state.pending ≡ jobs → TimePasses tasks state
  passes state [] none = record {
    event = Idle;
    next = record { time = state.time + 1; pending = []; last = state.last };
    step = record { none = none; time = refl; pending = refl; last = refl };
    later = refl;
  }
  passes state (x ∷ jobs) some =
      let rank = λ (job : Job). priority_of tasks job.task in
      runs state (subst (First rank) (sym some) (first_of rank x jobs))

  pub time_goes_on : (state : State) → TimePasses tasks state
  time_goes_on state = passes state state.pending refl
