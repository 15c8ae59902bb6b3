-- The busy period of a priority, and that each job finishes in its response time.
use Rattle.std.proofs.Common.{◌≡◌, ◌<◌, ◌≤◌, ◌+◌, ◌*◌, ℕ, List, ◌∷◌, Option, Some, set, slice_get, slice_index, get_or, inl, inr, refl, sym, ap, ◌∙◌, subst, arith}
use Rattle.std.proofs.Math.Nat.{mul-le-mul_left}
use Rattle.std.proofs.lemmas.Bool.{cases_lt}
use Rattle.std.proofs.lemmas.Grind.{div_ceil_times}
use Rattle.std.proofs.lemmas.List.Elements.{All-push, All-weaker}
use Rattle.std.proofs.lemmas.List.Sums.{sum_by-cons, sum_by-append, sum_by_push}
use Rattle.std.specs.Int.{div_ceil}
use Rattle.std.specs.List.{All, sum_by}
use Rattle.cost_table.specs.declared.task_set.Task.{Task}
use Rattle.cost_table.specs.Tasks.{AreTasks, IsTask, priority_of}
use Rattle.response_time.specs.Responses.{IsResponse, AreResponses}
use Rattle.response_time.specs.Schedules.{Job, State, Event, Release, Run, Idle, IsReleased, IsRun, IsStep, Schedule, begins, goes_on, empty_state, after_a_unit}
use Rattle.response_time.specs.ScheduleLaws.{FinishInTime, FinishWithin, IsFinishedIn}
use Rattle.response_time.proofs.Once.{task_there}
use Rattle.response_time.proofs.Rounding.{no_unit_more}
use Rattle.response_time.proofs.Priorities.{counted, counts, counted_rises, range_of, priority_is, alone, higher, as_high_alone}
use Rattle.response_time.proofs.Released.{brought, brought_more, brought_within}
use Rattle.response_time.proofs.Backlog.{backlog, no_backlog, all_low, backlog_at, unit_less, all_parts, run_keeps}
use Rattle.response_time.proofs.Sound.{IsSound, sound_first, sound_run, sound_idled, sound_step, sound}

-- What a schedule keeps for one priority: a busy period of this priority has begun, in which each pending job of this
-- priority or a higher one was released. What is left of these jobs, and the time since, are no more than the work that
-- was released since. The period is shorter than the window.
pub record IsBusy (tasks : List Task) (p window : ℕ) (state : State) : Type 0 where
  pub begin : ℕ
  pub begun : begin ≤ state.time
  pub short : state.time < begin + window
  pub since : All (λ job. priority_of tasks job.task ≤ p → begin ≤ job.release) state.pending
  pub bounded : backlog tasks p state.pending + state.time ≤ brought p begin tasks state.last + begin

module _ (tasks : List Task) (are : AreTasks tasks) (i : ℕ) (task : Task) (is : IsTask tasks i task) (window : ℕ) (response : IsResponse tasks task window) where
  -- the jobs of one task in a window that is no longer than its period
  one_job : task.cost * div_ceil window task.period ≤ task.cost
  one_job =
      let range = range_of tasks are i task is in
      let some = range.period in
      let covers = div_ceil_times window task.period some in
      let due = response.due in
      let within = range.constrained in
      let few = no_unit_more (div_ceil window task.period) 1 task.period (omega arith) in
      let most = mul-le-mul_left task.cost few in
      omega arith

  -- so the work that is released in such a window is done in it
  enough : (begin now : ℕ) (lasts : List (Option ℕ))
      → ((k before : ℕ) → slice_get lasts k ≡ Some (Some before) → before ≤ now) → now < begin + window
      → brought task.priority begin tasks lasts ≤ window
  enough begin now lasts earlier short =
      let f = λ (t : Task). t.cost * div_ceil window t.period in
      let all = brought_within task.priority begin now window tasks lasts are.ranges earlier short in
      let parts = as_high_alone task.priority f tasks i task is (λ k other there same. alone tasks are i k task other is there same) in
      let one = one_job in
      let equal : window ≡ task.cost + sum_by (higher task.priority f) tasks = response.least.solves.equal in
      omega arith

  -- where nothing that counts is pending, a busy period begins
  restart : (state : State) → IsSound tasks state → backlog tasks task.priority state.pending ≡ 0
      → IsBusy tasks task.priority window state
  restart state sound none =
      let some = response.least.solves.some in
      record {
        begin = state.time;
        begun = omega arith;
        short = omega arith;
        since = All-weaker (λ (j : Job). task.priority < priority_of tasks j.task) (λ (j : Job). priority_of tasks j.task ≤ task.priority → state.time ≤ j.release) (λ j less le. absurd (omega arith)) state.pending
            (all_low tasks task.priority state.pending sound.alive none);
        bounded = omega arith;
      }

  busy_released : (state : State) (k work : ℕ) (next : State) → IsSound tasks state
      → IsBusy tasks task.priority window state → IsReleased tasks state k work next
      → IsBusy tasks task.priority window next
  busy_released state k work next sound busy step =
      let job : Job = record { task = k; release = state.time; left = work } in
      let f = λ (j : Job). counted task.priority (priority_of tasks j.task) j.left in
      let now = step.time in
      record {
        begin = busy.begin;
        begun = let begun = busy.begun in omega arith;
        short = let short = busy.short in omega arith;
        since = subst (λ (jobs : List Job). All (λ (j : Job). priority_of tasks j.task ≤ task.priority → busy.begin ≤ j.release) jobs) (sym step.pending)
            (All-push (λ (j : Job). priority_of tasks j.task ≤ task.priority → busy.begin ≤ j.release) state.pending job busy.since (λ le. busy.begun));
        bounded =
            let range = range_of tasks are k step.task step.is in
            let grown : backlog tasks task.priority next.pending ≡ backlog tasks task.priority state.pending + counted task.priority (priority_of tasks k) work = ap (backlog tasks task.priority) step.pending ∙ sum_by_push f state.pending job in
            let whose : counted task.priority (priority_of tasks k) work ≡ counted task.priority step.task.priority work = ap (λ (q : ℕ). counted task.priority q work) (priority_is tasks k step.task step.is) in
            let most = counted_rises task.priority step.task.priority work step.task.cost step.within in
            let more = brought_more task.priority busy.begin state.time tasks state.last k step.task range.period busy.begun sound.one_each step.is step.apart in
            let last : brought task.priority busy.begin tasks next.last ≡ brought task.priority busy.begin tasks (set state.last k (Some state.time)) = ap (brought task.priority busy.begin tasks) step.last in
            let bounded = busy.bounded in
            omega arith;
      }

  busy_run : (state : State) (k : ℕ) (next : State) → IsSound tasks state → IsBusy tasks task.priority window state
      → IsRun tasks state k next → IsBusy tasks task.priority window next
  busy_run state k next sound busy step =
      let p = task.priority in
      let f = λ (j : Job). counted p (priority_of tasks j.task) j.left in
      let job = step.job in
      let some : 1 ≤ job.left = (all_parts (λ (j : Job). 1 ≤ j.left) step.front job step.rest (subst (λ (jobs : List Job). All (λ (j : Job). 1 ≤ j.left) jobs) step.is sound.alive)).1 in
      let unit = unit_less tasks p job some in
      let before : backlog tasks p state.pending ≡ backlog tasks p step.front + (f job + backlog tasks p step.rest) =
      ap (backlog tasks p) step.is ∙ sum_by-append f step.front (job ∷ step.rest) ∙ ap (λ (n : ℕ). backlog tasks p step.front + n) (sum_by-cons f job step.rest) in
      let after : backlog tasks p next.pending ≡ backlog tasks p step.front + backlog tasks p (after_a_unit job) + backlog tasks p step.rest =
      ap (backlog tasks p) step.pending ∙ backlog_at tasks p step.front (after_a_unit job) step.rest in
      let now = step.time in
      let sound_next = sound_run tasks state k next sound step in
      elim (cases_lt p (priority_of tasks k)) [
        | inl lower ↦
            let none = no_backlog tasks p state.pending (All-weaker (λ (j : Job). priority_of tasks k ≤ priority_of tasks j.task) (λ (j : Job). p < priority_of tasks j.task) (λ j le. omega arith) state.pending step.highest) in
            restart next sound_next (omega arith)
        | inr high ↦
            let whose : priority_of tasks job.task ≡ priority_of tasks k = ap (priority_of tasks) step.of_task in
            let one : counted p (priority_of tasks job.task) 1 ≡ 1 = counts p (priority_of tasks job.task) 1 (omega arith) in
            let less : backlog tasks p next.pending + 1 ≡ backlog tasks p state.pending = omega arith in
            let bounded = busy.bounded in
            elim (cases_lt next.time (busy.begin + window)) [
              | inl short ↦ record {
                begin = busy.begin;
                begun = let begun = busy.begun in omega arith;
                short = short;
                since = run_keeps tasks (λ (j : Job). priority_of tasks j.task ≤ p → busy.begin ≤ j.release) state k next step busy.since (λ more since. since);
                bounded =
                    let last : brought p busy.begin tasks next.last ≡ brought p busy.begin tasks state.last = ap (brought p busy.begin tasks) step.last in
                    omega arith;
              }
              | inr over ↦
                  let most = enough busy.begin state.time state.last sound.earlier busy.short in
                  restart next sound_next (omega arith)
            ]
      ]

  busy_step : (state : State) (event : Event) (next : State) → IsSound tasks state
      → IsBusy tasks task.priority window state → IsStep tasks state event next → IsBusy tasks task.priority window next
  busy_step state (Release k work) next sound busy step = busy_released state k work next sound busy step
  busy_step state (Run k) next sound busy step = busy_run state k next sound busy step
  busy_step state Idle next sound busy step = restart next (sound_idled tasks state next sound step) (ap (backlog tasks task.priority) step.pending)

  pub keeps : (events : List Event) (state : State) → Schedule tasks events state
      → IsSound tasks state × IsBusy tasks task.priority window state
  keeps events state begins = (sound_first tasks, restart (empty_state tasks) (sound_first tasks) refl)
  keeps events state (goes_on {events = before} {state = old} event next schedule step) =
      let kept = keeps before old schedule in
      (sound_step tasks old event next kept.0 step, busy_step old event next kept.0 kept.1 step)

  pub finish : (events : List Event) (state : State) → Schedule tasks events state → IsFinishedIn state i window
  finish events state schedule =
      let busy = (keeps events state schedule).1 in
      let short = busy.short in
      All-weaker (λ (j : Job). priority_of tasks j.task ≤ task.priority → busy.begin ≤ j.release) (λ (j : Job). j.task ≡ i → state.time < j.release + window)
      (λ j since e.
      let own : priority_of tasks j.task ≡ task.priority = ap (priority_of tasks) e ∙ priority_is tasks i task is in
      let begun = since (omega arith) in
      omega arith)
      state.pending busy.since

pub finish_in_time : FinishInTime
finish_in_time tasks events state i task window are schedule is response = finish tasks are i task is window response events state schedule

pub finish_within : (tasks : List Task) (times : List ℕ) → AreTasks tasks → AreResponses tasks times
    → FinishWithin tasks times
finish_within tasks times are responses events state schedule k d low =
    let job = get_or state.pending k d in
    let whose = task_there tasks job.task ((sound tasks events state schedule).known k d low) in
    finish tasks are job.task whose.0 whose.1 (slice_index times job.task) (responses.each job.task whose.0 whose.1) events state schedule k d low refl
