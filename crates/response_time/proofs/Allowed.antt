-- What comes after a schedule, by its events alone.
use Rattle.std.proofs.Common.{◌≡◌, ◌<◌, ◌≤◌, ◌+◌, ℕ, cond, List, [], ◌∷◌, ◌++◌, Some, length, take, set, slice_get, get_or, inl, inr, refl, sym, ap, ◌∙◌, subst, append_assoc, append-nil, arith}
use Rattle.std.proofs.lemmas.List.{take_all, take_at}
use Rattle.std.proofs.lemmas.Bool.{cases_lt, cases_eq, eq-eqb, ne_eqb, eqb-true, lt-leb}
use Rattle.std.proofs.lemmas.List.Elements.{All-head, All-tail, All-cons, All-nil, All-weaker}
use Rattle.std.proofs.lemmas.List.Sums.{sum_by-cons}
use Rattle.std.specs.Bool.{nat_eq}
use Rattle.std.specs.List.{All}
use Rattle.lists.specs.TestLaws.{by_test}
use Rattle.cost_table.specs.declared.task_set.Task.{Task}
use Rattle.cost_table.specs.Tasks.{IsTask, priority_of}
use Rattle.response_time.specs.Schedules.{Job, State, Event, Release, Run, Idle, IsReleased, IsRun, IsIdled, Schedule, begins, goes_on, empty_state, after_a_unit}
use Rattle.response_time.specs.Events.{units, released, done, IsAllowed, GoesOn}
use Rattle.response_time.specs.EventLaws.{JobsMayBeReleased, NoOtherIsReleased, TheHighestMayRun, NoOtherRuns, ItMayIdle, ItIdlesWithoutWork, AllowedEventsAreSchedules, WorkIsDoneInTime}
use Rattle.response_time.proofs.Backlog.{all_parts}
use Rattle.response_time.proofs.Busy.{finish}
use Rattle.response_time.proofs.EventLists.{push_cases, push_take, stands_at, last_step, time_parts, time_at}
use Rattle.response_time.proofs.First.{Precedes, First, first_of}
use Rattle.response_time.proofs.Going.{run_of}
use Rattle.response_time.proofs.Once.{task_there}
use Rattle.response_time.proofs.Priorities.{priority_is}
use Rattle.response_time.proofs.Sound.{sound}
use Rattle.response_time.proofs.Told.{told}
use Rattle.response_time.proofs.WorkLeft.{left_of, part, is_of, is_until, none_left, job_left}

pub may_be_released : JobsMayBeReleased
may_be_released tasks events state i work schedule may =
    let tells = told tasks events state schedule in
    let now = tells.work.time in
    let next : State = record { time = state.time; pending = state.pending ++ record { task = i; release = state.time; left = work } ∷ []; last = set state.last i (Some state.time) } in
    let step : IsReleased tasks state i work next = record {
      task = may.task;
      is = may.is;
      some = may.some;
      within = may.within;
      apart = λ before is.
          let at = tells.last.at i before is in
          let rested = may.rested at.0 at.1 at.2 in
          let parts = time_parts events at.0 in
          let then = at.3 in
          omega arith;
      time = refl;
      pending = refl;
      last = refl;
    } in
    (next, goes_on (Release i work) next schedule step)

pub is_released : NoOtherIsReleased
is_released tasks events i work goes =
    let came = last_step tasks events (Release i work) goes in
    let step : IsReleased tasks came.state i work goes.0 = came.step in
    let tells = told tasks events came.state came.schedule in
    let now = tells.work.time in
    record {
      task = step.task;
      is = step.is;
      some = step.some;
      within = step.within;
      rested = λ n earlier is.
          let since = tells.last.since n i earlier is in
          let past = step.apart since.0 since.1 in
          let early = since.2 in
          let parts = time_parts events n in
          omega arith;
    }

-- a job of the task that is first among those of the task
module _ (i : ℕ) where
  abbrev rank : Job → ℕ
  rank job = cond (nat_eq job.task i) 0 1

  rank_own : (job : Job) → job.task ≡ i → rank job ≡ 0
  rank_own job e = let is = eq-eqb job.task i e in rw is refl

  rank_other : (job : Job) → (job.task ≡ i → ⊥) → rank job ≡ 1
  rank_other job e = let is = ne_eqb job.task i e in rw is refl

  -- where work of the task is left, a job of it is the first
  first_is : (jobs : List Job) (f : First rank jobs) → 1 ≤ left_of (is_of i) jobs → f.job.task ≡ i
  first_is jobs f some = elim (cases_eq f.job.task i) [
    | inl own ↦ own
    | inr other ↦
        let high = rank_other f.job other in
        let none = none_left i jobs
        (All-weaker (Precedes rank f.job) (λ (j : Job). j.task ≡ i → ⊥) (λ j p e. let low = rank_own j e in let up = p.higher in absurd (omega arith)) jobs f.first) in
        absurd (omega arith)
  ]

  -- there is one where some work is left
  first_there : (jobs : List Job) → 1 ≤ left_of (is_of i) jobs → First rank jobs
  first_there [] some = absurd (omega arith)
  first_there (x ∷ jobs) some = first_of rank x jobs

-- where a task has no work left, no pending job is one of it
none_of : (tasks : List Task) (i : ℕ) (jobs : List Job) → All (λ job. 1 ≤ job.left) jobs → left_of (is_of i) jobs ≡ 0
    → All (λ job. job.task ≡ i → ⊥) jobs
none_of tasks i [] alive none = All-nil (λ (j : Job). j.task ≡ i → ⊥)
none_of tasks i (job ∷ jobs) alive none =
    let some = All-head (λ (j : Job). 1 ≤ j.left) job jobs alive in
    let sum = sum_by-cons (part (is_of i)) job jobs in
    All-cons (λ (j : Job). j.task ≡ i → ⊥) job jobs
    (λ e. let is = eq-eqb job.task i e in let own : part (is_of i) job ≡ job.left = rw is refl in absurd (omega arith))
    (none_of tasks i jobs (All-tail (λ (j : Job). 1 ≤ j.left) job jobs alive) (omega arith))

-- what each pending job is: a job of a task that has work left
pub record IsOfTask (tasks : List Task) (events : List Event) (job : Job) : Type 0 where
  pub task : Task
  pub is : IsTask tasks job.task task
  pub work : done job.task events < released job.task events

module _ (tasks : List Task) (events : List Event) (state : State) (schedule : Schedule tasks events state) where
  pending_is : (k : ℕ) (d : Job) → k < length state.pending → IsOfTask tasks events (get_or state.pending k d)
  pending_is k d low =
      let job = get_or state.pending k d in
      let is_sound = sound tasks events state schedule in
      let whose = task_there tasks job.task (is_sound.known k d low) in
      let all = (told tasks events state schedule).work.all job.task in
      record {
        task = whose.0;
        is = whose.1;
        work = elim (cases_lt 0 (left_of (is_of job.task) state.pending)) [
          | inl some ↦ omega arith
          | inr none ↦ absurd (none_of tasks job.task state.pending is_sound.alive (omega arith) k d low refl)
        ];
      }

pub may_run : TheHighestMayRun
may_run tasks events state i schedule may =
    let tells = told tasks events state schedule in
    let all = tells.work.all i in
    let work = may.work in
    let some : 1 ≤ left_of (is_of i) state.pending = omega arith in
    let f = first_there i state.pending some in
    let own = first_is i state.pending f some in
    let mine : priority_of tasks f.job.task ≡ may.task.priority = ap (priority_of tasks) own ∙ priority_is tasks i may.task may.is in
    let next : State = record { time = state.time + 1; pending = f.front ++ after_a_unit f.job ++ f.rest; last = state.last } in
    let step : IsRun tasks state f.job.task next = run_of tasks (rank i) state f
    (λ j e. rank_own i j (e ∙ own) ∙ sym (rank_own i f.job own))
    (λ k d low.
    let is = pending_is tasks events state schedule k d low in
    let its = priority_is tasks (get_or state.pending k d).task is.task is.is in
    let left = is.work in
    elim (cases_lt is.task.priority may.task.priority) [
      | inl higher ↦ let none = may.highest (get_or state.pending k d).task is.task is.is higher in absurd (omega arith)
      | inr le ↦ omega arith
    ]) in
    (next, goes_on (Run i) next schedule (subst (λ (m : ℕ). IsRun tasks state m next) own step))

pub is_run : NoOtherRuns
is_run tasks events i goes =
    let came = last_step tasks events (Run i) goes in
    let state = came.state in
    let step : IsRun tasks state i goes.0 = came.step in
    let is_sound = sound tasks events state came.schedule in
    let tells = (told tasks events state came.schedule).work in
    let parts = all_parts (λ (j : Job). j.task < length tasks) step.front step.job step.rest (subst (λ (jobs : List Job). All (λ (j : Job). j.task < length tasks) jobs) step.is is_sound.known) in
    let lives = all_parts (λ (j : Job). 1 ≤ j.left) step.front step.job step.rest (subst (λ (jobs : List Job). All (λ (j : Job). 1 ≤ j.left) jobs) step.is is_sound.alive) in
    let some = lives.1 in
    let whose = task_there tasks i (subst (λ (m : ℕ). m < length tasks) step.of_task parts.1) in
    let left : step.job.left ≤ left_of (is_of i) state.pending =
    subst (λ (m : ℕ). step.job.left ≤ left_of (is_of m) state.pending) step.of_task
    (subst (λ (jobs : List Job). step.job.left ≤ left_of (is_of step.job.task) jobs) (sym step.is) (job_left step.job step.front step.rest)) in
    let all = tells.all i in
    record {
      task = whose.0;
      is = whose.1;
      work = omega arith;
      highest = λ k other is higher.
          let mine = priority_is tasks i whose.0 whose.1 in
          let its = priority_is tasks k other is in
          let none = none_left k state.pending
          (All-weaker (λ (j : Job). priority_of tasks i ≤ priority_of tasks j.task) (λ (j : Job). j.task ≡ k → ⊥)
          (λ j le e. let same : priority_of tasks j.task ≡ priority_of tasks k = ap (priority_of tasks) e in absurd (omega arith)) state.pending step.highest) in
          let other_all = tells.all k in
          omega arith;
    }

-- where no task has work left nothing is pending
nothing : (tasks : List Task) (jobs : List Job) → All (λ job. 1 ≤ job.left) jobs → ((i : ℕ) → left_of (is_of i) jobs ≡ 0) → jobs ≡ []
nothing tasks [] alive none = refl
nothing tasks (job ∷ jobs) alive none =
    absurd (none_of tasks job.task (job ∷ jobs) alive (none job.task) 0 job (omega arith) refl)

pub may_idle : ItMayIdle
may_idle tasks events state schedule may =
    let tells = (told tasks events state schedule).work in
    let none = nothing tasks state.pending (sound tasks events state schedule).alive (λ i. let all = tells.all i in let over = may i in omega arith) in
    let next : State = record { time = state.time + 1; pending = []; last = state.last } in
    (next, goes_on Idle next schedule (record { none = none; time = refl; pending = refl; last = refl }))

pub is_idle : ItIdlesWithoutWork
is_idle tasks events goes i =
    let came = last_step tasks events Idle goes in
    let step : IsIdled came.state goes.0 = came.step in
    let all = (told tasks events came.state came.schedule).work.all i in
    let none : left_of (is_of i) came.state.pending ≡ 0 = ap (left_of (is_of i)) step.none in
    omega arith

-- where all pending jobs of a task are later ones, none is left by a moment
none_until : (i r : ℕ) (jobs : List Job) → All (λ job. job.task ≡ i → r < job.release) jobs → left_of (is_until i r) jobs ≡ 0
none_until i r [] later = refl
none_until i r (job ∷ jobs) later =
    let one : part (is_until i r) job ≡ 0 = by_test (nat_eq job.task i)
    (λ e. let late = lt-leb job.release r (All-head (λ (j : Job). j.task ≡ i → r < j.release) job jobs later (eqb-true job.task i e)) in rw (e, late) refl)
    (λ e. rw e refl) in
    let others = none_until i r jobs (All-tail (λ (j : Job). j.task ≡ i → r < j.release) job jobs later) in
    let sum = sum_by-cons (part (is_until i r)) job jobs in
    omega arith

pub work_is_done : WorkIsDoneInTime
work_is_done tasks events state n i work task time are schedule is response at long =
    let tells = (told tasks events state schedule).work in
    let now = tells.time in
    let parts = time_parts events n in
    let finished = finish tasks are i task is time response events state schedule in
    let r = units (take (n + 1) events) in
    let same : units (take (n + 1) events) ≡ units (take n events) = time_at events n i work at in
    let none = none_until i r state.pending
    (All-weaker (λ (j : Job). j.task ≡ i → state.time < j.release + time) (λ (j : Job). j.task ≡ i → r < j.release) (λ j soon e. let past = soon e in omega arith) state.pending finished) in
    let each = tells.each (n + 1) i in
    omega arith

-- ---- lists of events

goes_where_allowed : (tasks : List Task) (events : List Event) (state : State) (event : Event) → Schedule tasks events state
    → IsAllowed tasks events event → GoesOn tasks events event
goes_where_allowed tasks events state (Release i work) schedule is = may_be_released tasks events state i work schedule is
goes_where_allowed tasks events state (Run i) schedule is = may_run tasks events state i schedule is
goes_where_allowed tasks events state Idle schedule is = may_idle tasks events state schedule is

allowed_where_goes : (tasks : List Task) (events : List Event) (event : Event) → GoesOn tasks events event → IsAllowed tasks events event
allowed_where_goes tasks events (Release i work) goes = is_released tasks events i work goes
allowed_where_goes tasks events (Run i) goes = is_run tasks events i goes
allowed_where_goes tasks events Idle goes = is_idle tasks events goes

each_allowed : (tasks : List Task) (events : List Event) (state : State) → Schedule tasks events state
    → (n : ℕ) (event : Event) → slice_get events n ≡ Some event → IsAllowed tasks (take n events) event
each_allowed tasks events state begins n event is = absurd (cc)
each_allowed tasks events state (goes_on {events = before} {state = old} last next schedule step) n event is = elim (push_cases before n last event is) [
  | inl was ↦
      let low = was.0 in
      let same = push_take before n last (omega arith) in
      subst (λ (es : List Event). IsAllowed tasks es event) (sym same) (each_allowed tasks before old schedule n event was.1)
  | inr now ↦
      let place = now.0 in
      let same : take n (before ++ last ∷ []) ≡ before = push_take before n last (omega arith) ∙ take_all n before (omega arith) in
      subst (λ (es : List Event). IsAllowed tasks es event) (sym same)
      (subst (λ (x : Event). IsAllowed tasks before x) now.1 (allowed_where_goes tasks before last (next, goes_on last next schedule step)))
]

from_allowed : (tasks : List Task) (all before rest : List Event) (state : State) → all ≡ before ++ rest
    → ((n : ℕ) (event : Event) → slice_get all n ≡ Some event → IsAllowed tasks (take n all) event)
    → Schedule tasks before state → (end : State) × Schedule tasks all end
from_allowed tasks all before [] state e each schedule = (state, subst (λ (es : List Event). Schedule tasks es state) (sym (append-nil before) ∙ sym e) schedule)
from_allowed tasks all before (event ∷ rest) state e each schedule =
    let here : slice_get all (length before) ≡ Some event = ap (λ (es : List Event). slice_get es (length before)) e ∙ stands_at before rest event in
    let prefix : take (length before) all ≡ before = ap (λ (es : List Event). take (length before) es) e ∙ take_at before (event ∷ rest) (length before) refl in
    let is = subst (λ (es : List Event). IsAllowed tasks es event) prefix (each (length before) event here) in
    let goes = goes_where_allowed tasks before state event schedule is in
    from_allowed tasks all (before ++ event ∷ []) rest goes.0 (e ∙ sym (append_assoc before (event ∷ []) rest)) each goes.1

pub allowed_events : AllowedEventsAreSchedules
allowed_events tasks events = (
  λ some. each_allowed tasks events some.0 some.1,
  λ each. from_allowed tasks events [] events (empty_state tasks) refl each begins,
)
