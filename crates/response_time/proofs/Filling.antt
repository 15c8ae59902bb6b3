-- Jobs of many tasks are released at one moment.
use Rattle.std.proofs.Common.{◌≡◌, ◌≤◌, ◌+◌, ℕ, zero, suc, Bool, true, cond, List, [], ◌∷◌, ◌++◌, Some, length, set, slice_get, ◌⊎◌, inl, inr, refl, sym, ap, ◌∙◌, subst, append_assoc, append-nil, arith}
use Rattle.std.proofs.lemmas.Bool.{eq-eqb}
use Rattle.std.proofs.lemmas.List.{length_push}
use Rattle.std.proofs.lemmas.List.Elements.{All-cons, All-nil}
use Rattle.std.proofs.lemmas.List.Sums.{sum_by-cons}
use Rattle.std.specs.List.{All, sum_by}
use Rattle.lists.specs.TestLaws.{by_test}
use Rattle.cost_table.specs.declared.task_set.Task.{Task}
use Rattle.cost_table.specs.Tasks.{IsInRange, IsTask, priority_of}
use Rattle.response_time.specs.Schedules.{Job, State, Event, Release, IsReleased, Schedule, goes_on}
use Rattle.response_time.specs.ReachLaws.{all_released}
use Rattle.response_time.proofs.Backlog.{backlog}
use Rattle.response_time.proofs.EventLists.{stands_at}
use Rattle.response_time.proofs.Priorities.{counted, priority_is}
use Rattle.response_time.proofs.Told.{write_cases}
use Rattle.response_time.proofs.WorkLeft.{left_of, part, is_of}

-- the releases of those tasks that are due, from task k on, and their jobs
abbrev pub due_events : (Task → Bool) → ℕ → List Task → List Event
due_events due k [] = []
due_events due k (task ∷ tasks) = cond (due task) (Release k task.cost ∷ due_events due (suc k) tasks) (due_events due (suc k) tasks)

abbrev pub due_jobs : (Task → Bool) → ℕ → ℕ → List Task → List Job
due_jobs due now k [] = []
due_jobs due now k (task ∷ tasks) =
    cond (due task) (record { task = k; release = now; left = task.cost } ∷ due_jobs due now (suc k) tasks) (due_jobs due now (suc k) tasks)

-- where each task is due, all are released
pub all_due : (k : ℕ) (tasks : List Task) → due_events (λ task. true) k tasks ≡ all_released k tasks
all_due k [] = refl
all_due k (task ∷ tasks) = ap (λ (es : List Event). Release k task.cost ∷ es) (all_due (suc k) tasks)

-- the schedule in which the due tasks are released, from task k on
pub record IsFilled (tasks : List Task) (due : Task → Bool) (k : ℕ) (rest : List Task) (events : List Event) (state : State) : Type 0 where
  pub next : State
  pub schedule : Schedule tasks (events ++ due_events due k rest) next
  pub time : next.time ≡ state.time
  pub pending : next.pending ≡ state.pending ++ due_jobs due state.time k rest
  pub lasts : (j : ℕ) (other : Task) (before : ℕ) → IsTask tasks j other → slice_get next.last j ≡ Some (Some before)
      → (slice_get state.last j ≡ Some (Some before)) ⊎ ((before ≡ state.time) × (due other ≡ true))

-- no due task from k on was released in its last period
abbrev pub AreRested : List Task → (Task → Bool) → ℕ → State → Type 0
AreRested tasks due k state = (j : ℕ) (other : Task) (before : ℕ) → k ≤ j → IsTask tasks j other → due other ≡ true
    → slice_get state.last j ≡ Some (Some before) → before + other.period ≤ state.time

module _ (tasks : List Task) (ranges : (j : ℕ) (other : Task) → IsTask tasks j other → IsInRange other) (due : Task → Bool) where
  filled_more : (events : List Event) (state : State) (k : ℕ) (task : Task) (rest : List Task) → IsTask tasks k task → due task ≡ true
      → AreRested tasks due k state → Schedule tasks events state
      → ((more : List Event) (next : State) → AreRested tasks due (suc k) next → Schedule tasks more next → IsFilled tasks due (suc k) rest more next)
      → IsFilled tasks due k (task ∷ rest) events state
  filled_more events state k task rest is e rested schedule others =
      let job : Job = record { task = k; release = state.time; left = task.cost } in
      let one : State = record { time = state.time; pending = state.pending ++ job ∷ []; last = set state.last k (Some state.time) } in
      let step : IsReleased tasks state k task.cost one = record {
        task = task;
        is = is;
        some = (ranges k task is).cost;
        within = omega arith;
        apart = λ before last. rested k task before (omega arith) is e last;
        time = refl;
        pending = refl;
        last = refl;
      } in
      let f = others (events ++ Release k task.cost ∷ []) one
      (λ j other before later there is_due last. elim (write_cases state.last k j (Some state.time) (Some before) last) [
        | inl now ↦ let same = now.0 in absurd (omega arith)
        | inr was ↦ rested j other before (omega arith) there is_due was
      ])
      (goes_on (Release k task.cost) one schedule step) in
      record {
        next = f.next;
        schedule = rw e (subst (λ (es : List Event). Schedule tasks es f.next) (append_assoc events (Release k task.cost ∷ []) (due_events due (suc k) rest)) f.schedule);
        time = f.time;
        pending = rw e (f.pending ∙ append_assoc state.pending (job ∷ []) (due_jobs due state.time (suc k) rest));
        lasts = λ j other before there last. elim (f.lasts j other before there last) [
          | inr now ↦ inr now
          | inl was ↦ elim (write_cases state.last k j (Some state.time) (Some before) was) [
            | inr stood ↦ inl stood
            | inl wrote ↦
                let same : state.time ≡ before = (let q = wrote.1 in cc) in
                let both : IsTask tasks k other = subst (λ (m : ℕ). IsTask tasks m other) wrote.0 there in
                let one_task : task ≡ other = cc in
                inr (sym same, subst (λ (t : Task). due t ≡ true) one_task e)
          ]
        ];
      }

  pub filled : (before rest : List Task) (k : ℕ) (events : List Event) (state : State) → tasks ≡ before ++ rest → k ≡ length before
      → AreRested tasks due k state → Schedule tasks events state → IsFilled tasks due k rest events state
  filled before [] k events state parts place rested schedule = record {
    next = state;
    schedule = subst (λ (es : List Event). Schedule tasks es state) (sym (append-nil events)) schedule;
    time = refl;
    pending = sym (append-nil state.pending);
    lasts = λ j other moment there last. inl last;
  }
  filled before (task ∷ rest) k events state parts place rested schedule =
      let is : IsTask tasks k task = ap (λ (ts : List Task). slice_get ts k) parts ∙ ap (slice_get (before ++ task ∷ rest)) place ∙ stands_at before rest task in
      let long = length_push before task in
      let parts_more : tasks ≡ (before ++ task ∷ []) ++ rest = parts ∙ sym (append_assoc before (task ∷ []) rest) in
      by_test (due task)
      (λ e. filled_more events state k task rest is e rested schedule
      (λ more next rested_more schedule_more. filled (before ++ task ∷ []) rest (suc k) more next parts_more (omega arith) rested_more schedule_more))
      (λ e.
      let f = filled (before ++ task ∷ []) rest (suc k) events state parts_more (omega arith) (λ j other moment later there is_due last. rested j other moment (omega arith) there is_due last) schedule in
      record {
        next = f.next;
        schedule = rw e f.schedule;
        time = f.time;
        pending = rw e f.pending;
        lasts = f.lasts;
      })

-- what a job is that is released where its task is due
pub record IsDueJob (tasks : List Task) (due : Task → Bool) (now : ℕ) (job : Job) : Type 0 where
  pub task : Task
  pub is : IsTask tasks job.task task
  pub is_due : due task ≡ true
  pub release : job.release ≡ now

module _ (tasks : List Task) (due : Task → Bool) (now : ℕ) where
  pub are_due : (before rest : List Task) (k : ℕ) → tasks ≡ before ++ rest → k ≡ length before → All (IsDueJob tasks due now) (due_jobs due now k rest)
  are_due before [] k parts place = All-nil (IsDueJob tasks due now)
  are_due before (task ∷ rest) k parts place =
      let is : IsTask tasks k task = ap (λ (ts : List Task). slice_get ts k) parts ∙ ap (slice_get (before ++ task ∷ rest)) place ∙ stands_at before rest task in
      let long = length_push before task in
      let others = are_due (before ++ task ∷ []) rest (suc k) (parts ∙ sym (append_assoc before (task ∷ []) rest)) (omega arith) in
      by_test (due task)
      (λ e. rw e (All-cons (IsDueJob tasks due now) (record { task = k; release = now; left = task.cost }) (due_jobs due now (suc k) rest) (record { task = task; is = is; is_due = e; release = refl }) others))
      (λ e. rw e others)

  -- the work that they bring to a priority
  pub due_backlog : (p : ℕ) (before rest : List Task) (k : ℕ) → tasks ≡ before ++ rest → k ≡ length before
      → backlog tasks p (due_jobs due now k rest) ≡ sum_by (λ task. cond (due task) (counted p task.priority task.cost) 0) rest
  due_backlog p before [] k parts place = refl
  due_backlog p before (task ∷ rest) k parts place =
      let is : IsTask tasks k task = ap (λ (ts : List Task). slice_get ts k) parts ∙ ap (slice_get (before ++ task ∷ rest)) place ∙ stands_at before rest task in
      let long = length_push before task in
      let others = due_backlog p (before ++ task ∷ []) rest (suc k) (parts ∙ sym (append_assoc before (task ∷ []) rest)) (omega arith) in
      let f = λ (t : Task). cond (due t) (counted p t.priority t.cost) 0 in
      let sum = sum_by-cons f task rest in
      by_test (due task)
      (λ e.
      let whose : counted p (priority_of tasks k) task.cost ≡ counted p task.priority task.cost = ap (λ (q : ℕ). counted p q task.cost) (priority_is tasks k task is) in
      let job : Job = record { task = k; release = now; left = task.cost } in
      let cons = sum_by-cons (λ (j : Job). counted p (priority_of tasks j.task) j.left) job (due_jobs due now (suc k) rest) in
      let own : f task ≡ counted p task.priority task.cost = rw e refl in
      let jobs : backlog tasks p (due_jobs due now k (task ∷ rest)) ≡ backlog tasks p (job ∷ due_jobs due now (suc k) rest) = rw e refl in
      omega arith)
      (λ e.
      let own : f task ≡ 0 = rw e refl in
      let jobs : backlog tasks p (due_jobs due now k (task ∷ rest)) ≡ backlog tasks p (due_jobs due now (suc k) rest) = rw e refl in
      omega arith)

  -- a task that is due has work left
  pub due_left : (i j k : ℕ) (task : Task) (rest : List Task) → slice_get rest j ≡ Some task → i ≡ k + j → due task ≡ true → 1 ≤ task.cost
      → 1 ≤ left_of (is_of i) (due_jobs due now k rest)
  due_left i j k task [] is place e some = absurd (cc)
  due_left i zero k task (x ∷ rest) is place e some =
      let same : x ≡ task = cc in
      let is_due : due x ≡ true = subst (λ (t : Task). due t ≡ true) (sym same) e in
      let job : Job = record { task = k; release = now; left = x.cost } in
      let cons = sum_by-cons (part (is_of i)) job (due_jobs due now (suc k) rest) in
      let own = eq-eqb k i (omega arith) in
      let one : part (is_of i) job ≡ x.cost = rw own refl in
      let cost : x.cost ≡ task.cost = ap (λ (t : Task). t.cost) same in
      rw is_due (omega arith)
  due_left i (suc j) k task (x ∷ rest) is place e some =
      let others = due_left i j (suc k) task rest is (omega arith) e some in
      let job : Job = record { task = k; release = now; left = x.cost } in
      let cons = sum_by-cons (part (is_of i)) job (due_jobs due now (suc k) rest) in
      by_test (due x) (λ y. rw y (omega arith)) (λ y. rw y others)
