-- Some schedule takes as long as the response time: all tasks are released at once, and each again after each of its periods.
use Rattle.std.proofs.Common.{◌≡◌, ◌<◌, ◌≤◌, ◌+◌, ◌*◌, ◌/◌, ◌%◌, ℕ, zero, suc, Bool, true, cond, List, [], ◌∷◌, ◌++◌, Option, Some, length, slice_get, slice_index, get_or, inl, inr, refl, sym, ap, ◌∙◌, subst, append_assoc, append-nil, arith}
use Rattle.std.proofs.Math.Nat.{mul-le-mul_left, mul-le-mul_right, lt_of_mul-lt-mul_right, zero-mod, zero-div}
use Rattle.std.proofs.lemmas.Bool.{cases_lt, cases_eq, eqb-true, eqb-false, eq-eqb, ne_eqb, leb-true, le-leb, lt-ltb, le-ltb}
use Rattle.std.proofs.lemmas.Grind.{div_ceil_times}
use Rattle.std.proofs.lemmas.List.Elements.{All-head, All-tail, All-append, All-weaker, All-contains, Contains-get_or}
use Rattle.std.proofs.lemmas.List.Sums.{sum_by-cons, sum_by-append, sum_by-le-sum_by}
use Rattle.std.proofs.lemmas.Nat.{div-add-mod', mod_below}
use Rattle.std.specs.Bool.{nat_eq, nat_le}
use Rattle.std.specs.Int.{div_ceil}
use Rattle.std.specs.List.{All, sum_by}
use Rattle.lists.specs.TestLaws.{by_test}
use Rattle.cost_table.specs.declared.task_set.Task.{Task}
use Rattle.cost_table.specs.Tasks.{AreTasks, IsInRange, IsTask, priority_of}
use Rattle.response_time.specs.Responses.{demand, IsSolution}
use Rattle.response_time.specs.Schedules.{Job, State, Event, Release, Run, Idle, IsRun, IsStep, Schedule, begins, goes_on, empty_state}
use Rattle.response_time.specs.ReachLaws.{all_released, StaysFor, TimesAreReached, LateTasksMissTheirDeadlines, NoSmallerTimesHold}
use Rattle.response_time.proofs.Backlog.{backlog, no_backlog, run_keeps}
use Rattle.response_time.proofs.Filling.{due_events, due_jobs, all_due, filled, IsDueJob, are_due, due_backlog, due_left}
use Rattle.response_time.proofs.Going.{time_goes_on}
use Rattle.response_time.proofs.Once.{task_there}
use Rattle.response_time.proofs.Priorities.{counted, counts, range_of, priority_is, alone, higher, as_high}
use Rattle.response_time.proofs.Rounding.{no_unit_more, demand_rises}
use Rattle.response_time.proofs.Sound.{sound, none_released}
use Rattle.response_time.proofs.WorkLeft.{left_of, part, is_of, left_run}

-- ---- before the least solution more is demanded than there is time

-- where no more is demanded than there is time, there is a solution by then
solution_by : (tasks : List Task) (task : Task) (most s : ℕ) → 1 ≤ task.cost → s ≤ most → 1 ≤ s → demand tasks task s ≤ s
    → (time : ℕ) × IsSolution tasks task time × (time ≤ s)
solution_by tasks task zero s some within one enough = absurd (omega arith)
solution_by tasks task (suc most) s some within one enough = elim (cases_lt (demand tasks task s) s) [
  | inr no_less ↦ (s, record { some = one; equal = omega arith }, omega arith)
  | inl less ↦
      let rises = demand_rises tasks task (demand tasks task s) s (omega arith) in
      let there = solution_by tasks task most (demand tasks task s) some (omega arith) (omega arith) rises in
      let low = there.2 in
      (there.0, there.1, omega arith)
]

demanded : (tasks : List Task) (task : Task) (s : ℕ) → 1 ≤ task.cost → ((time : ℕ) → IsSolution tasks task time → s < time) → 1 ≤ s
    → s < demand tasks task s
demanded tasks task s some later one = elim (cases_lt s (demand tasks task s)) [
  | inl less ↦ less
  | inr enough ↦
      let there = solution_by tasks task s s some (omega arith) one enough in
      let past = later there.0 there.1 in
      let low = there.2 in
      absurd (omega arith)
]

-- ---- what is released when each task is released each period

-- the work of a task that is released in the units before this one
abbrev brought_by : ℕ → Task → ℕ
brought_by n task = task.cost * div_ceil n task.period

abbrev brought : ℕ → ℕ → List Task → ℕ
brought p n tasks = sum_by (as_high p (brought_by n)) tasks

-- it is released in this unit
abbrev is_due : ℕ → Task → Bool
is_due now task = nat_eq (now % task.period) 0

-- rounded up, a quotient rises where the unit begins a period
rises_where_due : (n y : ℕ) → 1 ≤ y → n % y ≡ 0 → div_ceil (n + 1) y ≤ div_ceil n y + 1
rises_where_due n y some due =
    let p = div_ceil_times n y some in
    let q = div_ceil_times (n + 1) y some in
    no_unit_more (div_ceil (n + 1) y) (div_ceil n y + 1) y (omega arith)

stays_where_not : (n y : ℕ) → 1 ≤ y → (n % y ≡ 0 → ⊥) → div_ceil (n + 1) y ≤ div_ceil n y
stays_where_not n y some other =
    let q = div_ceil_times (n + 1) y some in
    let parts = div-add-mod' n y in
    let less = mod_below n y some in
    let rounded : div_ceil n y ≡ n / y + 1 = elim (cases_eq (n % y) 0) [ inl none ↦ absurd (other none) | inr more ↦ omega arith ] in
    let times : div_ceil n y * y ≡ n / y * y + y = ap (λ (m : ℕ). m * y) rounded ∙ omega arith in
    no_unit_more (div_ceil (n + 1) y) (div_ceil n y) y (omega arith)

brings_more : (p n : ℕ) (task : Task) → 1 ≤ task.period
    → as_high p (brought_by (n + 1)) task ≤ as_high p (brought_by n) task + cond (is_due n task) (counted p task.priority task.cost) 0
brings_more p n task some =
    by_test (nat_le task.priority p)
    (λ high. rw high
    (by_test (is_due n task)
    (λ e. let more = mul-le-mul_left task.cost (rises_where_due n task.period some (eqb-true (n % task.period) 0 e)) in rw e (omega arith))
    (λ e. let same = mul-le-mul_left task.cost (stays_where_not n task.period some (eqb-false (n % task.period) 0 e)) in rw e (omega arith))))
    (λ low. rw low (omega arith))

bring_more : (p n : ℕ) (tasks : List Task) → All IsInRange tasks
    → brought p (n + 1) tasks ≤ brought p n tasks + sum_by (λ task. cond (is_due n task) (counted p task.priority task.cost) 0) tasks
bring_more p n [] ranges = omega arith
bring_more p n (task ∷ tasks) ranges =
    let one = brings_more p n task (All-head IsInRange task tasks ranges).period in
    let others = bring_more p n tasks (All-tail IsInRange task tasks ranges) in
    let more = sum_by-cons (as_high p (brought_by (n + 1))) task tasks in
    let same = sum_by-cons (as_high p (brought_by n)) task tasks in
    let due = sum_by-cons (λ (t : Task). cond (is_due n t) (counted p t.priority t.cost) 0) task tasks in
    omega arith

-- before any unit nothing is
brings_none : (p : ℕ) (task : Task) → as_high p (brought_by 0) task ≡ 0
brings_none p task =
    let none = zero-div task.period in
    let rest = zero-mod task.period in
    let zero_times : div_ceil 0 task.period ≡ 0 = omega arith in
    let product : task.cost * div_ceil 0 task.period ≡ 0 = ap (λ (m : ℕ). task.cost * m) zero_times ∙ omega arith in
    by_test (nat_le task.priority p) (λ e. rw e product) (λ e. rw e refl)

bring_none : (p : ℕ) (tasks : List Task) → brought p 0 tasks ≡ 0
bring_none p [] = refl
bring_none p (task ∷ tasks) =
    let one = brings_none p task in
    let others = bring_none p tasks in
    let sum = sum_by-cons (as_high p (brought_by 0)) task tasks in
    omega arith

-- what is demanded is no more than that
higher_as_high : (p : ℕ) (f : Task → ℕ) (task : Task) → higher p f task ≤ as_high p f task
higher_as_high p f task = elim (cases_lt task.priority p) [
  | inl less ↦ let low = lt-ltb task.priority p less in let is = counts p task.priority (f task) (omega arith) in rw low (omega arith)
  | inr le ↦ let low = le-ltb task.priority p le in rw low (omega arith)
]

higher_and_own : (p : ℕ) (f : Task → ℕ) (tasks : List Task) (i : ℕ) (task : Task) → IsTask tasks i task → task.priority ≡ p
    → sum_by (higher p f) tasks + f task ≤ sum_by (as_high p f) tasks
higher_and_own p f [] i task is own = absurd (cc)
higher_and_own p f (x ∷ tasks) zero task is own =
    let same : x ≡ task = cc in
    let value : f x ≡ f task = ap f same in
    let priority : x.priority ≡ task.priority = ap (λ (t : Task). t.priority) same in
    let counts_own = counts p x.priority (f x) (omega arith) in
    let low = le-ltb x.priority p (omega arith) in
    let none : higher p f x ≡ 0 = rw low refl in
    let others = others_too tasks in
    let sum = sum_by-cons (higher p f) x tasks in
    let more = sum_by-cons (as_high p f) x tasks in
    omega arith
  where
    others_too : (ts : List Task) → sum_by (higher p f) ts ≤ sum_by (as_high p f) ts
    others_too ts = sum_by-le-sum_by (higher p f) (as_high p f) ts (λ t. higher_as_high p f t)
higher_and_own p f (x ∷ tasks) (suc i) task is own =
    let one = higher_as_high p f x in
    let others = higher_and_own p f tasks i task is own in
    let sum = sum_by-cons (higher p f) x tasks in
    let more = sum_by-cons (as_high p f) x tasks in
    omega arith

-- two multiples of a period are a period apart
multiples : (a b y : ℕ) → a % y ≡ 0 → b % y ≡ 0 → a < b → a + y ≤ b
multiples a b y first second less =
    let p = div-add-mod' a y in
    let q = div-add-mod' b y in
    let products : a / y * y < b / y * y = omega arith in
    let fewer = lt_of_mul-lt-mul_right y {m = a / y} {n = b / y} products in
    let more = mul-le-mul_right {m = suc (a / y)} {n = b / y} y fewer in
    omega arith

-- ---- the schedule

module _ (tasks : List Task) (are : AreTasks tasks) (i : ℕ) (task : Task) (is : IsTask tasks i task) where
  own_range : IsInRange task
  own_range = range_of tasks are i task is

  demanded_within : (n : ℕ) → 1 ≤ n → demand tasks task n ≤ brought task.priority n tasks
  demanded_within n one =
      let f = brought_by n in
      let parts = higher_and_own task.priority f tasks i task is refl in
      let range = own_range in
      let covers = div_ceil_times n task.period range.period in
      let some : 1 ≤ div_ceil n task.period = elim (cases_lt 0 (div_ceil n task.period)) [
        | inl more ↦ omega arith
        | inr none ↦ let product = mul-le-mul_right {m = div_ceil n task.period} {n = 0} task.period none in absurd (omega arith)
      ] in
      let most = mul-le-mul_left task.cost some in
      let whole : demand tasks task n ≡ task.cost + sum_by (higher task.priority f) tasks = refl in
      omega arith

  -- after so many units, where what is due in the first n of them is released
  record IsLoaded (now n : ℕ) : Type 0 where
    later : List Event
    state : State
    schedule : Schedule tasks (all_released 0 tasks ++ later) state
    time : state.time ≡ now
    loaded : brought task.priority n tasks ≤ backlog tasks task.priority state.pending + now
    left : 1 ≤ left_of (is_of i) state.pending
    own : All (λ job. job.task ≡ i → job.release ≡ 0) state.pending
    lasts : (k before : ℕ) (other : Task) → IsTask tasks k other → slice_get state.last k ≡ Some (Some before) → (before % other.period ≡ 0) × (before < n)

  -- the backlog of jobs of this priority or a lower one is the task's own
  own_backlog : (jobs : List Job) → All (λ job. task.priority ≤ priority_of tasks job.task) jobs → All (λ job. job.task < length tasks) jobs
      → backlog tasks task.priority jobs ≤ left_of (is_of i) jobs
  own_backlog [] low known = omega arith
  own_backlog (job ∷ jobs) low known =
      let others = own_backlog jobs (All-tail (λ (j : Job). task.priority ≤ priority_of tasks j.task) job jobs low) (All-tail (λ (j : Job). j.task < length tasks) job jobs known) in
      let whose = task_there tasks job.task (All-head (λ (j : Job). j.task < length tasks) job jobs known) in
      let its = priority_is tasks job.task whose.0 whose.1 in
      let lower = All-head (λ (j : Job). task.priority ≤ priority_of tasks j.task) job jobs low in
      let f = λ (j : Job). counted task.priority (priority_of tasks j.task) j.left in
      let one : f job ≤ part (is_of i) job =
      by_test (nat_le (priority_of tasks job.task) task.priority)
      (λ e.
      let high = leb-true (priority_of tasks job.task) task.priority e in
      let same = alone tasks are i job.task task whose.0 is whose.1 (omega arith) in
      let own = eq-eqb job.task i same in
      rw (e, own) (omega arith))
      (λ e. rw e (omega arith)) in
      let sum = sum_by-cons f job jobs in
      let mine = sum_by-cons (part (is_of i)) job jobs in
      omega arith

  module _ (now : ℕ) (it : IsLoaded now (now + 1)) (more : now + 1 < demand tasks task (now + 1)) where
    -- there is work of this priority or a higher one for more than a unit
    busy : 2 ≤ backlog tasks task.priority it.state.pending
    busy = let within = demanded_within (now + 1) (omega arith) in let loaded = it.loaded in omega arith

    -- so a job of this priority or a higher one runs
    one_run : (k : ℕ) (next : State) → IsRun tasks it.state k next → IsLoaded (now + 1) (now + 1)
    one_run k next run =
        let p = task.priority in
        let is_sound = sound tasks (all_released 0 tasks ++ it.later) it.state it.schedule in
        let test = λ (j : Job). nat_le (priority_of tasks j.task) p in
        let some = busy in
        let high : priority_of tasks k ≤ p = elim (cases_lt p (priority_of tasks k)) [
          | inr le ↦ le
          | inl lower ↦
              let none = no_backlog tasks p it.state.pending
              (All-weaker (λ (j : Job). priority_of tasks k ≤ priority_of tasks j.task) (λ (j : Job). p < priority_of tasks j.task) (λ j le. omega arith) it.state.pending run.highest) in
              absurd (omega arith)
        ] in
        let whose : priority_of tasks run.job.task ≡ priority_of tasks k = ap (priority_of tasks) run.of_task in
        let taken : left_of test next.pending + cond {A = ℕ} (test run.job) 1 0 ≡ left_of test it.state.pending = left_run tasks test it.state k next run is_sound.alive (λ left. refl) in
        let counts_one : cond {A = ℕ} (test run.job) 1 0 ≡ 1 = let e = le-leb (priority_of tasks run.job.task) p (omega arith) in rw e refl in
        let less : backlog tasks p next.pending + 1 ≡ backlog tasks p it.state.pending = omega arith in
        let mine = left_run tasks (is_of i) it.state k next run is_sound.alive (λ left. refl) in
        let later = run.time in
        let then = it.time in
        let loaded = it.loaded in
        let before_left = it.left in
        record {
          later = it.later ++ Run k ∷ [];
          state = next;
          schedule = subst (λ (es : List Event). Schedule tasks es next) (append_assoc (all_released 0 tasks) it.later (Run k ∷ [])) (goes_on (Run k) next it.schedule run);
          time = omega arith;
          loaded = omega arith;
          left = elim (cases_eq run.job.task i) [
            | inr other ↦ let no = ne_eqb run.job.task i other in let none : cond {A = ℕ} (is_of i run.job) 1 0 ≡ 0 = rw no refl in omega arith
            | inl own ↦
                let rank : priority_of tasks k ≡ p = sym whose ∙ ap (priority_of tasks) own ∙ priority_is tasks i task is in
                let low = run_keeps tasks (λ (j : Job). p ≤ priority_of tasks j.task) it.state k next run
                (All-weaker (λ (j : Job). priority_of tasks k ≤ priority_of tasks j.task) (λ (j : Job). p ≤ priority_of tasks j.task) (λ j le. omega arith) it.state.pending run.highest)
                (λ more_left le. le) in
                let known = run_keeps tasks (λ (j : Job). j.task < length tasks) it.state k next run is_sound.known (λ more_left there. there) in
                let all = own_backlog next.pending low known in
                omega arith
          ];
          own = run_keeps tasks (λ (j : Job). j.task ≡ i → j.release ≡ 0) it.state k next run it.own (λ more_left at. at);
          lasts = λ j before other there last. it.lasts j before other there (ap (λ (l : List (Option ℕ)). slice_get l j) (sym run.last) ∙ last);
        }

    one_event : (event : Event) (next : State) → IsStep tasks it.state event next → next.time ≡ it.state.time + 1 → IsLoaded (now + 1) (now + 1)
    one_event (Release k work) next step later = let same = step.time in absurd (omega arith)
    one_event (Run k) next step later = one_run k next step
    one_event Idle next step later =
        let none : backlog tasks task.priority it.state.pending ≡ 0 = ap (backlog tasks task.priority) step.none in
        let some = busy in
        absurd (omega arith)

    one_unit : IsLoaded (now + 1) (now + 1)
    one_unit = let passes = time_goes_on tasks it.state in one_event passes.event passes.next passes.step passes.later

  -- what is due is released
  module _ (now : ℕ) (it : IsLoaded now now) (some : 1 ≤ now) (short : now < task.period) where
    refilled : IsLoaded now (now + 1)
    refilled =
        let p = task.priority in
        let then = it.time in
        let due = is_due now in
        let fill = filled tasks (λ j other there. range_of tasks are j other there) due [] tasks 0 (all_released 0 tasks ++ it.later) it.state refl refl
        (λ j other before low there e last.
        let was = it.lasts j before other there last in
        let apart = multiples before now other.period was.0 (eqb-true (now % other.period) 0 e) was.1 in
        omega arith)
        it.schedule in
        let jobs = due_jobs due it.state.time 0 tasks in
        let f = λ (j : Job). counted p (priority_of tasks j.task) j.left in
        let work : backlog tasks p fill.next.pending ≡ backlog tasks p it.state.pending + backlog tasks p jobs = ap (backlog tasks p) fill.pending ∙ sum_by-append f it.state.pending jobs in
        let brings = due_backlog tasks due it.state.time p [] tasks 0 refl refl in
        let more = bring_more p now tasks are.ranges in
        let loaded = it.loaded in
        let mine : left_of (is_of i) fill.next.pending ≡ left_of (is_of i) it.state.pending + left_of (is_of i) jobs = ap (left_of (is_of i)) fill.pending ∙ sum_by-append (part (is_of i)) it.state.pending jobs in
        let before_left = it.left in
        let same_time = fill.time in
        record {
          later = it.later ++ due_events due 0 tasks;
          state = fill.next;
          schedule = subst (λ (es : List Event). Schedule tasks es fill.next) (append_assoc (all_released 0 tasks) it.later (due_events due 0 tasks)) fill.schedule;
          time = omega arith;
          loaded = omega arith;
          left = omega arith;
          own = subst (λ (js : List Job). All (λ (j : Job). j.task ≡ i → j.release ≡ 0) js) (sym fill.pending)
              (All-append (λ (j : Job). j.task ≡ i → j.release ≡ 0) it.state.pending jobs it.own
              (All-weaker (IsDueJob tasks due it.state.time) (λ (j : Job). j.task ≡ i → j.release ≡ 0)
              (λ j whose own. absurd (not_due whose.task (subst (λ (m : ℕ). IsTask tasks m whose.task) own whose.is) whose.is_due))
              jobs (are_due tasks due it.state.time [] tasks 0 refl refl)));
          lasts = λ j before other there last. elim (fill.lasts j other before there last) [
            | inl was ↦ let old = it.lasts j before other there was in let low = old.1 in (old.0, omega arith)
            | inr wrote ↦
                let at = wrote.0 in
                let whole : before ≡ now = omega arith in
                (rw whole (eqb-true (now % other.period) 0 wrote.1), omega arith)
          ];
        }
      where
        not_due : (other : Task) → IsTask tasks i other → is_due now other ≡ true → ⊥
        not_due other there e =
            let same : other ≡ task = cc in
            let mine : now % task.period ≡ 0 = subst (λ (t : Task). now % t.period ≡ 0) same (eqb-true (now % other.period) 0 e) in
            let parts = div-add-mod' now task.period in
            elim (cases_lt 0 (now / task.period)) [
              | inr none ↦ let zero_times = mul-le-mul_right {m = now / task.period} {n = 0} task.period none in omega arith
              | inl full ↦ let one_time = mul-le-mul_right {m = 1} {n = now / task.period} task.period full in omega arith
            ]

  -- at the beginning each task is released
  at_first : IsLoaded 0 1
  at_first =
      let p = task.priority in
      let due = λ (t : Task). true in
      let start = empty_state tasks in
      let fill = filled tasks (λ j other there. range_of tasks are j other there) due [] tasks 0 [] start refl refl
      (λ j other before low there e last. absurd (none_released (length tasks) j before last))
      begins in
      let jobs = due_jobs due 0 0 tasks in
      let work : backlog tasks p fill.next.pending ≡ backlog tasks p jobs = ap (backlog tasks p) fill.pending in
      let brings = due_backlog tasks due 0 p [] tasks 0 refl refl in
      let more = bring_more p 0 tasks are.ranges in
      let none = bring_none p tasks in
      let all = each_due p tasks in
      let range = own_range in
      let mine : left_of (is_of i) fill.next.pending ≡ left_of (is_of i) jobs = ap (left_of (is_of i)) fill.pending in
      let own_left = due_left tasks due 0 i i 0 task tasks is (omega arith) refl range.cost in
      let events : due_events due 0 tasks ≡ all_released 0 tasks ++ [] = all_due 0 tasks ∙ sym (append-nil (all_released 0 tasks)) in
      record {
        later = [];
        state = fill.next;
        schedule = subst (λ (es : List Event). Schedule tasks es fill.next) events fill.schedule;
        time = fill.time;
        loaded = omega arith;
        left = omega arith;
        own = subst (λ (js : List Job). All (λ (j : Job). j.task ≡ i → j.release ≡ 0) js) (sym fill.pending)
            (All-weaker (IsDueJob tasks due 0) (λ (j : Job). j.task ≡ i → j.release ≡ 0) (λ j whose own. whose.release) jobs (are_due tasks due 0 [] tasks 0 refl refl));
        lasts = λ j before other there last. elim (fill.lasts j other before there last) [
          | inl was ↦ absurd (none_released (length tasks) j before was)
          | inr wrote ↦ let at : before ≡ 0 = wrote.0 in (rw at (zero-mod other.period), omega arith)
        ];
      }
    where
      each_due : (p : ℕ) (ts : List Task) → sum_by (λ t. cond (is_due 0 t) (counted p t.priority t.cost) 0) ts ≤ sum_by (λ t. cond true (counted p t.priority t.cost) 0) ts
      each_due p ts = sum_by-le-sum_by (λ (t : Task). cond (is_due 0 t) (counted p t.priority t.cost) 0) (λ (t : Task). cond true (counted p t.priority t.cost) 0) ts
          (λ t. by_test (is_due 0 t) (λ e. rw e (omega arith)) (λ e. rw e (omega arith)))

  -- and so it goes on while more is demanded than there is time
  loaded_at : (now : ℕ) → now < task.period → ((s : ℕ) → 1 ≤ s → s ≤ now → s < demand tasks task s) → IsLoaded now (now + 1)
  loaded_at zero short more = at_first
  loaded_at (suc now) short more =
      let before = loaded_at now (omega arith) (λ s one low. more s one (omega arith)) in
      let after : IsLoaded (now + 1) (now + 1) = one_unit now before (more (now + 1) (omega arith) (omega arith)) in
      let place : now + 1 ≡ suc now = omega arith in
      refilled (suc now) (subst (λ (m : ℕ). IsLoaded m m) place after) (omega arith) short

  -- where its job is pending still
  still : (now n : ℕ) → IsLoaded now n → StaysFor tasks i now
  still now n it =
      let there = some_job it.state.pending it.left in
      let job = get_or it.state.pending there.0 there.1 in
      record {
        later = it.later;
        state = it.state;
        schedule = it.schedule;
        now = it.time;
        job = job;
        pending = Contains-get_or it.state.pending there.0 there.1 there.2;
        of_task = there.3;
        released = it.own there.0 there.1 there.2 there.3;
      }
    where
      some_job : (jobs : List Job) → 1 ≤ left_of (is_of i) jobs → (k : ℕ) × (d : Job) × (k < length jobs) × ((get_or jobs k d).task ≡ i)
      some_job [] some = absurd (omega arith)
      some_job (x ∷ jobs) some =
          let sum = sum_by-cons (part (is_of i)) x jobs in
          by_test (nat_eq x.task i)
          (λ e. (0, x, omega arith, eqb-true x.task i e))
          (λ e.
          let none : part (is_of i) x ≡ 0 = rw e refl in
          let more = some_job jobs (omega arith) in
          let low = more.2 in
          (suc more.0, more.1, omega arith, more.3))

  pub stays : (units : ℕ) → units ≤ task.period → ((s : ℕ) → 1 ≤ s → s ≤ units → s < demand tasks task s) → StaysFor tasks i units
  stays zero within more = still 0 1 at_first
  stays (suc units) within more =
      let before = loaded_at units (omega arith) (λ s one low. more s one (omega arith)) in
      let after : IsLoaded (units + 1) (units + 1) = one_unit units before (more (units + 1) (omega arith) (omega arith)) in
      let place : units + 1 ≡ suc units = omega arith in
      subst (λ (m : ℕ). StaysFor tasks i m) place (still (units + 1) (units + 1) after)

pub times_are_reached : TimesAreReached
times_are_reached tasks i task time units are is response short =
    let range = range_of tasks are i task is in
    let due = response.due in
    let constrained = range.constrained in
    stays tasks are i task is units (omega arith)
    (λ s one low. demanded tasks task s range.cost (λ other solves. let least = response.least.least other solves in omega arith) one)

pub late_tasks_miss : LateTasksMissTheirDeadlines
late_tasks_miss tasks i task are is late =
    let range = range_of tasks are i task is in
    stays tasks are i task is task.deadline range.constrained
    (λ s one low. demanded tasks task s range.cost (λ other solves. let past = late other solves in omega arith) one)

pub no_smaller : NoSmallerTimesHold
no_smaller tasks times i task time are finish is response = elim (cases_lt (slice_index times i) time) [
  | inr le ↦ le
  | inl less ↦
      let stay = times_are_reached tasks i task time (slice_index times i) are is response less in
      let soon = All-contains (λ (job : Job). stay.state.time < job.release + slice_index times job.task) stay.state.pending stay.job (finish (all_released 0 tasks ++ stay.later) stay.state stay.schedule) stay.pending in
      let same : slice_index times stay.job.task ≡ slice_index times i = ap (slice_index times) stay.of_task in
      let now = stay.now in
      let released = stay.released in
      absurd (omega arith)
]
