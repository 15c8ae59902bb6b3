-- What the events of a schedule tell of the state after them.
use Rattle.std.proofs.Common.{◌≡◌, ◌<◌, ◌≤◌, ◌+◌, ℕ, zero, suc, cond, List, [], ◌∷◌, ◌++◌, Option, Some, length, take, set, slice_get, ◌⊎◌, inl, inr, refl, sym, ap, ◌∙◌, subst, arith}
use Rattle.std.proofs.lemmas.Bool.{cases_lt, cases_eq}
use Rattle.std.proofs.lemmas.List.{take_all}
use Rattle.std.proofs.lemmas.List.Sums.{sum_by_push}
use Rattle.std.proofs.lemmas.Option.{slice_get_within}
use Rattle.std.specs.Bool.{nat_eq, nat_le}
use Rattle.cost_table.specs.declared.task_set.Task.{Task}
use Rattle.response_time.specs.Schedules.{Job, State, Event, Release, Run, Idle, IsReleased, IsRun, IsIdled, IsStep, Schedule, begins, goes_on, empty_state}
use Rattle.response_time.specs.Events.{duration, units, released_by, released, done_by, done, IsReleaseAt}
use Rattle.response_time.proofs.EventLists.{push_cases, push_keeps, push_at, push_take, push_whole, time_parts}
use Rattle.response_time.proofs.Sound.{IsSound, sound, none_released}
use Rattle.response_time.proofs.WorkLeft.{left_of, is_of, is_until, until_of, until_rises, both_less, left_run, left_push}

-- what the events tell of the work that is left, of all of it and of what was released by a moment
pub record TellsWork (events : List Event) (state : State) : Type 0 where
  pub time : state.time ≡ units events
  pub all : (i : ℕ) → released i events ≡ done i events + left_of (is_of i) state.pending
  pub each : (n i : ℕ) → released i (take n events) ≤ done i events + left_of (is_until i (units (take n events))) state.pending

-- and of the last releases
pub record TellsLast (events : List Event) (state : State) : Type 0 where
  pub at : (k t : ℕ) → slice_get state.last k ≡ Some (Some t) → (n work : ℕ) × IsReleaseAt events n k work × (units (take n events) ≡ t)
  pub since : (n k work : ℕ) → IsReleaseAt events n k work → (t : ℕ) × (slice_get state.last k ≡ Some (Some t)) × (units (take n events) ≤ t)

-- sums of events with one event more
more_units : (events : List Event) (event : Event) → units (events ++ event ∷ []) ≡ units events + duration event
more_units events event = sum_by_push duration events event

more_released : (i : ℕ) (events : List Event) (event : Event) → released i (events ++ event ∷ []) ≡ released i events + released_by i event
more_released i events event = sum_by_push (released_by i) events event

more_done : (i : ℕ) (events : List Event) (event : Event) → done i (events ++ event ∷ []) ≡ done i events + done_by i event
more_done i events event = sum_by_push (done_by i) events event

-- what was released by a moment, from what it was an event ago and what it is now
each_more : (events : List Event) (event : Event) (before after : List Job) (i : ℕ)
    → ((n : ℕ) → released i (take n events) ≤ done i events + left_of (is_until i (units (take n events))) before)
    → ((r : ℕ) → done i events + left_of (is_until i r) before ≤ done i (events ++ event ∷ []) + left_of (is_until i r) after)
    → released i (events ++ event ∷ []) ≤ done i (events ++ event ∷ []) + left_of (is_until i (units (events ++ event ∷ []))) after
    → (n : ℕ) → released i (take n (events ++ event ∷ [])) ≤ done i (events ++ event ∷ []) + left_of (is_until i (units (take n (events ++ event ∷ [])))) after
each_more events event before after i was keeps now n = elim (cases_lt (length events) n) [
  | inl more ↦ rw (push_whole events n event more) now
  | inr le ↦
      let old = was n in
      let kept = keeps (units (take n events)) in
      rw (push_take events n event le) (omega arith)
]

-- all that was released, from what it was an event ago
all_until : (events : List Event) (state : State) (i : ℕ) → TellsWork events state → released i events ≤ done i events + left_of (is_until i (units events)) state.pending
all_until events state i told =
    let whole : take (length events) events ≡ events = take_all (length events) events (omega arith) in
    subst (λ (es : List Event). released i es ≤ done i events + left_of (is_until i (units es)) state.pending) whole (told.each (length events) i)

module _ (tasks : List Task) (events : List Event) (state : State) (sound : IsSound tasks state) (told : TellsWork events state) where
  work_released : (k work : ℕ) (next : State) → IsReleased tasks state k work next → TellsWork (events ++ Release k work ∷ []) next
  work_released k work next step =
      let event : Event = Release k work in
      let job : Job = record { task = k; release = state.time; left = work } in
      let now = step.time in
      let then = told.time in
      let later = more_units events event in
      record {
        time = omega arith;
        all = λ i.
            let up = more_released i events event in
            let same = more_done i events event in
            let pushed = left_push (is_of i) state.pending next.pending job step.pending in
            let was = told.all i in
            omega arith;
        each = λ n i.
            let up = more_released i events event in
            let same = more_done i events event in
            each_more events event state.pending next.pending i (λ m. told.each m i)
            (λ r. let pushed = left_push (is_until i r) state.pending next.pending job step.pending in omega arith)
            (let r = units (events ++ event ∷ []) in
            let was = all_until events state i told in
            let rises = until_rises i (units events) r state.pending (omega arith) in
            let pushed = left_push (is_until i r) state.pending next.pending job step.pending in
            let counts = until_of i r job (omega arith) in
            omega arith)
            n;
      }

  work_run : (k : ℕ) (next : State) → IsRun tasks state k next → TellsWork (events ++ Run k ∷ []) next
  work_run k next step =
      let event : Event = Run k in
      let now = step.time in
      let then = told.time in
      let later = more_units events event in
      record {
        time = omega arith;
        all = λ i.
            let up = more_released i events event in
            let more = more_done i events event in
            let left = left_run tasks (is_of i) state k next step sound.alive (λ left. refl) in
            let whose : cond {A = ℕ} (nat_eq step.job.task i) 1 0 ≡ cond {A = ℕ} (nat_eq k i) 1 0 = ap (λ (m : ℕ). cond {A = ℕ} (nat_eq m i) 1 0) step.of_task in
            let was = told.all i in
            omega arith;
        each = λ n i.
            let up = more_released i events event in
            let more = more_done i events event in
            let whose : cond {A = ℕ} (nat_eq step.job.task i) 1 0 ≡ cond {A = ℕ} (nat_eq k i) 1 0 = ap (λ (m : ℕ). cond {A = ℕ} (nat_eq m i) 1 0) step.of_task in
            let keeps : (r : ℕ) → done i events + left_of (is_until i r) state.pending ≤ done i (events ++ event ∷ []) + left_of (is_until i r) next.pending =
            λ r.
            let left = left_run tasks (is_until i r) state k next step sound.alive (λ left. refl) in
            let less = both_less (nat_eq step.job.task i) (nat_le step.job.release r) in
            omega arith in
            each_more events event state.pending next.pending i (λ m. told.each m i) keeps
            (let r = units (events ++ event ∷ []) in
            let was = all_until events state i told in
            let rises = until_rises i (units events) r next.pending (omega arith) in
            let kept = keeps (units events) in
            omega arith)
            n;
      }

  work_idled : (next : State) → IsIdled state next → TellsWork (events ++ Idle ∷ []) next
  work_idled next step =
      let event : Event = Idle in
      let now = step.time in
      let then = told.time in
      let later = more_units events event in
      let same : state.pending ≡ next.pending = step.none ∙ sym step.pending in
      record {
        time = omega arith;
        all = λ i.
            let up = more_released i events event in
            let more = more_done i events event in
            let left : left_of (is_of i) state.pending ≡ left_of (is_of i) next.pending = ap (left_of (is_of i)) same in
            let was = told.all i in
            omega arith;
        each = λ n i.
            let up = more_released i events event in
            let more = more_done i events event in
            let keeps : (r : ℕ) → done i events + left_of (is_until i r) state.pending ≤ done i (events ++ event ∷ []) + left_of (is_until i r) next.pending =
            λ r.
            let left : left_of (is_until i r) state.pending ≡ left_of (is_until i r) next.pending = ap (left_of (is_until i r)) same in
            omega arith in
            each_more events event state.pending next.pending i (λ m. told.each m i) keeps
            (let r = units (events ++ event ∷ []) in
            let was = all_until events state i told in
            let rises = until_rises i (units events) r next.pending (omega arith) in
            let kept = keeps (units events) in
            omega arith)
            n;
      }

-- ---- the last releases

-- what stands in a list after a write is what was written there, or stood there
pub write_cases : {X : Type 0} (xs : List X) (i k : ℕ) (x y : X) → slice_get (set xs i x) k ≡ Some y
    → ((k ≡ i) × (x ≡ y)) ⊎ (slice_get xs k ≡ Some y)
write_cases [] i k x y is = inr is
write_cases (z ∷ xs) zero zero x y is = inl (refl, cc)
write_cases (z ∷ xs) zero (suc k) x y is = inr is
write_cases (z ∷ xs) (suc i) zero x y is = inr is
write_cases (z ∷ xs) (suc i) (suc k) x y is = elim (write_cases xs i k x y is) [
  | inl now ↦ inl (ap suc now.0, now.1)
  | inr was ↦ inr was
]

write_at : {X : Type 0} (xs : List X) (i : ℕ) (x : X) → i < length xs → slice_get (set xs i x) i ≡ Some x
write_at [] i x low = absurd (omega arith)
write_at (z ∷ xs) zero x low = refl
write_at (z ∷ xs) (suc i) x low = write_at xs i x (omega arith)

write_other : {X : Type 0} (xs : List X) (i k : ℕ) (x : X) → (k ≡ i → ⊥) → slice_get (set xs i x) k ≡ slice_get xs k
write_other [] i k x other = refl
write_other (z ∷ xs) zero zero x other = absurd (other refl)
write_other (z ∷ xs) zero (suc k) x other = refl
write_other (z ∷ xs) (suc i) zero x other = refl
write_other (z ∷ xs) (suc i) (suc k) x other = write_other xs i k x (λ e. other (ap suc e))

-- the time before an event that stood there, with one event more
time_kept : (events : List Event) (n : ℕ) (event : Event) → n ≤ length events → units (take n (events ++ event ∷ [])) ≡ units (take n events)
time_kept events n event le = ap units (push_take events n event le)

-- and before that one
time_last : (events : List Event) (n : ℕ) (event : Event) → n ≡ length events → units (take n (events ++ event ∷ [])) ≡ units events
time_last events n event e = time_kept events n event (omega arith) ∙ ap units (take_all n events (omega arith))

-- an event that is no release leaves the last releases as they are
last_kept : (events : List Event) (state next : State) (event : Event) → ((k work : ℕ) → event ≡ Release k work → ⊥)
    → next.last ≡ state.last → TellsLast events state → TellsLast (events ++ event ∷ []) next
last_kept events state next event other same told = record {
  at = λ k t is.
      let was = told.at k t (ap (λ (l : List (Option ℕ)). slice_get l k) (sym same) ∙ is) in
      let low = slice_get_within events was.0 (Release k was.1) was.2 in
      (was.0, was.1, push_keeps events was.0 event (Release k was.1) was.2, time_kept events was.0 event (omega arith) ∙ was.3);
  since = λ n k work is. elim (push_cases events n event (Release k work) is) [
    | inl was ↦
        let then = told.since n k work was.1 in
        let low = was.0 in
        let kept = time_kept events n event (omega arith) in
        let early = then.2 in
        (then.0, ap (λ (l : List (Option ℕ)). slice_get l k) same ∙ then.1, omega arith)
    | inr now ↦ absurd (other k work now.1)
  ];
}

last_released : (tasks : List Task) (events : List Event) (state : State) (j work : ℕ) (next : State) → IsSound tasks state
    → state.time ≡ units events → IsReleased tasks state j work next → TellsLast events state
    → TellsLast (events ++ Release j work ∷ []) next
last_released tasks events state j work next sound time step told =
    let event : Event = Release j work in
    let low_task = slice_get_within tasks j step.task step.is in
    let long = sound.one_each in
    record {
      at = λ k t is. elim (write_cases state.last j k (Some state.time) (Some t) (ap (λ (l : List (Option ℕ)). slice_get l k) (sym step.last) ∙ is)) [
        | inl now ↦
            let same : state.time ≡ t = (let e = now.1 in cc) in
            (length events, work, subst (λ (m : ℕ). IsReleaseAt (events ++ event ∷ []) (length events) m work) (sym now.0) (push_at events event), time_last events (length events) event refl ∙ sym time ∙ same)
        | inr stood ↦
            let was = told.at k t stood in
            let low = slice_get_within events was.0 (Release k was.1) was.2 in
            (was.0, was.1, push_keeps events was.0 event (Release k was.1) was.2, time_kept events was.0 event (omega arith) ∙ was.3)
      ];
      since = λ n k w is. elim (push_cases events n event (Release k w) is) [
        | inl was ↦
            let low = was.0 in
            let kept = time_kept events n event (omega arith) in
            let parts = time_parts events n in
            elim (cases_eq k j) [
              | inl same ↦ (state.time, rw (step.last, same) (write_at state.last j (Some state.time) (omega arith)), omega arith)
              | inr other ↦
                  let then = told.since n k w was.1 in
                  let early = then.2 in
                  (then.0, rw step.last (write_other state.last j k (Some state.time) other ∙ then.1), omega arith)
            ]
        | inr now ↦
            let e = now.1 in
            let same : k ≡ j = cc in
            let last = time_last events n event now.0 in
            (state.time, rw (step.last, same) (write_at state.last j (Some state.time) (omega arith)), omega arith)
      ];
    }

-- ---- all of it

pub record IsTold (events : List Event) (state : State) : Type 0 where
  pub work : TellsWork events state
  pub last : TellsLast events state

told_first : (tasks : List Task) → IsTold [] (empty_state tasks)
told_first tasks = record {
  work = record { time = refl; all = λ i. refl; each = λ n i. let none : take {A = Event} n [] ≡ [] = take_all n [] (omega arith) in rw none (omega arith) };
  last = record { at = λ k t is. absurd (none_released (length tasks) k t is); since = λ n k work is. absurd (cc) };
}

told_step : (tasks : List Task) (events : List Event) (state : State) (event : Event) (next : State) → IsSound tasks state
    → IsTold events state → IsStep tasks state event next → IsTold (events ++ event ∷ []) next
told_step tasks events state (Release i work) next sound told step = record {
  work = work_released tasks events state sound told.work i work next step;
  last = last_released tasks events state i work next sound told.work.time step told.last;
}
told_step tasks events state (Run i) next sound told step = record {
  work = work_run tasks events state sound told.work i next step;
  last = last_kept events state next (Run i) (λ k work e. cc) step.last told.last;
}
told_step tasks events state Idle next sound told step = record {
  work = work_idled tasks events state sound told.work next step;
  last = last_kept events state next Idle (λ k work e. cc) step.last told.last;
}

pub told : (tasks : List Task) (events : List Event) (state : State) → Schedule tasks events state → IsTold events state
told tasks events state begins = told_first tasks
told tasks events state (goes_on {events = before} {state = old} event next schedule step) =
    told_step tasks before old event next (sound tasks before old schedule) (told tasks before old schedule) step
