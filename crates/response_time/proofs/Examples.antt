-- The worked schedules and times.
use Rattle.std.proofs.Common.{◌≡◌, ◌<◌, ◌≤◌, ℕ, zero, suc, List, [], ◌∷◌, ◌++◌, None, Some, slice_index, refl, ap, subst, arith}
use Rattle.std.proofs.lemmas.List.Elements.{All-from_recursion}
use Rattle.std.specs.List.{All}
use Rattle.cost_table.specs.declared.task_set.Task.{Task}
use Rattle.cost_table.specs.Tasks.{IsInRange, IsTask}
use Rattle.response_time.specs.Responses.{IsResponse, AreResponses, IsFirstLate}
use Rattle.response_time.specs.Schedules.{Job, State, Event, Release, Run, Idle, IsStep, Schedule, begins, empty_state, after_a_unit}
use Rattle.response_time.specs.Events.{GoesOn}
use Rattle.response_time.specs.Shares.{IsCrowdedOut}
use Rattle.response_time.specs.Worked.{numbered, due_at, three, nine, two, later_first, near_full, least}
use Rattle.response_time.proofs.Allowed.{is_released, is_run, is_idle}
use Rattle.response_time.proofs.Crowding.{crowded_late}
use Rattle.response_time.proofs.Playing.{release, run, runs}
use Rattle.response_time.proofs.Rising.{IsCandidate, first, next, found, next_past}

-- ---- three tasks

-- the events of the schedule, one more with each line
abbrev low : ℕ → Job
low left = record { task = 2; release = 0; left = left }

abbrev middle : ℕ → Job
middle left = record { task = 1; release = 1; left = left }

abbrev high : ℕ → Job
high left = record { task = 0; release = 2; left = left }

abbrev at : ℕ → List Job → State
at time pending = record { time = time; pending = pending; last = Some 2 ∷ Some 1 ∷ Some 0 ∷ [] }

abbrev begun : List Event
begun = Release 2 4 ∷ Run 2 ∷ Release 1 3 ∷ Run 1 ∷ Release 0 3 ∷ []

all_released : Schedule three begun (at 2 (low 3 ∷ middle 2 ∷ high 3 ∷ []))
all_released =
    let s0 : Schedule three [] (empty_state three) = begins in
    let s1 = release three [] (empty_state three) 2 4 (numbered 307 3000 3000 3) s0 refl refl refl refl in
    let p1 : State = record { time = 0; pending = low 4 ∷ []; last = None ∷ None ∷ Some 0 ∷ [] } in
    let s2 = run three (Release 2 4 ∷ []) p1 [] [] (low 4) s1 refl refl refl in
    let p2 : State = record { time = 1; pending = low 3 ∷ []; last = None ∷ None ∷ Some 0 ∷ [] } in
    let s3 = release three (Release 2 4 ∷ Run 2 ∷ []) p2 1 3 (numbered 531 2000 1500 2) s2 refl refl refl refl in
    let p3 : State = record { time = 1; pending = low 3 ∷ middle 3 ∷ []; last = None ∷ Some 1 ∷ Some 0 ∷ [] } in
    let s4 = run three (Release 2 4 ∷ Run 2 ∷ Release 1 3 ∷ []) p3 (low 3 ∷ []) [] (middle 3) s3 refl refl refl in
    let p4 : State = record { time = 2; pending = low 3 ∷ middle 2 ∷ []; last = None ∷ Some 1 ∷ Some 0 ∷ [] } in
    release three (Release 2 4 ∷ Run 2 ∷ Release 1 3 ∷ Run 1 ∷ []) p4 0 3 (numbered 133 400 400 1) s4 refl refl refl refl

pub nine_units : Schedule three nine (at 9 (low 1 ∷ []))
nine_units =
    let s5 = run three begun (at 2 (low 3 ∷ middle 2 ∷ high 3 ∷ [])) (low 3 ∷ middle 2 ∷ []) [] (high 3) all_released refl refl refl in
    let s6 = run three (begun ++ Run 0 ∷ []) (at 3 (low 3 ∷ middle 2 ∷ high 2 ∷ [])) (low 3 ∷ middle 2 ∷ []) [] (high 2) s5 refl refl refl in
    let s7 = run three (begun ++ Run 0 ∷ Run 0 ∷ []) (at 4 (low 3 ∷ middle 2 ∷ high 1 ∷ [])) (low 3 ∷ middle 2 ∷ []) [] (high 1) s6 refl refl refl in
    let s8 = run three (begun ++ Run 0 ∷ Run 0 ∷ Run 0 ∷ []) (at 5 (low 3 ∷ middle 2 ∷ [])) (low 3 ∷ []) [] (middle 2) s7 refl refl refl in
    let s9 = run three (begun ++ Run 0 ∷ Run 0 ∷ Run 0 ∷ Run 1 ∷ []) (at 6 (low 3 ∷ middle 1 ∷ [])) (low 3 ∷ []) [] (middle 1) s8 refl refl refl in
    let s10 = run three (begun ++ Run 0 ∷ Run 0 ∷ Run 0 ∷ Run 1 ∷ Run 1 ∷ []) (at 7 (low 3 ∷ [])) [] [] (low 3) s9 refl refl refl in
    run three (begun ++ Run 0 ∷ Run 0 ∷ Run 0 ∷ Run 1 ∷ Run 1 ∷ Run 2 ∷ []) (at 8 (low 2 ∷ [])) [] [] (low 2) s10 refl refl refl

pub ten_units : Schedule three (nine ++ Run 2 ∷ []) (at 10 [])
ten_units = run three nine (at 9 (low 1 ∷ [])) [] [] (low 1) nine_units refl refl refl

-- ---- two tasks

abbrev one_job : ℕ → ℕ → Job
one_job i release = record { task = i; release = release; left = 1 }

pub again : Schedule two (Release 0 1 ∷ Run 0 ∷ Release 1 1 ∷ Run 1 ∷ Release 0 1 ∷ [])
    (record { time = 2; pending = one_job 0 2 ∷ []; last = Some 2 ∷ Some 1 ∷ [] })
again =
    let s0 : Schedule two [] (empty_state two) = begins in
    let s1 = release two [] (empty_state two) 0 1 (numbered 1 2 2 0) s0 refl refl refl refl in
    let p1 : State = record { time = 0; pending = one_job 0 0 ∷ []; last = Some 0 ∷ None ∷ [] } in
    let s2 = run two (Release 0 1 ∷ []) p1 [] [] (one_job 0 0) s1 refl refl refl in
    let p2 : State = record { time = 1; pending = []; last = Some 0 ∷ None ∷ [] } in
    let s3 = release two (Release 0 1 ∷ Run 0 ∷ []) p2 1 1 (numbered 1 3 3 1) s2 refl refl refl refl in
    let p3 : State = record { time = 1; pending = one_job 1 1 ∷ []; last = Some 0 ∷ Some 1 ∷ [] } in
    let s4 = run two (Release 0 1 ∷ Run 0 ∷ Release 1 1 ∷ []) p3 [] [] (one_job 1 1) s3 refl refl refl in
    let p4 : State = record { time = 2; pending = []; last = Some 0 ∷ Some 1 ∷ [] } in
    release two (Release 0 1 ∷ Run 0 ∷ Release 1 1 ∷ Run 1 ∷ []) p4 0 1 (numbered 1 2 2 0) s4 refl refl refl refl

pub higher : Schedule two (Release 1 1 ∷ Release 0 1 ∷ Run 0 ∷ [])
    (record { time = 1; pending = one_job 1 0 ∷ []; last = Some 0 ∷ Some 0 ∷ [] })
higher =
    let s0 : Schedule two [] (empty_state two) = begins in
    let s1 = release two [] (empty_state two) 1 1 (numbered 1 3 3 1) s0 refl refl refl refl in
    let p1 : State = record { time = 0; pending = one_job 1 0 ∷ []; last = None ∷ Some 0 ∷ [] } in
    let s2 = release two (Release 1 1 ∷ []) p1 0 1 (numbered 1 2 2 0) s1 refl refl refl refl in
    let p2 : State = record { time = 0; pending = one_job 1 0 ∷ one_job 0 0 ∷ []; last = Some 0 ∷ Some 0 ∷ [] } in
    run two (Release 1 1 ∷ Release 0 1 ∷ []) p2 (one_job 1 0 ∷ []) [] (one_job 0 0) s2 refl refl refl

pub earlier : IsStep two later_first (Run 0) (record { time = 3; pending = one_job 0 2 ∷ []; last = Some 2 ∷ None ∷ [] })
earlier = runs two later_first (one_job 0 2 ∷ []) [] (one_job 0 0) refl refl refl

-- the later of two jobs does not run first
later_not : (front rest : List Job) (job : Job) → (one_job 0 2 ∷ one_job 0 0 ∷ []) ≡ front ++ job ∷ rest → job.release ≤ 0
    → (one_job 0 0 ∷ []) ≡ front ++ after_a_unit job ++ rest → ⊥
later_not [] rest job is low e =
    let same : one_job 0 2 ≡ job = cc in
    let release : 2 ≡ job.release = ap (λ (j : Job). j.release) same in
    omega arith
later_not (x ∷ front) rest job is low e =
    let was : one_job 0 2 ≡ x = cc in
    let then : one_job 0 0 ≡ x = cc in
    let one : 2 ≡ x.release = ap (λ (j : Job). j.release) was in
    let two : 0 ≡ x.release = ap (λ (j : Job). j.release) then in
    omega arith

pub later : IsStep two later_first (Run 0) (record { time = 3; pending = one_job 0 0 ∷ []; last = Some 2 ∷ None ∷ [] }) → ⊥
later step = later_not step.front step.rest step.job step.is (step.earliest 1 (one_job 0 0) (omega arith) refl) step.pending

pub too_soon : GoesOn two (Release 0 1 ∷ Run 0 ∷ []) (Release 0 1) → ⊥
too_soon goes =
    let may = is_released two (Release 0 1 ∷ Run 0 ∷ []) 0 1 goes in
    let is = may.is in
    let same : numbered 1 2 2 0 ≡ may.task = cc in
    let period : 2 ≡ may.task.period = ap (λ (t : Task). t.period) same in
    let rested : may.task.period ≤ 1 = may.rested 0 1 refl in
    omega arith

pub too_much : GoesOn two [] (Release 0 2) → ⊥
too_much goes =
    let may = is_released two [] 0 2 goes in
    let is = may.is in
    let same : numbered 1 2 2 0 ≡ may.task = cc in
    let cost : 1 ≡ may.task.cost = ap (λ (t : Task). t.cost) same in
    let within = may.within in
    omega arith

pub no_work : GoesOn two [] (Release 0 0) → ⊥
no_work goes = let some = (is_released two [] 0 0 goes).some in omega arith

pub lower_not : GoesOn two (Release 1 1 ∷ Release 0 1 ∷ []) (Run 1) → ⊥
lower_not goes =
    let may = is_run two (Release 1 1 ∷ Release 0 1 ∷ []) 1 goes in
    let is = may.is in
    let same : numbered 1 3 3 1 ≡ may.task = cc in
    let priority : 1 ≡ may.task.priority = ap (λ (t : Task). t.priority) same in
    let none : 1 ≤ 0 = may.highest 0 (numbered 1 2 2 0) refl (omega arith) in
    omega arith

pub idle_not : GoesOn two (Release 1 1 ∷ []) Idle → ⊥
idle_not goes = let none : 1 ≤ 0 = is_idle two (Release 1 1 ∷ []) goes 1 in omega arith

pub none_runs : GoesOn two (Release 1 1 ∷ []) (Run 0) → ⊥
none_runs goes = let work : 0 < 0 = (is_run two (Release 1 1 ∷ []) 0 goes).work in omega arith

-- ---- response times

module _ (last : ℕ) where
  highest_time : IsResponse (due_at last) (numbered 133 400 400 1) 133
  highest_time =
      let task = numbered 133 400 400 1 in
      found (due_at last) task 133 (first (due_at last) task (omega arith)) (omega arith) refl

  middle_time : IsResponse (due_at last) (numbered 531 2000 1500 2) 797
  middle_time =
      let task = numbered 531 2000 1500 2 in
      let c0 = first (due_at last) task (omega arith) in
      let c1 = next (due_at last) task 531 c0 797 refl in
      found (due_at last) task 797 c1 (omega arith) refl

  lowest_near : IsCandidate (due_at last) (numbered 307 3000 last 3) 1237
  lowest_near =
      let task = numbered 307 3000 last 3 in
      let c0 = first (due_at last) task (omega arith) in
      let c1 = next (due_at last) task 307 c0 971 refl in
      next (due_at last) task 971 c1 1237 refl

  lowest_time : 1370 ≤ last → IsResponse (due_at last) (numbered 307 3000 last 3) 1370
  lowest_time due =
      let task = numbered 307 3000 last 3 in
      found (due_at last) task 1370 (next (due_at last) task 1237 lowest_near 1370 refl) due refl

  pub times : 1370 ≤ last → AreResponses (due_at last) (133 ∷ 797 ∷ 1370 ∷ [])
  times due = record { one_each = refl; each = each_time }
    where
      each_time : (i : ℕ) (task : Task) → IsTask (due_at last) i task → IsResponse (due_at last) task (slice_index (133 ∷ 797 ∷ 1370 ∷ []) i)
      each_time zero task is = let same : numbered 133 400 400 1 ≡ task = cc in subst (λ (t : Task). IsResponse (due_at last) t 133) same highest_time
      each_time (suc zero) task is = let same : numbered 531 2000 1500 2 ≡ task = cc in subst (λ (t : Task). IsResponse (due_at last) t 797) same middle_time
      each_time (suc (suc zero)) task is = let same : numbered 307 3000 last 3 ≡ task = cc in subst (λ (t : Task). IsResponse (due_at last) t 1370) same (lowest_time due)
      each_time (suc (suc (suc i))) task is = absurd (cc)

pub late : IsFirstLate (due_at 1369) 2
late = record {
  task = numbered 307 3000 1369 3;
  is = refl;
  late = next_past (due_at 1369) (numbered 307 3000 1369 3) 1237 (lowest_near 1369) (omega arith);
  earlier = earlier_time;
}
  where
    earlier_time : (k : ℕ) (other : Task) → k < 2 → IsTask (due_at 1369) k other → (time : ℕ) × IsResponse (due_at 1369) other time
    earlier_time zero other less is = let same : numbered 133 400 400 1 ≡ other = cc in (133, subst (λ (t : Task). IsResponse (due_at 1369) t 133) same (highest_time 1369))
    earlier_time (suc zero) other less is = let same : numbered 531 2000 1500 2 ≡ other = cc in (797, subst (λ (t : Task). IsResponse (due_at 1369) t 797) same (middle_time 1369))
    earlier_time (suc (suc k)) other less is = absurd (omega arith)

-- ---- near full load

pub crowded : IsCrowdedOut near_full least
crowded = omega arith

pub crowded_is_late : IsFirstLate near_full 0
crowded_is_late = record {
  task = least;
  is = refl;
  late = crowded_late near_full least ranges (omega arith) crowded;
  earlier = λ k other less is. absurd (omega arith);
}
  where
    in_range : (cost period priority : ℕ) → 1 ≤ cost → 1 ≤ period → IsInRange (numbered cost period period priority)
    in_range cost period priority some long = record { cost = some; period = long; deadline = long; constrained = omega arith }

    ranges : All IsInRange near_full
    ranges =
        All-from_recursion IsInRange near_full
        (in_range 1 4294967295 7 (omega arith) (omega arith), (in_range 25 101 1 (omega arith) (omega arith), (in_range 15 116 2 (omega arith) (omega arith), (in_range 24 161 3 (omega arith) (omega arith), (in_range 10 177 4 (omega arith) (omega arith), (in_range 9 181 5 (omega arith) (omega arith), (in_range 71 193 6 (omega arith) (omega arith), tt)))))))
