-- The most work that may have been released since a moment, by the times of the last releases.
use Rattle.std.proofs.Common.{◌≡◌, ◌<◌, ◌≤◌, ◌+◌, ◌-◌, ◌*◌, ◌/◌, ℕ, zero, suc, List, [], ◌∷◌, Option, Some, None, length, set, slice_get, refl, ap, arith}
use Rattle.std.proofs.Math.Nat.{mul-le-mul_left, div-mul-le_self, zero-div}
use Rattle.std.proofs.lemmas.Grind.{div_ceil_times}
use Rattle.std.proofs.lemmas.Nat.{le-div}
use Rattle.std.proofs.lemmas.List.Elements.{All-head, All-tail}
use Rattle.std.proofs.lemmas.List.Sums.{sum_by-cons}
use Rattle.std.proofs.lemmas.Option.{slice_get_within}
use Rattle.std.specs.Int.{div_ceil}
use Rattle.std.specs.List.{All, sum_by}
use Rattle.cost_table.specs.declared.task_set.Task.{Task}
use Rattle.cost_table.specs.Tasks.{IsInRange, IsTask}
use Rattle.response_time.proofs.Rounding.{no_unit_more}
use Rattle.response_time.proofs.Priorities.{counted, counted_rises, counted_both}

-- when a task may be released next
abbrev pub next_release : Task → Option ℕ → ℕ
next_release task None = 0
next_release task (Some before) = before + task.period

-- the most work that one task has brought since the beginning
abbrev pub brought_by : ℕ → ℕ → Task → Option ℕ → ℕ
brought_by p begin task last = counted p task.priority (task.cost * ((next_release task last - begin) / task.period))

-- and all tasks
abbrev pub brought : ℕ → ℕ → List Task → List (Option ℕ) → ℕ
brought p begin [] lasts = 0
brought p begin (task ∷ tasks) [] = 0
brought p begin (task ∷ tasks) (last ∷ lasts) = brought_by p begin task last + brought p begin tasks lasts

-- a period more holds one release more
one_more : (period x y : ℕ) → 1 ≤ period → x + period ≤ y → x / period + 1 ≤ y / period
one_more period x y some le = let part = div-mul-le_self x period in le-div (x / period + 1) y period some (omega arith)

-- a release brings at most the cost
brings_more : (p begin now : ℕ) (task : Task) (last : Option ℕ) → 1 ≤ task.period → begin ≤ now
    → ((before : ℕ) → last ≡ Some before → before + task.period ≤ now)
    → brought_by p begin task last + counted p task.priority task.cost ≤ brought_by p begin task (Some now)
brings_more p begin now task None some begun apart =
    let more = one_more task.period (0 - begin) (now + task.period - begin) some (omega arith) in
    let times = mul-le-mul_left task.cost more in
    counted_both p task.priority (task.cost * ((0 - begin) / task.period)) task.cost (task.cost * ((now + task.period - begin) / task.period)) (omega arith)
brings_more p begin now task (Some before) some begun apart =
    let past = apart before refl in
    let more = one_more task.period (before + task.period - begin) (now + task.period - begin) some (omega arith) in
    let times = mul-le-mul_left task.cost more in
    counted_both p task.priority (task.cost * ((before + task.period - begin) / task.period)) task.cost (task.cost * ((now + task.period - begin) / task.period)) (omega arith)

pub brought_more : (p begin now : ℕ) (tasks : List Task) (lasts : List (Option ℕ)) (i : ℕ) (task : Task)
    → 1 ≤ task.period → begin ≤ now → length lasts ≡ length tasks → IsTask tasks i task
    → ((before : ℕ) → slice_get lasts i ≡ Some (Some before) → before + task.period ≤ now)
    → brought p begin tasks lasts + counted p task.priority task.cost ≤ brought p begin tasks (set lasts i (Some now))
brought_more p begin now [] lasts i task some begun long is apart = absurd (let low = slice_get_within [] i task is in omega arith)
brought_more p begin now (x ∷ tasks) [] i task some begun long is apart = absurd (omega arith)
brought_more p begin now (x ∷ tasks) (last ∷ lasts) zero task some begun long is apart =
    let same : x ≡ task = cc in
    let one = brings_more p begin now task last some begun (λ before e. apart before (ap Some e)) in
    rw same (omega arith)
brought_more p begin now (x ∷ tasks) (last ∷ lasts) (suc i) task some begun long is apart =
    let more = brought_more p begin now tasks lasts i task some begun (omega arith) is apart in
    omega arith

-- in a window no task brings more than a job for each period that begins in it
brings_within : (p begin now window : ℕ) (task : Task) (last : Option ℕ) → 1 ≤ task.period
    → ((before : ℕ) → last ≡ Some before → before ≤ now) → now < begin + window
    → brought_by p begin task last ≤ counted p task.priority (task.cost * div_ceil window task.period)
brings_within p begin now window task None some earlier short =
    let none = zero-div task.period in
    let few : (0 - begin) / task.period ≤ div_ceil window task.period = omega arith in
    counted_rises p task.priority _ _ (mul-le-mul_left task.cost few)
brings_within p begin now window task (Some before) some earlier short =
    let past = earlier before refl in
    let part = div-mul-le_self (before + task.period - begin) task.period in
    let covers = div_ceil_times window task.period some in
    let few = no_unit_more ((before + task.period - begin) / task.period) (div_ceil window task.period) task.period (omega arith) in
    counted_rises p task.priority _ _ (mul-le-mul_left task.cost few)

pub brought_within : (p begin now window : ℕ) (tasks : List Task) (lasts : List (Option ℕ)) → All IsInRange tasks
    → ((k before : ℕ) → slice_get lasts k ≡ Some (Some before) → before ≤ now) → now < begin + window
    → brought p begin tasks lasts ≤ sum_by (λ task. counted p task.priority (task.cost * div_ceil window task.period)) tasks
brought_within p begin now window [] lasts ranges earlier short = omega arith
brought_within p begin now window (task ∷ tasks) [] ranges earlier short = omega arith
brought_within p begin now window (task ∷ tasks) (last ∷ lasts) ranges earlier short =
    let one = brings_within p begin now window task last (All-head IsInRange task tasks ranges).period (λ before e. earlier 0 before (ap Some e)) short in
    let others = brought_within p begin now window tasks lasts (All-tail IsInRange task tasks ranges) (λ k before e. earlier (suc k) before e) short in
    let sum = sum_by-cons (λ (task : Task). counted p task.priority (task.cost * div_ceil window task.period)) task tasks in
    omega arith
