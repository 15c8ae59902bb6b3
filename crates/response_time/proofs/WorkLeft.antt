-- The work that is left of the jobs that pass a test which does not turn on this work.
use Rattle.std.proofs.Common.{◌≡◌, ◌≤◌, ◌+◌, ◌-◌, ◌&&◌, ℕ, Bool, true, false, cond, List, [], ◌∷◌, ◌++◌, refl, ap, ◌∙◌, subst, arith}
use Rattle.std.proofs.lemmas.Bool.{eqb-true, le-leb, leb-true, ne_eqb, eq-eqb}
use Rattle.std.proofs.lemmas.List.Elements.{All-head, All-tail}
use Rattle.std.proofs.lemmas.List.Sums.{sum_by-cons, sum_by-append, sum_by_push, sum_by-le-sum_by}
use Rattle.std.specs.Bool.{nat_eq, nat_le}
use Rattle.std.specs.List.{All, sum_by}
use Rattle.lists.specs.TestLaws.{by_test}
use Rattle.cost_table.specs.declared.task_set.Task.{Task}
use Rattle.response_time.specs.Schedules.{Job, State, IsRun, after_a_unit}
use Rattle.response_time.proofs.Backlog.{all_parts}

-- the work that is left of one job, if it passes, and of all that pass
abbrev pub part : (Job → Bool) → Job → ℕ
part test job = cond (test job) job.left 0

abbrev pub left_of : (Job → Bool) → List Job → ℕ
left_of test jobs = sum_by (part test) jobs

-- the job is of this task, and was released by this time
abbrev pub is_of : ℕ → Job → Bool
is_of i job = nat_eq job.task i

abbrev pub is_until : ℕ → ℕ → Job → Bool
is_until i r job = nat_eq job.task i && nat_le job.release r

-- a job that was released by then counts as one of its task
pub until_of : (i r : ℕ) (job : Job) → job.release ≤ r → part (is_until i r) job ≡ part (is_of i) job
until_of i r job le = let e = le-leb job.release r le in by_test (nat_eq job.task i) (λ t. rw t (rw e refl)) (λ t. rw t refl)

-- later there are no fewer
until_rises_one : (i r s : ℕ) (job : Job) → r ≤ s → part (is_until i r) job ≤ part (is_until i s) job
until_rises_one i r s job le =
    by_test (nat_eq job.task i)
    (λ t. rw t
    (by_test (nat_le job.release r)
    (λ early. let by_then = leb-true job.release r early in let later = le-leb job.release s (omega arith) in rw (early, later) (omega arith))
    (λ late. rw late (omega arith))))
    (λ t. rw t (omega arith))

pub until_rises : (i r s : ℕ) (jobs : List Job) → r ≤ s → left_of (is_until i r) jobs ≤ left_of (is_until i s) jobs
until_rises i r s jobs le = sum_by-le-sum_by (part (is_until i r)) (part (is_until i s)) jobs (λ job. until_rises_one i r s job le)

-- a test of two parts passes no more than its first
pub both_less : (a b : Bool) → cond (a && b) 1 0 ≤ cond a 1 0
both_less true true = omega arith
both_less true false = omega arith
both_less false b = omega arith

-- a unit of work takes one from what is left, if the job passes
unit_taken : (test : Job → Bool) (job : Job) → 1 ≤ job.left → ((left : ℕ) → test (record job { left = left }) ≡ test job)
    → left_of test (after_a_unit job) + cond (test job) 1 0 ≡ part test job
unit_taken test job some same =
    by_test (nat_eq job.left 1)
    (λ e. let one = eqb-true job.left 1 e in rw e (by_test (test job) (λ t. rw t (omega arith)) (λ t. rw t (omega arith))))
    (λ e. let kept = same (job.left - 1) in rw (e, kept) (by_test (test job) (λ t. rw t (omega arith)) (λ t. rw t (omega arith))))

module _ (tasks : List Task) (test : Job → Bool) (state : State) (k : ℕ) (next : State) (run : IsRun tasks state k next) where
  -- what is left before and after a unit of work
  pub left_run : All (λ job. 1 ≤ job.left) state.pending → ((left : ℕ) → test (record run.job { left = left }) ≡ test run.job)
      → left_of test next.pending + cond (test run.job) 1 0 ≡ left_of test state.pending
  left_run alive same =
      let f = part test in
      let some : 1 ≤ run.job.left = (all_parts (λ (j : Job). 1 ≤ j.left) run.front run.job run.rest (subst (λ (jobs : List Job). All (λ (j : Job). 1 ≤ j.left) jobs) run.is alive)).1 in
      let unit = unit_taken test run.job some same in
      let before : left_of test state.pending ≡ left_of test run.front + (part test run.job + left_of test run.rest) =
      ap (left_of test) run.is ∙ sum_by-append f run.front (run.job ∷ run.rest) ∙ ap (λ (n : ℕ). left_of test run.front + n) (sum_by-cons f run.job run.rest) in
      let after : left_of test next.pending ≡ left_of test run.front + left_of test (after_a_unit run.job) + left_of test run.rest =
      ap (left_of test) run.pending ∙ sum_by-append f (run.front ++ after_a_unit run.job) run.rest
      ∙ ap (λ (n : ℕ). n + left_of test run.rest) (sum_by-append f run.front (after_a_unit run.job)) in
      omega arith

-- what is left with one job more
pub left_push : (test : Job → Bool) (jobs after : List Job) (job : Job) → after ≡ jobs ++ job ∷ []
    → left_of test after ≡ left_of test jobs + part test job
left_push test jobs after job e = ap (left_of test) e ∙ sum_by_push (part test) jobs job

-- where no job is of the task, nothing is left of it
pub none_left : (i : ℕ) (jobs : List Job) → All (λ job. job.task ≡ i → ⊥) jobs → left_of (is_of i) jobs ≡ 0
none_left i [] none = refl
none_left i (job ∷ jobs) none =
    let other = ne_eqb job.task i (All-head (λ (j : Job). j.task ≡ i → ⊥) job jobs none) in
    let one : part (is_of i) job ≡ 0 = rw other refl in
    let others = none_left i jobs (All-tail (λ (j : Job). j.task ≡ i → ⊥) job jobs none) in
    let sum = sum_by-cons (part (is_of i)) job jobs in
    omega arith

-- of a job's task there is at least what is left of the job
pub job_left : (job : Job) (front rest : List Job) → job.left ≤ left_of (is_of job.task) (front ++ job ∷ rest)
job_left job front rest =
    let f = part (is_of job.task) in
    let own = eq-eqb job.task job.task refl in
    let one : part (is_of job.task) job ≡ job.left = rw own refl in
    let all = sum_by-append f front (job ∷ rest) in
    let cons = sum_by-cons f job rest in
    omega arith
