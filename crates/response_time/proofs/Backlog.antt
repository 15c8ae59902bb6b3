-- The work that is left of jobs of a priority or a higher one, before and after a unit of work.
use Rattle.std.proofs.Common.{◌≡◌, ◌<◌, ◌≤◌, ◌+◌, ◌-◌, ℕ, List, [], ◌∷◌, ◌++◌, inl, inr, refl, sym, subst, arith}
use Rattle.std.proofs.lemmas.Bool.{cases_lt, eqb-true, eqb-false}
use Rattle.std.proofs.lemmas.List.Elements.{All-head, All-tail, All-cons, All-append, All-nil}
use Rattle.std.proofs.lemmas.List.Sums.{sum_by-cons, sum_by-append}
use Rattle.std.specs.Bool.{nat_le, nat_eq}
use Rattle.std.specs.List.{All, sum_by}
use Rattle.lists.specs.TestLaws.{by_test}
use Rattle.cost_table.specs.declared.task_set.Task.{Task}
use Rattle.cost_table.specs.Tasks.{priority_of}
use Rattle.response_time.specs.Schedules.{Job, State, IsRun, after_a_unit}
use Rattle.response_time.proofs.Priorities.{counted, counts, counts_not}

-- the work that is left of jobs of this priority or a higher one
abbrev pub backlog : List Task → ℕ → List Job → ℕ
backlog tasks p jobs = sum_by (λ job. counted p (priority_of tasks job.task) job.left) jobs

-- jobs of a lower priority are no backlog
pub no_backlog : (tasks : List Task) (p : ℕ) (jobs : List Job) → All (λ job. p < priority_of tasks job.task) jobs
    → backlog tasks p jobs ≡ 0
no_backlog tasks p [] low = refl
no_backlog tasks p (job ∷ jobs) low =
    let none = counts_not p (priority_of tasks job.task) job.left (All-head (λ (j : Job). p < priority_of tasks j.task) job jobs low) in
    let others = no_backlog tasks p jobs (All-tail (λ (j : Job). p < priority_of tasks j.task) job jobs low) in
    let sum = sum_by-cons (λ (j : Job). counted p (priority_of tasks j.task) j.left) job jobs in
    omega arith

-- where there is no backlog each pending job has a lower priority
pub all_low : (tasks : List Task) (p : ℕ) (jobs : List Job) → All (λ job. 1 ≤ job.left) jobs → backlog tasks p jobs ≡ 0
    → All (λ job. p < priority_of tasks job.task) jobs
all_low tasks p [] alive none = All-nil (λ (j : Job). p < priority_of tasks j.task)
all_low tasks p (job ∷ jobs) alive none =
    let sum = sum_by-cons (λ (j : Job). counted p (priority_of tasks j.task) j.left) job jobs in
    let some = All-head (λ (j : Job). 1 ≤ j.left) job jobs alive in
    All-cons (λ (j : Job). p < priority_of tasks j.task) job jobs
    (elim (cases_lt p (priority_of tasks job.task)) [ inl less ↦ less | inr le ↦ let is = counts p (priority_of tasks job.task) job.left le in absurd (omega arith) ])
    (all_low tasks p jobs (All-tail (λ (j : Job). 1 ≤ j.left) job jobs alive) (omega arith))

-- the backlog around a job
pub backlog_at : (tasks : List Task) (p : ℕ) (front middle rest : List Job)
    → backlog tasks p (front ++ middle ++ rest) ≡ backlog tasks p front + backlog tasks p middle + backlog tasks p rest
backlog_at tasks p front middle rest =
    let f = λ (j : Job). counted p (priority_of tasks j.task) j.left in
    let all = sum_by-append f (front ++ middle) rest in
    let most = sum_by-append f front middle in
    omega arith

-- a unit of work takes one from it, if the job counts
pub unit_less : (tasks : List Task) (p : ℕ) (job : Job) → 1 ≤ job.left → backlog tasks p (after_a_unit job) + counted p (priority_of tasks job.task) 1 ≡ counted p (priority_of tasks job.task) job.left
unit_less tasks p job some =
    by_test (nat_eq job.left 1)
    (λ e. let one = eqb-true job.left 1 e in rw e (rw one (omega arith)))
    (λ e. rw e (by_test (nat_le (priority_of tasks job.task) p) (λ t. rw t (omega arith)) (λ t. rw t (omega arith))))

-- what holds of each of three parts of a list
pub all_parts : {X : Type 0} (P : X → Type 0) (front : List X) (x : X) (rest : List X) → All P (front ++ x ∷ rest)
    → All P front × P x × All P rest
all_parts P [] x rest all = (All-nil P, All-head P x rest all, All-tail P x rest all)
all_parts P (y ∷ front) x rest all =
    let r = all_parts P front x rest (All-tail P y (front ++ x ∷ rest) all) in (All-cons P y front (All-head P y (front ++ x ∷ rest) all) r.0, r.1, r.2)

-- what a unit of work keeps of each job
pub run_keeps : (tasks : List Task) (P : Job → Type 0) (state : State) (i : ℕ) (next : State) (run : IsRun tasks state i next) → All P state.pending
    → ((run.job.left ≡ 1 → ⊥) → P run.job → P (record run.job { left = run.job.left - 1 })) → All P next.pending
run_keeps tasks P state i next run all keeps =
    let parts = all_parts P run.front run.job run.rest (subst (λ (jobs : List Job). All P jobs) run.is all) in
    let less : Job = record run.job { left = run.job.left - 1 } in
    let one : All P (after_a_unit run.job) = by_test (nat_eq run.job.left 1) (λ e. rw e (All-nil P)) (λ e. rw e (All-cons P less [] (keeps (eqb-false run.job.left 1 e) parts.1) (All-nil P))) in
    subst (λ (jobs : List Job). All P jobs) (sym run.pending) (All-append P (run.front ++ after_a_unit run.job) run.rest (All-append P run.front (after_a_unit run.job) parts.0 one) parts.2)
