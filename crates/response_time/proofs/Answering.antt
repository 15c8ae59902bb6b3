-- The response times of tasks, one after the other.
use Rattle.std.proofs.Common.{◌≡◌, ◌<◌, ◌≤◌, ◌+◌, ℕ, List, [], ◌∷◌, ◌++◌, length, length-append, get_or, slice_get, Some, inl, inr, sym, ap, ◌∙◌, subst, arith}
use Rattle.std.proofs.lemmas.Bool.{cases_lt}
use Rattle.std.proofs.lemmas.List.{get_or_append_left}
use Rattle.std.proofs.Math.Seq.{get_or-append_seam}
use Rattle.std.proofs.lemmas.Option.{slice_get_within}
use Rattle.cost_table.specs.declared.task_set.Task.{Task}
use Rattle.cost_table.specs.Tasks.{IsTask}
use Rattle.response_time.specs.Responses.{IsResponse, IsLate, AreResponses, IsFirstLate}

-- the times of the tasks before this one
pub record AreSoFar (tasks : List Task) (index : ℕ) (times : List ℕ) : Type 0 where
  pub one_each : length times ≡ index
  pub each : (i : ℕ) (task : Task) → i < index → IsTask tasks i task → IsResponse tasks task (get_or times i 0)

module _ (tasks : List Task) (index : ℕ) (times : List ℕ) (are : AreSoFar tasks index times) where
  -- a task without a time is the first that is late
  pub first_late : (task : Task) → IsTask tasks index task → IsLate tasks task → IsFirstLate tasks index
  first_late task is late = record { task = task; is = is; late = late; earlier = λ k other less there. (get_or times k 0, are.each k other less there) }

  -- with its time there are those of one task more
  pub so_far_more : (task : Task) (time : ℕ) (more : List ℕ) → IsTask tasks index task → IsResponse tasks task time
      → more ≡ times ++ time ∷ [] → AreSoFar tasks (index + 1) more
  so_far_more task time more is response e = rw e (record {
    one_each = let long = are.one_each in simp length-append (omega arith);
    each = λ i other less there. elim (cases_lt i index) [
      | inl before ↦
          let same = get_or_append_left times (time ∷ []) 0 i (let long = are.one_each in omega arith) in
          subst (λ (n : ℕ). IsResponse tasks other n) (sym same) (are.each i other before there)
      | inr after ↦
          let long = are.one_each in
          let last : i ≡ length times = omega arith in
          let place : i ≡ index = omega arith in
          let now : get_or (times ++ time ∷ []) i 0 ≡ time = ap (λ (k : ℕ). get_or (times ++ time ∷ []) k 0) last ∙ get_or-append_seam times time [] 0 in
          let same : Some task ≡ Some other = sym is ∙ ap (slice_get tasks) (sym place) ∙ there in
          let one : task ≡ other = cc in
          subst (λ (n : ℕ). IsResponse tasks other n) (sym now) (subst (λ (t : Task). IsResponse tasks t time) one response)
    ];
  })

  -- and at the end those of all
  pub all_responses : length tasks ≤ index → index ≤ length tasks → AreResponses tasks times
  all_responses over within = record {
    one_each = let long = are.one_each in omega arith;
    each = λ i task is. are.each i task (let low = slice_get_within tasks i task is in omega arith) is;
  }
