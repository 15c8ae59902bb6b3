-- What the search for the least solution keeps.
use Rattle.std.proofs.Common.{◌≡◌, ◌<◌, ◌≤◌, ℕ, List, arith}
use Rattle.cost_table.specs.declared.task_set.Task.{Task}
use Rattle.response_time.specs.Responses.{demand, IsSolution, IsResponse, IsLate}
use Rattle.response_time.proofs.Rounding.{demand_rises}

-- the candidate is no larger than what is demanded in its time, nor than any solution
pub record IsCandidate (tasks : List Task) (task : Task) (candidate : ℕ) : Type 0 where
  pub some : 1 ≤ candidate
  pub costs : task.cost ≤ candidate
  pub rises : candidate ≤ demand tasks task candidate
  pub least : (time : ℕ) → IsSolution tasks task time → candidate ≤ time

module _ (tasks : List Task) (task : Task) where
  -- the cost is one
  pub first : 1 ≤ task.cost → IsCandidate tasks task task.cost
  first some = record { some = some; costs = omega arith; rises = omega arith; least = λ time solves. let is = solves.equal in omega arith }

  module _ (candidate : ℕ) (is : IsCandidate tasks task candidate) where
    -- and so is what is demanded in the time of one
    pub next : (work : ℕ) → work ≡ demand tasks task candidate → IsCandidate tasks task work
    next work e = record {
      some = let some = is.some in let up = is.rises in omega arith;
      costs = omega arith;
      rises = let more = demand_rises tasks task candidate work (let up = is.rises in omega arith) in omega arith;
      least = λ time solves. let more = demand_rises tasks task candidate time (is.least time solves) in let equal = solves.equal in omega arith;
    }

    -- one that is what is demanded in its time is the least solution
    pub found : candidate ≤ task.deadline → candidate ≡ demand tasks task candidate → IsResponse tasks task candidate
    found due e = record { least = record { solves = record { some = is.some; equal = e }; least = is.least }; due = due }

    -- past the deadline there is none up to it
    pub past : task.deadline < candidate → IsLate tasks task
    past more time solves = let low = is.least time solves in omega arith

    -- nor where the next one is past it
    pub next_past : task.deadline < demand tasks task candidate → IsLate tasks task
    next_past more time solves = let low = demand_rises tasks task candidate time (is.least time solves) in let equal = solves.equal in omega arith
