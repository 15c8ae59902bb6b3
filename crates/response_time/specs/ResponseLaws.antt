-- Laws of response times: a task set has one answer.
--   TimesAreOne   its response times are one list
--   LateIsOne     the first task that is late is one
--   NeverBoth     it has no response times where a task is late
use Rattle.std.specs.Prelude.{◌≡◌, ℕ, List}
use Rattle.cost_table.specs.declared.task_set.Task.{Task}
use Rattle.response_time.specs.Responses.{AreResponses, IsFirstLate}

-- its response times are one list
abbrev pub TimesAreOne : Type 0
TimesAreOne = (tasks : List Task) (times others : List ℕ) → AreResponses tasks times → AreResponses tasks others → times ≡ others

-- the first task that is late is one
abbrev pub LateIsOne : Type 0
LateIsOne = (tasks : List Task) (i k : ℕ) → IsFirstLate tasks i → IsFirstLate tasks k → i ≡ k

-- it has no response times where a task is late
abbrev pub NeverBoth : Type 0
NeverBoth = (tasks : List Task) (times : List ℕ) (i : ℕ) → AreResponses tasks times → IsFirstLate tasks i → ⊥
