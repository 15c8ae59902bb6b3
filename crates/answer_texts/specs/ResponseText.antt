-- What `tasks` tells of response times.
--   response_line told         the line of a task and its time
--   response_text tasks times  a line for each task, in the order of the file
--   late_line task             the line of a task that is late
use Rattle.std.specs.Prelude.{ℕ, List, [], ◌∷◌, ◌++◌, codes, decimal}
use Rattle.std.specs.List.{flat_map, zip}
use Rattle.flow_graph.specs.Names.{quoted}
use Rattle.cost_table.specs.declared.task_set.Task.{Task as TimedTask}

-- `response "NAME" R`
abbrev pub response_line : TimedTask × ℕ → List ℕ
response_line told = codes "response " ++ (quoted told.0.name ++ (32 ∷ (decimal told.1 ++ 10 ∷ [])))

-- a line for each task, in the order of the file
abbrev pub response_text : List TimedTask → List ℕ → List ℕ
response_text tasks times = flat_map response_line (zip tasks times)

-- `no late "NAME"`
abbrev pub late_line : TimedTask → List ℕ
late_line task = codes "no late " ++ (quoted task.name ++ 10 ∷ [])
