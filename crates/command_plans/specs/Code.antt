-- The exit code of each status.
--   code_of status    0 to 7, in the order of the statuses
use Rattle.std.specs.Prelude.{ℕ}
use Rattle.command_plans.specs.declared.status.Status.{Status}
use Rattle.command_plans.specs.declared.status.Status.TheVariants.{Done, Usage, Source, Unbounded, No, ReadFailed, WriteFailed, Memory}

abbrev pub code_of : Status → ℕ
code_of Done = 0
code_of Usage = 1
code_of Source = 2
code_of Unbounded = 3
code_of No = 4
code_of ReadFailed = 5
code_of WriteFailed = 6
code_of Memory = 7
