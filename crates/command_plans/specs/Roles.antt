-- What a file is read for, and the line of a read that failed.
--   read_line role      the line
--   unread role name    the outcome
use Rattle.std.specs.Prelude.{ℕ, List, codes}
use Rattle.command_plans.specs.declared.reading.Role.{Role}
use Rattle.command_plans.specs.declared.reading.Role.TheVariants.{Program, Inputs, Costs, Report, Values, Tasks}
use Rattle.command_plans.specs.Outcome.{Outcome, Unread}

-- the line of a read that failed
abbrev pub read_line : Role → List ℕ
read_line Program = codes "fault read program\n"
read_line Inputs = codes "fault read inputs\n"
read_line Costs = codes "fault read costs\n"
read_line Report = codes "fault read report\n"
read_line Values = codes "fault read values\n"
read_line Tasks = codes "fault read tasks\n"

-- the read of this file, which is wanted for this role, has failed
abbrev pub unread : Role → List ℕ → Outcome
unread role name = record { cause = Unread name; text = read_line role }
