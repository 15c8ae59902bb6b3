-- The commands. A further command is one more row, and a file of its own.
--   task_for command    the task of a command
--   task_of words       the task of the words of a command line
use Rattle.std.specs.Prelude.{ℕ, List, Option, None, Some}
use Rattle.sweet_cli.specs.Words.{Command, Analyse, Check, Replay, Lower, Print, Run, Generate, Migrate, Cache, Worst, Tasks, ProgramFile, Alf, C, command_of}
use Rattle.sweet_cli.specs.Task.{Task, no_command}
use Rattle.sweet_cli.specs.Analyse.{analyse}
use Rattle.sweet_cli.specs.Check.{check}
use Rattle.sweet_cli.specs.Lower.{lower}
use Rattle.sweet_cli.specs.Migrate.{migrate}
use Rattle.sweet_cli.specs.Print.{print}
use Rattle.sweet_cli.specs.PrintC.{print_c}
use Rattle.sweet_cli.specs.Replay.{replay}
use Rattle.sweet_cli.specs.Run.{run}
use Rattle.sweet_cli.specs.Tasks.{tasks}
use Rattle.sweet_cli.specs.Cache.{cache}
use Rattle.sweet_cli.specs.Worst.{worst}
use Rattle.sweet_cli.specs.Generate.{generate}

-- by the language of the file
abbrev pub print_task : ProgramFile → Task
print_task (Alf file) = print file
print_task (C file) = print_c file

abbrev pub task_for : Command → Task
task_for (Analyse given) = analyse given
task_for (Check given) = check given
task_for (Replay given) = replay given
task_for (Lower given) = lower given
task_for (Print program) = print_task program
task_for (Run given) = run given
task_for (Generate number) = generate number
task_for (Migrate report) = migrate report
task_for (Cache given) = cache given
task_for (Worst given) = worst given
task_for (Tasks file) = tasks file

abbrev pub task_for_some : Option Command → Task
task_for_some None = no_command
task_for_some (Some command) = task_for command

abbrev pub task_of : List (List ℕ) → Task
task_of words = task_for_some (command_of words)
