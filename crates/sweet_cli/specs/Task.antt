-- What a command does, and what it promises.
--   Task                    its order of work, which gives the text, the names that it reads, and what is true of the files and that text
--   names_read program inputs costs   the names of these files, in the order in which they are read
--   no_outcome, no_command  the words are no command
--   KeepsPromise task files ending   where the work ends with a text, this keeps the promise
--   IsPromised task shelf later text   the text keeps the promise over all files that hold what was read under these names
--   KeepsOverRead task shelf later ending   so it is where the work ends with a text
--   Promised task files before after   what the sink grew by keeps the promise
use Rattle.std.specs.Prelude.{ℕ, List, [], ◌∷◌, ◌++◌, Option, codes, option_to_list}
use Rattle.sweet_words.specs.Files.{ProgramFile, file_name}
use Rattle.flow_base.specs.Outside.{Files}
use Rattle.flow_base.specs.Shelves.{ShelfState}
use Rattle.flow_base.specs.Sinks.{SinkState}
use Rattle.command_plans.specs.Outcome.{Outcome, Usage, Ending, Finished, Stopped}
use Rattle.command_plans.specs.Work.{Work, stop}
use Rattle.command_plans.specs.Works.{OverRead}
use Rattle.command_plans.specs.Run.{Wrote}

pub record Task : Type 1 where
  -- the order of work
  pub work : Work (List ℕ)
  -- the names of the files that were read where it gave a text, in their order
  pub names : List (List ℕ)
  -- what is true of the files and the text that was made of them
  pub Promise : Files → List ℕ → Type 0

-- the names of the files of a program, of its inputs and of its costs, in the order in which they are read
abbrev pub names_read : ProgramFile → Option (List ℕ) → Option (List ℕ) → List (List ℕ)
names_read program inputs costs = file_name program ∷ (option_to_list inputs ++ option_to_list costs)

-- the words are no command
abbrev pub no_outcome : Outcome
no_outcome = record { cause = Usage; text = codes "fault usage\n" }

abbrev pub no_command : Task
no_command = record { work = stop no_outcome; names = []; Promise = λ files text. ⊥ }

-- where the work ends with a text, this keeps the promise
abbrev pub KeepsPromise : Task → Files → Ending → Type 0
KeepsPromise task files (Finished text) = task.Promise files text
KeepsPromise task files (Stopped outcome) = Unit {0}

-- the text keeps the promise over all files that hold what was read under the names of the task
abbrev pub IsPromised : Task → ShelfState → ShelfState → List ℕ → Type 0
IsPromised task shelf later text = OverRead shelf later task.names (λ files. task.Promise files text)

-- so it is where the work ends with a text
abbrev pub KeepsOverRead : Task → ShelfState → ShelfState → Ending → Type 0
KeepsOverRead task shelf later (Finished text) = IsPromised task shelf later text
KeepsOverRead task shelf later (Stopped outcome) = Unit {0}

-- what the sink grew by keeps the promise
abbrev pub Promised : Task → Files → SinkState → SinkState → Type 0
Promised task files before after = (text : List ℕ) × task.Promise files text × Wrote text before after
