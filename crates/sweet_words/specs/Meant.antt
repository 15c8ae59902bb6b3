-- What values of the code stand for.
--   file_meant                               the file of a program
--   analyse_meant, check_meant ..            what `analyse`, `check` and the others are given
--   command_meant                            a command
use Rattle.std.specs.Prelude.{option_map}
use Rattle.sweet_words.specs.declared.files.ProgramFile.{ProgramFile as FileValue}
use Rattle.sweet_words.specs.declared.files.ProgramFile.TheVariants as file
use Rattle.sweet_words.specs.declared.command.AnalyseWords.{AnalyseWords as AnalyseValue}
use Rattle.sweet_words.specs.declared.command.CheckWords.{CheckWords as CheckValue}
use Rattle.sweet_words.specs.declared.command.ReplayWords.{ReplayWords as ReplayValue}
use Rattle.sweet_words.specs.declared.command.LowerWords.{LowerWords as LowerValue}
use Rattle.sweet_words.specs.declared.command.RunWords.{RunWords as RunValue}
use Rattle.sweet_words.specs.declared.command.CacheWords.{CacheWords as CacheValue}
use Rattle.sweet_words.specs.declared.command.WorstWords.{WorstWords as WorstValue}
use Rattle.sweet_words.specs.declared.command.Command.{Command as Value}
use Rattle.sweet_words.specs.declared.command.Command.TheVariants as value
use Rattle.sweet_words.specs.Files.{ProgramFile, Alf, C}
use Rattle.sweet_words.specs.Commands.{AnalyseWords, CheckWords, ReplayWords, LowerWords, RunWords, CacheWords, WorstWords, Command, Analyse, Check, Replay, Lower, Print, Run, Generate, Migrate, Cache, Worst, Tasks}

abbrev pub file_meant : FileValue → ProgramFile
file_meant (file.Alf name) = Alf name.now
file_meant (file.C name) = C name.now

abbrev pub analyse_meant : AnalyseValue → AnalyseWords
analyse_meant given = record {
  program = file_meant given.program;
  root = given.root.now;
  inputs = option_map (λ name. name.now) given.inputs;
  costs = option_map (λ name. name.now) given.costs;
  turns = given.turns;
  merging = given.merging;
  pivots = given.pivots;
  certified = given.certified;
}

abbrev pub check_meant : CheckValue → CheckWords
check_meant given = record {
  program = file_meant given.program;
  report = given.report.now;
  root = given.root.now;
  inputs = option_map (λ name. name.now) given.inputs;
  costs = option_map (λ name. name.now) given.costs;
}

abbrev pub replay_meant : ReplayValue → ReplayWords
replay_meant given = record {
  program = file_meant given.program;
  report = given.report.now;
  values = option_map (λ name. name.now) given.values;
  root = given.root.now;
  inputs = option_map (λ name. name.now) given.inputs;
  costs = option_map (λ name. name.now) given.costs;
}

abbrev pub lower_meant : LowerValue → LowerWords
lower_meant given = record { file = given.file.now; root = given.root.now }

abbrev pub run_meant : RunValue → RunWords
run_meant given = record {
  program = file_meant given.program;
  root = given.root.now;
  inputs = option_map (λ name. name.now) given.inputs;
  costs = option_map (λ name. name.now) given.costs;
  turns = given.turns;
}

abbrev pub cache_meant : CacheValue → CacheWords
cache_meant given = record {
  program = file_meant given.program;
  root = given.root.now;
  inputs = option_map (λ name. name.now) given.inputs;
  costs = option_map (λ name. name.now) given.costs;
  turns = given.turns;
  merging = given.merging;
  sets = given.sets;
  ways = given.ways;
  line = given.line;
  penalty = given.penalty;
}

abbrev pub worst_meant : WorstValue → WorstWords
worst_meant given = record {
  program = file_meant given.program;
  root = given.root.now;
  inputs = option_map (λ name. name.now) given.inputs;
  costs = option_map (λ name. name.now) given.costs;
  turns = given.turns;
  merging = given.merging;
  pivots = given.pivots;
  splits = given.splits;
}

abbrev pub command_meant : Value → Command
command_meant (value.Analyse given) = Analyse (analyse_meant given)
command_meant (value.Check given) = Check (check_meant given)
command_meant (value.Replay given) = Replay (replay_meant given)
command_meant (value.Lower given) = Lower (lower_meant given)
command_meant (value.Print program) = Print (file_meant program)
command_meant (value.Run given) = Run (run_meant given)
command_meant (value.Generate number) = Generate number
command_meant (value.Migrate report) = Migrate report.now
command_meant (value.Cache given) = Cache (cache_meant given)
command_meant (value.Worst given) = Worst (worst_meant given)
command_meant (value.Tasks file) = Tasks file.now
