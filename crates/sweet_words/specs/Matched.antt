-- The command that the matches of `clap` make.
use Rattle.std.specs.Prelude.{List, Option, option_and_then}
use Rattle.clap.specs.Walk.{Row, first_of}
use Rattle.sweet_words.specs.Forms.{Text}
use Rattle.sweet_words.specs.Commands.{Command, command_named}

-- the command of a subcommand's name and rows
abbrev pub command_from : Option (Text × List Row) → Option Command
command_from sub = option_and_then (λ p. command_named p.0 (λ id. first_of id p.1)) sub
