use Rattle.std.proofs.Common.{◌≡◌, map, take}
use Rattle.clap.specs.Words.{app_of}
use Rattle.clap.specs.declared.builder.command.Command.TheViews.{out-Command as fields_of}
use Rattle.sweet_words.specs.Shapes.{with_rules}
use Rattle.sweet_words.specs.Views.{rule_at}
use Rattle.sweet_words.proofs.program.with_arguments.Given as goal

abbrev pub invariant-loop-name : goal.invariant-loop-name
invariant-loop-name l =
    (app_of l.command ≡ with_rules (app_of l.fn.command) (map (λ name. rule_at l.fn.place name.now) (take l.name-index l.names)))
    × ((fields_of l.command).has_globals ≡ (fields_of l.fn.command).has_globals)
