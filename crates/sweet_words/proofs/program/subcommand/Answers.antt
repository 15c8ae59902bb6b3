use Rattle.std.proofs.lemmas.Result.{IfOk-weaker}
use Rattle.clap.specs.Words.{app_of}
use Rattle.sweet_words.proofs.Adding.{form_shape}
use Rattle.sweet_words.proofs.program.subcommand.Goals as goal

pub returns-clause-shape : goal.returns-clause-shape
returns-clause-shape c = IfOk-weaker c.with_arguments-3.result _ _
    (λ last flags. form_shape c.args.form.now (app_of c.new-command.result) (app_of c.in_ok-command.command) (app_of c.in_ok-command-2.command) (app_of last)
    c.new-command.ensures.app c.in_ok-command.ensures.app c.in_ok-command-2.ensures.app flags)
    c.with_arguments-3.ensures.app
