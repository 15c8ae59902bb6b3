use Rattle.std.proofs.Common.{arith}
use Rattle.clap.specs.Words.{app_of}
use Rattle.sweet_words.specs.Views.{form_in}
use Rattle.sweet_words.proofs.Adding.{more_forms, all_forms}
use Rattle.sweet_words.proofs.program.program.Goals as goal

pub loop-form-preserved : goal.loop-form-preserved
loop-form-preserved c = more_forms form_in c.args.forms.now c.loop-form.form-index _ (app_of c.loop-form.command) _ _ (omega arith)
    c.loop-form.invariant (c.in_ok-command.ensures.shape c.in_ok-subcommand.ensures.local) c.in_ok-subcommand.ensures.shape

pub returns : goal.returns
returns c = all_forms form_in c.args.forms.now c.loop-form.form-index (app_of c.loop-form.command) (omega arith) c.requires c.loop-form.invariant
