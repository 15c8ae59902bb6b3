use Rattle.std.proofs.Common.{arith, refl}
use Rattle.clap.specs.Words.{app_of}
use Rattle.sweet_words.specs.Views.{rule_at}
use Rattle.sweet_words.proofs.Adding.{no_rule, more_rules, all_rules, still_local}
use Rattle.sweet_words.proofs.program.with_arguments.Goals as goal

pub loop-name-init : goal.loop-name-init
loop-name-init c = (no_rule (app_of c.args.command), refl)

pub loop-name-preserved : goal.loop-name-preserved
loop-name-preserved c =
    let adds = c.in_ok-command.ensures in (
      more_rules (λ name. rule_at c.args.place name.now) c.args.names.now c.loop-name.name-index _ (app_of c.args.command) (app_of c.loop-name.command) _ _ (omega arith)
          c.loop-name.invariant.0 (adds.shape c.argument.ensures.local) c.argument.ensures.rule,
      still_local _ _ _ _ adds.globals c.argument.ensures.local c.loop-name.invariant.1,
    )

pub returns : goal.returns
returns c = record {
  app = all_rules (λ name. rule_at c.args.place name.now) c.args.names.now c.loop-name.name-index (app_of c.args.command) (app_of c.loop-name.command) (omega arith) c.loop-name.invariant.0;
  local = c.loop-name.invariant.1;
}
