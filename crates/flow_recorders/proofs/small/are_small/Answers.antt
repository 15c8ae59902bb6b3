-- What is left to show of `are_small`.
use Rattle.std.specs.Prelude.{All}
use Rattle.std.proofs.Common.{◌<◌, ℕ, List, arith, subst, refl}
use Rattle.std.proofs.lemmas.List.{take_all}
use Rattle.std.proofs.lemmas.List.Elements.{All-more}
use Rattle.flow_recorders.proofs.small.are_small.Goals as goal

pub loop-count-preserved : goal.loop-count-preserved
loop-count-preserved c = All-more (λ x. x < 256) c.args.counts.now c.loop-count.count-index 0 (omega (arith, c.loop-count-test.true)) c.loop-count.invariant (omega (arith, c.if-count-gt255.false))

pub returns : goal.returns
returns c = (λ _. subst (λ (xs : List ℕ). All (λ x. x < 256) xs) (take_all c.loop-count.count-index c.args.counts.now (omega (arith, c.loop-count-test.false))) c.loop-count.invariant, λ _. refl)
