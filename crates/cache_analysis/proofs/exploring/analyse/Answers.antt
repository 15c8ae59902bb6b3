-- What was found, told of the program.
use Rattle.std.proofs.Common.{IfOk, subst}
use Rattle.memory_model.specs.SeenOrders.{parts_order}
use Rattle.abstract_step.specs.Steppers.{StepperParts, stepped_by}
use Rattle.cached_runs.specs.Answers.{answer_of, IfTold}
use Rattle.cached_runs.specs.CachedRuns.{IsFound, AreSoundLines as IsSoundSystem}
use Rattle.cache_analysis.proofs.Explored.{analysed, told_sound}
use Rattle.cache_analysis.proofs.exploring.analyse.Goals as goal

pub returns-clause-found : goal.returns-clause-found
returns-clause-found c =
    let o = c.args.outline.now in
    let found = subst (λ (parts : StepperParts). IfOk c.explored.result (λ cached. IsFound stepped_by parts_order parts o c.args.policy c.args.turns (answer_of cached))) c.in_ok-stepper.ensures c.explored.ensures.found in
    analysed c.args.checked.now c.args.graph.now c.args.rows.now c.args.shape o c.args.policy c.args.turns c.keeps.ensures c.requires.graph c.requires.noted c.requires.outline c.explored.result found

pub returns-clause-sound : goal.returns-clause-sound
returns-clause-sound c =
    let o = c.args.outline.now in
    let sound = subst (λ (parts : StepperParts). IfOk c.explored.result (λ cached. IfTold (answer_of cached) (IsSoundSystem (stepped_by parts).system o))) c.in_ok-stepper.ensures c.explored.ensures.sound in
    told_sound c.args.checked.now c.args.graph.now c.args.rows.now c.args.shape o c.args.policy c.args.turns c.keeps.ensures c.requires.graph c.requires.noted c.sound_lines_are_sound_for_the_program.ensures c.explored.result sound
