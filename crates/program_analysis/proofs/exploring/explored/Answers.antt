use Rattle.std.proofs.Common.{◌≡◌, ◌∙◌, IfOk, ap, subst}
use Rattle.std.proofs.lemmas.List.{length-map}
use Rattle.domain_core.specs.Outlines.{shape_of}
use Rattle.scope_graph.specs.Placing.{place_of}
use Rattle.abstract_step.specs.Steppers.{StepperParts}
use Rattle.program_analysis.specs.Answers.{answer_of, IfClosed}
use Rattle.program_analysis.specs.Analyses.{PoolOf, IsFound, IsClosedBy}
use Rattle.program_analysis.proofs.exploring.explored.Goals as goal

pub start-requires-clause-along : goal.start-requires-clause-along
start-requires-clause-along c =
    c.goes_along.ensures (shape_of c.args.outline.now) c.requires.outline.edges (c.requires.outline.one_each ∙ length-map c.args.stepper.now.graph.nodes place_of)

pub returns-in-Closed-clause-found : goal.returns-in-Closed-clause-found
returns-in-Closed-clause-found c =
    let same : c.explore.new.self.stepper ≡ c.args.stepper.now = c.in_ok-events.ensures.going_on.stepper ∙ ap (λ (w : PoolOf). w.stepper) c.in_ok-pool.ensures.opened in
    subst (λ (s : StepperParts). IfOk c.told.result (λ analysed. IsFound s c.args.outline.now c.args.policy c.args.turns (answer_of analysed))) same c.told.ensures.found

pub returns-in-Closed-clause-events : goal.returns-in-Closed-clause-events
returns-in-Closed-clause-events c =
    let same : c.explore.new.self.stepper ≡ c.args.stepper.now = c.in_ok-events.ensures.going_on.stepper ∙ ap (λ (w : PoolOf). w.stepper) c.in_ok-pool.ensures.opened in
    subst (λ (s : StepperParts). IfOk c.told.result (λ analysed. IfClosed analysed (IsClosedBy s c.args.outline.now c.args.policy c.args.turns))) same c.told.ensures.events
