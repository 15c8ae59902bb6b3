use Rattle.std.proofs.Common.{◌≡◌, ℕ, List, map, subst}
use Rattle.alf_check.specs.CheckedPrograms.{seen}
use Rattle.memory_model.specs.KeptMemories.{MemoryParts, memory_in}
use Rattle.memory_model.specs.Made.{made}
use Rattle.transfer_rules.specs.Stepping.{goals_left}
use Rattle.transfer_rules.specs.Machines.{goals_from, numbered_goal}
use Rattle.transfer_rules.specs.MadeMachines.{made_at}
use Rattle.abstract_step.specs.Steppers.{StepperParts}
use Rattle.abstract_step.specs.Standing.{HereParts}
use Rattle.abstract_step.proofs.TurnLaws.{turn_made}
use Rattle.abstract_step.proofs.stepper.AlfStepperStepper.step_owned.Goals as goal

-- the points of a step from here with this memory
abbrev points_of : HereParts → MemoryParts → List (ℕ × MemoryParts)
points_of here memory = map (made_at (made here.checked)) (map (numbered_goal here.graph) (goals_left (goals_from (seen here.checked) here.graph here.node (memory_in memory)).left))

pub returns-clause-next : goal.returns-clause-next
returns-clause-next c =
    let here = c.new-here.result in
    let stepped = c.in_ok-stepped.stepped in
    let made : stepped.next.items ≡ points_of here c.args.state =
    turn_made here stepped.next.items stepped.faults (goals_from (seen here.checked) here.graph here.node (memory_in c.args.state)) c.in_ok-stepped.ensures in
    subst (λ (p : StepperParts). stepped.next.items ≡ points_of (record { checked = p.checked; graph = p.graph; node = c.args.node }) c.args.state) c.self.view_is
    (subst (λ (h : HereParts). stepped.next.items ≡ points_of h c.args.state) c.new-here.ensures made)
