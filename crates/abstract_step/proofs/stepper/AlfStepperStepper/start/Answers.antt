use Rattle.std.proofs.Common.{◌≡◌, ap, subst, ◌∙◌}
use Rattle.alf_check.specs.CheckedPrograms.{seen}
use Rattle.memory_model.specs.Made.{made}
use Rattle.transfer_rules.specs.Filling.{first_memory}
use Rattle.abstract_step.specs.Steppers.{StepperParts}
use Rattle.abstract_step.proofs.TurnLaws.{own_made}
use Rattle.abstract_step.proofs.stepper.AlfStepperStepper.start.Goals as goal

pub returns : goal.returns
returns c = subst (λ (p : StepperParts). c.in_ok-memory.memory ≡ made p.checked (first_memory (seen p.checked) p.rows)) c.self.view_is
    (own_made c.self.inside.checked.now c.in_ok-memory.memory c.in_ok-memory.ensures.own ∙ ap (made c.self.inside.checked.now) c.in_ok-memory.ensures.first)
