use Rattle.abstract_step.proofs.stepper.AlfStepper.goes_along.Goals as goal

pub returns : goal.returns
returns c = λ o edges count. c.parts_are_a_machine.ensures.along c.args.self.now.checked c.args.self.now.graph c.args.self.now.rows o c.kept.ensures edges count
