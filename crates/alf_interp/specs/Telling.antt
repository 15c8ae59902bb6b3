-- What is told of a step.
--   outputs_of outputs           the outputs, without where they lie in memory
--   Tells machine moved moment   what is told is where the run stands: at the node of this number, where the machine stands too, or at its end
use Rattle.std.specs.Prelude.{◌≡◌}
use Rattle.alf_runs.specs.Outcomes.{Ended, Faulted}
use Rattle.alf_runs.specs.Outcomes as ends
use Rattle.alf_runs.specs.Steps.{Moment, Over}
use Rattle.alf_interp.specs.declared.moved.Outputs.{Outputs}
use Rattle.alf_interp.specs.declared.moved.Moved.{Moved}
use Rattle.alf_interp.specs.declared.moved.Moved.TheVariants as told
use Rattle.alf_interp.specs.Machines.{RunMachine, StandsAt}

-- the outputs, without where they lie in memory
abbrev pub outputs_of : Outputs → ends.Outputs
outputs_of outputs = record { returned = outputs.returned; globals = outputs.globals.items }

-- what is told is where the run stands: at the node of this number, where the machine stands too, or at its end
abbrev pub Tells : RunMachine → Moved → Moment → Type 0
Tells machine (told.To node) moment = (node ≡ machine.node) × StandsAt machine moment
Tells machine (told.Ended outputs) moment = moment ≡ Over (Ended (outputs_of outputs))
Tells machine (told.Faulted fault) moment = moment ≡ Over (Faulted fault)
