-- What is left to show of `slots_change_as_their_frame_does`: facts of the proof files, applied.
use Rattle.std.proofs.Common.{refl}
use Rattle.memory_model.proofs.Stored.{slots_stored, pin_is_stored}
use Rattle.memory_model.proofs.held_laws.slots_change_as_their_frame_does.Goals as goal

pub returns-clause-slots : goal.returns-clause-slots
returns-clause-slots c = slots_stored

pub returns-clause-strong : goal.returns-clause-strong
returns-clause-strong c = λ m offset size value. refl

pub returns-clause-weak : goal.returns-clause-weak
returns-clause-weak c = λ m offset size value. refl

pub returns-clause-pin : goal.returns-clause-pin
returns-clause-pin c = pin_is_stored
