use Rattle.program_checks.proofs.SoundLaws.{accepted_are_sound}
use Rattle.program_checks.proofs.laws.accepted_reports_are_sound_for_the_program.Goals as goal

pub returns : goal.returns
returns c = accepted_are_sound c.sound_reports_are_sound_for_the_program.ensures
