use Rattle.alf_ops.proofs.WordReadings.{reads_twos_complement, is_read}
use Rattle.alf_ops.proofs.laws.words_are_read_in_twos_complement.Goals as goal

pub returns-clause-signed : goal.returns-clause-signed
returns-clause-signed c = reads_twos_complement

pub returns-clause-read : goal.returns-clause-read
returns-clause-read c = is_read
