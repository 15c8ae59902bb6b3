-- What is left to show of `set_flag`: facts of the proof files, applied.
use Rattle.abstract_memory.proofs.Flags.{few_set}
use Rattle.abstract_memory.proofs.running.set_flag.Goals as goal

pub returns-in-Few-clause-flags : goal.returns-in-Few-clause-flags
returns-in-Few-clause-flags c = few_set c.args.flags.now c.in-Few.own c.in-Few.field-1 c.args.at c.args.on c.in-Few.is
