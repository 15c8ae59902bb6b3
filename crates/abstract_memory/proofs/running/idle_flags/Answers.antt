-- What is left to show of `idle_flags`: the first flags of a full room.
use Rattle.std.proofs.Common.{false}
use Rattle.std.proofs.lemmas.List.{take-replicate}
use Rattle.abstract_memory.proofs.running.idle_flags.Goals as goal

pub returns-then-count-le14-clause-flags : goal.returns-then-count-le14-clause-flags
returns-then-count-le14-clause-flags c = take-replicate c.args.count 14 false c.if-count-le14.true
