-- What is left to show of `add_owned`.
use Rattle.std.proofs.Common.{◌*◌, length}
use Rattle.recorder_rules.specs.EndedNodeLaws.{range_bits}
use Rattle.pair_recorder.proofs.ending.add_owned.Goals as goal

pub returns : goal.returns
returns c b low = range_bits (length c.args.marks.now) (c.args.scope * length c.args.marks.now) c.args.owned.now c.args.marks.now c.add_words.new.into c.add_words.ensures b low
