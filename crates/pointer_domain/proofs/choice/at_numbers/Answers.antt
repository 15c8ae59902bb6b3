use Rattle.std.proofs.Common.{map}
use Rattle.alf_ops.specs.Table.{operand_sizes}
use Rattle.pointer_rules.specs.ChoiceLaws.{sized_numbers}
use Rattle.pointer_domain.specs.Parts.{alternative_of}
use Rattle.pointer_domain.proofs.PlaceRules.{few_parts}
use Rattle.pointer_domain.proofs.choice.at_numbers.Goals as goal

pub numbers-numbers-requires : goal.numbers-numbers-requires
numbers-numbers-requires c = few_parts c.args.op c.args.sizes.now c.args.chosen.now c.requires.suits

pub apply-requires-clause-sized : goal.apply-requires-clause-sized
apply-requires-clause-sized c = rw c.numbers-numbers.ensures (sized_numbers (operand_sizes c.args.op c.args.sizes.now) (map alternative_of c.args.chosen.now) c.requires.suits)
