use Rattle.pointer_domain.proofs.PlaceRules.{numbers_taken}
use Rattle.pointer_domain.proofs.choice.numbers.Goals as goal

pub returns : goal.returns
returns c = rw (c.number.ensures, c.number-2.ensures, c.number-3.ensures, c.part_at.ensures, c.part_at-2.ensures, c.part_at-3.ensures) (numbers_taken c.args.chosen.now c.requires)
