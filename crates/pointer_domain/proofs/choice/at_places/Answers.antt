use Rattle.std.proofs.Common.{map, sym}
use Rattle.pointer_domain.specs.Parts.{alternative_of}
use Rattle.pointer_domain.proofs.PlaceRules.{rule_suits}
use Rattle.pointer_domain.proofs.choice.at_places.Goals as goal

pub by_rule-requires : goal.by_rule-requires
by_rule-requires c =
    rw (c.at_numbers-answer.ensures, c.part_at-b.ensures, c.part_at-c.ensures) (rule_suits c.args.op c.args.sizes.now (map alternative_of c.args.chosen.now) c.requires.typed c.requires.suits c.requires.some)

pub returns : goal.returns
returns c = rw (sym c.part_at-a.ensures, sym c.part_at-b.ensures, sym c.part_at-c.ensures, sym c.at_numbers-answer.ensures) c.in_ok-outcome.ensures
