use Rattle.program_bounder.specs.InputRows.{ranges_of}
use Rattle.program_bounder.proofs.boxes.own_search_is_one.Goals as goal

pub returns : goal.returns
returns c = λ splits first second h k. c.a_search_has_one_answer.ensures (ranges_of c.args.bounder.now.rows.items) splits first second c.requires.suits c.requires.ranges h k
