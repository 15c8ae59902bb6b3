-- What is left to show of `are_one_position`.
use Rattle.std.proofs.Common.{rules, ◌<◌, length}
use Rattle.abstract_exec.proofs.Joining.{are_same}
use Rattle.abstract_exec.proofs.joins.are_one_position.Goals as goal

pub returns : goal.returns
returns g c =
    let before : c.args.i < c.args.j = search rules in
    let within : c.args.j < length c.args.places.now = search rules in
    are_same c.args.places.now c.args.i c.args.j c.is_same_position.result before within c.is_same_position.ensures
