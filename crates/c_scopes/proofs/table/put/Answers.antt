-- What stands under a name once a number is put there.
use Rattle.std.proofs.Common.{Some}
use Rattle.std.proofs.lemmas.Map.Text.{hash_map_updates_str}
use Rattle.c_scopes.proofs.table.put.Goals as goal

pub returns : goal.returns
returns c = λ other. hash_map_updates_str c.args.name.now c.args.table.now c.insert.new.self (Some c.args.number) c.in_ok-insert.ensures.updates other
