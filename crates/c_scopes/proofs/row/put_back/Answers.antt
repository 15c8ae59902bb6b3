-- What stands under a name after it was put or taken away.
use Rattle.std.proofs.Common.{Some, None}
use Rattle.std.proofs.lemmas.Map.Text.{hash_map_updates_str}
use Rattle.c_scopes.proofs.row.put_back.Goals as goal

pub returns-in_ok-insert-in-Some-clause-put : goal.returns-in_ok-insert-in-Some-clause-put
returns-in_ok-insert-in-Some-clause-put c = λ other.
    rw c.in-Some.is (hash_map_updates_str c.args.name.now c.args.table.now c.insert.new.self (Some c.in-Some.outer) c.in_ok-insert-in-Some.ensures.updates other)

pub returns-in-None-clause-put : goal.returns-in-None-clause-put
returns-in-None-clause-put c = λ other.
    rw c.in-None.is (hash_map_updates_str c.args.name.now c.args.table.now c.swap_remove.new.self None c.swap_remove.ensures.updates other)
