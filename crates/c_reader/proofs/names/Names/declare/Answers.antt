-- The table says what the latest declaration says.
use Rattle.std.proofs.Common.{Some}
use Rattle.std.proofs.lemmas.Map.Text.{hash_map_updates_str}
use Rattle.c_reader.proofs.Declared.{stays_table}
use Rattle.c_reader.proofs.names.Names.declare.Goals as goal

pub invariant_of-self-2 : goal.invariant_of-self-2
invariant_of-self-2 c =
    let after = hash_map_updates_str c.args.name.now c.self.inside.table c.insert.new.self (Some c.args.gives) c.in_ok-insert.ensures.updates in
    rw (c.push_reserved.ensures.items, c.in_ok-reserve.ensures.items)
    (stays_table c.self.inside.list.items (record { name = c.args.name; gives = c.args.gives }) c.self.inside.table c.insert.new.self c.self.invariant after)
