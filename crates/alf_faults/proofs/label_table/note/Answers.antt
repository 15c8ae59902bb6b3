use Rattle.std.proofs.Common.{Some}
use Rattle.std.proofs.lemmas.Map.Text.{hash_map_updates_str}
use Rattle.alf_faults.proofs.label_table.note.Goals as goal

pub returns-in_ok-insert-in-Label : goal.returns-in_ok-insert-in-Label
returns-in_ok-insert-in-Label c = λ name.
    let after = hash_map_updates_str c.bytes.result.now c.args.table.now c.insert.new.self (Some c.args.place) c.in_ok-insert-in-Label.ensures.updates name in
    rw (c.in-Label.is, ← c.bytes.ensures) after
