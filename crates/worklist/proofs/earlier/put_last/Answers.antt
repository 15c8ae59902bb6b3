use Rattle.worklist.proofs.Ends.{first_pushed}
use Rattle.worklist.proofs.earlier.put_last.Goals as goal

pub returns-clause-kept : goal.returns-clause-kept
returns-clause-kept g c =
    rw c.in_ok-push.ensures.items
    (first_pushed g.X.Keyed.key_of c.args.earlier.now.items (record { item = c.args.item; least = c.first_with-least.result }) (rw (c.deref.ensures.value, c.as_ref.ensures) at c.first_with-least.ensures) c.requires)
