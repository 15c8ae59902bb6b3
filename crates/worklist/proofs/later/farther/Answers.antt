use Rattle.std.proofs.Common.{rules, ◌≡◌, reverse, refl, true, false}
use Rattle.worklist.specs.Lines.{keys_of}
use Rattle.worklist.proofs.Ends.{alone_before, first_before, itself_before}
use Rattle.worklist.proofs.later.farther.Goals as goal

pub returns-then-is_empty : goal.returns-then-is_empty
returns-then-is_empty g c = alone_before g.X.Keyed.key_of c.args.later.now (g.X.Keyed.key_of c.args.item.now) (search rules)

pub returns-then-precedes : goal.returns-then-precedes
returns-then-precedes g c =
    first_before (g.X.Keyed.key_of c.args.item.now) (keys_of g.X.Keyed.key_of (reverse c.args.later.now)) c.least_later-least.result c.least_later-least.ensures
    (rw (c.key_later.ensures, c.key.ensures) at (c.if-precedes.ensures.0 refl))

pub returns-else-precedes : goal.returns-else-precedes
returns-else-precedes g c =
    itself_before (g.X.Keyed.key_of c.args.item.now) (keys_of g.X.Keyed.key_of (reverse c.args.later.now)) c.least_later-least.result c.least_later-least.ensures
    (λ below. let bad : false ≡ true = c.if-precedes.ensures.1 (rw (c.key_later.ensures, c.key.ensures) below) in absurd (cc))
