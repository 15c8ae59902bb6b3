use Rattle.std.proofs.Common.{rules, ◌≡◌, refl, true, false}
use Rattle.worklist.specs.Lines.{keys_of}
use Rattle.worklist.proofs.Ends.{alone_after, put_after, first_after}
use Rattle.worklist.proofs.earlier.first_with.Goals as goal

pub returns-then-is_empty : goal.returns-then-is_empty
returns-then-is_empty g c = alone_after g.X.Keyed.key_of c.args.earlier.now (g.X.Keyed.key_of c.args.item.now) (search rules)

pub returns-then-precedes : goal.returns-then-precedes
returns-then-precedes g c =
    put_after g.X.Keyed.key_of c.args.earlier.now (g.X.Keyed.key_of c.args.item.now) c.least_earlier-least.result c.least_earlier-least.ensures
    (rw (c.key.ensures, c.key_earlier.ensures) at (c.if-precedes.ensures.0 refl))

pub returns-else-precedes : goal.returns-else-precedes
returns-else-precedes g c =
    first_after (keys_of g.X.Keyed.key_of c.args.earlier.now) (g.X.Keyed.key_of c.args.item.now) c.least_earlier-least.result c.least_earlier-least.ensures
    (λ below. let bad : false ≡ true = c.if-precedes.ensures.1 (rw (c.key.ensures, c.key_earlier.ensures) below) in absurd (cc))
