use Rattle.std.proofs.Common.{rules, ◌≡◌, reverse, refl, true, false}
use Rattle.worklist.proofs.LeastLemmas.{least_left}
use Rattle.worklist.specs.Lines.{keys_of}
use Rattle.worklist.proofs.Ends.{alone_earlier, alone_later, in_later}
use Rattle.worklist.proofs.halves.first_of.Goals as goal

pub returns-then-is_empty : goal.returns-then-is_empty
returns-then-is_empty g c = alone_earlier g.X.Keyed.key_of c.args.earlier.now c.args.later.now _ (search rules) c.least_earlier.ensures

pub returns-then-is_empty-2 : goal.returns-then-is_empty-2
returns-then-is_empty-2 g c = alone_later g.X.Keyed.key_of c.args.earlier.now (keys_of g.X.Keyed.key_of (reverse c.args.later.now)) _ (search rules) c.least_later-right.ensures

pub returns-then-precedes : goal.returns-then-precedes
returns-then-precedes g c =
    in_later g.X.Keyed.key_of c.args.earlier.now (keys_of g.X.Keyed.key_of (reverse c.args.later.now)) c.least_earlier-left.result c.least_later-right.result c.least_earlier-left.ensures c.least_later-right.ensures
    (rw (c.key_later.ensures, c.key_earlier.ensures) at (c.if-precedes.ensures.0 refl))

pub returns-else-precedes : goal.returns-else-precedes
returns-else-precedes g c =
    least_left (keys_of g.X.Keyed.key_of c.args.earlier.now) (keys_of g.X.Keyed.key_of (reverse c.args.later.now)) c.least_earlier-left.result c.least_later-right.result c.least_earlier-left.ensures c.least_later-right.ensures
    (λ below. let bad : false ≡ true = c.if-precedes.ensures.1 (rw (c.key_later.ensures, c.key_earlier.ensures) below) in absurd (cc))
