-- What is left to show of `enter_node`.
use Rattle.std.proofs.Common.{List, subst, sym, ap, ◌∙◌, ◌++◌, ◌∷◌, []}
use Rattle.pair_recorder.specs.declared.seen.Seen.{Seen}
use Rattle.pair_recorder.specs.Paths.{AreBelow}
use Rattle.pair_recorder.proofs.Pathed.{below_joined}
use Rattle.pair_recorder.proofs.entries.enter_node.Goals as goal

pub returns-in-Ok-clause-below : goal.returns-in-Ok-clause-below
returns-in-Ok-clause-below c n below low =
    subst (λ (xs : List Seen). AreBelow n xs)
    (sym (c.in-Ok.ensures.items ∙ ap (λ (xs : List Seen). xs ++ c.args.seen ∷ []) c.reserve_exact.ensures.items))
    (below_joined n c.args.entries.now.items c.args.seen below low)
