-- What is left to show of `leave`.
use Rattle.std.proofs.Common.{◌==◌, not, List, subst, sym, arith}
use Rattle.std.specs.List.{list_any}
use Rattle.pair_recorder.specs.declared.seen.Seen.{Seen}
use Rattle.pair_recorder.specs.Paths.{AreBelow}
use Rattle.pair_recorder.proofs.Pathed.{below_kept}
use Rattle.pair_recorder.proofs.PathSteps.{none_left}
use Rattle.pair_recorder.proofs.path.leave.Goals as goal

pub returns-then-is_empty-clause-kept : goal.returns-then-is_empty-clause-kept
returns-then-is_empty-clause-kept c = none_left c.args.scopes.now c.args.path.now.items (let e = c.if-is_empty.true in search (arith, c.is_empty.ensures, e))

pub returns-clause-below : goal.returns-clause-below
returns-clause-below c =
    subst (λ (xs : List Seen). AreBelow c.args.count xs) (sym c.leave_scopes.ensures)
    (below_kept c.args.count (λ e. not (list_any (λ s. e.scope == s) c.args.scopes.now)) c.args.path.now.items c.requires.path)
