use Rattle.std.specs.Prelude.{IfOk}
use Rattle.std.proofs.Common.{sym, subst}
use Rattle.std.proofs.lemmas.Result.{IfOk-weaker}
use Rattle.domain_core.specs.declared.event.Event.{Event}
use Rattle.watched_steps.specs.Watched.{WatchesStep}
use Rattle.left_ends.specs.Seen.{EndsIn}
use Rattle.left_ends.proofs.Turns.{spot_at, spot_fits, watch_spot}
use Rattle.left_ends.proofs.watching.look_before.Goals as goal

pub look-requires-clause-fits : goal.look-requires-clause-fits
look-requires-clause-fits c =
    let pool = c.args.pool.now in
    spot_fits c.args.checked.now c.args.graph.now c.args.rows.now pool c.requires.pool c.in-Step.place c.node_at.result c.state_at.result.now
    (spot_at pool c.in-Step.place c.node_at.result c.state_at.result.now (c.requires.there c.in-Step.place c.in-Step.is) c.node_at.ensures c.state_at.ensures)

pub look-requires-clause-node : goal.look-requires-clause-node
look-requires-clause-node c = (look-requires-clause-fits c).fits.low

pub returns-in-Step-clause-looked : goal.returns-in-Step-clause-looked
returns-in-Step-clause-looked c =
    let checked = c.args.checked.now in
    let graph = c.args.graph.now in
    let pool = c.args.pool.now in
    let one = spot_at pool c.in-Step.place c.node_at.result c.state_at.result.now (c.requires.there c.in-Step.place c.in-Step.is) c.node_at.ensures c.state_at.ensures in
    subst (λ (event : Event). IfOk c.look.result (λ all. WatchesStep (EndsIn checked graph all) pool event)) (sym c.in-Step.is)
    (IfOk-weaker _ _ _ (λ all looked. watch_spot checked graph c.args.rows.now pool c.requires.pool c.in-Step.place c.node_at.result c.state_at.result.now all one looked)
    c.look.ensures.looked)
