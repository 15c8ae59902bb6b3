use Rattle.alf_ops.specs.PointerLaws.{OutcomeFits}
use Rattle.alf_ops.specs.HistoryLaws.{LoadFits, StoreKeepsSound}
use Rattle.alf_runs.proofs.Growing.{Promised}
use Rattle.alf_runs.proofs.Placed.{start_place, step_keeps, each_place, never_lost, inputs_are_words}
use Rattle.alf_runs.proofs.laws.active_frames_follow_the_call_path.Goals as goal

promised : OutcomeFits → StoreKeepsSound → LoadFits → Promised
promised outcomes stores loads = record { outcomes = outcomes; loads = loads; stores = stores }

pub returns-clause-start : goal.returns-clause-start
returns-clause-start c = start_place

pub returns-clause-step : goal.returns-clause-step
returns-clause-step c =
    step_keeps (promised c.outcomes_have_their_size.ensures c.sound_histories_give_values_that_fit.ensures.stored c.sound_histories_give_values_that_fit.ensures.loaded)

pub returns-clause-each : goal.returns-clause-each
returns-clause-each c =
    each_place (promised c.outcomes_have_their_size.ensures c.sound_histories_give_values_that_fit.ensures.stored c.sound_histories_give_values_that_fit.ensures.loaded)

pub returns-clause-found : goal.returns-clause-found
returns-clause-found c =
    never_lost (promised c.outcomes_have_their_size.ensures c.sound_histories_give_values_that_fit.ensures.stored c.sound_histories_give_values_that_fit.ensures.loaded)

pub returns-clause-inputs : goal.returns-clause-inputs
returns-clause-inputs c = inputs_are_words
