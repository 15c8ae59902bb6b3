use Rattle.alf_runs.proofs.Growing.{Promised}
use Rattle.alf_runs.proofs.Stores.{enters_by_stores, arguments_have, starts_by_stores}
use Rattle.alf_runs.proofs.laws.starts_and_calls_store_without_a_fault.Goals as goal

pub returns-clause-calls : goal.returns-clause-calls
returns-clause-calls c = enters_by_stores

pub returns-clause-arguments : goal.returns-clause-arguments
returns-clause-arguments c =
    let promised : Promised = record {
      outcomes = c.outcomes_have_their_size.ensures;
      loads = c.sound_histories_give_values_that_fit.ensures.loaded;
      stores = c.sound_histories_give_values_that_fit.ensures.stored;
    } in
    arguments_have promised

pub returns-clause-starts : goal.returns-clause-starts
returns-clause-starts c = starts_by_stores
