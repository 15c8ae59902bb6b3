use Rattle.alf_runs.proofs.Sizes.{value_fits, values_fit}
use Rattle.alf_runs.proofs.laws.values_have_their_size.Goals as goal

pub returns-clause-value : goal.returns-clause-value
returns-clause-value c = λ rows function size e frames history value has sound is.
    value_fits c.outcomes_have_their_size.ensures c.sound_histories_give_values_that_fit.ensures.loaded rows function frames history sound e size value has is

pub returns-clause-operands : goal.returns-clause-operands
returns-clause-operands c = λ rows function sizes es frames history values has sound are.
    values_fit c.outcomes_have_their_size.ensures c.sound_histories_give_values_that_fit.ensures.loaded rows function frames history sound es sizes values has are
