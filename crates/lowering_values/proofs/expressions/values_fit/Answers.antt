use Rattle.c_meaning.specs.Objects.{program_of}
use Rattle.lowering_values.proofs.Lower.{sizes}
use Rattle.lowering_values.proofs.Fitting.{value_fits}
use Rattle.lowering_values.proofs.expressions.values_fit.Goals as goal

pub returns : goal.returns
returns c = record {
  values = λ unit scopes h e sound.
      value_fits (sizes c.sound_histories_give_values_that_fit.ensures.loaded c.values_have_their_size.ensures.binary c.values_have_their_size.ensures.unary
      c.values_have_their_size.ensures.extends c.values_have_their_size.ensures.casts c.values_have_their_size.ensures.elements)
      (program_of unit) scopes h sound e;
  operators = λ op a b l r first second. c.values_have_their_size.ensures.binary op a b l r first second;
  cuts = λ t v fits. c.values_have_their_size.ensures.cuts t v fits;
}
