use Rattle.lowering_values.proofs.Lower.{sizes, operators}
use Rattle.lowering_values.proofs.Agreeing.{values_agree, addresses_agree}
use Rattle.lowering_values.proofs.expressions.expressions_agree.Goals as goal

pub returns : goal.returns
returns c = record {
  values = λ unit f frame scopes m h e t here typed plain.
      values_agree (operators c.loads_and_stores_agree.ensures.loads c.operators_give_the_same.ensures.binary c.comparisons_give_their_bit.ensures.comparisons c.comparisons_give_their_bit.ensures.tests
      c.operators_give_the_same.ensures.unary c.conversions_give_the_same.ensures.extends c.conversions_give_the_same.ensures.cuts c.conversions_give_the_same.ensures.casts
      c.operators_give_the_same.ensures.elements)
      (sizes c.sound_histories_give_values_that_fit.ensures.loaded c.values_have_their_size.ensures.binary c.values_have_their_size.ensures.unary
      c.values_have_their_size.ensures.extends c.values_have_their_size.ensures.casts c.values_have_their_size.ensures.elements)
      unit f frame scopes m h here e t typed plain;
  addresses = λ unit f frame scopes m h e t here typed plain placed.
      addresses_agree (operators c.loads_and_stores_agree.ensures.loads c.operators_give_the_same.ensures.binary c.comparisons_give_their_bit.ensures.comparisons c.comparisons_give_their_bit.ensures.tests
      c.operators_give_the_same.ensures.unary c.conversions_give_the_same.ensures.extends c.conversions_give_the_same.ensures.cuts c.conversions_give_the_same.ensures.casts
      c.operators_give_the_same.ensures.elements)
      (sizes c.sound_histories_give_values_that_fit.ensures.loaded c.values_have_their_size.ensures.binary c.values_have_their_size.ensures.unary
      c.values_have_their_size.ensures.extends c.values_have_their_size.ensures.casts c.values_have_their_size.ensures.elements)
      unit f frame scopes m h here e t typed plain placed;
}
