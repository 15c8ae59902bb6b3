use Rattle.lowering_values.proofs.Lower.{sizes, operators}
use Rattle.lowering_values.proofs.Agreeing.{test_agrees, comparison_agrees}
use Rattle.lowering_values.proofs.expressions.tests_agree.Goals as goal

pub returns : goal.returns
returns c = record {
  tests = λ unit f frame scopes m h e t here typed plain.
      test_agrees (operators c.loads_and_stores_agree.ensures.loads c.operators_give_the_same.ensures.binary c.comparisons_give_their_bit.ensures.comparisons c.comparisons_give_their_bit.ensures.tests
      c.operators_give_the_same.ensures.unary c.conversions_give_the_same.ensures.extends c.conversions_give_the_same.ensures.cuts c.conversions_give_the_same.ensures.casts
      c.operators_give_the_same.ensures.elements)
      (sizes c.sound_histories_give_values_that_fit.ensures.loaded c.values_have_their_size.ensures.binary c.values_have_their_size.ensures.unary
      c.values_have_their_size.ensures.extends c.values_have_their_size.ensures.casts c.values_have_their_size.ensures.elements)
      unit f frame scopes m h here e t typed plain;
  comparisons = λ unit f frame scopes m h op token left right t here typed plain.
      comparison_agrees (operators c.loads_and_stores_agree.ensures.loads c.operators_give_the_same.ensures.binary c.comparisons_give_their_bit.ensures.comparisons c.comparisons_give_their_bit.ensures.tests
      c.operators_give_the_same.ensures.unary c.conversions_give_the_same.ensures.extends c.conversions_give_the_same.ensures.cuts c.conversions_give_the_same.ensures.casts
      c.operators_give_the_same.ensures.elements)
      (sizes c.sound_histories_give_values_that_fit.ensures.loaded c.values_have_their_size.ensures.binary c.values_have_their_size.ensures.unary
      c.values_have_their_size.ensures.extends c.values_have_their_size.ensures.casts c.values_have_their_size.ensures.elements)
      unit f frame scopes m h here op token left right t typed plain;
}
