use Rattle.c_meaning.specs.Objects.{program_of}
use Rattle.lowering_values.proofs.Lower.{sizes, operators}
use Rattle.lowering_values.proofs.Stores.{arguments_agree, arguments_whole}
use Rattle.lowering_values.proofs.memories.arguments_agree.Goals as goal

pub returns : goal.returns
returns c = record {
  values = λ unit f frame scopes m h es kinds ps here suit plain.
      arguments_agree (operators c.loads_and_stores_agree.ensures.loads c.operators_give_the_same.ensures.binary c.comparisons_give_their_bit.ensures.comparisons c.comparisons_give_their_bit.ensures.tests
      c.operators_give_the_same.ensures.unary c.conversions_give_the_same.ensures.extends c.conversions_give_the_same.ensures.cuts c.conversions_give_the_same.ensures.casts
      c.operators_give_the_same.ensures.elements)
      (sizes c.sound_histories_give_values_that_fit.ensures.loaded c.values_have_their_size.ensures.binary c.values_have_their_size.ensures.unary
      c.values_have_their_size.ensures.extends c.values_have_their_size.ensures.casts c.values_have_their_size.ensures.elements)
      unit f frame scopes m h here es kinds ps suit plain;
  fit = λ unit scopes h es ps vs sound is.
      arguments_whole (sizes c.sound_histories_give_values_that_fit.ensures.loaded c.values_have_their_size.ensures.binary c.values_have_their_size.ensures.unary
      c.values_have_their_size.ensures.extends c.values_have_their_size.ensures.casts c.values_have_their_size.ensures.elements)
      c.values_have_their_size.ensures.cuts (program_of unit) scopes h sound es ps vs is;
}
