use Rattle.lowering_values.proofs.Given.{extends_give, cuts_give, casts_give}
use Rattle.lowering_values.proofs.SameWords.{word_cut}
use Rattle.lowering_values.proofs.operator_laws.conversions_give_the_same.Goals as goal

pub returns : goal.returns
returns c = record {
  extends = λ place frames frame m i e v g. extends_give place frames frame m i e v g;
  cuts = λ place frames frame m t e v g. cuts_give place frames frame m t e v g;
  casts = λ place frames frame m t e v g. casts_give place frames frame m t e v g;
  words = λ size more z wider. word_cut size more z wider;
}
