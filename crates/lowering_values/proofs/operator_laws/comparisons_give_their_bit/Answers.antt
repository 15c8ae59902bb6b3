use Rattle.lowering_values.proofs.Given.{comparisons_give, tests_give}
use Rattle.lowering_values.proofs.operator_laws.comparisons_give_their_bit.Goals as goal

pub returns : goal.returns
returns c = record {
  comparisons = λ place frames frame m op a b left right l r apart plain gl gr fits. comparisons_give place frames frame m apart op a b left right l r plain gl gr fits;
  tests = λ place frames frame m e v g. tests_give place frames frame m e v g;
}
