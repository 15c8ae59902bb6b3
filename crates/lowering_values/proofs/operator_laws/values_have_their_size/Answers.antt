use Rattle.lowering_values.proofs.Sizes.{operators_fit, unaries_fit, elements_fit, extends_fit, cuts_fit, casts_fit}
use Rattle.lowering_values.proofs.operator_laws.values_have_their_size.Goals as goal

pub returns : goal.returns
returns c = record {
  binary = λ op a b l r first second. operators_fit op a b l r;
  unary = λ v. unaries_fit v;
  elements = λ t base index. elements_fit t base index;
  extends = λ i v fits. extends_fit i v fits;
  cuts = λ t v fits. cuts_fit t v fits;
  casts = λ t v fits. casts_fit t v fits;
}
