use Rattle.lowering_values.proofs.Given.{operators_give, unaries_give, elements_give}
use Rattle.lowering_values.proofs.operator_laws.operators_give_the_same.Goals as goal

pub returns : goal.returns
returns c = record {
  binary = λ place frames frame m op a b left right l r apart plain gl gr fits. operators_give place frames frame m apart op a b left right l r plain gl gr fits;
  unary = λ place frames frame m e at v t g. unaries_give place frames frame m e at v t g;
  elements = λ place frames frame m t of base index b i gb gi. elements_give place frames frame m t of base index b i gb gi;
}
