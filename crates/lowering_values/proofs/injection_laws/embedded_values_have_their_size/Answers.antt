use Rattle.lowering_values.proofs.Loads.{size_value}
use Rattle.lowering_values.proofs.injection_laws.embedded_values_have_their_size.Goals as goal

pub returns : goal.returns
returns c = λ place value. size_value place value
