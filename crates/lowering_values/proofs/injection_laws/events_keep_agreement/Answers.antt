use Rattle.lowering_values.proofs.Loads.{goes_on}
use Rattle.lowering_values.proofs.injection_laws.events_keep_agreement.Goals as goal

pub returns : goal.returns
returns c = λ place is_embedded m h agrees. goes_on place is_embedded m h agrees
