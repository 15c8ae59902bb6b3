use Rattle.lowering_values.proofs.Loads.{runs_alike}
use Rattle.lowering_values.proofs.injection_laws.functions_run_alike.Goals as goal

pub returns : goal.returns
returns c = λ place is_embedded m h function agrees. runs_alike place is_embedded m h function agrees
