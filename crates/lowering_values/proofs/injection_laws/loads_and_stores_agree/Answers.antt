use Rattle.lowering_values.proofs.Loads.{load_alike, store_alike}
use Rattle.lowering_values.proofs.injection_laws.loads_and_stores_agree.Goals as goal

pub returns : goal.returns
returns c = record {
  loads = λ place is_embedded inner outer m h at size places agrees. load_alike place is_embedded inner outer m h at size places agrees;
  stores = λ place is_embedded inner outer m h at value places agrees fits. store_alike place is_embedded inner outer m h at value places agrees fits;
}
