-- The laws of values and memories that leaves rest on.
--   ValueLaws                what lowered expressions, stores and calls compute is what the unit computes
use Rattle.lowering_values.specs.EmbeddingLaws.{EventsAgree}
use Rattle.lowering_values.specs.Agreement.{ValuesAgree, AddressesAgree, TestsAgree, ComparisonsAgree, OperatorsAgree, ValuesFit, OperatorsFit, CutsAgree, CutsFit, StoresAgree, ObjectsAgree, ElementsAgree, ArgumentsAgree, ArgumentsFit, EntersAgree, ResultsAgree, OutputsAgree, StartsAgree}

pub record ValueLaws : Type 0 where
  pub values : ValuesAgree
  pub addresses : AddressesAgree
  pub tests : TestsAgree
  pub comparisons : ComparisonsAgree
  pub operators : OperatorsAgree
  pub values_fit : ValuesFit
  pub operators_fit : OperatorsFit
  pub cuts : CutsAgree
  pub cuts_fit : CutsFit
  pub stores : StoresAgree
  pub objects : ObjectsAgree
  pub elements : ElementsAgree
  pub arguments : ArgumentsAgree
  pub arguments_fit : ArgumentsFit
  pub enters : EntersAgree
  pub results : ResultsAgree
  pub outputs : OutputsAgree
  pub starts : StartsAgree
  pub events : EventsAgree
