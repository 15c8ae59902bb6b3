-- What is left to show of `lowered_programs_have_the_units_outcome`.
use Rattle.lowering_simulation.specs.Laws.{ValueLaws}
use Rattle.lowering_simulation.proofs.LeafPrograms.{lowered_has_the_outcome}
use Rattle.lowering_simulation.proofs.leaf_laws.lowered_programs_have_the_units_outcome.Goals as goal

pub returns : goal.returns
returns c =
    let laws : ValueLaws = record {
      values = c.expressions_agree.ensures.values;
      addresses = c.expressions_agree.ensures.addresses;
      tests = c.tests_agree.ensures.tests;
      comparisons = c.tests_agree.ensures.comparisons;
      operators = c.operators_agree.ensures;
      values_fit = c.values_fit.ensures.values;
      operators_fit = c.values_fit.ensures.operators;
      cuts = c.conversions_agree.ensures;
      cuts_fit = c.values_fit.ensures.cuts;
      stores = c.stores_agree.ensures;
      objects = c.objects_have_their_address.ensures;
      elements = c.constants_agree.ensures;
      arguments = c.arguments_agree.ensures.values;
      arguments_fit = c.arguments_agree.ensures.fit;
      enters = c.functions_are_entered_alike.ensures;
      results = c.results_are_kept.ensures;
      outputs = c.outputs_agree.ensures;
      starts = c.starts_agree.ensures;
      events = c.events_keep_agreement.ensures;
    } in
    lowered_has_the_outcome laws c.runs_have_the_units_outcome.ensures c.checked_programs_follow_their_items.ensures.follow
