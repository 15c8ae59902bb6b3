-- A report and the same in the second form say the same.
--   migrated_sound, sound_migrated   both are sound alike
--   migrated_check, check_migrated   `check` answers both alike
use Rattle.std.proofs.Common.{List, Option}
use Rattle.alf_check.specs.declared.rows.InputRow.{InputRow}
use Rattle.alf_check.specs.CheckedPrograms.{NumberedProgram}
use Rattle.cost_table.specs.CostTables.{CostTable}
use Rattle.domain_core.specs.Machines.{Machine}
use Rattle.domain_core.specs.Orders.{Order}
use Rattle.domain_core.specs.Outlines.{Outlined}
use Rattle.flow_facts.specs.Reports.{Certificate, Reported}
use Rattle.flow_graph.specs.Numbering.{GraphParts}
use Rattle.program_checks.specs.Checking.{IsCheckOf}
use Rattle.report_forms.specs.Migrating.{migrated}
use Rattle.report_objections.specs.declared.objection.Objection.{Objection}
use Rattle.report_objections.specs.Checks.{IsChecked, uncertified, unshaped, refused, applied}
use Rattle.report_objections.specs.Shaping.{HasShape}
use Rattle.sweet_cli.specs.Check.{IsAcceptedOf}

-- ---- soundness

module _ (program : NumberedProgram) (graph : GraphParts) (rows : List InputRow) (costs : CostTable) (report : Reported) where
  pub migrated_sound : IsAcceptedOf program graph rows costs report → IsAcceptedOf program graph rows costs (migrated report)
  migrated_sound s = record {
    outline = s.outline;
    outline_is = s.outline_is;
    legend = record { names = s.legend.names; nodes = s.legend.nodes; scopes = s.legend.scopes };
    costs_are = s.costs_are;
    sound = λ start from.
        let h = s.sound start from in
        record { trace = h.trace; outcome = h.outcome; runs = h.runs; facts = h.facts; alarm = h.alarm; count = h.count; path = h.path };
  }

  pub sound_migrated : IsAcceptedOf program graph rows costs (migrated report) → IsAcceptedOf program graph rows costs report
  sound_migrated s = record {
    outline = s.outline;
    outline_is = s.outline_is;
    legend = record { names = s.legend.names; nodes = s.legend.nodes; scopes = s.legend.scopes };
    costs_are = s.costs_are;
    sound = λ start from.
        let h = s.sound start from in
        record { trace = h.trace; outcome = h.outcome; runs = h.runs; facts = h.facts; alarm = h.alarm; count = h.count; path = h.path };
  }

-- ---- the check

migrated_shape : (o : Outlined) (report : Reported) (cert : Certificate) → HasShape o report cert → HasShape o (migrated report) cert
migrated_shape o report cert is = record {
  shaped = record { nodes = is.shaped.nodes; scopes = is.shaped.scopes; facts = is.shaped.facts; totals = is.shaped.totals };
  multipliers = is.multipliers;
}

shape_migrated : (o : Outlined) (report : Reported) (cert : Certificate) → HasShape o (migrated report) cert → HasShape o report cert
shape_migrated o report cert is = record {
  shaped = record { nodes = is.shaped.nodes; scopes = is.shaped.scopes; facts = is.shaped.facts; totals = is.shaped.totals };
  multipliers = is.multipliers;
}

module _ {S T C : Type 0} (machine : S → Machine T C) (states : Order T) (stepper : S) (o : Outlined) (report : Reported) (answer : Option Objection) where
  migrated_checked : IsChecked machine states stepper o report answer → IsChecked machine states stepper o (migrated report) answer
  migrated_checked (uncertified bare same) = uncertified bare same
  migrated_checked (unshaped cert there lacks same) = unshaped cert there (λ shape. lacks (shape_migrated o report cert shape)) same
  migrated_checked (refused cert k event w there shape at done bad same) = refused cert k event w there (migrated_shape o report cert shape) at done bad same
  migrated_checked (applied cert w there shape done same) = applied cert w there (migrated_shape o report cert shape) done same

  checked_migrated : IsChecked machine states stepper o (migrated report) answer → IsChecked machine states stepper o report answer
  checked_migrated (uncertified bare same) = uncertified bare same
  checked_migrated (unshaped cert there lacks same) = unshaped cert there (λ shape. lacks (migrated_shape o report cert shape)) same
  checked_migrated (refused cert k event w there shape at done bad same) = refused cert k event w there (shape_migrated o report cert shape) at done bad same
  checked_migrated (applied cert w there shape done same) = applied cert w there (shape_migrated o report cert shape) done same

module _ (program : NumberedProgram) (graph : GraphParts) (rows : List InputRow) (costs : CostTable) (report : Reported) (answer : Option Objection) where
  pub migrated_check : IsCheckOf program graph rows costs report answer → IsCheckOf program graph rows costs (migrated report) answer
  migrated_check is = record {
    checked = is.checked;
    keeps = is.keeps;
    graph_is = is.graph_is;
    inputs = is.inputs;
    outline = is.outline;
    program_is = is.program_is;
    outline_kept = is.outline_kept;
    outline_is = is.outline_is;
    names = is.names;
    costs_are = is.costs_are;
    answer_is = migrated_checked _ _ _ is.outline report answer is.answer_is;
  }

  pub check_migrated : IsCheckOf program graph rows costs (migrated report) answer → IsCheckOf program graph rows costs report answer
  check_migrated is = record {
    checked = is.checked;
    keeps = is.keeps;
    graph_is = is.graph_is;
    inputs = is.inputs;
    outline = is.outline;
    program_is = is.program_is;
    outline_kept = is.outline_kept;
    outline_is = is.outline_is;
    names = is.names;
    costs_are = is.costs_are;
    answer_is = checked_migrated _ _ _ is.outline report answer is.answer_is;
  }
