-- A report that is accepted is sound for the program.
--   shaped_of  against a report that has not the form of the outline something speaks
--   sound_of   why
use Rattle.std.proofs.Common.{◌≡◌, List, Option, None, Some}
use Rattle.alf_check.specs.declared.rows.InputRow.{InputRow}
use Rattle.alf_check.specs.CheckedPrograms.{CheckedParts, seen}
use Rattle.flow_graph.specs.Numbering.{GraphParts}
use Rattle.cost_table.specs.CostTables.{CostTable}
use Rattle.domain_core.specs.Machines.{Machine}
use Rattle.domain_core.specs.Orders.{Order}
use Rattle.domain_core.specs.Outlines.{Outlined, shape_of}
use Rattle.flow_facts.specs.Reports.{Reported}
use Rattle.program_machines.specs.NodeCosts.{HasCosts}
use Rattle.program_checks.specs.Sound.{IsSoundAccepted}
use Rattle.report_objections.specs.declared.objection.Objection.{Objection}
use Rattle.report_objections.specs.Checks.{IsChecked, uncertified, unshaped, refused, applied}
use Rattle.report_objections.specs.Shaping.{IsShaped}
use Rattle.command_files.specs.Seen.{IsOutlined}
use Rattle.sweet_cli.specs.Check.{IsAcceptedOf}

no_objection : {objection : Objection} → ◌≡◌ {A = Option Objection} None (Some objection) → ⊥
no_objection same = cc

-- against a report that has not the form of the outline something speaks
pub shaped_of : {S T C : Type 0} (machine : S → Machine T C) (states : Order T) (stepper : S) (o : Outlined) (report : Reported)
    → IsChecked machine states stepper o report None → IsShaped o report
shaped_of machine states stepper o report (uncertified bare same) = absurd (no_objection same)
shaped_of machine states stepper o report (unshaped cert there lacks same) = absurd (no_objection same)
shaped_of machine states stepper o report (refused cert k event w there shape at done bad same) = absurd (no_objection same)
shaped_of machine states stepper o report (applied cert w there shape done same) = shape.shaped

-- with the names, the costs and the scopes of the graph
pub sound_of : (checked : CheckedParts) (graph : GraphParts) (rows : List InputRow) (costs : CostTable) (outline : Outlined) (report : Reported) → IsOutlined graph outline
    → IsShaped outline report
    → HasCosts (seen checked) graph costs outline → IsSoundAccepted (seen checked) graph rows (shape_of outline) costs report
    → IsAcceptedOf (seen checked) graph rows costs report
sound_of checked graph rows costs outline report outlined shaped priced sound = record {
  outline = outline;
  outline_is = outlined.outline_is;
  legend = record { names = outlined.named; nodes = shaped.nodes; scopes = shaped.scopes };
  costs_are = priced;
  sound = sound;
}
