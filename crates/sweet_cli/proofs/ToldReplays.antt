-- What is told of a replay.
--   replay_of   what is told by the checked parts of a program is told of the program
use Rattle.std.proofs.Common.{ℤ, List}
use Rattle.alf_check.specs.declared.rows.InputRow.{InputRow}
use Rattle.alf_check.specs.CheckedPrograms.{CheckedParts, seen}
use Rattle.domain_core.specs.Outlines.{Outlined}
use Rattle.flow_facts.specs.Reports.{Reported}
use Rattle.flow_graph.specs.Numbering.{GraphParts}
use Rattle.cost_table.specs.CostTables.{CostTable}
use Rattle.program_machines.specs.NodeCosts.{HasCosts}
use Rattle.run_replays.specs.Replays.{Told, IsReplayed}
use Rattle.command_files.specs.Seen.{IsOutlined}
use Rattle.sweet_cli.specs.Replay.{IsReplayOf}

-- what is told by the checked parts of a program is told of the program
pub replay_of : (checked : CheckedParts) (graph : GraphParts) (rows : List InputRow) (costs : CostTable) (outline : Outlined) (report : Reported) (values : List ℤ) (told : Told)
    → IsOutlined graph outline → HasCosts (seen checked) graph costs outline → IsReplayed (seen checked) graph.nodes rows outline report values told
    → IsReplayOf (seen checked) graph rows costs report values told
replay_of checked graph rows costs outline report values told outlined priced is = record {
  outline = outline;
  outline_is = outlined.outline_is;
  names = outlined.named;
  costs_are = priced;
  is = is;
}
