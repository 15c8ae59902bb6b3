-- The ranges of rows that keep the rules suit a bounder.
use Rattle.std.proofs.Common.{◌≡◌, ◌≤◌, List, sym, subst}
use Rattle.std.proofs.lemmas.List.{length-map}
use Rattle.alf_check.specs.CheckedPrograms.{seen}
use Rattle.alf_check.specs.declared.rows.InputRow.{InputRow}
use Rattle.alf_check.specs.Inputs.{KeepInputs}
use Rattle.alf_check.specs.Kept.{IsKept}
use Rattle.flow_graph.specs.Numbering.{IsGraph}
use Rattle.domain_core.specs.Outlines.{IsOutline, shape_of}
use Rattle.domain_core.specs.OutlineOf.{IsOutlineOf}
use Rattle.scope_graph.specs.Placing.{plan_of}
use Rattle.program_machines.specs.NodeCosts.{HasCosts}
use Rattle.program_analysis.specs.AnalysisLaws.{names_of}
use Rattle.program_analysis.specs.Bounds.{most_turns}
use Rattle.program_bounder.specs.declared.bounder.PathBounder.{PathBounder}
use Rattle.program_bounder.specs.InputRows.{range_of, ranges_of}
use Rattle.program_bounder.proofs.InputRowLemmas.{own_ranges}
use Rattle.program_bounder.specs.PathBounding.{Promises, given_program, Suits}

pub suits_own : (b : PathBounder) → Promises → IsKept (seen b.checked) → IsGraph (seen b.checked) b.graph
    → KeepInputs (seen b.checked) b.rows.items → IsOutline (shape_of b.outline)
    → IsOutlineOf (plan_of b.graph) (shape_of b.outline) → names_of b.outline ≡ b.graph.names → HasCosts (given_program b) b.graph b.costs b.outline → b.turns ≤ most_turns
    → Suits b (ranges_of b.rows.items)
suits_own b promises keeps graph rows kept outline named costs turns = record {
  promises = promises;
  long = length-map b.rows.items range_of;
  inputs = subst (λ (l : List InputRow). KeepInputs (seen b.checked) l) (sym (own_ranges b.rows.items)) rows;
  keeps = keeps;
  graph_is = graph;
  outline_kept = kept;
  outline_is = outline;
  named = named;
  costs_are = costs;
  turns = turns;
}
