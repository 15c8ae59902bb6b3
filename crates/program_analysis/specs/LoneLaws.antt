-- What an analysis finds where there is one input alone: the one run.
use Rattle.std.specs.Prelude.{slice_index}
use Rattle.std.proofs.Common.{◌≡◌, ℕ, List, ◌∙◌}
use Rattle.std.proofs.lemmas.List.{length-map}
use Rattle.alf_ops.specs.declared.history.RunEvent.{RunEvent}
use Rattle.alf_check.specs.CheckedPrograms.{seen}
use Rattle.domain_core.specs.Outlines.{Outlined, IsOutline, shape_of}
use Rattle.domain_core.specs.OutlineOf.{IsOutlineOf}
use Rattle.domain_core.specs.Machines.{IsAlong}
use Rattle.alf_interp.specs.Traces.{IsPast}
use Rattle.scope_graph.specs.Placing.{place_of, plan_of}
use Rattle.memory_model.specs.KeptMemories.{MemoryParts}
use Rattle.transfer_rules.specs.PartMachineLaws.{is_part_along}
use Rattle.abstract_step.specs.Steppers.{StepperParts, stepped_by}
use Rattle.program_machines.specs.Starts.{lone_start}

-- ---- the one run

-- it has more, and this is the scope of the node that comes after so many
pub record GoesPast (parts : StepperParts) (o : Outlined) (turns scope : ℕ) : Type 0 where
  pub node : ℕ
  pub past : IsPast (seen parts.checked) parts.graph.nodes (lone_start (seen parts.checked) parts.rows) turns node
  pub own : scope ≡ slice_index (shape_of o).own node

-- ---- explorations of these parts

-- what makes the parts and the outline fit
pub record AreFit (parts : StepperParts) (o : Outlined) : Type 0 where
  pub kept : (stepped_by parts).kept
  pub outline : IsOutline (shape_of o)
  pub is_of : IsOutlineOf (plan_of parts.graph) (shape_of o)

-- each step lies along an edge of the outline
pub along_fit : (parts : StepperParts) (o : Outlined) → AreFit parts o
    → IsAlong MemoryParts (List RunEvent) (shape_of o) (stepped_by parts)
along_fit parts o fit =
    is_part_along parts.checked parts.graph parts.rows fit.kept (shape_of o) fit.is_of.edges (fit.is_of.one_each ∙ length-map parts.graph.nodes place_of)
