-- Lines that are sound for the system of a program's machine are sound for the program.
--   SoundForSystemIsSound   the law
use Rattle.alf_check.specs.CheckedPrograms.{seen}
use Rattle.alf_check.specs.Kept.{IsKept}
use Rattle.flow_graph.specs.Numbering.{IsGraph}
use Rattle.cost_table.specs.CostTables.{CostTable}
use Rattle.domain_core.specs.Outlines.{Outlined}
use Rattle.abstract_step.specs.Steppers.{StepperParts, stepped_by}
use Rattle.program_machines.specs.NodeCosts.{HasCosts}
use Rattle.line_cache.specs.declared.shape.Shape.{Shape}
use Rattle.cached_runs.specs.Answers.{CacheLines}
use Rattle.cached_runs.specs.CachedRuns.{AreSoundLines as IsSoundSystem}
use Rattle.cache_analysis.specs.CodeAccesses.{HasCodeNotes}
use Rattle.cache_analysis.specs.Sound.{IsSoundCache}

-- the law
abbrev pub SoundForSystemIsSound : Type 0
SoundForSystemIsSound = (parts : StepperParts) (shape : Shape) (o : Outlined) (costs : CostTable) (lines : CacheLines) → IsKept (seen parts.checked) → IsGraph (seen parts.checked) parts.graph
    → HasCodeNotes (seen parts.checked) parts.graph shape o → HasCosts (seen parts.checked) parts.graph costs o → IsSoundSystem (stepped_by parts).system o lines
    → IsSoundCache (seen parts.checked) parts.graph parts.rows shape costs lines
