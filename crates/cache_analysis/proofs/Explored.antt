-- What an exploration found, told of the program.
--   analysed      what was found is an analysis of the program
--   told_sound    lines that are sound for the system are sound for the program
use Rattle.std.proofs.Common.{ℕ, List, Result, Ok, Err, IfOk, refl}
use Rattle.alf_check.specs.declared.rows.InputRow.{InputRow}
use Rattle.alf_check.specs.CheckedPrograms.{CheckedParts, seen}
use Rattle.alf_check.specs.Kept.{IsKept}
use Rattle.flow_graph.specs.Numbering.{GraphParts, IsGraph}
use Rattle.cost_table.specs.CostTables.{CostTable}
use Rattle.domain_core.specs.Outlines.{Outlined, shape_of}
use Rattle.domain_core.specs.OutlineOf.{IsOutlineOf}
use Rattle.scope_graph.specs.Placing.{plan_of}
use Rattle.worklist_rules.specs.declared.policy.Policy.{Policy}
use Rattle.memory_model.specs.SeenOrders.{parts_order}
use Rattle.abstract_step.specs.Steppers.{StepperParts, stepped_by}
use Rattle.program_machines.specs.NodeCosts.{HasCosts}
use Rattle.line_cache.specs.declared.shape.Shape.{Shape}
use Rattle.cached_runs.specs.declared.answer.Cached.{Cached}
use Rattle.cached_runs.specs.Answers.{CacheAnswer, Told, Unbounded, answer_of, IfTold}
use Rattle.cached_runs.specs.CachedRuns.{IsFound, AreSoundLines as IsSoundSystem}
use Rattle.cache_analysis.specs.CodeAccesses.{HasCodeNotes}
use Rattle.cache_analysis.specs.Sound.{IsSoundCache}
use Rattle.cache_analysis.specs.SoundLaws.{SoundForSystemIsSound}
use Rattle.cache_analysis.specs.Analyses.{IsCacheAnalysis}

module _ (checked : CheckedParts) (graph : GraphParts) (rows : List InputRow) (shape : Shape) (o : Outlined) (policy : Policy) (turns : ℕ)
    (keeps : IsKept (seen checked)) (is : IsGraph (seen checked) graph) (noted : HasCodeNotes (seen checked) graph shape o) where
  abbrev parts : StepperParts
  parts = record { checked = checked; graph = graph; rows = rows }

  -- what was found is an analysis of the program
  pub analysed : {E : Type 0} → IsOutlineOf (plan_of graph) (shape_of o) → (result : Result Cached E)
      → IfOk result (λ cached. IsFound stepped_by parts_order parts o policy turns (answer_of cached))
      → IfOk result (λ cached. (costs : CostTable) → HasCosts (seen checked) graph costs o → IsCacheAnalysis (seen checked) graph rows shape costs policy turns (answer_of cached))
  analysed of (Ok cached) found = λ costs priced. record {
    checked = checked;
    keeps = keeps;
    graph_is = is;
    outline = o;
    program_is = refl;
    outline_is = of;
    costs_are = priced;
    noted = noted;
    found = found;
  }
  analysed of (Err error) found = tt

  lines_sound : SoundForSystemIsSound → (answer : CacheAnswer)
      → IfTold answer (IsSoundSystem (stepped_by parts).system o)
      → IfTold answer (λ lines. (costs : CostTable) → HasCosts (seen checked) graph costs o → IsSoundCache (seen checked) graph rows shape costs lines)
  lines_sound law (Told lines) sound = λ costs priced. law parts shape o costs lines keeps is noted priced sound
  lines_sound law (Unbounded scope) sound = tt

  -- lines that are sound for the system are sound for the program
  pub told_sound : {E : Type 0} → SoundForSystemIsSound → (result : Result Cached E)
      → IfOk result (λ cached. IfTold (answer_of cached) (IsSoundSystem (stepped_by parts).system o))
      → IfOk result (λ cached. IfTold (answer_of cached) (λ lines. (costs : CostTable) → HasCosts (seen checked) graph costs o → IsSoundCache (seen checked) graph rows shape costs lines))
  told_sound law (Ok cached) sound = lines_sound law (answer_of cached) sound
  told_sound law (Err error) sound = tt
