-- Laws of program analyses.
--   found_of_other                what is found of the parts of a program is found of other parts of it
--   one_analysis, longer_analysis, one_event_list   why
-- The code has a program in parts, which lie in memory as they do: here any that are seen as the program will do.
use Rattle.std.proofs.Common.{ℕ, List, slice_index, refl, sym, ap, ◌∙◌}
use Rattle.std.specs.List.{AllZip}
use Rattle.alf_check.specs.declared.rows.InputRow.{InputRow}
use Rattle.alf_check.specs.CheckedPrograms.{CheckedParts, NumberedProgram, seen}
use Rattle.flow_graph.specs.Numbering.{GraphParts}
use Rattle.flow_graph.specs.Graphs.{HasProgram}
use Rattle.domain_core.specs.declared.event.Event.{Event}
use Rattle.domain_core.specs.Outlines.{Outlined, shape_of}
use Rattle.worklist_rules.specs.declared.policy.Policy.{Policy}
use Rattle.worklist_rules.specs.Pools.{Spot}
use Rattle.memory_model.specs.KeptMemories.{MemoryParts}
use Rattle.memory_model.specs.SeenOrders.{parts_order}
use Rattle.abstract_step.specs.Steppers.{StepperParts, stepped_by}
use Rattle.report_soundness.specs.ReportTold.{FourRecorders, four_order, four_recording}
use Rattle.program_analysis.specs.Answers.{Answer, Told, Unbounded}
use Rattle.program_analysis.specs.Analyses.{PoolOf, first_pool, IsExploration, IsFound}
use Rattle.program_analysis.specs.AnalysisLaws.{PartsHaveOneAnalysis, PartsHaveOneEventList, StaysFound, HasOneAlike}
use Rattle.program_analysis.specs.AlongsideLaws.{zip_at}
use Rattle.program_analysis.specs.TwinRuns.{IsBeside, RunsAlso, beside}
use Rattle.program_analysis.specs.TwinRunLaws.{none_beside, run_beside}
use Rattle.program_analysis.specs.TwinMachines.{IsProgramOf, IsTwin}
use Rattle.program_analysis.specs.TwinMachineLaws.{first_twin, machines_are_twins}
use Rattle.program_analysis.specs.ProgramAnalyses.{HasOneAnalysis, StaysAnalysed, HasOneEventList}

module _ (program : NumberedProgram) (graph : GraphParts) (rows : List InputRow) (checked other : CheckedParts) (first : IsProgramOf program checked) (second : IsProgramOf program other) (o : Outlined) (policy : Policy) (turns : ℕ) where
  -- the two as steppers
  abbrev parts_with : CheckedParts → StepperParts
  parts_with c = record { checked = c; graph = graph; rows = rows }

  abbrev Twin : MemoryParts → MemoryParts → Type 0
  Twin = IsTwin checked other

  -- the places of the pool at the start
  abbrev first_spots : CheckedParts → List (Spot MemoryParts FourRecorders)
  first_spots c = (first_pool (parts_with c) o).spots

  first_beside : AllZip (IsBeside Twin) (first_spots checked) (first_spots other)
  first_beside = (((stepped_by (parts_with other)).first, first_twin program checked other first second graph rows, refl), tt)

  -- what explorations make of the pool beside
  explored : (pool : PoolOf) (events : List Event) → IsExploration (parts_with checked) o policy turns events pool
      → RunsAlso stepped_by parts_order four_order four_recording Twin (parts_with other) policy turns (first_pool (parts_with checked) o) pool (first_spots other) events
  explored pool events run =
      run_beside stepped_by parts_order four_order four_recording Twin (parts_with other) policy turns events (first_pool (parts_with checked) o) pool (first_spots other)
      (machines_are_twins program checked other first second graph rows) first_beside run

  -- what is found of the parts of a program is found of other parts of it
  pub found_of_other : (answer : Answer) → IsFound (parts_with checked) o policy turns answer
      → IsFound (parts_with other) o policy turns answer
  found_of_other (Told report) h =
      let also = explored h.pool h.events h.explored in
      record {
        events = h.events;
        pool = beside h.pool (parts_with other) also.others;
        explored = also.run;
        empty = none_beside (IsBeside Twin) h.pool.spots also.others also.beside_new h.empty;
        told = h.told;
      }
  found_of_other (Unbounded scope) h =
      let also = explored h.pool h.events h.explored in
      let spot = h.left.0 in
      let found = zip_at (IsBeside Twin) h.pool.spots also.others 0 spot also.beside_new h.left.1 in
      record {
        events = h.events;
        pool = beside h.pool (parts_with other) also.others;
        explored = also.run;
        left = (found.0, found.1, h.left.2 ∙ ap (λ (s : Spot MemoryParts FourRecorders). slice_index (shape_of h.pool.outline).own s.node) (sym found.2.2));
      }

pub one_analysis : PartsHaveOneAnalysis → HasOneAlike → HasOneAnalysis
one_analysis one alike program graph rows costs policy turns a b h k =
    let has : HasProgram graph = record { program = seen h.checked; keeps = h.keeps; is = h.graph_is } in
    let found = found_of_other program graph rows h.checked k.checked h.program_is k.program_is h.outline policy turns a h.found in
    one (record { checked = k.checked; graph = graph; rows = rows }) h.outline k.outline policy turns a b
    (alike program graph costs h.outline k.outline has h.outline_is h.names h.costs_are k.outline_is k.names k.costs_are) found k.found

pub longer_analysis : StaysFound → StaysAnalysed
longer_analysis stays program graph rows costs policy turns report h =
    let found = stays (record { checked = h.checked; graph = graph; rows = rows }) h.outline policy turns report h.found in (
      found.0,
      λ more enough. record {
        checked = h.checked;
        keeps = h.keeps;
        graph_is = h.graph_is;
        inputs = h.inputs;
        outline = h.outline;
        program_is = h.program_is;
        outline_kept = h.outline_kept;
        outline_is = h.outline_is;
        names = h.names;
        costs_are = h.costs_are;
        found = found.1 more enough;
      },
    )

pub one_event_list : PartsHaveOneEventList → HasOneAlike → HasOneEventList
unfolding found_of_other
one_event_list one alike program graph rows costs policy turns more a b h k =
    let has : HasProgram graph = record { program = seen h.checked; keeps = h.keeps; is = h.graph_is } in
    one (record { checked = k.checked; graph = graph; rows = rows }) h.outline k.outline policy turns more a b
    (alike program graph costs h.outline k.outline has h.outline_is h.names h.costs_are k.outline_is k.names k.costs_are)
    (found_of_other program graph rows h.checked k.checked h.program_is k.program_is h.outline policy turns (Told a) h.found) k.found
