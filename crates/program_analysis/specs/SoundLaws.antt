-- A report that is sound for the system of a program's machine is sound for the program.
--   IsOutcomeOf fault outcome     the outcome is this fault, or outputs
--   RunsSo program graph n history trace fault   a run from the point has the nodes of the trace and ends so
--   passes_runs      a run of the system that ends is one of the program
--   SoundForSystemIsSound   the law: a report that is sound for the system of the machine is sound for the program
use Rattle.std.specs.Prelude.{slice_index}
use Rattle.std.specs.List.{fold}
use Rattle.std.specs.Option.{option_map}
use Rattle.std.proofs.Common.{◌≡◌, ◌<◌, ◌+◌, ℕ, suc, List, [], ◌∷◌, map, length, Option, None, Some, refl, ap, ◌∙◌}
use Rattle.std.proofs.lemmas.Option.{slice_get-get_or, slice_get-map, get_or_from_slice_get}
use Rattle.alf_ops.specs.declared.history.RunEvent.{RunEvent}
use Rattle.alf_ops.specs.declared.history.RunFault.{RunFault}
use Rattle.alf_check.specs.declared.rows.InputRow.{InputRow}
use Rattle.alf_check.specs.CheckedPrograms.{NumberedProgram, seen}
use Rattle.alf_check.specs.Kept.{IsKept}
use Rattle.flow_graph.specs.Nodes.{Node, first_node}
use Rattle.flow_graph.specs.Numbering.{GraphParts, IsGraph}
use Rattle.flow_graph.specs.Expansions.{node_number}
use Rattle.alf_runs.specs.Outcomes.{Outcome, Outputs, Ended, Faulted}
use Rattle.alf_runs.specs.Steps.{Moment, Over, step}
use Rattle.alf_runs.specs.Runs.{after, trace, cost_of}
use Rattle.alf_interp.specs.Traces.{Runs, IsNodeAt, AreNumbersOf}
use Rattle.cost_table.specs.CostTables.{CostTable}
use Rattle.domain_core.specs.Outlines.{Outlined, shape_of}
use Rattle.flow_facts.specs.Reports.{Reported}
use Rattle.ipet_rows.specs.Uses.{run_cost}
use Rattle.transfer_rules.specs.Points.{run_system, moment_at}
use Rattle.abstract_step.specs.Steppers.{StepperParts, stepped_by}
use Rattle.report_soundness.specs.ReportTold.{costs_of}
use Rattle.worklist_rules.specs.EndedRuns.{EndsWith, Passes, stops, moves}
use Rattle.report_soundness.specs.Runs.{IsSound as IsSoundSystem}
use Rattle.program_machines.specs.NodeCosts.{node_cost, HasCosts}
use Rattle.program_analysis.specs.Sound.{IsSoundByCount}

-- the outcome is this fault, or outputs
abbrev pub IsOutcomeOf : Option RunFault → Outcome → Type 0
IsOutcomeOf None outcome = (outputs : Outputs) × (outcome ≡ Ended outputs)
IsOutcomeOf (Some fault) outcome = outcome ≡ Faulted fault

-- a run from the point has the nodes of the trace and ends so
pub record RunsSo (program : NumberedProgram) (graph : GraphParts) (n : ℕ) (history : List RunEvent) (trace : List ℕ)
    (fault : Option RunFault) : Type 0 where
  pub outcome : Outcome
  pub is : IsOutcomeOf fault outcome
  pub runs : Runs program graph.nodes (moment_at graph n history) trace outcome

-- ---- runs of the system that end

module _ (program : NumberedProgram) (graph : GraphParts) (rows : List InputRow) where
  at_low : (n : ℕ) → n < length graph.nodes → IsNodeAt graph.nodes n (node_number graph n)
  at_low n low = slice_get-get_or graph.nodes n first_node low

  stopped : (n : ℕ) (history : List RunEvent) (outcome : Outcome) → n < length graph.nodes
      → step program (moment_at graph n history) ≡ Over outcome
      → Runs program graph.nodes (moment_at graph n history) (n ∷ []) outcome
  stopped n history outcome low over = record {
    run = node_number graph n ∷ [];
    ends = record { steps = 1; over = over; passes = refl };
    numbers = (at_low n low, tt);
  }

  ended : (n : ℕ) (history : List RunEvent) (fault : Option RunFault)
      → EndsWith (run_system program graph rows) n history fault → RunsSo program graph n history (n ∷ []) fault
  ended n history None ends = record { outcome = Ended ends.outputs; is = (ends.outputs, refl); runs = stopped n history (Ended ends.outputs) ends.from ends.steps }
  ended n history (Some fault) fails = record { outcome = Faulted fault; is = refl; runs = stopped n history (Faulted fault) fails.from fails.steps }

  -- a run of the system that ends is one of the program
  pub passes_runs : {n : ℕ} {history : List RunEvent} {nodes : List ℕ} {fault : Option RunFault}
      → Passes (run_system program graph rows) n history nodes fault → RunsSo program graph n history nodes fault
  passes_runs {n} {history} {nodes} {fault} (stops ends) = ended n history fault ends
  passes_runs {n} {history} {nodes} {fault} (moves goes rest) =
      let r = passes_runs rest in
      let node : Node = node_number graph n in
      record {
        outcome = r.outcome;
        is = r.is;
        runs = record {
          run = node ∷ r.runs.run;
          ends = record {
            steps = suc r.runs.ends.steps;
            over = ap (after program r.runs.ends.steps) goes.steps ∙ r.runs.ends.over;
            passes = ap (λ (m : Moment). node ∷ trace program r.runs.ends.steps m) goes.steps ∙ ap (λ (nodes : List Node). node ∷ nodes) r.runs.ends.passes;
          };
          numbers = (at_low n goes.from, r.runs.numbers);
        };
      }

-- ---- costs

same_fold : (f : ℕ → ℕ) (g : Node → ℕ) (nodes : List Node)
    → ((n : ℕ) (node : Node) → IsNodeAt nodes n node → f n ≡ g node) → (trace : List ℕ) (run : List Node)
    → AreNumbersOf nodes trace run
    → (s : ℕ) → fold (λ a n. a + f n) s trace ≡ fold (λ a node. a + g node) s run
same_fold f g nodes same [] [] all s = refl
same_fold f g nodes same [] (node ∷ run) all s = absurd all
same_fold f g nodes same (n ∷ trace) [] all s = absurd all
same_fold f g nodes same (n ∷ trace) (node ∷ run) all s =
    same_fold f g nodes same trace run all.1 (s + f n) ∙ ap (λ (k : ℕ). fold (λ a m. a + g m) (s + k) run) (same n node all.0)

-- the run costs what its nodes cost
pub same_cost : (program : NumberedProgram) (graph : GraphParts) (costs : CostTable) (o : Outlined) (trace : List ℕ) (run : List Node) → HasCosts program graph costs o → AreNumbersOf graph.nodes trace run
    → run_cost (costs_of o) trace ≡ cost_of (node_cost program costs) run
same_cost program graph costs o trace run priced numbers =
    same_fold (slice_index (costs_of o)) (node_cost program costs) graph.nodes
    (λ n node at.
    ap (λ (all : List ℕ). slice_index all n) priced
    ∙ get_or_from_slice_get (map (node_cost program costs) graph.nodes) n (node_cost program costs node) 0
    (slice_get-map (node_cost program costs) graph.nodes n ∙ ap (option_map (node_cost program costs)) at))
    trace run numbers 0

-- ---- soundness

-- the law
abbrev pub SoundForSystemIsSound : Type 0
SoundForSystemIsSound = (parts : StepperParts) (o : Outlined) (costs : CostTable) (report : Reported) → IsKept (seen parts.checked) → IsGraph (seen parts.checked) parts.graph
    → HasCosts (seen parts.checked) parts.graph costs o → IsSoundSystem (stepped_by parts).system o report
    → IsSoundByCount (seen parts.checked) parts.graph parts.rows (shape_of o) costs report
