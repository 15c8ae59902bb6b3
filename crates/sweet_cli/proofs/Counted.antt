-- What the crate below counts, in terms of the program and of its nodes' costs.
use Rattle.std.proofs.Common.{◌≡◌, ℕ, List, map, Result, Ok, Err, IfOk, ap, ◌∙◌, subst}
use Rattle.std.specs.declared.alloc.AllocError.{AllocError}
use Rattle.alf_check.specs.CheckedPrograms.{NumberedProgram}
use Rattle.alf_check.specs.declared.rows.InputRow.{InputRow}
use Rattle.flow_graph.specs.Numbering.{GraphParts}
use Rattle.alf_runs.specs.Starts.{start}
use Rattle.alf_interp.specs.Traces.{Runs, cost_of}
use Rattle.alf_interp.specs.Counts.{Tells, outcome_of}
use Rattle.alf_interp.specs.declared.tally.Counted.{Counted}
use Rattle.alf_interp.specs.declared.tally.Counted.TheVariants as told
use Rattle.cost_table.specs.CostTables.{CostTable}
use Rattle.program_machines.specs.NodeCosts.{node_cost}
use Rattle.sweet_cli.specs.Counting.{CountedAs}
use Rattle.sweet_cli.proofs.Numbers.{last_low, costs_same}

module _ (program : NumberedProgram) (graph : GraphParts) (rows : List InputRow) (words : List ℕ) (table : CostTable) (turns : ℕ) where
  pub counted_for : (costs : List ℕ) → costs ≡ map (node_cost program table) graph.nodes → (counted : Counted)
      → Tells program graph.nodes costs (start program rows words) turns counted
      → CountedAs (record { program = program; graph = graph }) rows words table turns counted
  counted_for costs same (told.Over tally) h =
      let nodes = graph.nodes in
      let ran : Runs program nodes (start program rows words) h.trace (outcome_of tally.end) =
      subst (Runs program nodes (start program rows words) h.trace) h.tallies.end h.runs in
      record {
        trace = h.trace;
        runs = ran;
        within = h.within;
        counts = h.tallies.counts;
        turned = h.tallies.turns;
        last = h.tallies.last;
        there = last_low nodes h.trace ran.run tally.last ran.numbers h.tallies.last;
        cost = h.tallies.cost ∙ ap (λ (l : List ℕ). cost_of l h.trace) same ∙ costs_same nodes (node_cost program table) h.trace ran.run ran.numbers;
      }
  counted_for costs same (told.Left n) h = h

  -- and so it is of an answer
  pub all_counted : (costs : List ℕ) → costs ≡ map (node_cost program table) graph.nodes
      → (result : Result Counted AllocError)
      → IfOk result (λ counted. Tells program graph.nodes costs (start program rows words) turns counted)
      → IfOk result (λ counted. CountedAs (record { program = program; graph = graph }) rows words table turns counted)
  all_counted costs same (Ok counted) h = counted_for costs same counted h
  all_counted costs same (Err error) h = tt
