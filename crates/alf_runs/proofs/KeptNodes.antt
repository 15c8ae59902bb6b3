-- A run stands at kept nodes alone, and each leads to the next.
use Rattle.std.proofs.Common.{◌≡◌, ◌+◌, ℕ, zero, suc, List, Some, sym, ap, ◌∙◌, subst}
use Rattle.alf_ops.specs.declared.history.RunEvent.{RunEvent}
use Rattle.alf_check.specs.CheckedPrograms.{NumberedProgram}
use Rattle.flow_graph.specs.Nodes.{Node, Leads, IsKeptNode, first, goes_on, first_node}
use Rattle.alf_runs.specs.Steps.{Moment, At, Over, step}
use Rattle.alf_runs.specs.Runs.{after}
use Rattle.alf_runs.specs.LeadLaws.{LeadsTo}
use Rattle.alf_runs.proofs.Along.{step_along}
use Rattle.alf_runs.proofs.RunLengths.{after_more}

-- at a node, the law of kept nodes
abbrev AtKept : NumberedProgram → Moment → Type 0
AtKept program (At node history) = IsKeptNode program node
AtKept program (Over outcome) = Unit {0}

next_kept : (program : NumberedProgram) (node : Node) (moment : Moment) → IsKeptNode program node
    → LeadsTo (Leads program node) moment → AtKept program moment
next_kept program node (At next history) kept leads = goes_on node next kept leads
next_kept program node (Over outcome) kept leads = tt

step_kept : (program : NumberedProgram) (moment : Moment) → AtKept program moment → AtKept program (step program moment)
step_kept program (At node history) kept = next_kept program node (step program (At node history)) kept (step_along program node history)
step_kept program (Over outcome) kept = tt

after_kept : (program : NumberedProgram) (t : ℕ) (moment : Moment) → AtKept program moment
    → AtKept program (after program t moment)
after_kept program zero moment kept = kept
after_kept program (suc t) moment kept = after_kept program t (step program moment) (step_kept program moment kept)

pub kept_nodes : (program : NumberedProgram) (t : ℕ) (start history : List RunEvent) (node : Node)
    → after program t (At first_node start) ≡ At node history → IsKeptNode program node
kept_nodes program t start history node at = subst (AtKept program) at (after_kept program t (At first_node start) first)

pub leads_on : (program : NumberedProgram) (t : ℕ) (moment : Moment) (node next : Node) (before later : List RunEvent)
    → after program t moment ≡ At node before → after program (t + 1) moment ≡ At next later → Leads program node (Some next)
leads_on program t moment node next before later at then_at =
    let one : step program (At node before) ≡ At next later = sym (after_more program t 1 moment ∙ ap (after program 1) at) ∙ then_at in
    subst (LeadsTo (Leads program node)) one (step_along program node before)
