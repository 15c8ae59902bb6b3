-- What holds from turn to turn of a run.
use Rattle.std.proofs.Common.{◌≡◌, ◌<◌, ◌≤◌, ◌+◌, ◌*◌, ◌==◌, ℕ, get_or, List, [], ◌∷◌, ◌++◌, length, set, Some, refl, ap, sym, ◌∙◌, subst, length-append, arith}
use Rattle.std.proofs.lemmas.Option.{slice_get_within}
use Rattle.std.proofs.lemmas.List.Sums.{count_by-le-length}
use Rattle.alf_ops.specs.declared.history.RunEvent.{RunEvent}
use Rattle.alf_check.specs.CheckedPrograms.{NumberedProgram, seen}
use Rattle.flow_graph.specs.Nodes.{Node}
use Rattle.flow_graph.specs.Numbering.{GraphParts}
use Rattle.alf_runs.specs.Steps.{Moment, At, Over, step}
use Rattle.alf_runs.specs.Runs.{after, trace as passed}
use Rattle.alf_runs.specs.RunLaws.{AfterMore}
use Rattle.alf_interp.specs.Machines.{RunMachine, StandsAt, StandsWith}
use Rattle.alf_interp.specs.Traces.{AreNumbersOf, IsNodeAt, IsPast, cost_of}
use Rattle.alf_interp.specs.Counts.{AreCounts, IsCounted, outcome_of}
use Rattle.alf_interp.specs.declared.tally.Tally.{Tally}
use Rattle.alf_interp.proofs.Placing.{numbers_push, counts_push, cost_push, last_push}

-- the node and the history with which a machine stands at this moment
pub record StandsSo (machine : RunMachine) (moment : Moment) : Type 0 where
  pub node : Node
  pub history : List RunEvent
  pub at : moment ≡ At node history
  pub stands : StandsWith machine node history

pub stands_so : (machine : RunMachine) (moment : Moment) → StandsAt machine moment → StandsSo machine moment
stands_so machine (At node history) h = record { node = node; history = history; at = refl; stands = h }
stands_so machine (Over outcome) h = absurd h

-- a run so far: after these turns the machine stands at this node, and the nodes before are counted
pub record SoFar (program : NumberedProgram) (graph : GraphParts) (costs : List ℕ) (begin : Moment) (turn at : ℕ)
    (counts : List ℕ) (cost : ℕ) (machine : RunMachine) : Type 0 where
  pub trace : List ℕ
  pub program_is : seen machine.checked ≡ program
  pub graph_is : machine.graph ≡ graph
  pub node_is : machine.node ≡ at
  pub stands : StandsAt machine (after program turn begin)
  pub numbers : AreNumbersOf graph.nodes trace (passed program turn begin)
  pub long : length trace ≡ turn
  pub counted : AreCounts graph.nodes trace counts
  pub costed : cost ≡ cost_of costs trace
  pub few : cost ≤ turn * 4294967295

module _ (program : NumberedProgram) (graph : GraphParts) (costs : List ℕ) (begin : Moment) (turn at : ℕ) (counts : List ℕ) (cost : ℕ) (machine : RunMachine)
    (so : SoFar program graph costs begin turn at counts cost machine) (more : AfterMore) where
  pub here : StandsSo machine (after program turn begin)
  here = stands_so machine (after program turn begin) so.stands

  -- the machine's node is that of its number
  pub node_at : IsNodeAt graph.nodes at here.node
  node_at = subst (λ (n : ℕ). IsNodeAt graph.nodes n here.node) so.node_is (subst (λ (g : GraphParts). IsNodeAt g.nodes machine.node here.node) so.graph_is here.stands.numbered)

  -- which has a count
  pub low : at < length counts
  low = subst (λ (n : ℕ). at < n) (sym so.counted.one_each) (slice_get_within graph.nodes at here.node node_at)

  -- and has been counted at most once a turn
  pub counted_low : get_or counts at 0 ≤ turn
  counted_low = let is = so.counted.each at low in let few = count_by-le-length (λ m. m == at) so.trace in let long = so.long in omega arith

  -- one step more
  pub next : after program (turn + 1) begin ≡ step program (after program turn begin)
  next = (more program turn 1 begin).stands

  passed_more : passed program (turn + 1) begin ≡ passed program turn begin ++ here.node ∷ []
  passed_more = (more program turn 1 begin).passes ∙ ap (λ (m : Moment). passed program turn begin ++ passed program 1 m) here.at

  longer : AreNumbersOf graph.nodes (so.trace ++ at ∷ []) (passed program (turn + 1) begin)
  longer = subst (λ (run : List Node). AreNumbersOf graph.nodes (so.trace ++ at ∷ []) run) (sym passed_more) (numbers_push graph.nodes so.trace (passed program turn begin) at here.node so.numbers node_at)

  long_more : length (so.trace ++ at ∷ []) ≡ turn + 1
  long_more = let long = so.long in simp length-append (omega arith)

  module _ (one price : ℕ) (one_is : one ≡ get_or counts at one) (price_is : price ≡ get_or costs at 0) (price_low : price ≤ 4294967295) where
    cost_more : cost + price ≡ cost_of costs (so.trace ++ at ∷ [])
    cost_more = let before = so.costed in let grown = cost_push costs so.trace at in omega arith

    -- the run goes on
    pub goes_on : (to : ℕ) (moved : RunMachine) → moved.checked ≡ machine.checked → moved.graph ≡ machine.graph
        → to ≡ moved.node → StandsAt moved (step (seen machine.checked) (after program turn begin))
        → SoFar program graph costs begin (turn + 1) to (set counts at (one + 1)) (cost + price) moved
    goes_on to moved p g n stands = record {
      trace = so.trace ++ at ∷ [];
      program_is = ap seen p ∙ so.program_is;
      graph_is = g ∙ so.graph_is;
      node_is = sym n;
      stands = subst (λ (m : Moment). StandsAt moved m) (ap (λ (q : NumberedProgram). step q (after program turn begin)) so.program_is ∙ sym next) stands;
      numbers = longer;
      long = long_more;
      counted = counts_push graph.nodes so.trace counts at one low one_is so.counted;
      costed = cost_more;
      few = let few = so.few in omega arith;
    }

    -- the run is over
    pub is_over : (turns : ℕ) (tally : Tally) → turn < turns
        → step (seen machine.checked) (after program turn begin) ≡ Over (outcome_of tally.end)
        → tally.counts.items ≡ set counts at (one + 1) → tally.turns ≡ turn + 1 → tally.cost ≡ cost + price → tally.last ≡ at
        → IsCounted program graph.nodes costs begin turns tally
    is_over turns tally less over counts_are turns_are cost_is last_is = record {
      trace = so.trace ++ at ∷ [];
      outcome = outcome_of tally.end;
      runs = record {
        run = passed program (turn + 1) begin;
        ends = record { steps = turn + 1; over = next ∙ ap (λ (q : NumberedProgram). step q (after program turn begin)) (sym so.program_is) ∙ over; passes = refl };
        numbers = longer;
      };
      within = let long = long_more in omega arith;
      tallies = record {
        counts = subst (λ (l : List ℕ). AreCounts graph.nodes (so.trace ++ at ∷ []) l) (sym counts_are) (counts_push graph.nodes so.trace counts at one low one_is so.counted);
        turns = turns_are ∙ sym long_more;
        cost = cost_is ∙ cost_more;
        last = last_push so.trace at ∙ ap Some (sym last_is);
        end = refl;
      };
    }

  -- the turns are used up
  pub is_past : IsPast program graph.nodes begin turn at
  is_past = record { node = here.node; history = here.history; stands = here.at; number = node_at }
