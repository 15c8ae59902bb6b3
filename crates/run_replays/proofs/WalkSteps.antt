-- What holds from step to step of a run that is entered in a book.
--   SoFar         a run so far: the machine stands where it is, the recorder has its nodes, and each has so many visits left
--   begun         so it is at first
--   passed_here   a node without a visit left
--   goes_on       one step more
--   is_over       the run is over
use Rattle.std.proofs.Common.{◌≡◌, ◌≢◌, ◌<◌, ◌≤◌, ◌+◌, ◌-◌, ◌*◌, ◌==◌, ℕ, suc, add-one, Bool, true, false, cond, get_or, List, [], ◌∷◌, ◌++◌, length, map, reverse, set, slice_get, Option, Some, Contains, refl, ap, sym, ◌∙◌, subst, get_or-set_other, length-set, arith}
use Rattle.std.specs.Prelude.{slice_index}
use Rattle.std.specs.Option.{option_map}
use Rattle.std.proofs.lemmas.Bool.{eqb-true, eq-eqb}
use Rattle.std.proofs.lemmas.Option.{slice_get_within, slice_get-map, get_or_from_slice_get}
use Rattle.std.proofs.lemmas.List.{reverse-append, length-reverse, length-map}
use Rattle.std.proofs.lemmas.List.Sums.{sum_by_push}
use Rattle.std.proofs.lemmas.Grind.{get_or-set_at}
use Rattle.lists.specs.MemberLaws.{first_member}
use Rattle.lists.specs.TestLaws.{by_test}
use Rattle.alf_ops.specs.declared.history.RunEvent.{RunEvent}
use Rattle.alf_ops.specs.declared.history.RunFault.{RunFault}
use Rattle.alf_check.specs.CheckedPrograms.{NumberedProgram, seen}
use Rattle.flow_graph.specs.Nodes.{Node, Leads, first_node}
use Rattle.flow_graph.specs.Numbering.{GraphParts}
use Rattle.flow_graph.specs.Expansions.{IsExpansion, HasEdge, node_number}
use Rattle.alf_runs.specs.Outcomes.{Outcome}
use Rattle.alf_runs.specs.Steps.{Moment, At, Over, step}
use Rattle.alf_runs.specs.Runs.{after, trace as passed}
use Rattle.alf_runs.specs.RunLaws.{AfterMore}
use Rattle.alf_runs.specs.LeadLaws.{NodesLeadOn}
use Rattle.alf_interp.specs.Machines.{RunMachine, StandsAt, StandsWith}
use Rattle.alf_interp.specs.Traces.{AreNumbersOf, IsNodeAt}
use Rattle.domain_core.specs.declared.outline.NodeRow.{NodeRow}
use Rattle.domain_core.specs.Orders.{Order}
use Rattle.domain_core.specs.Outlines.{Outlined, IsOutline, shape_of}
use Rattle.domain_core.specs.OutlineOf.{IsOutlineOf}
use Rattle.domain_core.specs.Recordings.{Recording, IsRecording, IsSuited, IsOf}
use Rattle.domain_core.specs.Traces.{IsTrace}
use Rattle.scope_graph.specs.Placing.{place_of, plan_of}
use Rattle.flow_facts.specs.Facts.{places}
use Rattle.ipet_rows.specs.Uses.{run_cost}
use Rattle.recorder_rules.specs.Spans.{visits}
use Rattle.report_soundness.specs.BookToldLaws.{turned}
use Rattle.report_soundness.specs.ReportTold.{costs_of}
use Rattle.report_soundness.specs.CollectedLaws.{trace_low}
use Rattle.run_replays.proofs.OneReplayLaws.{numbers_push}
use Rattle.run_replays.specs.Replays.{Reaches, fault_of}
use Rattle.run_replays.specs.Walks.{AreAllowed, IsPassed, IsEntered, IsOver}

-- the node and the history with which a machine stands at this moment
pub record StandsSo (machine : RunMachine) (moment : Moment) : Type 0 where
  pub node : Node
  pub history : List RunEvent
  pub at : moment ≡ At node history
  pub stands : StandsWith machine node history

pub stands_so : (machine : RunMachine) (moment : Moment) → StandsAt machine moment → StandsSo machine moment
stands_so machine (At node history) h = record { node = node; history = history; at = refl; stands = h }
stands_so machine (Over outcome) h = absurd h

-- what a node costs
pub node_price : (o : Outlined) (n : ℕ) (row : NodeRow) → slice_get o.nodes n ≡ Some row
    → row.cost ≡ slice_index (costs_of o) n
node_price o n row is =
    sym (get_or_from_slice_get (map (λ (r : NodeRow). r.cost) o.nodes) n row.cost 0 (slice_get-map (λ (r : NodeRow). r.cost) o.nodes n ∙ ap (λ (t : Option NodeRow). option_map (λ r. r.cost) t) is))

-- a run so far: after so many turns the machine stands at this node, and the nodes before are entered
pub record SoFar {R B : Type 0} (z : Recording R B) (program : NumberedProgram) (graph : GraphParts) (o : Outlined)
    (begin : Moment) (allowed : List ℕ)
    (turn at : ℕ) (left : List ℕ) (cost : ℕ) (recorder : R) (book : B) (machine : RunMachine) : Type 0 where
  pub past : List ℕ
  pub program_is : seen machine.checked ≡ program
  pub graph_is : machine.graph ≡ graph
  pub node_is : machine.node ≡ at
  pub stands : StandsAt machine (after program turn begin)
  pub numbers : AreNumbersOf graph.nodes (reverse past) (passed program turn begin)
  pub long : length past ≡ turn
  pub walk : IsTrace (shape_of o) (at ∷ past)
  pub of : IsOf z o recorder book
  pub short : z.length_of recorder ≤ turn + 1
  pub covers : z.covers o recorder book (at ∷ past)
  pub sharp : z.sharp o recorder book (at ∷ past)
  pub all : length left ≡ length o.nodes
  pub left_is : (n : ℕ) → slice_index left n + visits n past ≡ slice_index allowed n
  pub costed : cost ≡ run_cost (costs_of o) (reverse past)
  pub few : cost ≤ turn * 4294967295

-- so it is at first
pub begun : {R B : Type 0} (order : Order R) (z : Recording R B) → IsRecording R B order z → (program : NumberedProgram) (graph : GraphParts) (o : Outlined) (begin : Moment) (allowed : List ℕ) (recorder : R) (book : B)
    (machine : RunMachine) → IsSuited z o → seen machine.checked ≡ program → machine.graph ≡ graph → machine.node ≡ 0 → StandsAt machine begin → length allowed ≡ length o.nodes
    → recorder ≡ z.first o → book ≡ z.first_book o → SoFar z program graph o begin allowed 0 0 allowed 0 recorder book machine
begun {R} {B} order z laws program graph o begin allowed recorder book machine suited program_is graph_is node_is stands all recorder_is book_is =
    let first_of : IsOf z o (z.first o) (z.first_book o) = record { suited = suited; recorder = laws.first_is_of o suited; book = laws.first_book_is_of o suited } in
    let at_first : SoFar z program graph o begin allowed 0 0 allowed 0 (z.first o) (z.first_book o) machine = record {
      past = [];
      program_is = program_is;
      graph_is = graph_is;
      node_is = node_is;
      stands = stands;
      numbers = tt;
      long = refl;
      walk = refl;
      of = first_of;
      short = let short = laws.first_length o suited in omega (arith, short);
      covers = laws.first_covers o (z.first_book o) suited (laws.first_book_is_of o suited);
      sharp = laws.first_sharp o suited;
      all = all;
      left_is = λ n. no_more (slice_index allowed n);
      costed = refl;
      few = omega arith;
    } in
    subst (λ (r : R). SoFar z program graph o begin allowed 0 0 allowed 0 r book machine) (sym recorder_is)
    (subst (λ (b : B). SoFar z program graph o begin allowed 0 0 allowed 0 (z.first o) b machine) (sym book_is) at_first)
  where
    no_more : (k : ℕ) → k + 0 ≡ k
    no_more k = omega arith

module _ {R B : Type 0} (order : Order R) (z : Recording R B) (laws : IsRecording R B order z) (program : NumberedProgram) (graph : GraphParts) (o : Outlined) (begin : Moment) (allowed : List ℕ)
    (turn at : ℕ) (left : List ℕ) (cost : ℕ) (recorder : R) (book : B) (machine : RunMachine)
    (so : SoFar z program graph o begin allowed turn at left cost recorder book machine) (more : AfterMore) where
  pub here : StandsSo machine (after program turn begin)
  here = stands_so machine (after program turn begin) so.stands

  -- the machine's node is that of its number
  pub node_at : IsNodeAt graph.nodes at here.node
  node_at = subst (λ (n : ℕ). IsNodeAt graph.nodes n here.node) so.node_is (subst (λ (g : GraphParts). IsNodeAt g.nodes machine.node here.node) so.graph_is here.stands.numbered)

  -- which is one of the outline
  pub low : at < length o.nodes
  low =
      let own = trace_low (shape_of o) so.of.suited.kept (at ∷ so.past) so.walk at (first_member at so.past) in
      let same : length (shape_of o).own ≡ length o.nodes = length-map o.nodes (λ row. row.scope) in
      omega (arith, own, same)

  pub left_low : at < length left
  left_low = let less = low in let same = so.all in omega (arith, less, same)

  reverse_long : length (reverse so.past) ≡ turn
  reverse_long = length-reverse so.past ∙ so.long

  -- no node is there more often than it is allowed
  so_many : AreAllowed allowed (reverse so.past)
  so_many n = let is = so.left_is n in let same = turned n so.past in omega (arith, is, same)

  -- a node without a visit left
  pub passed_here : slice_index left at ≡ 0 → IsPassed program graph begin allowed at
  passed_here none = record {
    before = reverse so.past;
    reaches = record {
      node = here.node;
      history = here.history;
      numbers = subst (λ (t : ℕ). AreNumbersOf graph.nodes (reverse so.past) (passed program t begin)) (sym reverse_long) so.numbers;
      stands = ap (λ (t : ℕ). after program t begin) reverse_long ∙ here.at;
      number = node_at;
    };
    within = so_many;
    full = let is = so.left_is at in let same = turned at so.past in omega (arith, is, same, none);
  }

  -- one step more
  pub next : after program (turn + 1) begin ≡ step program (after program turn begin)
  next = (more program turn 1 begin).stands

  -- the machine's program is the program
  stepped : step (seen machine.checked) (after program turn begin) ≡ step program (after program turn begin)
  stepped = ap (λ (q : NumberedProgram). step q (after program turn begin)) so.program_is

  passed_more : passed program (turn + 1) begin ≡ passed program turn begin ++ here.node ∷ []
  passed_more = (more program turn 1 begin).passes ∙ ap (λ (m : Moment). passed program turn begin ++ passed program 1 m) here.at

  in_order : reverse (at ∷ so.past) ≡ reverse so.past ++ at ∷ []
  in_order = reverse-append (at ∷ []) so.past

  longer : AreNumbersOf graph.nodes (reverse (at ∷ so.past)) (passed program (turn + 1) begin)
  longer =
      subst (λ (xs : List ℕ). AreNumbersOf graph.nodes xs (passed program (turn + 1) begin)) (sym in_order)
      (subst (λ (run : List Node). AreNumbersOf graph.nodes (reverse so.past ++ at ∷ []) run) (sym passed_more)
      (numbers_push graph.nodes (reverse so.past) (passed program turn begin) at here.node so.numbers node_at))

  -- the step lies along an edge
  pub record Along (to : ℕ) : Type 0 where
    pub edge : Contains o.edges (at, to)
    pub low : to < length o.nodes

  module _ (expands : IsExpansion program graph) (outline : IsOutlineOf (plan_of graph) (shape_of o)) (leads : NodesLeadOn) where
    nodes_same : length o.nodes ≡ length graph.nodes
    nodes_same = sym (length-map o.nodes (λ row. row.scope)) ∙ outline.one_each ∙ length-map graph.nodes place_of

    number_is : (n : ℕ) (node : Node) → IsNodeAt graph.nodes n node → node_number graph n ≡ node
    number_is n node is = get_or_from_slice_get graph.nodes n node first_node is

    pub step_along : (to : ℕ) (moved : RunMachine) → moved.graph ≡ machine.graph → to ≡ moved.node
        → StandsAt moved (step (seen machine.checked) (after program turn begin)) → Along to
    step_along to moved g n stands =
        let there = stands_so moved (step program (after program turn begin)) (subst (λ (m : Moment). StandsAt moved m) stepped stands) in
        let number : IsNodeAt graph.nodes to there.node =
        subst (λ (k : ℕ). IsNodeAt graph.nodes k there.node) (sym n) (subst (λ (h : GraphParts). IsNodeAt h.nodes moved.node there.node) (g ∙ so.graph_is) there.stands.numbered) in
        let lead : Leads program here.node (Some there.node) = leads program turn begin here.node there.node here.history there.history here.at (next ∙ there.at) in
        let from_low : at < length graph.nodes = slice_get_within graph.nodes at here.node node_at in
        let to_low : to < length graph.nodes = slice_get_within graph.nodes to there.node number in
        let (v, v_low, v_is, edge) = expands.all at there.node from_low (subst (λ (k : Node). Leads program k (Some there.node)) (sym (number_is at here.node node_at)) lead) in
        let same : v ≡ to = expands.apart v to v_low to_low (v_is ∙ sym (number_is to there.node number)) in
        let nodes = nodes_same in
        record {
          edge = subst (λ (es : List (ℕ × ℕ)). Contains es (at, to)) (sym outline.edges) (subst (λ (k : ℕ). HasEdge graph at k) same edge);
          low = omega (arith, to_low, nodes);
        }

  module _ (one price : ℕ) (one_is : one ≡ slice_index left at) (some : one ≢ 0) (price_is : price ≡ slice_index (costs_of o) at) (price_low : price ≤ 4294967295) where
    cost_more : cost + price ≡ run_cost (costs_of o) (reverse (at ∷ so.past))
    cost_more =
        let before = so.costed in
        let grown = sum_by_push (λ n. slice_index (costs_of o) n) (reverse so.past) at in
        let turn_over : run_cost (costs_of o) (reverse (at ∷ so.past)) ≡ run_cost (costs_of o) (reverse so.past ++ at ∷ []) = ap (λ (xs : List ℕ). run_cost (costs_of o) xs) in_order in
        omega (arith, before, grown, turn_over, price_is)

    left_more : (n : ℕ) → slice_index (set left at (one - 1)) n + visits n (at ∷ so.past) ≡ slice_index allowed n
    left_more n =
        let before = so.left_is n in
        by_test (n == at)
        (λ hit.
        let same : n ≡ at = eqb-true n at hit in
        let there : slice_index (set left at (one - 1)) n ≡ one - 1 = get_or-set_at left at n (one - 1) 0 same left_low in
        let more_visits : visits n (at ∷ so.past) ≡ visits n so.past + 1 = ap (λ (v : Bool). cond v (visits n so.past + 1) (visits n so.past)) hit in
        let old : slice_index left n ≡ slice_index left at = ap (λ (k : ℕ). slice_index left k) same in
        omega (arith, before, there, more_visits, old, one_is, some))
        (λ miss.
        let other : n ≢ at = λ (same : n ≡ at). (let hit = eq-eqb n at same in let bad : true ≡ false = sym hit ∙ miss in cc) in
        let kept : slice_index (set left at (one - 1)) n ≡ slice_index left n = get_or-set_other left at n (one - 1) 0 other in
        let as_many : visits n (at ∷ so.past) ≡ visits n so.past = ap (λ (v : Bool). cond v (visits n so.past + 1) (visits n so.past)) miss in
        omega (arith, before, kept, as_many))

    -- the run goes on
    pub goes_on : (to : ℕ) (gone : R) (gone_book : B) (moved : RunMachine) → Along to
        → gone ≡ z.gone o recorder book at to → gone_book ≡ z.gone_book o recorder book at to
        → moved.checked ≡ machine.checked → moved.graph ≡ machine.graph → to ≡ moved.node → StandsAt moved (step (seen machine.checked) (after program turn begin))
        → SoFar z program graph o begin allowed (turn + 1) to (set left at (one - 1)) (cost + price) gone gone_book moved
    goes_on to gone gone_book moved along gone_is book_is p g n stands =
        let own : length (shape_of o).own ≡ length o.nodes = length-map o.nodes (λ row. row.scope) in
        let to_low = along.low in
        let walk : IsTrace (shape_of o) (to ∷ at ∷ so.past) = (along.edge, omega (arith, own, to_low), so.walk) in
        let longest = laws.gone_length o recorder book at to so.of along.edge along.low in
        let short = so.short in
        let so_on : SoFar z program graph o begin allowed (turn + 1) to (set left at (one - 1)) (cost + price) (z.gone o recorder book at to) (z.gone_book o recorder book at to) moved = record {
          past = at ∷ so.past;
          program_is = ap seen p ∙ so.program_is;
          graph_is = g ∙ so.graph_is;
          node_is = sym n;
          stands = subst (λ (m : Moment). StandsAt moved m) (stepped ∙ sym next) stands;
          numbers = longer;
          long = ap suc so.long ∙ sym (add-one turn);
          walk = walk;
          of = laws.gone_is_of o recorder book at to so.of along.edge along.low;
          short = omega (arith, longest, short);
          covers = laws.gone_covers o recorder book at to so.past so.of walk so.covers;
          sharp = laws.gone_sharp o recorder book at to so.past so.of walk so.sharp;
          all = length-set left at (one - 1) ∙ so.all;
          left_is = left_more;
          costed = cost_more;
          few = let few = so.few in omega (arith, few, price_low);
        } in
        subst (λ (r : R). SoFar z program graph o begin allowed (turn + 1) to (set left at (one - 1)) (cost + price) r gone_book moved) (sym gone_is)
        (subst (λ (b : B). SoFar z program graph o begin allowed (turn + 1) to (set left at (one - 1)) (cost + price) (z.gone o recorder book at to) b moved) (sym book_is) so_on)

    -- the run is over
    pub is_over : (outcome : Outcome) (fault : Option RunFault) (spent : ℕ) (ended : B)
        → step (seen machine.checked) (after program turn begin) ≡ Over outcome → fault ≡ fault_of outcome
        → spent ≡ cost + price
        → ended ≡ z.finished o recorder book at → IsOver z program graph o begin allowed (record { book = ended; cost = spent; last = at; fault = fault })
    is_over outcome fault spent ended over fault_is spent_is ended_is = record {
      past = so.past;
      outcome = outcome;
      runs = record {
        run = passed program (turn + 1) begin;
        ends = record { steps = turn + 1; over = next ∙ sym stepped ∙ over; passes = refl };
        numbers = longer;
      };
      fault = fault_is;
      within = λ n. let is = left_more n in let same = turned n (at ∷ so.past) in omega (arith, is, same);
      entered = subst (λ (b : B). IsEntered z o b (at ∷ so.past)) (sym ended_is) (record {
        kept = so.of.suited.kept;
        sized = laws.finished_is_of o recorder book at so.of low;
        sums = laws.finished_covers o recorder book at so.past so.of so.walk so.covers;
        exact = laws.finished_sharp o recorder book at so.past so.of so.walk so.sharp;
      });
      cost = spent_is ∙ cost_more;
    }
