-- The abstract machine of a program is a machine for the points of its runs.
--   SuitsMemories program order  an order of memories by which joins and what is above may be told
--   own_order_suits              the order of this crate is one
--   is_machine                   the laws of a stepper
--   is_along                     each step, abstract or concrete, lies along an edge
use Rattle.std.specs.Prelude.{Contains, IfSome, ◌==◌}
use Rattle.std.proofs.Common.{◌≡◌, ◌≢◌, ℕ, true, false, List, [], ◌∷◌, map, length, Option, Some, None, ◌<◌, refl, sym, ap, subst, ◌∙◌}
use Rattle.std.proofs.lemmas.Bool.{eqb-true, eq-eqb, false≢true}
use Rattle.lists.specs.TestLaws.{by_test}
use Rattle.lists.specs.MemberLaws.{first_member, first_or_further, no_member}
use Rattle.lists.specs.ImageLaws.{mapped, image}
use Rattle.alf_ops.specs.declared.history.RunFault.{RunFault}
use Rattle.alf_ops.specs.declared.history.RunEvent.{RunEvent}
use Rattle.alf_check.specs.declared.rows.InputRow.{InputRow}
use Rattle.alf_check.specs.CheckedPrograms.{NumberedProgram}
use Rattle.flow_graph.specs.Nodes.{Node, Goal, Leads, first_node}
use Rattle.flow_graph.specs.Numbering.{GraphParts}
use Rattle.flow_graph.specs.Expansions.{IsExpansion, HasEdge, node_number}
use Rattle.alf_runs.specs.Steps.{At, frames_of, step}
use Rattle.alf_runs.specs.Starts.{IsStart, start_history, words_of}
use Rattle.transfer_rules.specs.NodeNumbers.{number_of, goal_number}
use Rattle.transfer_rules.specs.NumberLaws.{numbered}
use Rattle.transfer_rules.specs.Points.{GoesOn, EndsAt, FailsAt}
use Rattle.transfer_rules.specs.PointLaws.{goes_along, ends_along}
use Rattle.domain_core.specs.FaultSets.{has_fault, no_faults, with_fault}
use Rattle.domain_core.specs.Orders.{Order}
use Rattle.domain_core.specs.Machines.{IsMachine, IsAlong}
use Rattle.domain_core.specs.Outlines.{Shape}
use Rattle.domain_core.specs.Reducible.{IsEdge}
use Rattle.memory_rules.specs.Memories.{Mem, both, entered, fresh}
use Rattle.memory_rules.specs.AbstractSets.{abstract_sets}
use Rattle.memory_rules.specs.AbstractSetLaws.{abstract_is_sets}
use Rattle.memory_rules.specs.MemoryProofLaws.{join_sized}
use Rattle.transfer_rules.specs.Filling.{first_memory}
use Rattle.transfer_rules.specs.Stepping.{Goals, goals_left}
use Rattle.transfer_rules.specs.Machines.{CoversHistory, SharpFor, RunsAlong, Fits, AreAlike, memory_order, goals_from, numbered_goal, KeepsMachine, run_machine}
use Rattle.transfer_rules.specs.Standing.{Stands}
use Rattle.transfer_rules.specs.RemainsLaws.{LeftTold, FaultTold, none_is_empty, only_is_one, truth}
use Rattle.transfer_rules.specs.SwitchLaws.{GoesTold, EachGoal, each_member}
use Rattle.transfer_rules.specs.SteppingLaws.{GoalIs, GoalFits, goals_are, same_along}
use Rattle.transfer_rules.specs.StepLaws.{EndTold, Says, step_told}
use Rattle.transfer_rules.specs.StartLaws.{OnlyInputs, first_told, only_inputs, first_kept}

-- ---- memories as a lattice

-- a sharp memory covers
sharp_covers : (program : NumberedProgram) (m : Mem abstract_sets) (history : List RunEvent)
    → SharpFor program m history → CoversHistory program m history
sharp_covers program m history h = record {
  sound = h.sound;
  covers = record { active = h.sharp.active; frames = λ frame row found runs. (h.sharp.frames frame row found runs).covers };
}

-- an order of memories by which joins and what is above may be told
pub record SuitsMemories (program : NumberedProgram) (order : Order (Mem abstract_sets)) : Type 0 where
  pub alike : (a b : Mem abstract_sets) → AreAlike a b → order.alike a b
  pub above : (a b : Mem abstract_sets) → order.under a b → (history : List RunEvent) → CoversHistory program a history
      → CoversHistory program b history
  pub joined : (a b : Mem abstract_sets) → order.joined a b ≡ both abstract_sets a b

pub own_order_suits : (program : NumberedProgram) → SuitsMemories program (memory_order program)
own_order_suits program = record { alike = λ a b h. h; above = λ a b h. h; joined = λ a b. refl }

-- ---- the machine

module _ (program : NumberedProgram) (graph : GraphParts) (rows : List InputRow) (kept : KeepsMachine program graph rows) where
  expansion : IsExpansion program graph
  expansion = kept.promises.points.expands program graph kept.keeps kept.is

  -- the goals of a step are those of the node
  goals_of : (n : ℕ) (m : Mem abstract_sets) → Fits program graph n m → (goal : Goal × Mem abstract_sets)
      → Contains (goals_left (goals_from program graph n m).left) goal
      → GoalIs program (node_number graph n) goal
  goals_of n m fits goal among =
      let place = expansion.places n fits.low in
      go (goals_from program graph n m).left (goals_are program kept.keeps (node_number graph n) m place.placed place.functions_differ fits.sized fits.along) among
    where
      go : (o : Option Goals) → IfSome o (EachGoal (GoalIs program (node_number graph n)))
          → Contains (goals_left o) goal → GoalIs program (node_number graph n) goal
      go None each among = no_member goal among
      go (Some goals) each among = each_member (GoalIs program (node_number graph n)) goals goal each among

  -- a goal that is a node stands at its number
  pub record GoalAt (n k : ℕ) (m u : Mem abstract_sets) : Type 0 where
    pub goal : Goal
    pub is : GoalIs program (node_number graph n) (goal, u)
    pub number : goal_number graph goal ≡ k

  goal_at : (n k : ℕ) (m u : Mem abstract_sets) → Fits program graph n m
      → Contains ((run_machine program graph rows).next n m) (k, u) → GoalAt n k m u
  goal_at n k m u fits among =
      let g = mapped (numbered_goal graph) (goals_left (goals_from program graph n m).left) (k, u) among in
      let is = goals_of n m fits g.0 g.1 in
      record {
        goal = g.0.0;
        is = (is.0, subst (GoalFits program g.0.0) (ap (λ (p : ℕ × Mem abstract_sets). p.1) g.2) is.1);
        number = ap (λ (p : ℕ × Mem abstract_sets). p.0) g.2;
      }

  edge_to : (n k : ℕ) (goal : Goal) → n < length graph.nodes → Leads program (node_number graph n) goal
      → goal_number graph goal ≡ k → HasEdge graph n k
  edge_to n k None low leads number = subst (HasEdge graph n) number (expansion.all_ends n low leads)
  edge_to n k (Some next) low leads number =
      let edge = expansion.all n next low leads in
      let is : number_of graph.nodes next ≡ edge.0 = ap (number_of graph.nodes) (sym edge.2) ∙ numbered program graph expansion edge.0 edge.1 in
      subst (HasEdge graph n) (sym is ∙ number) edge.3

  next_fits : (n k : ℕ) (t u : Mem abstract_sets) → Fits program graph n t
      → Contains ((run_machine program graph rows).next n t) (k, u) → k ≢ length graph.nodes → Fits program graph k u
  next_fits n k t u fits among other =
      let g = goal_at n k t u fits among in go g.goal g.is g.number
    where
      go : (goal : Goal) → GoalIs program (node_number graph n) (goal, u) → goal_number graph goal ≡ k
          → Fits program graph k u
      go None is number = absurd (other (sym number))
      go (Some next) is number =
          let edge = expansion.all n next fits.low is.0 in
          let at : number_of graph.nodes next ≡ edge.0 = ap (number_of graph.nodes) (sym edge.2) ∙ numbered program graph expansion edge.0 edge.1 in
          let same : edge.0 ≡ k = sym at ∙ number in
          let node : node_number graph k ≡ next = ap (node_number graph) (sym same) ∙ edge.2 in
          record {
            low = subst (λ (j : ℕ). j < length graph.nodes) same edge.1;
            sized = is.1.0;
            along = subst (λ (x : Node). RunsAlong program x.path u) (sym node) is.1.1;
          }

  -- the memory stands for the history
  stands_in : (Sharp : Type 0) (n : ℕ) (t : Mem abstract_sets) (c : List RunEvent) → Fits program graph n t
      → CoversHistory program t c → (Sharp → SharpFor program t c) → Stands Sharp (frames_of program) t c
  stands_in Sharp n t c fits h sharp = record { sound = h.sound; sized = fits.sized; covers = h.covers; sharp = λ s. (sharp s).sharp }

  says : (Sharp : Type 0) (n : ℕ) (t : Mem abstract_sets) (c : List RunEvent) → Fits program graph n t
      → Stands Sharp (frames_of program) t c
      → Says Sharp (frames_of program) (goals_from program graph n t) (step program (At (node_number graph n) c))
  says Sharp n t c fits stands = step_told Sharp program kept.keeps kept.promises.sizes (node_number graph n) t c (expansion.places n fits.low).placed stands

  -- a goal of a step, by its number
  by_number : (n k : ℕ) (t u : Mem abstract_sets) (goal : Goal) (goals : Goals)
      → (goals_from program graph n t).left ≡ Some goals → Contains goals (goal, u) → goal_number graph goal ≡ k
      → Contains ((run_machine program graph rows).next n t) (k, u)
  by_number n k t u goal goals left among number =
      subst (λ (o : Option Goals). Contains (map (numbered_goal graph) (goals_left o)) (k, u)) (sym left)
      (subst (λ (j : ℕ). Contains (map (numbered_goal graph) goals) (j, u)) number (image (numbered_goal graph) goals (goal, u) among))

  alone_by_number : (n k : ℕ) (t u : Mem abstract_sets) (goal : Goal) (goals : Goals)
      → (goals_from program graph n t).left ≡ Some goals → goals ≡ (goal, u) ∷ [] → goal_number graph goal ≡ k
      → (run_machine program graph rows).next n t ≡ (k, u) ∷ []
  alone_by_number n k t u goal goals left alone number =
      ap (λ (o : Option Goals). map (numbered_goal graph) (goals_left o)) left ∙ ap (map (numbered_goal graph)) alone ∙ ap (λ (j : ℕ). (j, u) ∷ []) number

  goes_says : (Sharp : Type 0) (n k : ℕ) (t : Mem abstract_sets) (c d : List RunEvent) → Fits program graph n t
      → Stands Sharp (frames_of program) t c → GoesOn program graph n c k d
      → LeftTold Sharp (λ goals. GoesTold Sharp (frames_of program) goals (node_number graph k) d) (goals_from program graph n t)
  goes_says Sharp n k t c d fits stands goes = subst (Says Sharp (frames_of program) (goals_from program graph n t)) goes.steps (says Sharp n t c fits stands)

  ends_says : (Sharp : Type 0) (n : ℕ) (t : Mem abstract_sets) (c : List RunEvent) → Fits program graph n t
      → Stands Sharp (frames_of program) t c → EndsAt program graph n c
      → LeftTold Sharp (EndTold Sharp) (goals_from program graph n t)
  ends_says Sharp n t c fits stands ends = subst (Says Sharp (frames_of program) (goals_from program graph n t)) ends.steps (says Sharp n t c fits stands)

  fails_says : (Sharp : Type 0) (n : ℕ) (t : Mem abstract_sets) (c : List RunEvent) (kind : RunFault)
      → Fits program graph n t → Stands Sharp (frames_of program) t c → FailsAt program graph n c kind
      → FaultTold Sharp (goals_from program graph n t) kind
  fails_says Sharp n t c fault fits stands fails = subst (Says Sharp (frames_of program) (goals_from program graph n t)) fails.steps (says Sharp n t c fits stands)

  node_at : (k : ℕ) → k < length graph.nodes → goal_number graph (Some (node_number graph k)) ≡ k
  node_at k low = numbered program graph expansion k low

  no_sharp : (n : ℕ) (t : Mem abstract_sets) (c : List RunEvent) → Fits program graph n t → CoversHistory program t c
      → Stands ⊥ (frames_of program) t c
  no_sharp n t c fits h = stands_in ⊥ n t c fits h (λ s. absurd s)

  in_sharp : (n : ℕ) (t : Mem abstract_sets) (c : List RunEvent) → Fits program graph n t → SharpFor program t c
      → Stands (Unit {0}) (frames_of program) t c
  in_sharp n t c fits h = stands_in (Unit {0}) n t c fits (sharp_covers program t c h) (λ s. h)

  -- ---- covering

  next_covers : (n k : ℕ) (t : Mem abstract_sets) (c d : List RunEvent) → Fits program graph n t
      → CoversHistory program t c → GoesOn program graph n c k d
      → (u : Mem abstract_sets) × Contains ((run_machine program graph rows).next n t) (k, u) × CoversHistory program u d
  next_covers n k t c d fits h goes =
      let told = goes_says ⊥ n k t c d fits (no_sharp n t c fits h) goes in
      let one = told.holds in
      (one.m, by_number n k t one.m (Some (node_number graph k)) told.value told.is one.among (node_at k goes.to), record { sound = one.stands.sound; covers = one.stands.covers })

  end_follows : (n : ℕ) (t : Mem abstract_sets) (c : List RunEvent) → Fits program graph n t → CoversHistory program t c
      → EndsAt program graph n c
      → (u : Mem abstract_sets) × Contains ((run_machine program graph rows).next n t) (length graph.nodes, u)
  end_follows n t c fits h ends =
      let told = ends_says ⊥ n t c fits (no_sharp n t c fits h) ends in
      (told.holds.m, by_number n (length graph.nodes) t told.holds.m None told.value told.is told.holds.among refl)

  fault_told : (n : ℕ) (t : Mem abstract_sets) (c : List RunEvent) (kind : RunFault) → Fits program graph n t
      → CoversHistory program t c → FailsAt program graph n c kind
      → has_fault ((run_machine program graph rows).faults n t) kind ≡ true
  fault_told n t c kind fits h fails = (fails_says ⊥ n t c kind fits (no_sharp n t c fits h) fails).told

  -- ---- sharpness

  next_sharp : (n k : ℕ) (t : Mem abstract_sets) (c d : List RunEvent) → Fits program graph n t → SharpFor program t c
      → GoesOn program graph n c k d
      → (u : Mem abstract_sets) × ((run_machine program graph rows).next n t ≡ (k, u) ∷ []) × ((run_machine program graph rows).faults n t ≡ no_faults) × SharpFor program u d
  next_sharp n k t c d fits h goes =
      let told = goes_says (Unit {0}) n k t c d fits (in_sharp n t c fits h) goes in
      let one = told.holds in (
        one.m,
        alone_by_number n k t one.m (Some (node_number graph k)) told.value told.is (one.only tt) (node_at k goes.to),
        none_is_empty (goals_from program graph n t).faults (told.none tt),
        record { sound = one.stands.sound; sharp = one.stands.sharp tt },
      )

  end_sharp : (n : ℕ) (t : Mem abstract_sets) (c : List RunEvent) → Fits program graph n t → SharpFor program t c
      → EndsAt program graph n c
      → (u : Mem abstract_sets) × ((run_machine program graph rows).next n t ≡ (length graph.nodes, u) ∷ []) × ((run_machine program graph rows).faults n t ≡ no_faults)
  end_sharp n t c fits h ends =
      let told = ends_says (Unit {0}) n t c fits (in_sharp n t c fits h) ends in (
        told.holds.m,
        alone_by_number n (length graph.nodes) t told.holds.m None told.value told.is (told.holds.only tt) refl,
        none_is_empty (goals_from program graph n t).faults (told.none tt),
      )

  fault_sharp : (n : ℕ) (t : Mem abstract_sets) (c : List RunEvent) (kind : RunFault) → Fits program graph n t
      → SharpFor program t c → FailsAt program graph n c kind
      → ((run_machine program graph rows).next n t ≡ []) × ((run_machine program graph rows).faults n t ≡ with_fault no_faults kind)
  fault_sharp n t c kind fits h fails =
      let told = fails_says (Unit {0}) n t c kind fits (in_sharp n t c fits h) fails in (
        ap (λ (o : Option Goals). map (numbered_goal graph) (goals_left o)) (told.alone tt),
        only_is_one (goals_from program graph n t).faults kind told.told (told.one tt),
      )

  -- ---- starts

  start_stands : (Sharp : Type 0) (c : List RunEvent) (start : IsStart program rows (At first_node c))
      → (Sharp → OnlyInputs rows start.numbers) → Stands Sharp (frames_of program) (first_memory program rows) c
  start_stands Sharp c start only =
      subst (Stands Sharp (frames_of program) (first_memory program rows)) (same_start c (start_history program rows (words_of rows start.numbers)) start.starts)
      (first_told Sharp program kept.keeps rows start.numbers kept.inputs start.within only)
    where
      same_start : (a b : List RunEvent) → At first_node a ≡ At first_node b → b ≡ a
      same_start a b e = cc

  first_covers : (c : List RunEvent) → IsStart program rows (At first_node c)
      → CoversHistory program (first_memory program rows) c
  first_covers c start = let stands = start_stands ⊥ c start (λ s. absurd s) in record { sound = stands.sound; covers = stands.covers }

  first_sharp : (c : List RunEvent) → IsStart program rows (At first_node c)
      → ((d : List RunEvent) → IsStart program rows (At first_node d) → d ≡ c)
      → SharpFor program (first_memory program rows) c
  first_sharp c start alone =
      let own = start_history program rows (words_of rows start.numbers) in
      let only : OnlyInputs rows start.numbers = only_inputs program rows start.numbers kept.inputs start.within (λ others within.
      alone (start_history program rows (words_of rows others)) (record { numbers = others; within = within; starts = refl })
      ∙ sym (alone own (record { numbers = start.numbers; within = start.within; starts = refl }))) in
      let stands = start_stands (Unit {0}) c start (λ s. only) in
      record { sound = stands.sound; sharp = stands.sharp tt }

  -- the root alone runs at the start
  first_along : RunsAlong program [] (first_memory program rows)
  first_along =
      let k = first_kept program kept.keeps rows kept.inputs in
      same_along program [] (entered abstract_sets (frames_of program) (fresh abstract_sets) program.root) (first_memory program rows) k.runs root_along
    where
      root_along : RunsAlong program [] (entered abstract_sets (frames_of program) (fresh abstract_sets) program.root)
      root_along None = (λ e. tt, λ t. refl)
      root_along (Some g) = (
        λ e. by_test (g == program.root)
            (λ same. subst (λ (h : ℕ). Contains (program.root ∷ []) h) (sym (eqb-true g program.root same)) (first_member program.root []))
            (λ other. absurd (false≢true (rw other at e))),
        λ among. first_or_further program.root [] g among
            (λ first. rw (eq-eqb g program.root (sym first)) refl)
            (λ none. no_member g none),
      )

  first_fits : Fits program graph 0 (first_memory program rows)
  first_fits = record {
    low = expansion.some;
    sized = (first_kept program kept.keeps rows kept.inputs).sized;
    along = subst (λ (x : Node). RunsAlong program x.path (first_memory program rows)) (sym expansion.first) first_along;
  }

  -- ---- joins

  alike_at : (n : ℕ) (t u : Mem abstract_sets) → Fits program graph n t → Fits program graph n u → AreAlike t u
  alike_at n t u a b = record {
    first = a.sized;
    second = b.sized;
    runs = λ g. truth (t.runs g) (u.runs g) (λ e. (b.along (Some g)).1 ((a.along (Some g)).0 e)) (λ e. (a.along (Some g)).1 ((b.along (Some g)).0 e));
  }

  joined_fits : (n : ℕ) (t u : Mem abstract_sets) → Fits program graph n t → Fits program graph n u
      → Fits program graph n (both abstract_sets t u)
  joined_fits n t u a b = record { low = a.low; sized = join_sized abstract_sets abstract_is_sets t u a.sized b.sized; along = a.along }

  -- the laws of a stepper
  pub is_machine : (order : Order (Mem abstract_sets)) → SuitsMemories program order
      → IsMachine (Mem abstract_sets) (List RunEvent) order (run_machine program graph rows)
  is_machine order suits = record {
    first_fits = first_fits;
    next_fits = next_fits;
    joined_fits = λ n t u a b. subst (Fits program graph n) (sym (suits.joined t u)) (joined_fits n t u a b);
    fits_alike = λ n t u a b. suits.alike t u (alike_at n t u a b);
    above_covers = λ t u c under h. suits.above t u under c h;
    first_covers = first_covers;
    next_covers = next_covers;
    end_follows = end_follows;
    fault_told = fault_told;
    sharp_covers = sharp_covers program;
    first_sharp = first_sharp;
    next_sharp = next_sharp;
    end_sharp = end_sharp;
    fault_sharp = fault_sharp;
  }

  -- each step, abstract or concrete, lies along an edge of an outline of the graph
  pub is_along : (o : Shape) → o.edges ≡ graph.edges → length o.own ≡ length graph.nodes
      → IsAlong (Mem abstract_sets) (List RunEvent) o (run_machine program graph rows)
  is_along o edges count = record {
    exit_is = sym count;
    next_along = λ n k t u fits among.
        let g = goal_at n k t u fits among in
        subst (λ (list : List (ℕ × ℕ)). IsEdge list n k) (sym edges) (edge_to n k g.goal fits.low g.is.0 g.number);
    goes_along = λ n k c d goes.
        let along = goes_along kept.promises.points program graph rows n k c d kept.keeps kept.is goes in
        (subst (λ (list : List (ℕ × ℕ)). IsEdge list n k) (sym edges) along.0, subst (λ (size : ℕ). k < size) (sym count) along.1);
    ends_along = λ n c ends.
        subst (λ (size : ℕ). IsEdge o.edges n size) (sym count)
        (subst (λ (list : List (ℕ × ℕ)). IsEdge list n (length graph.nodes)) (sym edges) (ends_along kept.promises.points program graph rows n c kept.keeps kept.is ends));
  }
