-- On the way to the laws of lone.
--   IsOneRun parts o turns answer   a report was found where the run has at most so many nodes; where it has more, the exploration was left in
--       the scope of the node that comes after so many
--   LoneRunIsFollowed     the law
--   lone_followed         why
--   HasTurns     it has at most so many turns, and places are left only where they are used up
--   EndsIn       the run has ended with at most so many nodes
--   sharp_pool   each exploration is exactly where the run is
--   over_run     where no place is left, the run has ended
use Rattle.std.specs.Prelude.{slice_index, reverse}
use Rattle.std.proofs.Common.{◌≡◌, ◌≤◌, ◌<◌, ◌⊎◌, inl, inr, ℕ, zero, suc, List, [], ◌∷◌, map, length, Option, None, Some, slice_get, refl, sym, ap, subst, ◌∙◌, arith}
use Rattle.std.proofs.lemmas.List.{length-map, length-reverse}
use Rattle.std.proofs.lemmas.Option.{none-some, same_Some, slice_get-get_or}
use Rattle.alf_ops.specs.declared.history.RunEvent.{RunEvent}
use Rattle.alf_check.specs.CheckedPrograms.{NumberedProgram, seen}
use Rattle.alf_runs.specs.Outcomes.{Outcome}
use Rattle.alf_runs.specs.Steps.{Moment, At, Over, step}
use Rattle.alf_runs.specs.Runs.{after, trace}
use Rattle.flow_graph.specs.Nodes.{Node, first_node}
use Rattle.flow_graph.specs.Expansions.{node_number}
use Rattle.domain_core.specs.declared.event.Event.{Event}
use Rattle.domain_core.specs.Orders.{Order}
use Rattle.domain_core.specs.Outlines.{Outlined, shape_of}
use Rattle.domain_core.specs.Machines.{Machine, IsMachine}
use Rattle.domain_core.specs.Recordings.{Recording}
use Rattle.alf_interp.specs.Traces.{Runs}
use Rattle.transfer_rules.specs.NodeNumbers.{number_of}
use Rattle.transfer_rules.specs.Points.{points}
use Rattle.transfer_rules.specs.TraceLaws.{trace_is_trace}
use Rattle.memory_model.specs.KeptMemories.{MemoryParts}
use Rattle.memory_model.specs.SeenOrders.{parts_order}
use Rattle.memory_model.specs.SeenOrderLaws.{parts_are_order}
use Rattle.transfer_rules.specs.PartMachineLaws.{is_part_machine}
use Rattle.worklist_rules.specs.declared.policy.Policy.{Policy}
use Rattle.worklist_rules.specs.Pools.{Spot, Pooled}
use Rattle.worklist_rules.specs.Events.{HappenAll, IsOneOn}
use Rattle.worklist_rules.specs.EventLaws.{event_one_on, start_kept}
use Rattle.worklist_rules.specs.Policies.{IsPolicyRun}
use Rattle.worklist_rules.specs.PolicyLaws.{run_happens}
use Rattle.domain_core.specs.SystemRuns.{IsRun, GoesOn, trace_to}
use Rattle.worklist_rules.specs.Sharp.{IsSharp, IsSharpAt, IsSharpOver}
use Rattle.worklist_rules.specs.SharpLaws.{sharp_start, sharp_events}
use Rattle.abstract_exec.specs.Explorations.{IsLeftIn}
use Rattle.abstract_step.specs.Steppers.{StepperParts, stepped_by}
use Rattle.report_soundness.specs.ReportTold.{FourRecorders, four_order, four_recording}
use Rattle.report_soundness.specs.EventLaws.{four_is_order, four_is_recording, four_suited}
use Rattle.program_machines.specs.ProgramRunLaws.{program_run, stands_there, over_is_over}
use Rattle.program_machines.specs.Starts.{AreLone, lone_start, IsAlone}
use Rattle.program_machines.specs.StartLaws.{alone, one_history}
use Rattle.program_analysis.specs.Answers.{Answer, Told, Unbounded}
use Rattle.program_analysis.specs.TwinLaws.{run_same}
use Rattle.program_analysis.specs.Analyses.{PoolOf, first_pool, IsExploration, IsFound}
use Rattle.program_analysis.specs.LoneLaws.{GoesPast, AreFit, along_fit}

-- ---- how a policy run ends

-- it has at most so many turns, and places are left only where they are used up
pub record HasTurns {S T R B : Type 0} (turns : ℕ) (w : Pooled S T R B) : Type 0 where
  pub within : w.steps ≤ turns
  pub used : (w.spots ≡ []) ⊎ (w.steps ≡ turns)

pub run_turns : {S T C R B : Type 0} (machine : S → Machine T C) (states : Order T) (recorders : Order R) (z : Recording R B) (policy : Policy) (turns : ℕ) (events : List Event) (old new : Pooled S T R B)
    → old.steps ≤ turns → IsPolicyRun machine states recorders z policy turns old events new → HasTurns turns new
run_turns {S} {T} {R = R} {B = B} machine states recorders z policy turns [] old new low (is, end) = subst (λ (w : Pooled S T R B). HasTurns turns w) (sym is) (record { within = low; used = end })
run_turns machine states recorders z policy turns (event ∷ events) old new low (more, choice, mid, happens, rest) =
    let on : IsOneOn old mid = event_one_on machine states recorders z old mid event happens in
    let one = on.steps in
    run_turns machine states recorders z policy turns events mid new (omega (arith, low, more, one)) rest

-- ---- how many nodes a run has had

over_stays : (program : NumberedProgram) (t : ℕ) (outcome : Outcome) → after program t (Over outcome) ≡ Over outcome
over_stays program zero outcome = refl
over_stays program (suc t) outcome = over_stays program t outcome

over_or_at : (node : Node) (history : List RunEvent) (outcome : Outcome) → Over outcome ≡ At node history → ⊥
over_or_at node history outcome e = cc

trace_long : (program : NumberedProgram) (t : ℕ) (moment : Moment) (node : Node) (history : List RunEvent)
    → after program t moment ≡ At node history → length (trace program t moment) ≡ t
trace_long program zero moment node history at = refl
trace_long program (suc t) (At first events) node history at = ap suc (trace_long program t (step program (At first events)) node history at)
trace_long program (suc t) (Over outcome) node history at = absurd (over_or_at node history outcome (sym (over_stays program t outcome) ∙ at))

-- ---- the one run

-- the run has ended with at most so many nodes
pub record EndsIn (parts : StepperParts) (turns : ℕ) : Type 0 where
  pub nodes : List ℕ
  pub outcome : Outcome
  pub runs : Runs (seen parts.checked) parts.graph.nodes (lone_start (seen parts.checked) parts.rows) nodes outcome
  pub within : length nodes ≤ turns

abbrev pub IsOneRun : StepperParts → Outlined → ℕ → Answer → Type 0
IsOneRun parts o turns (Told report) = EndsIn parts turns
IsOneRun parts o turns (Unbounded scope) = GoesPast parts o turns scope

-- ---- explorations of these parts

-- the law: what is found is what the one run does
abbrev pub LoneRunIsFollowed : Type 0
LoneRunIsFollowed = (parts : StepperParts) (o : Outlined) (policy : Policy) (turns : ℕ) (answer : Answer) → AreFit parts o → AreLone parts.rows → IsFound parts o policy turns answer → IsOneRun parts o turns answer

no_spots : {X : Type 0} (x : X) → [] ≡ x ∷ [] → ⊥
no_spots x e = cc

only_spot : {X : Type 0} (x y : X) (xs : List X) → xs ≡ x ∷ [] → slice_get xs 0 ≡ Some y → x ≡ y
only_spot {X} x y xs one first = same_Some x y (ap (λ (ys : List X). slice_get ys 0) (sym one) ∙ first)

module _ (parts : StepperParts) (o : Outlined) (fit : AreFit parts o) (lone : AreLone parts.rows) where
  one_start : IsAlone (seen parts.checked) parts.rows
  one_start = alone (seen parts.checked) parts.rows lone

  abbrev pub lone_run : ℕ → Option (ℕ × List RunEvent)
  lone_run = points (seen parts.checked) parts.graph (lone_start (seen parts.checked) parts.rows)

  pub lone_is_run : IsRun (stepped_by parts).system lone_run
  lone_is_run = program_run fit.kept.machine.promises.points (seen parts.checked) parts.graph fit.kept.machine.keeps fit.kept.machine.is parts.rows (lone_start (seen parts.checked) parts.rows) one_start.is

  -- each exploration is exactly where the run is
  pub sharp_pool : (events : List Event) (pool : PoolOf)
      → HappenAll stepped_by parts_order four_order four_recording (first_pool parts o) events pool
      → IsSharp (stepped_by parts) four_recording pool lone_run
  sharp_pool events pool happen =
      let along = along_fit parts o fit in
      let laws : IsMachine MemoryParts (List RunEvent) parts_order (stepped_by parts) = is_part_machine parts.checked parts.graph parts.rows fit.kept in
      sharp_events stepped_by parts_order four_order four_recording events parts (first_pool parts o) pool lone_run refl parts_are_order
      (λ other kept. is_part_machine other.checked other.graph other.rows kept) four_is_order four_is_recording
      (start_kept stepped_by parts_order four_order four_recording parts o laws four_is_recording fit.kept (four_suited o fit.outline) along)
      lone_is_run
      (sharp_start stepped_by parts_order four_order four_recording parts o lone_run laws four_is_recording (four_suited o fit.outline) lone_is_run (one_history (seen parts.checked) parts.rows lone))
      happen

  module _ (policy : Policy) (turns : ℕ) where
    pub happened : (events : List Event) (pool : PoolOf) → IsExploration parts o policy turns events pool
        → HappenAll stepped_by parts_order four_order four_recording (first_pool parts o) events pool
    happened events pool explored = run_happens stepped_by parts_order four_order four_recording policy turns events (first_pool parts o) pool explored

    turned : (events : List Event) (pool : PoolOf) → IsExploration parts o policy turns events pool
        → HasTurns turns pool
    turned events pool explored = run_turns stepped_by parts_order four_order four_recording policy turns events (first_pool parts o) pool (omega arith) explored

    -- where no place is left, the run has ended
    pub over_run : (pool : PoolOf) (k n : ℕ) (history : List RunEvent) → lone_run k ≡ Some (n, history)
        → lone_run (suc k) ≡ None → IsSharpOver (stepped_by parts) four_recording pool (trace_to lone_run k) n history
        → HasTurns turns pool → EndsIn parts turns
    over_run pool k n history here over sharp turns_of =
        let so = over_is_over fit.kept.machine.promises.points (seen parts.checked) parts.graph fit.kept.machine.keeps fit.kept.machine.is parts.rows (lone_start (seen parts.checked) parts.rows) one_start.is k n history here over in
        let long : length (reverse (n ∷ trace_to lone_run k)) ≡ length (n ∷ trace_to lone_run k) = length-reverse (n ∷ trace_to lone_run k) in
        let count : pool.steps ≡ length (n ∷ trace_to lone_run k) = sharp.stepped.count in
        let most : pool.steps ≤ turns = turns_of.within in
        record { nodes = reverse (n ∷ trace_to lone_run k); outcome = so.outcome; runs = so.runs; within = omega (arith, long, count, most) }

    closed_run : (events : List Event) (pool : PoolOf) → pool.spots ≡ [] → HasTurns turns pool
        → IsSharp (stepped_by parts) four_recording pool lone_run → EndsIn parts turns
    closed_run events pool empty turns_of (inl (k, n, history, here, sharp)) = absurd (no_spots sharp.spot (sym empty ∙ sharp.one))
    closed_run events pool empty turns_of (inr (k, n, history, here, over, sharp)) = over_run pool k n history here over sharp turns_of

    -- where one is left, the run goes on after so many nodes
    past_run : (pool : PoolOf) (scope k n : ℕ) (history : List RunEvent) → lone_run k ≡ Some (n, history)
        → IsSharpAt (stepped_by parts) four_recording pool (trace_to lone_run k) n history
        → pool.steps ≡ turns → IsLeftIn pool scope → pool.outline ≡ o → GoesPast parts o turns scope
    past_run pool scope k n history here sharp used (spot, first, is) same =
        let at : after (seen parts.checked) k (lone_start (seen parts.checked) parts.rows) ≡ At (node_number parts.graph n) history =
        stands_there fit.kept.machine.promises.points (seen parts.checked) parts.graph fit.kept.machine.keeps fit.kept.machine.is parts.rows (lone_start (seen parts.checked) parts.rows) one_start.is k n history here in
        let long : length (trace_to lone_run k) ≡ k =
        ap length (trace_is_trace (seen parts.checked) parts.graph (lone_start (seen parts.checked) parts.rows) k)
        ∙ length-reverse (map (number_of parts.graph.nodes) (trace (seen parts.checked) k (lone_start (seen parts.checked) parts.rows)))
        ∙ length-map (trace (seen parts.checked) k (lone_start (seen parts.checked) parts.rows)) (number_of parts.graph.nodes)
        ∙ trace_long (seen parts.checked) k (lone_start (seen parts.checked) parts.rows) (node_number parts.graph n) history at in
        let count : pool.steps ≡ length (trace_to lone_run k) = sharp.stepped.count in
        let all : k ≡ turns = sym long ∙ sym count ∙ used in
        let node : spot.node ≡ n = ap (λ (s : Spot MemoryParts FourRecorders). s.node) (sym (only_spot sharp.spot spot pool.spots sharp.one first)) ∙ sharp.node in
        let low : n < length parts.graph.nodes = low_here k n history here in
        record {
          node = n;
          past = record {
            node = node_number parts.graph n;
            history = history;
            stands = subst (λ (t : ℕ). after (seen parts.checked) t (lone_start (seen parts.checked) parts.rows) ≡ At (node_number parts.graph n) history) all at;
            number = slice_get-get_or parts.graph.nodes n first_node low;
          };
          own = is ∙ ap (λ (out : Outlined). slice_index (shape_of out).own spot.node) same ∙ ap (λ (m : ℕ). slice_index (shape_of o).own m) node;
        }
      where
        low_here : (t m : ℕ) (events : List RunEvent) → lone_run t ≡ Some (m, events) → m < length parts.graph.nodes
        low_here t m events there = go (lone_is_run.on t m events there)
          where
            go : GoesOn (stepped_by parts).system lone_run t m events → m < length parts.graph.nodes
            go (inl (j, d, goes, next)) = goes.from
            go (inr (inl ends, over)) = ends.from
            go (inr (inr (fault, fails), over)) = fails.from

    left_run : (pool : PoolOf) (scope : ℕ) → HasTurns turns pool → pool.outline ≡ o → IsLeftIn pool scope
        → IsSharp (stepped_by parts) four_recording pool lone_run → GoesPast parts o turns scope
    left_run pool scope turns_of same left (inl (k, n, history, here, sharp)) =
        elim turns_of.used [
          | inl none ↦ absurd (no_spots sharp.spot (sym none ∙ sharp.one))
          | inr used ↦ past_run pool scope k n history here sharp used left same
        ]
    left_run pool scope turns_of same (spot, first, is) (inr (k, n, history, here, over, sharp)) =
        absurd (none-some spot (ap (λ (spots : List (Spot MemoryParts FourRecorders)). slice_get spots 0) (sym sharp.none) ∙ first))

    followed : (answer : Answer) → IsFound parts o policy turns answer → IsOneRun parts o turns answer
    followed (Told report) closed =
        closed_run closed.events closed.pool closed.empty (turned closed.events closed.pool closed.explored) (sharp_pool closed.events closed.pool (happened closed.events closed.pool closed.explored))
    followed (Unbounded scope) left =
        left_run left.pool scope (turned left.events left.pool left.explored)
        (run_same stepped_by parts_order four_order four_recording policy turns left.events (first_pool parts o) left.pool left.explored)
        left.left (sharp_pool left.events left.pool (happened left.events left.pool left.explored))

-- what is found is what the one run does
pub lone_followed : LoneRunIsFollowed
lone_followed parts o policy turns answer fit lone found = followed parts o fit lone policy turns answer found
