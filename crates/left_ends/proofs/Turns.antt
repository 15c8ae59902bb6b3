-- What each turn keeps.
--   OneSpot, spot_at   the place that is stepped, with its node and its state
--   spot_fits      its state is a memory of the program for its node
--   watch_spot     a look at it is a look at the place that the event steps
--   stepper_along  the stepper goes along the outline
--   first_watched  at the start
--   turn_on        one turn more
--   turn_least     leaves less to do
--   each_end       where no place is left each point of each run was seen
--   node_inside    a place stands at a node of the outline
use Rattle.std.specs.Prelude.{slice_get}
use Rattle.std.proofs.Common.{◌≡◌, ◌<◌, ◌≤◌, ◌^◌, ℕ, zero, suc, Bool, List, [], ◌∷◌, ◌++◌, length, map, Option, Some, None, refl, sym, ap, subst, ◌∙◌, arith}
use Rattle.std.specs.Option.{option_map}
use Rattle.std.proofs.lemmas.List.{length-map}
use Rattle.std.proofs.lemmas.Option.{same_Some, slice_get-map, slice_get_within}
use Rattle.lists.specs.MemberLaws.{contained}
use Rattle.alf_ops.specs.declared.history.RunEvent.{RunEvent}
use Rattle.alf_check.specs.declared.rows.InputRow.{InputRow}
use Rattle.alf_check.specs.CheckedPrograms.{CheckedParts, seen}
use Rattle.flow_graph.specs.Numbering.{GraphParts}
use Rattle.domain_core.specs.declared.event.Event.{Event}
use Rattle.domain_core.specs.declared.event.Event.TheVariants.{Step, Merge}
use Rattle.domain_core.specs.Outlines.{Outlined, Shape, shape_of}
use Rattle.domain_core.specs.Machines.{IsAlong}
use Rattle.domain_core.specs.OutlineOf.{IsOutlineOf}
use Rattle.domain_core.specs.Recordings.{IsSuited}
use Rattle.scope_graph.specs.Placing.{place_of, plan_of}
use Rattle.worklist_rules.specs.declared.policy.Policy.{Policy}
use Rattle.worklist_rules.specs.Pools.{Spot}
use Rattle.worklist_rules.specs.Events.{Happens, opened}
use Rattle.worklist_rules.specs.EventLaws.{event_one_on}
use Rattle.abstract_exec.specs.Points.{AreMergePoints}
use Rattle.abstract_exec.specs.Explorations.{IsPool}
use Rattle.abstract_exec.specs.TurnLaws.{left_to_do, turn_less, turn_steps}
use Rattle.memory_model.specs.KeptMemories.{MemoryParts}
use Rattle.memory_model.specs.SeenOrders.{parts_order}
use Rattle.memory_model.specs.SeenOrderLaws.{parts_are_order}
use Rattle.transfer_rules.specs.PartMachines.{part_machine}
use Rattle.transfer_rules.specs.PartMachineLaws.{is_part_machine}
use Rattle.abstract_step.specs.Steppers.{StepperParts, stepped_by, GoesAlong}
use Rattle.watched_steps.specs.Watched.{WatchesStep, Watches, EachPointIsSeen}
use Rattle.watched_steps.specs.WatchedLaws.{each_seen, watches_weaker, watches_on}
use Rattle.left_ends.specs.Silence.{silent_order, silent_recording}
use Rattle.left_ends.specs.SilenceLaws.{silent_is_order, silent_is_recording}
use Rattle.left_ends.specs.Seen.{AreEnds, FitsAt, StandsForAll, EndsIn}
use Rattle.left_ends.specs.Watching.{EndsPool, parts_with, IsPoolOf, IsTurn, IsWatched, IsWatchedFor}
use Rattle.left_ends.specs.Answers.{EachEnds}

abbrev pub PlaceOf : Type 0
PlaceOf = Spot MemoryParts (Unit {0})

element_at : {X : Type 0} (xs : List X) (i : ℕ) → i < length xs → (x : X) × (slice_get xs i ≡ Some x)
element_at [] i low = absurd (omega (arith, low))
element_at (x ∷ xs) zero low = (x, refl)
element_at (x ∷ xs) (suc i) low = element_at xs i (omega (arith, low))

-- the place that is stepped
pub record OneSpot (w : EndsPool) (place node : ℕ) (state : MemoryParts) : Type 0 where
  pub spot : PlaceOf
  pub at : slice_get w.spots place ≡ Some spot
  pub node_is : spot.node ≡ node
  pub state_is : spot.state ≡ state

pub spot_at : (w : EndsPool) (place node : ℕ) (state : MemoryParts) → place < length w.spots
    → slice_get (map (λ (s : PlaceOf). s.node) w.spots) place ≡ Some node
    → slice_get (map (λ (s : PlaceOf). s.state) w.spots) place ≡ Some state → OneSpot w place node state
spot_at w place node state low of_node of_state =
    let one = element_at w.spots place low in
    record {
      spot = one.0;
      at = one.1;
      node_is = same_Some one.0.node node (sym (slice_get-map (λ (s : PlaceOf). s.node) w.spots place ∙ ap (option_map (λ (s : PlaceOf). s.node)) one.1) ∙ of_node);
      state_is = same_Some one.0.state state (sym (slice_get-map (λ (s : PlaceOf). s.state) w.spots place ∙ ap (option_map (λ (s : PlaceOf). s.state)) one.1) ∙ of_state);
    }

module _ (checked : CheckedParts) (graph : GraphParts) (rows : List InputRow) (w : EndsPool) (of : IsPoolOf checked graph rows w) where
  -- its state is a memory of the program for its node
  pub spot_fits : (place node : ℕ) (state : MemoryParts) → OneSpot w place node state → FitsAt checked graph node state
  spot_fits place node state one =
      let placed = of.pool.kept.placed one.spot (contained w.spots place one.spot one.at) in
      let fits = subst (λ (parts : StepperParts). (stepped_by parts).fits one.spot.node one.spot.state) of.stepper placed.fits in
      subst (λ (n : ℕ). FitsAt checked graph n state) one.node_is
      (subst (λ (s : MemoryParts). FitsAt checked graph one.spot.node s) one.state_is (record { own = fits.0; fits = fits.1 }))

  -- a look at it is a look at the place that the event steps
  pub watch_spot : (place node : ℕ) (state : MemoryParts) (all : Option MemoryParts) → OneSpot w place node state
      → EndsIn checked graph all node state → WatchesStep (EndsIn checked graph all) w (Step place)
  watch_spot place node state all one looked = λ spot found.
      let same : one.spot ≡ spot = same_Some one.spot spot (sym one.at ∙ found) in
      subst (λ (s : PlaceOf). EndsIn checked graph all s.node s.state) same
      (subst (λ (n : ℕ). EndsIn checked graph all n one.spot.state) (sym one.node_is)
      (subst (λ (s : MemoryParts). EndsIn checked graph all node s) (sym one.state_is) looked))

-- what a memory stands for one above it stands for
more_ends : (checked : CheckedParts) (graph : GraphParts) (ends all : Option MemoryParts) → StandsForAll ends all → (n : ℕ) (state : MemoryParts)
    → EndsIn checked graph ends n state → EndsIn checked graph all n state
more_ends checked graph ends all more n state looked later is = more _ later (looked later is)

-- the stepper goes along the outline
pub stepper_along : (checked : CheckedParts) (graph : GraphParts) (rows : List InputRow) (o : Shape) (stepper : StepperParts)
    → stepper ≡ parts_with checked graph rows → GoesAlong stepper → IsOutlineOf (plan_of graph) o
    → IsAlong MemoryParts (List RunEvent) o (stepped_by stepper)
stepper_along checked graph rows o stepper is along outline =
    let same : stepper.graph ≡ graph = ap (λ (p : StepperParts). p.graph) is in
    along o (outline.edges ∙ sym (ap (λ (g : GraphParts). g.edges) same))
    (outline.one_each ∙ length-map graph.nodes place_of ∙ sym (ap (λ (g : GraphParts). length g.nodes) same))

no_places : {X : Type 0} (xs : List X) → length xs ≡ 0 → xs ≡ []
no_places [] none = refl
no_places (x ∷ xs) none = absurd (omega (arith, none))

module _ (turns : ℕ) (policy : Policy) (points : List Bool) (checked : CheckedParts) (graph : GraphParts) (rows : List InputRow) (o : Outlined) where
  -- at the start
  pub none_watched : (w : EndsPool) → IsPoolOf checked graph rows w → w ≡ opened stepped_by silent_recording (parts_with checked graph rows) o
      → AreMergePoints (shape_of o) policy points → IsWatchedFor turns policy points checked graph rows o None w
  none_watched w of is flags = record {
    watched = record { of = of; outline = ap (λ (p : EndsPool). p.outline) is; are = tt; events = []; watched = is };
    steps = let none : w.steps ≡ 0 = ap (λ (p : EndsPool). p.steps) is in omega (arith, none);
    points_are = flags;
  }

  pub first_watched : (w : EndsPool) (stepper : StepperParts) → stepper ≡ parts_with checked graph rows → IsPool stepped_by silent_recording w
      → w ≡ opened stepped_by silent_recording stepper o → AreMergePoints (shape_of w.outline) policy points
      → IsWatchedFor turns policy points checked graph rows o None w
  first_watched w stepper parts kept is flags =
      let start : w ≡ opened stepped_by silent_recording (parts_with checked graph rows) o = subst (λ (s : StepperParts). w ≡ opened stepped_by silent_recording s o) parts is in
      none_watched w (record { pool = kept; stepper = ap (λ (p : EndsPool). p.stepper) start }) start
      (subst (λ (x : Outlined). AreMergePoints (shape_of x) policy points) (ap (λ (p : EndsPool). p.outline) start) flags)

  -- one turn more
  pub turn_on : (ends all : Option MemoryParts) (w new : EndsPool) → IsWatchedFor turns policy points checked graph rows o ends w
      → w.steps < turns → AreEnds checked all → StandsForAll ends all → IsPoolOf checked graph rows new
      → IsTurn checked graph all w new → IsWatchedFor turns policy points checked graph rows o all new
  turn_on ends all w new so_far low are more of turn =
      let on = event_one_on stepped_by parts_order silent_order silent_recording w new turn.event turn.happens in
      let first = opened stepped_by silent_recording (parts_with checked graph rows) o in
      record {
        watched = record {
          of = of;
          outline = on.outline ∙ so_far.watched.outline;
          are = are;
          events = so_far.watched.events ++ turn.event ∷ [];
          watched = watches_on stepped_by parts_order silent_order silent_recording (EndsIn checked graph all) so_far.watched.events turn.event first w new
              (watches_weaker stepped_by parts_order silent_order silent_recording (EndsIn checked graph ends) (EndsIn checked graph all) (more_ends checked graph ends all more) so_far.watched.events first w so_far.watched.watched)
              turn.happens turn.watches;
        };
        steps = turn_steps stepped_by parts_order silent_order silent_recording turns w new turn.event turn.happens low;
        points_are = so_far.points_are;
      }

  -- leaves less to do
  pub turn_least : (all : Option MemoryParts) (w new : EndsPool) → IsTurn checked graph all w new → length new.spots < 2 ^ 32 → w.steps < turns
      → left_to_do stepped_by parts_order silent_order silent_recording turns new < left_to_do stepped_by parts_order silent_order silent_recording turns w
  turn_least all w new turn few low = turn_less stepped_by parts_order silent_order silent_recording turns w new turn.event turn.happens few low

  -- where no place is left each point of each run was seen
  pub each_end : (ends : Option MemoryParts) (w : EndsPool) → IsWatchedFor turns policy points checked graph rows o ends w
      → length w.spots ≡ 0 → EachEnds checked graph rows ends
  each_end ends w watched none =
      let of = watched.watched.of in
      let kept = of.pool.kept in
      let along = subst (λ (p : StepperParts). IsAlong MemoryParts (List RunEvent) (shape_of w.outline) (stepped_by p)) of.stepper kept.along in
      record {
        are = watched.watched.are;
        each = each_seen (EndsIn checked graph ends) stepped_by parts_order silent_order silent_recording parts_are_order
            (λ parts keeps. is_part_machine parts.checked parts.graph parts.rows keeps) silent_is_order silent_is_recording
            (parts_with checked graph rows) o watched.watched.events w
            (subst (λ (p : StepperParts). (stepped_by p).kept) of.stepper kept.stepper)
            (subst (IsSuited silent_recording) watched.watched.outline kept.suited)
            (subst (λ (x : Outlined). IsAlong MemoryParts (List RunEvent) (shape_of x) (part_machine checked graph rows)) watched.watched.outline along)
            watched.watched.watched (no_places w.spots none);
      }

  -- a place stands at a node of the outline
  pub node_inside : (ends : Option MemoryParts) (w : EndsPool) (place node : ℕ) → IsWatchedFor turns policy points checked graph rows o ends w
      → slice_get (map (λ (s : PlaceOf). s.node) w.spots) place ≡ Some node → node < length o.nodes
  node_inside ends w place node watched at =
      let low : place < length w.spots = subst (λ (n : ℕ). place < n) (length-map w.spots (λ s. s.node)) (slice_get_within (map (λ (s : PlaceOf). s.node) w.spots) place node at) in
      let one = element_at w.spots place low in
      let same : one.0.node ≡ node = same_Some one.0.node node (sym (slice_get-map (λ (s : PlaceOf). s.node) w.spots place ∙ ap (option_map (λ (s : PlaceOf). s.node)) one.1) ∙ at) in
      let inside : one.0.node < length w.outline.nodes = (watched.watched.of.pool.kept.placed one.0 (contained w.spots place one.0 one.1)).in_range in
      subst (λ (x : Outlined). node < length x.nodes) watched.watched.outline (subst (λ (n : ℕ). n < length w.outline.nodes) same inside)
