-- Pools after events.
--   pooled_is     pools are the same where their parts are
--   element_at    an element at a place within
--   pool_opened, pool_kept   what every pool keeps, at the start and after an event
--   placed_at     a place that is stepped meets the conditions
--   alike_all     places that may be merged may be joined
--   can_happen    the policy's choice is allowed
--   finished      where places are left or not, the run is that of the policy
use Rattle.std.proofs.Common.{◌≡◌, ◌<◌, ◌≤◌, ◌+◌, ◌-◌, ◌*◌, ◌^◌, ℕ, zero, suc, List, [], ◌∷◌, ◌++◌, Bool, true, map, length, get_or, Contains, slice_get, slice_set, Some, inl, inr, refl, ap, sym, ◌∙◌, subst, arith, length-set}
use Rattle.std.specs.Prelude.{slice_index, Result, Ok, Err, OnOk}
use Rattle.std.specs.List.{remove}
use Rattle.std.proofs.lemmas.Bool.{cases_lt}
use Rattle.std.proofs.lemmas.List.{length-map, get_or-map}
use Rattle.std.proofs.lemmas.List.Edits.{length-remove}
use Rattle.std.proofs.lemmas.Option.{slice_get_within, slice_get-get_or, get_or_from_slice_get, same_Some}
use Rattle.worklist.specs.Least.{key_at}
use Rattle.domain_core.specs.declared.event.Event.{Event}
use Rattle.domain_core.specs.declared.event.Event.TheVariants.{Step, Merge}
use Rattle.domain_core.specs.declared.fault_set.FaultSet.{FaultSet}
use Rattle.lists.specs.MemberLaws.{contained}
use Rattle.domain_core.specs.Orders.{Order, IsOrder}
use Rattle.domain_core.specs.Outlines.{Outlined, shape_of}
use Rattle.domain_core.specs.Machines.{Machine, IsMachine, IsAlong}
use Rattle.domain_core.specs.Recordings.{Recording, IsRecording, IsSuited}
use Rattle.worklist_rules.specs.declared.policy.Policy.{Policy}
use Rattle.worklist_rules.specs.Pools.{Spot, Pooled, positions_of, alarm_at, with_alarm}
use Rattle.worklist_rules.specs.Events.{opened, Happens, met, stepped_at, merged_at}
use Rattle.worklist_rules.specs.Policies.{IsChoice, merges, steps, IsPolicyRun}
use Rattle.worklist_rules.specs.Kept.{IsPlaced, IsKept}
use Rattle.worklist_rules.specs.MergeLaws.{alike_at}
use Rattle.worklist_rules.specs.EventLaws.{start_kept, event_kept, event_one_on}
use Rattle.worklist_rules.specs.PolicyLaws.{IsPolicyStart, start_done, start_more}
use Rattle.abstract_exec.specs.Points.{AreMergePoints}
use Rattle.domain_core.specs.FaultSets.{either}
use Rattle.domain_core.specs.declared.outline.NodeRow.{NodeRow}
use Rattle.abstract_exec.specs.declared.explored.Explored.{Explored}
use Rattle.abstract_exec.specs.declared.explored.Explored.TheVariants.{Closed, Left}
use Rattle.abstract_exec.specs.TurnLaws.{merged_fewer, turn_steps}
use Rattle.abstract_exec.specs.Explorations.{IsPool, IsLater, IsLeftIn, IsEnded, IsExplored}

-- pools are the same where their parts are
pub pooled_is : {S T R B : Type 0} (stepper : S) (o : Outlined) (count : ℕ) (spots others : List (Spot T R)) (book other_book : B) (alarms others_told : List FaultSet) (stepped others_stepped : List Bool)
    → spots ≡ others → book ≡ other_book → alarms ≡ others_told → stepped ≡ others_stepped
    → (let w : Pooled S T R B = record { stepper = stepper; outline = o; spots = spots; book = book; alarms = alarms; stepped = stepped; steps = count } in w)
    ≡ record { stepper = stepper; outline = o; spots = others; book = other_book; alarms = others_told; stepped = others_stepped; steps = count }
pooled_is stepper o count spots others book other_book alarms others_told stepped others_stepped a b c d = rw (a, b, c, d) refl

-- of two facts the first
pub on_ok_first : {A E : Type 0} (result : Result A E) (P Q : Type 0) → OnOk result (P × Q) → OnOk result P
on_ok_first (Ok x) P Q both = both.0
on_ok_first (Err fault) P Q both = tt

-- the key at a place is the position there
key_at_spot : {T R : Type 0} (spots : List (Spot T R)) (i : ℕ) (spot : Spot T R) → slice_get spots i ≡ Some spot
    → key_at (positions_of spots) i ≡ spot.position
key_at_spot {T = T} {R = R} spots i spot at =
    get_or-map (λ (s : Spot T R). s.position) spots i spot [] (slice_get_within spots i spot at)
    ∙ ap (λ (s : Spot T R). s.position) (get_or_from_slice_get spots i spot spot at)

-- an element at a place within
pub element_at : {X : Type 0} (xs : List X) (i : ℕ) → i < length xs → (x : X) × (slice_get xs i ≡ Some x)
element_at [] i low = absurd (omega arith)
element_at (x ∷ xs) zero low = (x, refl)
element_at (x ∷ xs) (suc i) low = element_at xs i (omega arith)

-- what meets the conditions after so many steps meets them after more
pub placed_later : {T C R B : Type 0} (o : Outlined) (m : Machine T C) (z : Recording R B) (early later : ℕ) (spot : Spot T R) → early ≤ later → IsPlaced o m z early spot → IsPlaced o m z later spot
placed_later o m z early later spot more placed =
    let long = placed.long in
    record {
      in_range = placed.in_range;
      fits = placed.fits;
      is_of = placed.is_of;
      long = omega arith;
      position_is = placed.position_is;
      low = λ t. let low = placed.low t in omega arith;
    }

module _ {S T C R B : Type 0} (machine : S → Machine T C) (states : Order T) (recorders : Order R) (z : Recording R B) where
  -- a pool at its start has what every pool keeps
  pub pool_opened : (stepper : S) (o : Outlined) → IsMachine T C states (machine stepper) → IsRecording R B recorders z
      → (machine stepper).kept → IsSuited z o → IsAlong T C (shape_of o) (machine stepper)
      → IsPool machine z (opened machine z stepper o)
  pool_opened stepper o machine_laws laws kept suited along = record { kept = start_kept machine states recorders z stepper o machine_laws laws kept suited along; few = omega arith }

  -- a place that is stepped meets the conditions
  pub placed_at : (w : Pooled S T R B) (i : ℕ) (spot : Spot T R) → IsKept machine z w → w.steps < 2 ^ 32 - 2
      → slice_get w.spots i ≡ Some spot → IsPlaced w.outline (machine w.stepper) z (2 ^ 32 - 3) spot
  placed_at w i spot kept room found = placed_later w.outline (machine w.stepper) z w.steps (2 ^ 32 - 3) spot (omega arith) (kept.placed spot (contained w.spots i spot found))

  -- places that may be merged may be joined
  pub alike_all : (w : Pooled S T R B) (i j : ℕ) → IsMachine T C states (machine w.stepper)
      → IsRecording R B recorders z → IsKept machine z w
      → ((a b : Spot T R) × (i < j) × (slice_get w.spots i ≡ Some a) × (slice_get w.spots j ≡ Some b) × (a.position ≡ b.position))
      → (a b : Spot T R) → slice_get w.spots i ≡ Some a → slice_get w.spots j ≡ Some b → states.alike a.state b.state × recorders.alike a.recorder b.recorder
  alike_all w i j machine_laws laws kept (c, d, before, at_c, at_d, same) a b at_a at_b =
      let first : a ≡ c = same_Some a c (sym at_a ∙ at_c) in
      let second : b ≡ d = same_Some b d (sym at_b ∙ at_d) in
      alike_at machine states recorders z w i j a b machine_laws laws kept at_a at_b (ap (λ (s : Spot T R). s.position) first ∙ same ∙ ap (λ (s : Spot T R). s.position) (sym second))

  -- what every pool keeps, after an event that leaves few places
  pub pool_kept : (old new : Pooled S T R B) (event : Event) → IsOrder T states
      → IsMachine T C states (machine old.stepper) → IsOrder R recorders → IsRecording R B recorders z
      → IsPool machine z old → Happens machine states recorders z old event new → length new.spots < 2 ^ 32 → IsPool machine z new
  pool_kept old new event states_laws machine_laws recorders_laws laws pool happens few =
      record { kept = event_kept machine states recorders z old new event states_laws machine_laws recorders_laws laws pool.kept happens; few = few }

  -- a merge leaves few places
  pub merge_few : (old new : Pooled S T R B) (i j : ℕ) → Happens machine states recorders z old (Merge i j) new
      → length old.spots < 2 ^ 32 → length new.spots < 2 ^ 32
  merge_few old new i j (a, b, before, first, second, same, is) few =
      let less = merged_fewer old.spots i j (met states recorders a b) b second in
      let f : length new.spots ≡ length (remove (slice_set old.spots i (met states recorders a b)) j) = ap (λ (w : Pooled S T R B). length w.spots) is in
      omega arith

  -- the policy's choice is allowed
  pub can_happen : (policy : Policy) (w : Pooled S T R B) (event : Event)
      → IsChoice (shape_of w.outline) policy w.spots event
      → (new : Pooled S T R B) × Happens machine states recorders z w event new
  can_happen policy w event (steps {i = i} spot least found none) = (stepped_at machine z w i spot, (spot, found, refl))
  can_happen policy w event (merges {i = i} {j = j} spot least found point next) =
      let within : j < length w.spots = (let low = next.within in let long = length-map w.spots (λ (s : Spot T R). s.position) in omega arith) in
      let b : Spot T R = get_or w.spots j spot in
      let second : slice_get w.spots j ≡ Some b = slice_get-get_or w.spots j spot within in
      (merged_at states recorders w i j spot b, (spot, b, next.later, found, second, sym (key_at_spot w.spots i spot found) ∙ sym next.same ∙ key_at_spot w.spots j b second, refl))

  module _ (policy : Policy) (turns : ℕ) where
    -- the run is that of the policy
    pub finished : (events : List Event) (old w : Pooled S T R B) (explored : Explored)
        → IsPolicyStart machine states recorders z policy turns old events w → w.steps ≤ turns
        → (0 < length w.spots → w.steps < turns → ⊥)
        → IsEnded w events explored → IsExplored machine states recorders z policy turns old w explored
    finished events old w (Closed told) start low over (is, none) =
        (subst (λ (es : List Event). IsPolicyRun machine states recorders z policy turns old es w) (sym is) (start_done machine states recorders z policy turns events old w start (inl none)), none)
    finished events old w (Left scope) start low over (spot, found, is) =
        let some : 0 < length w.spots = slice_get_within w.spots 0 spot found in
        let used : w.steps ≡ turns = elim (cases_lt w.steps turns) [ inl less ↦ absurd (over some less) | inr most ↦ omega arith ] in
        (events, start_done machine states recorders z policy turns events old w start (inr used), (spot, found, is))

-- ---- the parts of a pool

alarm_there : (alarms : List FaultSet) (n : ℕ) (told : FaultSet) → n < length alarms → told ≡ get_or alarms n told
    → told ≡ alarm_at alarms n
alarm_there [] n told low is = absurd (omega arith)
alarm_there (f ∷ alarms) zero told low is = is
alarm_there (f ∷ alarms) (suc n) told low is = alarm_there alarms n told (omega arith) is

scope_at : (rows : List NodeRow) (n : ℕ) (row : NodeRow) → slice_get rows n ≡ Some row
    → row.scope ≡ slice_index (map (λ (r : NodeRow). r.scope) rows) n
scope_at [] n row is = absurd cc
scope_at (r ∷ rows) zero row is = ap (λ (q : NodeRow). q.scope) (sym (same_Some r row is))
scope_at (r ∷ rows) (suc n) row is = scope_at rows n row is

module _ {S T C R B : Type 0} (machine : S → Machine T C) (states : Order T) (recorders : Order R) (z : Recording R B) (w u : Pooled S T R B) (e : w ≡ u) where
  kept_in : IsPool machine z u → IsPool machine z w
  kept_in pool = subst (IsPool machine z) (sym e) pool

  -- a place stands at a node that has its faults and its flag
  pub node_in : (i : ℕ) (spot : Spot T R) → IsPool machine z u → slice_get w.spots i ≡ Some spot
      → (spot.node < length w.alarms) × (spot.node < length w.stepped) × (spot.node < length w.outline.nodes)
  node_in i spot pool found =
      let kept = (kept_in pool).kept in
      let placed = kept.placed spot (contained w.spots i spot found) in
      (omega (arith, placed.in_range, kept.told), omega (arith, placed.in_range, kept.flags), placed.in_range)

  pub placed_in : (i : ℕ) (spot : Spot T R) → IsPool machine z u → u.steps < 2 ^ 32 - 2
      → slice_get w.spots i ≡ Some spot → IsPlaced w.outline (machine w.stepper) z (2 ^ 32 - 3) spot
  placed_in i spot pool room found =
      let low : w.steps < 2 ^ 32 - 2 = subst (λ (v : Pooled S T R B). v.steps < 2 ^ 32 - 2) (sym e) room in
      placed_at machine states recorders z w i spot (kept_in pool).kept low found

  -- a step happens
  pub step_happens : (i node : ℕ) (faults old told : FaultSet) (spots : List (Spot T R)) (book : B) → IsPool machine z u
      → i < length w.spots
      → ((spot : Spot T R) → slice_get w.spots i ≡ Some spot → (node ≡ spot.node) × (faults ≡ (machine w.stepper).faults spot.node spot.state))
      → ((spot : Spot T R) → slice_get w.spots i ≡ Some spot → spots ≡ (stepped_at machine z w i spot).spots)
      → ((spot : Spot T R) → slice_get w.spots i ≡ Some spot → book ≡ (stepped_at machine z w i spot).book)
      → old ≡ get_or w.alarms node old → told ≡ either old faults
      → Happens machine states recorders z u (Step i) (record { stepper = w.stepper; outline = w.outline; spots = spots; book = book; alarms = slice_set w.alarms node told; stepped = slice_set w.stepped node true; steps = w.steps + 1 })
  step_happens i node faults old told spots book pool low tells spots_are book_is at joined =
      let (spot, found) = element_at w.spots i low in
      let here = tells spot found in
      let inside = node_in i spot pool found in
      let known : old ≡ alarm_at w.alarms node = alarm_there w.alarms node old (omega (arith, here.0, inside.0)) at in
      let both : told ≡ either (alarm_at w.alarms node) ((machine w.stepper).faults spot.node spot.state) = joined ∙ ap (λ (f : FaultSet). either f faults) known ∙ ap (λ (f : FaultSet). either (alarm_at w.alarms node) f) here.1 in
      let alarms : slice_set w.alarms node told ≡ with_alarm w.alarms spot.node ((machine w.stepper).faults spot.node spot.state) =
      ap (λ (f : FaultSet). slice_set w.alarms node f) both ∙ ap (λ (n : ℕ). with_alarm w.alarms n ((machine w.stepper).faults spot.node spot.state)) here.0 in
      let flags : slice_set w.stepped node true ≡ slice_set w.stepped spot.node true = ap (λ (n : ℕ). slice_set w.stepped n true) here.0 in
      let new : Pooled S T R B = record { stepper = w.stepper; outline = w.outline; spots = spots; book = book; alarms = slice_set w.alarms node told; stepped = slice_set w.stepped node true; steps = w.steps + 1 } in
      let is : new ≡ stepped_at machine z w i spot = pooled_is w.stepper w.outline (w.steps + 1) spots (stepped_at machine z w i spot).spots book (stepped_at machine z w i spot).book
      (slice_set w.alarms node told) (stepped_at machine z w i spot).alarms (slice_set w.stepped node true) (stepped_at machine z w i spot).stepped (spots_are spot found) (book_is spot found) alarms flags in
      subst (λ (v : Pooled S T R B). Happens machine states recorders z v (Step i) new) e (spot, found, is)

  -- a merge happens
  pub merge_happens : (i j : ℕ) (spots : List (Spot T R)) → ((a b : Spot T R) × (i < j) × (slice_get w.spots i ≡ Some a) × (slice_get w.spots j ≡ Some b) × (a.position ≡ b.position))
      → ((a b : Spot T R) → slice_get w.spots i ≡ Some a → slice_get w.spots j ≡ Some b → spots ≡ remove (slice_set w.spots i (met states recorders a b)) j)
      → Happens machine states recorders z u (Merge i j) (record w { spots = spots })
  merge_happens i j spots (a, b, before, first, second, same) is =
      let new : Pooled S T R B = record w { spots = spots } in
      let joined : new ≡ merged_at states recorders w i j a b = ap (λ (xs : List (Spot T R)). let p : Pooled S T R B = record w { spots = xs } in p) (is a b first second) in
      subst (λ (v : Pooled S T R B). Happens machine states recorders z v (Merge i j) new) e (a, b, before, first, second, same, joined)

  -- where two places are not of one position no merge happens
  pub no_merge : (i j : ℕ) (v : Pooled S T R B) → (((a b : Spot T R) × (i < j) × (slice_get w.spots i ≡ Some a) × (slice_get w.spots j ≡ Some b) × (a.position ≡ b.position)) → ⊥)
      → Happens machine states recorders z u (Merge i j) v → ⊥
  no_merge i j v none happens =
      let (a, b, before, first, second, same, is) = subst (λ (p : Pooled S T R B). Happens machine states recorders z p (Merge i j) v) (sym e) happens in
      none (a, b, before, first, second, same)

  -- the first place stands in this scope
  pub left_in : (n : ℕ) (spot : Spot T R) (row : NodeRow) → slice_get w.spots 0 ≡ Some spot → n ≡ spot.node
      → slice_get w.outline.nodes n ≡ Some row → IsLeftIn u row.scope
  left_in n spot row found same there =
      let own : row.scope ≡ slice_index (shape_of w.outline).own spot.node = scope_at w.outline.nodes n row there ∙ ap (λ (m : ℕ). slice_index (shape_of w.outline).own m) same in
      subst (λ (v : Pooled S T R B). IsLeftIn v row.scope) e (spot, found, own)

  -- each place has a flag of merge points
  pub flag_there : (policy : Policy) (flags : List Bool) (spot : Spot T R) → IsPool machine z u
      → AreMergePoints (shape_of u.outline) policy flags → Contains w.spots spot → spot.node < length flags
  flag_there policy flags spot pool points there =
      let here = subst (λ (v : Pooled S T R B). AreMergePoints (shape_of v.outline) policy flags) (sym e) points in
      let placed = (kept_in pool).kept.placed spot there in
      let long : length (shape_of w.outline).own ≡ length w.outline.nodes = length-map w.outline.nodes (λ (r : NodeRow). r.scope) in
      omega (arith, placed.in_range, here.one_each, long)

module _ {S T C R B : Type 0} (machine : S → Machine T C) (states : Order T) (recorders : Order R) (z : Recording R B) where
  abbrev pub IsAllowed : Event → Pooled S T R B → Type 0
  IsAllowed event w = ((v : Pooled S T R B) → Happens machine states recorders z w event v → ⊥) → ⊥

  -- the policy's choice is no bad event
  pub is_allowed : (policy : Policy) (w : Pooled S T R B) (event : Event)
      → IsChoice (shape_of w.outline) policy w.spots event → IsAllowed event w
  is_allowed policy w event choice none = let can = can_happen machine states recorders z policy w event choice in none can.0 can.1

-- what the turns of an exploration keep
pub record Explores {S T C R B : Type 0} (machine : S → Machine T C) (states : Order T) (recorders : Order R)
    (z : Recording R B) (policy : Policy) (turns : ℕ) (flags : List Bool) (old : Pooled S T R B) (events : List Event)
    (w : Pooled S T R B) : Type 0 where
  pub kept : IsPool machine z w
  pub later : IsLater turns old w
  pub points : AreMergePoints (shape_of w.outline) policy flags
  pub run : IsPolicyStart machine states recorders z policy turns old events w

module _ {S T C R B : Type 0} (machine : S → Machine T C) (states : Order T) (recorders : Order R) (z : Recording R B) (policy : Policy) (turns : ℕ) (flags : List Bool) (old : Pooled S T R B) where
  -- after one turn more
  pub one_more : (events : List Event) (w new : Pooled S T R B) (event : Event)
      → Explores machine states recorders z policy turns flags old events w → w.steps < turns
      → IsChoice (shape_of w.outline) policy w.spots event
      → Happens machine states recorders z w event new → IsPool machine z new → Explores machine states recorders z policy turns flags old (events ++ event ∷ []) new
  one_more events w new event so_far low choice happens kept =
      let on = event_one_on machine states recorders z w new event happens in
      record {
        kept = kept;
        later = record {
          stepper = on.stepper ∙ so_far.later.stepper;
          outline = on.outline ∙ so_far.later.outline;
          steps = turn_steps machine states recorders z turns w new event happens low;
        };
        points = subst (λ (o : Outlined). AreMergePoints (shape_of o) policy flags) (sym on.outline) so_far.points;
        run = start_more machine states recorders z policy turns events old w new event so_far.run (λ is. absurd (omega arith)) choice happens;
      }
