-- Each point of a run is seen.
--   each_seen         why
--   watches_weaker    what follows of what holds of each place is watched too
--   watches_on        and so are events with one more
use Rattle.std.proofs.Common.{◌≡◌, ◌≢◌, ◌<◌, ℕ, false, List, [], ◌∷◌, ◌++◌, length, ◌⊎◌, inl, inr, refl, sym, ap, subst, ◌∙◌, arith, Contains, Some, slice_get, slice_set, ◌==◌}
use Rattle.std.proofs.lemmas.Bool.{ne_eqb}
use Rattle.std.proofs.lemmas.List.{length-map}
use Rattle.std.proofs.lemmas.List.Elements.{Contains-append_left, Contains-append_right}
use Rattle.lists.specs.MemberLaws.{no_member, first_member, contained}
use Rattle.graph_walks.specs.ListLaws.{contains_cases}
use Rattle.domain_core.specs.declared.event.Event.{Event}
use Rattle.domain_core.specs.declared.event.Event.TheVariants.{Step, Merge}
use Rattle.domain_core.specs.Orders.{Order, IsOrder}
use Rattle.domain_core.specs.Outlines.{Outlined, shape_of}
use Rattle.domain_core.specs.Machines.{Machine, IsMachine, IsAlong}
use Rattle.domain_core.specs.Recordings.{Recording, IsRecording, IsSuited}
use Rattle.worklist_rules.specs.Positions.{position_of}
use Rattle.worklist_rules.specs.Pools.{Spot, Pooled}
use Rattle.worklist_rules.specs.Events.{next_spot, book_after, spots_after, spread_spots, book_at_faults, opened, stepped_at, met, merged_at, Happens}
use Rattle.worklist_rules.specs.Kept.{IsKept}
use Rattle.worklist_rules.specs.PlaceLaws.{elsewhere, in_room, beside_set, later_as_before, stays_written}
use Rattle.worklist_rules.specs.MergeLaws.{nodes, alike_at}
use Rattle.worklist_rules.specs.EventLaws.{start_kept, event_kept}
use Rattle.watched_steps.specs.Watched.{WatchesStep, Watches, Reaches, there, onward, IsSeen, EachPointIsSeen}

-- ---- a successor makes a place with its state

pub record IsMadeOf {T R : Type 0} (spots : List (Spot T R)) (k : ℕ) (u : T) : Type 0 where
  pub spot : Spot T R
  pub among : Contains spots spot
  pub node : spot.node ≡ k
  pub state : spot.state ≡ u

spread_has : {T R B : Type 0} (z : Recording R B) (o : Outlined) (position : List ℕ) (r : R) (n : ℕ) (b : B) (next : List (ℕ × T)) (k : ℕ) (u : T)
    → k ≢ length o.nodes → Contains next (k, u) → IsMadeOf (spread_spots z o position r n b next) k u
spread_has z o position r n b [] k u node has = no_member (k, u) has
spread_has {T} {R} z o position r n b (s ∷ next) k u node has =
    elim (contains_cases s next (k, u) has) [
      | inl same ↦
          let at : s.0 ≡ k = ap (λ (p : ℕ × T). p.0) (sym same) in
          let at_node : (s.0 == length o.nodes) ≡ false = ne_eqb s.0 (length o.nodes) (λ e. node (sym at ∙ e)) in
          let spot : Spot T R = next_spot z o position r n b s in
          let made : Contains (spots_after z o position r n b s) spot = rw at_node (first_member spot []) in
          record {
            spot = spot;
            among = Contains-append_left (spots_after z o position r n b s) (spread_spots z o position r n (book_after z o r n b s) next) spot made;
            node = at;
            state = ap (λ (p : ℕ × T). p.1) (sym same);
          }
      | inr later ↦
          let rest = spread_has z o position r n (book_after z o r n b s) next k u node later in
          record {
            spot = rest.spot;
            among = Contains-append_right (spots_after z o position r n b s) (spread_spots z o position r n (book_after z o r n b s) next) rest.spot rest.among;
            node = rest.node;
            state = rest.state;
          }
    ]

module _ {S T C R B : Type 0} (P : ℕ → T → Type 0) (machine : S → Machine T C) (states : Order T) (recorders : Order R) (z : Recording R B)
    (states_laws : IsOrder T states) (machine_laws : (s : S) → (machine s).kept → IsMachine T C states (machine s)) (recorders_laws : IsOrder R recorders) (laws : IsRecording R B recorders z) where
  abbrev Seen : S → ℕ → C → Type 0
  Seen s n c = IsSeen P (machine s) n c

  -- where a place stands and what it covers
  pub record Holds (w : Pooled S T R B) (n : ℕ) (c : C) : Type 0 where
    pub spot : Spot T R
    pub among : Contains w.spots spot
    pub node : spot.node ≡ n
    pub covers : (machine w.stepper).covers spot.state c

  -- the point that a place holds is held by a place after a step of another place
  step_holds : (w : Pooled S T R B) (i : ℕ) (stepped : Spot T R) (n : ℕ) (c : C) → slice_get w.spots i ≡ Some stepped
      → (h : Holds w n c) → (stepped ≡ h.spot) ⊎ Holds (stepped_at machine z w i stepped) n c
  step_holds w i stepped n c found h =
      let faults = (machine w.stepper).faults stepped.node stepped.state in
      let next = (machine w.stepper).next stepped.node stepped.state in
      let b = book_at_faults z w.outline stepped.recorder stepped.node w.book faults in
      elim (elsewhere w.spots (spread_spots z w.outline stepped.position stepped.recorder stepped.node b next) i h.spot stepped found h.among) [
        | inl same ↦ inl same
        | inr stays ↦ inr (record { spot = h.spot; among = stays; node = h.node; covers = h.covers })
      ]

  -- what is next to a point that the stepped place holds is held by a place
  onward_holds : (w : Pooled S T R B) (i : ℕ) (stepped : Spot T R) (k : ℕ) (c d : C) → IsKept machine z w
      → slice_get w.spots i ≡ Some stepped → (machine w.stepper).covers stepped.state c
      → (machine w.stepper).system.goes stepped.node c k d → Holds (stepped_at machine z w i stepped) k d
  onward_holds w i stepped k c d kept found covers goes =
      let placed = kept.placed stepped (contained w.spots i stepped found) in
      let next = (machine_laws w.stepper kept.stepper).next_covers stepped.node k stepped.state c d placed.fits covers goes in
      let inner : k ≢ length w.outline.nodes = λ same. (let low = (kept.along.goes_along stepped.node k c d goes).1 in
      let long : length (shape_of w.outline).own ≡ length w.outline.nodes = length-map w.outline.nodes (λ row. row.scope) in omega (arith, low, long, same)) in
      let faults = (machine w.stepper).faults stepped.node stepped.state in
      let all = (machine w.stepper).next stepped.node stepped.state in
      let b = book_at_faults z w.outline stepped.recorder stepped.node w.book faults in
      let made = spread_has z w.outline stepped.position stepped.recorder stepped.node b all k next.0 inner next.1 in
      record {
        spot = made.spot;
        among = in_room w.spots (spread_spots z w.outline stepped.position stepped.recorder stepped.node b all) i made.spot made.among;
        node = made.node;
        covers = subst (λ (t : T). (machine w.stepper).covers t d) (sym made.state) next.2;
      }

  -- and after a merge
  merge_holds : (w : Pooled S T R B) (i j : ℕ) (a b : Spot T R) (n : ℕ) (c : C) → IsKept machine z w → i < j
      → slice_get w.spots i ≡ Some a → slice_get w.spots j ≡ Some b → a.position ≡ b.position
      → Holds w n c → Holds (merged_at states recorders w i j a b) n c
  merge_holds w i j a b n c kept before first second same h =
      let m = machine w.stepper in
      let own = machine_laws w.stepper kept.stepper in
      let joined : Spot T R = met states recorders a b in
      let alike = (alike_at machine states recorders z w i j a b own laws kept first second same).0 in
      let joined_among : Contains (merged_at states recorders w i j a b).spots joined = stays_written w.spots i j joined a before first in
      elim (beside_set w.spots i h.spot a joined first h.among) [
        | inl is_a ↦ record {
          spot = joined;
          among = joined_among;
          node = ap (λ (s : Spot T R). s.node) is_a ∙ h.node;
          covers = own.above_covers a.state joined.state c (states_laws.left a.state b.state alike) (subst (λ (s : Spot T R). m.covers s.state c) (sym is_a) h.covers);
        }
        | inr stays ↦ elim (elsewhere (slice_set w.spots i joined) [] j h.spot b (later_as_before w.spots i j joined b before second) stays) [
          | inl is_b ↦ record {
            spot = joined;
            among = joined_among;
            node = nodes machine states recorders z w i j a b own laws kept first second same ∙ (ap (λ (s : Spot T R). s.node) is_b ∙ h.node);
            covers = own.above_covers b.state joined.state c (states_laws.right a.state b.state alike) (subst (λ (s : Spot T R). m.covers s.state c) (sym is_b) h.covers);
          }
          | inr still ↦ record { spot = h.spot; among = still; node = h.node; covers = h.covers }
        ]
      ]

  -- the point at which a place is stepped is seen, and each one after it if those next to it are
  step_seen : (old : Pooled S T R B) (i : ℕ) (stepped : Spot T R) (n k : ℕ) (c d : C) → IsKept machine z old
      → slice_get old.spots i ≡ Some stepped → P stepped.node stepped.state → stepped.node ≡ n
      → (machine old.stepper).covers stepped.state c
      → ((q : ℕ) (f : C) → Holds (stepped_at machine z old i stepped) q f → Reaches (machine old.stepper).system q f k d → Seen old.stepper k d)
      → Reaches (machine old.stepper).system n c k d → Seen old.stepper k d
  step_seen old i stepped n k c d kept found seen node covers next (there m e) =
      let placed = kept.placed stepped (contained old.spots i stepped found) in
      record {
        state = stepped.state;
        seen = subst (λ (q : ℕ). P q stepped.state) node seen;
        fits = subst (λ (q : ℕ). (machine old.stepper).fits q stepped.state) node placed.fits;
        covers = covers;
      }
  step_seen old i stepped n k c d kept found seen node covers next (onward m q l e f g goes more) =
      next q f (onward_holds old i stepped q c f kept found covers (subst (λ (x : ℕ). (machine old.stepper).system.goes x c q f) (sym node) goes)) more

  -- from a point that a place holds each point that a run comes to is seen
  seen_from : (events : List Event) (old new : Pooled S T R B) (n k : ℕ) (c d : C) → IsKept machine z old
      → Watches P machine states recorders z old events new → new.spots ≡ []
      → Holds old n c → Reaches (machine old.stepper).system n c k d → Seen old.stepper k d
  seen_from [] old new n k c d kept watched empty h reaches =
      no_member h.spot (subst (λ (spots : List (Spot T R)). Contains spots h.spot) (ap (λ (w : Pooled S T R B). w.spots) (sym watched) ∙ empty) h.among)
  seen_from (Merge i j ∷ events) old new n k c d kept (mid, (a, b, before, first, second, same, is), watch, rest) empty h reaches =
      let later = merged_at states recorders old i j a b in
      seen_from events later new n k c d
      (event_kept machine states recorders z old later (Merge i j) states_laws (machine_laws old.stepper kept.stepper) recorders_laws laws kept (a, b, before, first, second, same, refl))
      (subst (λ (w : Pooled S T R B). Watches P machine states recorders z w events new) is rest) empty
      (merge_holds old i j a b n c kept before first second same h) reaches
  seen_from (Step i ∷ events) old new n k c d kept (mid, (stepped, found, is), watch, rest) empty h reaches =
      let later = stepped_at machine z old i stepped in
      let later_kept = event_kept machine states recorders z old later (Step i) states_laws (machine_laws old.stepper kept.stepper) recorders_laws laws kept (stepped, found, refl) in
      let later_watched : Watches P machine states recorders z later events new = subst (λ (w : Pooled S T R B). Watches P machine states recorders z w events new) is rest in
      elim (step_holds old i stepped n c found h) [
        | inr still ↦ seen_from events later new n k c d later_kept later_watched empty still reaches
        | inl same ↦
            let node : stepped.node ≡ n = ap (λ (s : Spot T R). s.node) same ∙ h.node in
            let covers : (machine old.stepper).covers stepped.state c = subst (λ (s : Spot T R). (machine old.stepper).covers s.state c) (sym same) h.covers in
            step_seen old i stepped n k c d kept found (watch stepped found) node covers
            (λ q f held more. seen_from events later new q k f d later_kept later_watched empty held more) reaches
      ]

  -- so each point of each run is seen
  pub each_seen : (stepper : S) (o : Outlined) (events : List Event) (w : Pooled S T R B) → (machine stepper).kept
      → IsSuited z o → IsAlong T C (shape_of o) (machine stepper)
      → Watches P machine states recorders z (opened machine z stepper o) events w → w.spots ≡ [] → EachPointIsSeen P (machine stepper)
  each_seen stepper o events w kept suited along watched empty c d n starts reaches =
      let own = machine_laws stepper kept in
      let first = opened machine z stepper o in
      let spot : Spot T R = record { node = 0; position = position_of (shape_of o) (0 ∷ []); state = (machine stepper).first; recorder = z.first o } in
      seen_from events first w 0 n c d
      (start_kept machine states recorders z stepper o own laws kept suited along) watched empty
      (record { spot = spot; among = first_member spot []; node = refl; covers = own.first_covers c starts }) reaches

-- ---- what is watched step by step

module _ {S T C R B : Type 0} (machine : S → Machine T C) (states : Order T) (recorders : Order R) (z : Recording R B) where
  -- what holds of each place that is stepped, and what follows of it
  pub watches_weaker : (P Q : ℕ → T → Type 0) → ((n : ℕ) (t : T) → P n t → Q n t) → (events : List Event)
      (old new : Pooled S T R B) → Watches P machine states recorders z old events new
      → Watches Q machine states recorders z old events new
  watches_weaker P Q weaker [] old new watched = watched
  watches_weaker P Q weaker (Step i ∷ events) old new (mid, happens, watch, rest) =
      (mid, happens, λ spot found. weaker spot.node spot.state (watch spot found), watches_weaker P Q weaker events mid new rest)
  watches_weaker P Q weaker (Merge i j ∷ events) old new (mid, happens, watch, rest) =
      (mid, happens, tt, watches_weaker P Q weaker events mid new rest)

  -- and with one event more
  pub watches_on : (P : ℕ → T → Type 0) (events : List Event) (event : Event) (old mid new : Pooled S T R B)
      → Watches P machine states recorders z old events mid → Happens machine states recorders z mid event new
      → WatchesStep P mid event → Watches P machine states recorders z old (events ++ event ∷ []) new
  watches_on P [] event old mid new watched happens watch = (
    new,
    subst (λ (w : Pooled S T R B). Happens machine states recorders z w event new) watched happens,
    subst (λ (w : Pooled S T R B). WatchesStep P w event) watched watch,
    refl,
  )
  watches_on P (first ∷ events) event old mid new (next, happened, seen, rest) happens watch =
      (next, happened, seen, watches_on P events event next mid new rest happens watch)
