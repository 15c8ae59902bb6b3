-- Laws of twin runs.
--   run_beside                    a policy run of the one machine is one of the other
--   none_beside   beside no places there are none
use Rattle.std.proofs.Common.{◌≡◌, ◌<◌, ◌+◌, ℕ, suc, true, List, [], ◌∷◌, ◌++◌, inl, inr, if◌then◌else◌, length, take, drop, Some, slice_get, slice_set, ◌==◌, refl, sym, ap, subst, ◌∙◌}
use Rattle.std.specs.List.{AllZip, remove}
use Rattle.lists.specs.TestLaws.{by_test}
use Rattle.worklist.specs.Least.{IsFirstLeast, IsNextSame}
use Rattle.domain_core.specs.declared.event.Event.{Event}
use Rattle.domain_core.specs.declared.event.Event.TheVariants.{Step, Merge}
use Rattle.domain_core.specs.declared.fault_set.FaultSet.{FaultSet}
use Rattle.domain_core.specs.Orders.{Order}
use Rattle.domain_core.specs.Outlines.{Outlined, Shape, shape_of}
use Rattle.domain_core.specs.Machines.{Machine}
use Rattle.domain_core.specs.Recordings.{Recording}
use Rattle.worklist_rules.specs.declared.policy.Policy.{Policy}
use Rattle.worklist_rules.specs.Pools.{Spot, Pooled, positions_of, with_alarm}
use Rattle.worklist_rules.specs.Events.{Happens, IsOneOn, book_after, spots_after, spread_book, spread_spots, book_at_faults, stepped_at, merged_at, met}
use Rattle.worklist_rules.specs.EventLaws.{event_one_on}
use Rattle.worklist_rules.specs.Policies.{IsChoice, merges, steps, IsPolicyRun}
use Rattle.program_analysis.specs.AlongsideLaws.{zip_append, zip_take, zip_drop, zip_set, zip_remove, zip_at}
use Rattle.program_analysis.specs.TwinRuns.{GoesWith, AreTwins, with_state, IsBeside, beside, IsAlso, RunsAlso}

-- beside no places there are none
pub none_beside : {A B : Type 0} (R : A → B → Type 0) (xs : List A) (ys : List B) → AllZip R xs ys → xs ≡ [] → ys ≡ []
none_beside R [] [] h e = refl
none_beside R [] (y ∷ ys) h e = absurd h
none_beside R (x ∷ xs) ys h e = absurd (cc)

-- ---- what one step makes

module _ {T R B : Type 0} (Twin : T → T → Type 0) (z : Recording R B) (o : Outlined) (r : R) (n : ℕ) where
  book_after_same : (b : B) (s s' : ℕ × T) → GoesWith Twin s s' → book_after z o r n b s ≡ book_after z o r n b s'
  book_after_same b s s' (u, twin, is) = ap (λ (k : ℕ). if k == length o.nodes then z.finished o r b n else z.gone_book o r b n k) (ap (λ (p : ℕ × T). p.0) (sym is))

  spread_book_same : (b : B) (next others : List (ℕ × T)) → AllZip (GoesWith Twin) next others
      → spread_book z o r n b next ≡ spread_book z o r n b others
  spread_book_same b [] [] h = refl
  spread_book_same b [] (s' ∷ others) h = absurd h
  spread_book_same b (s ∷ next) [] h = absurd h
  spread_book_same b (s ∷ next) (s' ∷ others) h =
      spread_book_same (book_after z o r n b s) next others h.1 ∙ ap (λ (k : B). spread_book z o r n k others) (book_after_same b s s' h.0)

  spots_after_beside : (position : List ℕ) (b : B) (s s' : ℕ × T) → GoesWith Twin s s'
      → AllZip (IsBeside Twin) (spots_after z o position r n b s) (spots_after z o position r n b s')
  spots_after_beside position b s s' (u, twin, is) =
      subst (λ (p : ℕ × T). AllZip (IsBeside Twin) (spots_after z o position r n b s) (spots_after z o position r n b p)) (sym is)
      (by_test (s.0 == length o.nodes) (λ e. rw e tt) (λ e. rw e ((u, twin, refl), tt)))

  spread_spots_beside : (position : List ℕ) (b : B) (next others : List (ℕ × T)) → AllZip (GoesWith Twin) next others
      → AllZip (IsBeside Twin) (spread_spots z o position r n b next) (spread_spots z o position r n b others)
  spread_spots_beside position b [] [] h = tt
  spread_spots_beside position b [] (s' ∷ others) h = absurd h
  spread_spots_beside position b (s ∷ next) [] h = absurd h
  spread_spots_beside position b (s ∷ next) (s' ∷ others) h =
      zip_append (IsBeside Twin) (spots_after z o position r n b s) (spread_spots z o position r n (book_after z o r n b s) next)
      (spots_after z o position r n b s') (spread_spots z o position r n (book_after z o r n b s') others)
      (spots_after_beside position b s s' h.0)
      (subst (λ (k : B). AllZip (IsBeside Twin) (spread_spots z o position r n (book_after z o r n b s) next) (spread_spots z o position r n k others)) (book_after_same b s s' h.0)
      (spread_spots_beside position (book_after z o r n b s) next others h.1))

-- ---- positions

pub positions_same : {T R : Type 0} (Twin : T → T → Type 0) (xs ys : List (Spot T R)) → AllZip (IsBeside Twin) xs ys
    → positions_of xs ≡ positions_of ys
positions_same Twin [] [] h = refl
positions_same Twin [] (y ∷ ys) h = absurd h
positions_same Twin (x ∷ xs) [] h = absurd h
positions_same {T} {R} Twin (x ∷ xs) (y ∷ ys) h =
    ap (λ (p : List ℕ). p ∷ positions_of xs) (ap (λ (spot : Spot T R). spot.position) (sym h.0.2)) ∙ ap (λ (ps : List (List ℕ)). y.position ∷ ps) (positions_same Twin xs ys h.1)

-- ---- pools

module _ {S T C R B : Type 0} (machine : S → Machine T C) (states : Order T) (recorders : Order R) (z : Recording R B) (Twin : T → T → Type 0) (other : S) where
  step_beside : (old new : Pooled S T R B) (spots : List (Spot T R)) (i : ℕ) (spot : Spot T R)
      → AreTwins (machine old.stepper) (machine other) states Twin → AllZip (IsBeside Twin) old.spots spots
      → slice_get old.spots i ≡ Some spot → new ≡ stepped_at machine z old i spot → IsAlso {S = S} {T = T} {C = C} {R = R} {B = B} machine states recorders z Twin other old new spots (Step i)
  step_beside old new spots i spot twins h at is =
      let found = zip_at (IsBeside Twin) old.spots spots i spot h at in
      let u : T = found.2.0 in
      let twin = found.2.1 in
      let place : Spot T R = with_state spot u in
      let there : slice_get spots i ≡ Some place = found.1 ∙ ap Some found.2.2 in
      let o = old.outline in
      let old_faults : FaultSet = (machine old.stepper).faults spot.node spot.state in
      let new_faults : FaultSet = (machine other).faults spot.node u in
      let faults : old_faults ≡ new_faults = twins.faults spot.node spot.state u twin in
      let next = (machine old.stepper).next spot.node spot.state in
      let others = (machine other).next spot.node u in
      let goes = twins.next spot.node spot.state u twin in
      let b : FaultSet → B = book_at_faults z o spot.recorder spot.node old.book in
      let spread = spread_spots_beside Twin z o spot.recorder spot.node spot.position (b new_faults) next others goes in
      let zipped = zip_append (IsBeside Twin) (take i old.spots) (spread_spots z o spot.position spot.recorder spot.node (b new_faults) next ++ drop (suc i) old.spots)
      (take i spots) (spread_spots z o spot.position spot.recorder spot.node (b new_faults) others ++ drop (suc i) spots)
      (zip_take (IsBeside Twin) i old.spots spots h)
      (zip_append (IsBeside Twin) (spread_spots z o spot.position spot.recorder spot.node (b new_faults) next) (drop (suc i) old.spots)
      (spread_spots z o spot.position spot.recorder spot.node (b new_faults) others) (drop (suc i) spots) spread (zip_drop (IsBeside Twin) (suc i) old.spots spots h)) in
      let made : Pooled S T R B = stepped_at machine z (beside old other spots) i place in
      let pool : B → FaultSet → Pooled S T R B = λ book faults. record {
        stepper = other;
        outline = o;
        spots = made.spots;
        book = book;
        alarms = with_alarm old.alarms spot.node faults;
        stepped = slice_set old.stepped spot.node true;
        steps = old.steps + 1;
      } in
      record {
        others = made.spots;
        beside_new = subst (λ (w : Pooled S T R B). AllZip (IsBeside Twin) w.spots made.spots) (sym is)
            (subst (λ (f : FaultSet). AllZip (IsBeside Twin) (take i old.spots ++ (spread_spots z o spot.position spot.recorder spot.node (b f) next ++ drop (suc i) old.spots)) made.spots) (sym faults) zipped);
        happens = (
          place,
          there,
          ap (λ (w : Pooled S T R B). beside w other made.spots) is
              ∙ ap (λ (f : FaultSet). pool (spread_book z o spot.recorder spot.node (b f) next) f) faults
              ∙ ap (λ (book : B). pool book new_faults) (spread_book_same Twin z o spot.recorder spot.node (b new_faults) next others goes),
        );
      }

  merge_beside : (old new : Pooled S T R B) (spots : List (Spot T R)) (i j : ℕ) (first second : Spot T R)
      → AreTwins (machine old.stepper) (machine other) states Twin
      → AllZip (IsBeside Twin) old.spots spots → i < j → slice_get old.spots i ≡ Some first → slice_get old.spots j ≡ Some second → first.position ≡ second.position
      → new ≡ merged_at states recorders old i j first second → IsAlso {S = S} {T = T} {C = C} {R = R} {B = B} machine states recorders z Twin other old new spots (Merge i j)
  merge_beside old new spots i j first second twins h before at at_second same is =
      let one = zip_at (IsBeside Twin) old.spots spots i first h at in
      let two = zip_at (IsBeside Twin) old.spots spots j second h at_second in
      let a : Spot T R = with_state first one.2.0 in
      let b : Spot T R = with_state second two.2.0 in
      let whole = met states recorders first second in
      let joint = met states recorders a b in
      let set = zip_set (IsBeside Twin) old.spots spots i whole joint h
      (joint.state, twins.joined first.state one.2.0 second.state two.2.0 one.2.1 two.2.1, refl) in
      let others : List (Spot T R) = remove (slice_set spots i joint) j in
      record {
        others = others;
        beside_new = subst (λ (w : Pooled S T R B). AllZip (IsBeside Twin) w.spots others) (sym is) (zip_remove (IsBeside Twin) (slice_set old.spots i whole) (slice_set spots i joint) j set);
        happens = (a, b, before, one.1 ∙ ap Some one.2.2, two.1 ∙ ap Some two.2.2, same, ap (λ (w : Pooled S T R B). beside w other others) is);
      }

  pub event_beside : (old new : Pooled S T R B) (spots : List (Spot T R)) (event : Event)
      → AreTwins (machine old.stepper) (machine other) states Twin → AllZip (IsBeside Twin) old.spots spots
      → Happens machine states recorders z old event new → IsAlso {S = S} {T = T} {C = C} {R = R} {B = B} machine states recorders z Twin other old new spots event
  event_beside old new spots (Step i) twins h (spot, at, is) = step_beside old new spots i spot twins h at is
  event_beside old new spots (Merge i j) twins h (a, b, before, first, second, same, is) = merge_beside old new spots i j a b twins h before first second same is

  choice_beside : (o : Shape) (policy : Policy) (xs ys : List (Spot T R)) (event : Event) → AllZip (IsBeside Twin) xs ys
      → IsChoice o policy xs event → IsChoice o policy ys event
  choice_beside o policy xs ys (Merge i j) h (merges spot least at point next) =
      let found = zip_at (IsBeside Twin) xs ys i spot h at in
      let same = positions_same Twin xs ys h in
      merges (with_state spot found.2.0) (subst (λ (ps : List (List ℕ)). IsFirstLeast ps i) same least) (found.1 ∙ ap Some found.2.2) point
      (subst (λ (ps : List (List ℕ)). IsNextSame ps i j) same next)
  choice_beside o policy xs ys (Step i) h (steps spot least at alone) =
      let found = zip_at (IsBeside Twin) xs ys i spot h at in
      let same = positions_same Twin xs ys h in
      steps (with_state spot found.2.0) (subst (λ (ps : List (List ℕ)). IsFirstLeast ps i) same least) (found.1 ∙ ap Some found.2.2)
      (λ point j next. alone point j (subst (λ (ps : List (List ℕ)). IsNextSame ps i j) (sym same) next))

  -- a policy run of the one machine is one of the other
  pub run_beside : (policy : Policy) (turns : ℕ) (events : List Event) (old new : Pooled S T R B) (spots : List (Spot T R)) → AreTwins (machine old.stepper) (machine other) states Twin
      → AllZip (IsBeside Twin) old.spots spots → IsPolicyRun machine states recorders z policy turns old events new → RunsAlso {S = S} {T = T} {C = C} {R = R} {B = B} machine states recorders z Twin other policy turns old new spots events
  run_beside policy turns [] old new spots twins h (is, end) = record {
    others = spots;
    beside_new = subst (λ (w : Pooled S T R B). AllZip (IsBeside Twin) w.spots spots) (sym is) h;
    run = (ap (λ (w : Pooled S T R B). beside w other spots) is, elim end [ inl none ↦ inl (none_beside (IsBeside Twin) old.spots spots h none) | inr used ↦ inr used ]);
  }
  run_beside policy turns (event ∷ events) old new spots twins h (more, choice, mid, happens, rest) =
      let one = event_beside old mid spots event twins h happens in
      let on : IsOneOn old mid = event_one_on machine states recorders z old mid event happens in
      let after = run_beside policy turns events mid new one.others (subst (λ (s : S). AreTwins (machine s) (machine other) states Twin) (sym on.stepper) twins) one.beside_new rest in
      record {
        others = after.others;
        beside_new = after.beside_new;
        run = (more, choice_beside (shape_of old.outline) policy old.spots spots event h choice, beside mid other one.others, one.happens, after.run);
      }
