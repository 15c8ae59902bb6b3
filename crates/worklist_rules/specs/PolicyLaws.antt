-- A pool has one policy run.
--   choice_unique    a policy gives one next event
--   happens_unique   an event has one outcome
--   run_unique       so a pool has one policy run
--   run_happens      its events happen one after another
--   run_within       its steps are at most the turns
--   closed_longer    where it leaves no place, each number of turns that is not below its steps gives the same run
--   IsPolicyStart    the policy's first events lead from the old pool to the new one
--   start_more, start_done   one event more, and the end
use Rattle.std.specs.Prelude.{remove}
use Rattle.std.proofs.Common.{◌≡◌, ◌≢◌, ℕ, ◌<◌, ◌≤◌, ◌+◌, List, [], ◌∷◌, ◌++◌, ◌⊎◌, inl, inr, Some, slice_get, slice_set, Contains, refl, sym, subst, ap, ◌∙◌, arith}
use Rattle.std.proofs.lemmas.Option.{same_Some}
use Rattle.lists.specs.MemberLaws.{no_member}
use Rattle.worklist.specs.Least.{IsNextSame}
use Rattle.worklist.specs.LeastLaws.{least_unique, next_unique}
use Rattle.domain_core.specs.declared.event.Event.{Event}
use Rattle.domain_core.specs.declared.event.Event.TheVariants.{Step, Merge}
use Rattle.domain_core.specs.Orders.{Order}
use Rattle.domain_core.specs.Outlines.{Shape, shape_of}
use Rattle.domain_core.specs.Machines.{Machine}
use Rattle.domain_core.specs.Recordings.{Recording}
use Rattle.worklist_rules.specs.declared.policy.Policy.{Policy}
use Rattle.worklist_rules.specs.Pools.{Spot, Pooled, positions_of}
use Rattle.worklist_rules.specs.Events.{Happens, HappenAll, IsOneOn, stepped_at, met, merged_at}
use Rattle.worklist_rules.specs.EventLaws.{event_one_on}
use Rattle.worklist_rules.specs.PlaceLaws.{stays_written}
use Rattle.worklist_rules.specs.Policies.{IsMergePoint, IsChoice, merges, steps, IsPolicyRun}

same_spot : {X : Type 0} (xs : List X) (i j : ℕ) (a b : X) → i ≡ j → slice_get xs i ≡ Some a → slice_get xs j ≡ Some b
    → a ≡ b
same_spot xs i j a b e first second = same_Some a b (sym first ∙ ap (slice_get xs) e ∙ second)

-- a policy gives one next event
pub choice_unique : {T R : Type 0} (o : Shape) (policy : Policy) (spots : List (Spot T R)) (e f : Event)
    → IsChoice o policy spots e → IsChoice o policy spots f → e ≡ f
choice_unique {T} {R} o policy spots e f (merges {i = i} {j = j} a least_a at_a point_a next_a) (merges {i = k} {j = l} b least_b at_b point_b next_b) =
    let same : i ≡ k = least_unique (positions_of spots) i k least_a least_b in
    let next : j ≡ l = next_unique (positions_of spots) k j l (subst (λ (n : ℕ). IsNextSame (positions_of spots) n j) same next_a) next_b in
    rw (same, next) refl
choice_unique {T} {R} o policy spots e f (merges {i = i} {j = j} a least_a at_a point_a next_a) (steps {i = k} b least_b at_b none_b) =
    let same : i ≡ k = least_unique (positions_of spots) i k least_a least_b in
    let spot : a ≡ b = same_spot spots i k a b same at_a at_b in
    absurd (none_b (subst (λ (q : Spot T R). IsMergePoint o policy q.node) spot point_a) j (subst (λ (n : ℕ). IsNextSame (positions_of spots) n j) same next_a))
choice_unique {T} {R} o policy spots e f (steps {i = k} b least_b at_b none_b) (merges {i = i} {j = j} a least_a at_a point_a next_a) =
    let same : i ≡ k = least_unique (positions_of spots) i k least_a least_b in
    let spot : a ≡ b = same_spot spots i k a b same at_a at_b in
    absurd (none_b (subst (λ (q : Spot T R). IsMergePoint o policy q.node) spot point_a) j (subst (λ (n : ℕ). IsNextSame (positions_of spots) n j) same next_a))
choice_unique {T} {R} o policy spots e f (steps {i = i} a least_a at_a none_a) (steps {i = k} b least_b at_b none_b) =
    ap Step (least_unique (positions_of spots) i k least_a least_b)

-- a choice is of a place
pub choice_of_some : {T R : Type 0} (o : Shape) (policy : Policy) (spots : List (Spot T R)) (e : Event)
    → IsChoice o policy spots e → spots ≡ [] → ⊥
choice_of_some {T} {R} o policy spots e (merges {i = i} {j = j} a least found point next) none = no_place (subst (λ (xs : List (Spot T R)). slice_get xs i ≡ Some a) none found)
  where
    no_place : slice_get [] i ≡ Some a → ⊥
    no_place bad = cc
choice_of_some {T} {R} o policy spots e (steps {i = i} a least found others) none = no_place (subst (λ (xs : List (Spot T R)). slice_get xs i ≡ Some a) none found)
  where
    no_place : slice_get [] i ≡ Some a → ⊥
    no_place bad = cc

module _ {S T C R B : Type 0} (machine : S → Machine T C) (states : Order T) (recorders : Order R) (z : Recording R B) where
  -- an event has one outcome
  pub happens_unique : (old new other : Pooled S T R B) (event : Event)
      → Happens machine states recorders z old event new → Happens machine states recorders z old event other
      → new ≡ other
  happens_unique old new other (Step i) (a, first, is) (b, second, was) =
      is ∙ ap (stepped_at machine z old i) (same_spot old.spots i i a b refl first second) ∙ sym was
  happens_unique old new other (Merge i j) (a, b, low, at_a, at_b, same, is) (c, d, low_c, at_c, at_d, same_c, was) =
      is ∙ ap (λ (q : Spot T R). merged_at states recorders old i j q b) (same_spot old.spots i i a c refl at_a at_c)
      ∙ ap (merged_at states recorders old i j c) (same_spot old.spots j j b d refl at_b at_d) ∙ sym was

  -- an event takes no step back
  event_grows : (old new : Pooled S T R B) (event : Event) → Happens machine states recorders z old event new
      → old.steps ≤ new.steps
  event_grows old new (Step i) (spot, found, is) = let one : new.steps ≡ old.steps + 1 = ap (λ (p : Pooled S T R B). p.steps) is in omega (arith, one)
  event_grows old new (Merge i j) (a, b, before, first, second, same, is) = let none : new.steps ≡ old.steps = ap (λ (p : Pooled S T R B). p.steps) is in omega (arith, none)

  -- only a step leaves no place, since the join of two places is one
  emptied_by_step : (old new : Pooled S T R B) (event : Event) → Happens machine states recorders z old event new
      → new.spots ≡ [] → old.steps < new.steps
  emptied_by_step old new (Step i) (spot, found, is) none = let one : new.steps ≡ old.steps + 1 = ap (λ (p : Pooled S T R B). p.steps) is in omega (arith, one)
  emptied_by_step old new (Merge i j) (a, b, before, first, second, same, is) none =
      let joined : Spot T R = met states recorders a b in
      let there : Contains (remove (slice_set old.spots i joined) j) joined = stays_written old.spots i j joined a before first in
      let gone : remove (slice_set old.spots i joined) j ≡ [] = ap (λ (p : Pooled S T R B). p.spots) (sym is) ∙ none in
      no_member joined (subst (λ (xs : List (Spot T R)). Contains xs joined) gone there)

  module _ (policy : Policy) (turns : ℕ) where
    -- a pool has one policy run
    pub run_unique : (events others : List Event) (old new other : Pooled S T R B)
        → IsPolicyRun machine states recorders z policy turns old events new
        → IsPolicyRun machine states recorders z policy turns old others other → (events ≡ others) × (new ≡ other)
    run_unique [] [] old new other (is, end) (was, ended) = (refl, is ∙ sym was)
    run_unique [] (f ∷ others) old new other (is, end) (more, choice, mid, happens, rest) =
        absurd (elim end [ inl none ↦ choice_of_some (shape_of old.outline) policy old.spots f choice none | inr out ↦ more out ])
    run_unique (e ∷ events) [] old new other (more, choice, mid, happens, rest) (was, ended) =
        absurd (elim ended [ inl none ↦ choice_of_some (shape_of old.outline) policy old.spots e choice none | inr out ↦ more out ])
    run_unique (e ∷ events) (f ∷ others) old new other (more, choice, mid, happens, rest) (more_f, choice_f, mid_f, happens_f, rest_f) =
        let event : e ≡ f = choice_unique (shape_of old.outline) policy old.spots e f choice choice_f in
        let same : mid ≡ mid_f = happens_unique old mid mid_f f (subst (λ (g : Event). Happens machine states recorders z old g mid) event happens) happens_f in
        let r = run_unique events others mid_f new other (subst (λ (p : Pooled S T R B). IsPolicyRun machine states recorders z policy turns p events new) same rest) rest_f in
        (ap (λ (g : Event). g ∷ events) event ∙ ap (λ (gs : List Event). f ∷ gs) r.0, r.1)

    -- its events happen one after another
    pub run_happens : (events : List Event) (old new : Pooled S T R B)
        → IsPolicyRun machine states recorders z policy turns old events new
        → HappenAll machine states recorders z old events new
    run_happens [] old new (is, end) = is
    run_happens (event ∷ events) old new (more, choice, mid, happens, rest) = (mid, happens, run_happens events mid new rest)

    -- its steps are at most the turns
    pub run_within : (events : List Event) (old new : Pooled S T R B) → old.steps ≤ turns
        → IsPolicyRun machine states recorders z policy turns old events new → new.steps ≤ turns
    run_within [] old new low (is, end) = let same : new.steps ≡ old.steps = ap (λ (p : Pooled S T R B). p.steps) is in omega (arith, same, low)
    run_within (event ∷ events) old new low (other, choice, mid, happens, rest) =
        let on : IsOneOn old mid = event_one_on machine states recorders z old mid event happens in
        let one = on.steps in
        let below : old.steps < turns = omega arith in
        run_within events mid new (omega arith) rest

    -- before each event of a run that leaves no place there are fewer steps than in the end
    run_past : (event : Event) (events : List Event) (old new : Pooled S T R B)
        → IsPolicyRun machine states recorders z policy turns old (event ∷ events) new → new.spots ≡ []
        → old.steps < new.steps
    run_past event [] old new (other, choice, mid, happens, (is, end)) none =
        let gone : mid.spots ≡ [] = ap (λ (p : Pooled S T R B). p.spots) (sym is) ∙ none in
        let past : old.steps < mid.steps = emptied_by_step old mid event happens gone in
        let same : new.steps ≡ mid.steps = ap (λ (p : Pooled S T R B). p.steps) is in
        omega (arith, past, same)
    run_past event (next ∷ events) old new (other, choice, mid, happens, rest) none =
        let past : mid.steps < new.steps = run_past next events mid new rest none in
        let grows : old.steps ≤ mid.steps = event_grows old mid event happens in
        omega (arith, past, grows)

    -- where it leaves no place, each number of turns that is not below its steps gives the same run
    pub closed_longer : (longer : ℕ) (events : List Event) (old new : Pooled S T R B) → new.steps ≤ longer
        → IsPolicyRun machine states recorders z policy turns old events new → new.spots ≡ []
        → IsPolicyRun machine states recorders z policy longer old events new
    closed_longer longer [] old new more (is, end) none = (is, inl (ap (λ (p : Pooled S T R B). p.spots) (sym is) ∙ none))
    closed_longer longer (event ∷ events) old new more (other, choice, mid, happens, rest) none =
        let past : old.steps < new.steps = run_past event events old new (other, choice, mid, happens, rest) none in
        ((λ e. omega (arith, e, past, more)), choice, mid, happens, closed_longer longer events mid new more rest none)

    -- the policy's first events lead from the old pool to the new one
    abbrev pub IsPolicyStart : Pooled S T R B → List Event → Pooled S T R B → Type 0
    IsPolicyStart old [] new = new ≡ old
    IsPolicyStart old (event ∷ events) new =
        (old.steps ≢ turns) × IsChoice (shape_of old.outline) policy old.spots event × (mid : Pooled S T R B) × Happens machine states recorders z old event mid × IsPolicyStart mid events new

    pub start_more : (events : List Event) (old w new : Pooled S T R B) (event : Event) → IsPolicyStart old events w
        → w.steps ≢ turns → IsChoice (shape_of w.outline) policy w.spots event
        → Happens machine states recorders z w event new → IsPolicyStart old (events ++ event ∷ []) new
    start_more [] old w new event is more choice happens =
        let P : Pooled S T R B → Type 0 = λ p. (p.steps ≢ turns) × IsChoice (shape_of p.outline) policy p.spots event × (mid : Pooled S T R B) × Happens machine states recorders z p event mid × (new ≡ mid) in
        subst P is (more, choice, new, happens, refl)
    start_more (first ∷ events) old w new event (other, chosen, mid, went, rest) more choice happens =
        (other, chosen, mid, went, start_more events mid w new event rest more choice happens)

    pub start_done : (events : List Event) (old w : Pooled S T R B) → IsPolicyStart old events w
        → (w.spots ≡ []) ⊎ (w.steps ≡ turns) → IsPolicyRun machine states recorders z policy turns old events w
    start_done [] old w is end =
        let P : Pooled S T R B → Type 0 = λ p. (p.spots ≡ []) ⊎ (p.steps ≡ turns) in
        (is, subst P is end)
    start_done (event ∷ events) old w (more, choice, mid, happens, rest) end = (more, choice, mid, happens, start_done events mid w rest end)
