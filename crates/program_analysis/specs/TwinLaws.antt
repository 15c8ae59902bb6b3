-- Laws of twins.
--   opened_along           so at the start of a pool
--   run_along              and a policy run along the one is one along the other
--   run_same               a policy run keeps the outline
use Rattle.std.specs.Prelude.{replicate, ◌+◌, if◌then◌else◌}
use Rattle.std.proofs.Common.{◌≡◌, ℕ, suc, List, [], ◌∷◌, ◌++◌, length, take, drop, slice_set, ◌==◌, true, false, refl, sym, subst, ap, ◌∙◌}
use Rattle.domain_core.specs.declared.event.Event.{Event}
use Rattle.domain_core.specs.declared.event.Event.TheVariants.{Step, Merge}
use Rattle.domain_core.specs.declared.fault_set.FaultSet.{FaultSet}
use Rattle.domain_core.specs.FaultSets.{no_faults}
use Rattle.domain_core.specs.Orders.{Order}
use Rattle.domain_core.specs.Outlines.{Outlined, Shape, shape_of}
use Rattle.domain_core.specs.Machines.{Machine}
use Rattle.domain_core.specs.Recordings.{Recording}
use Rattle.worklist_rules.specs.declared.policy.Policy.{Policy}
use Rattle.worklist_rules.specs.Positions.{position_of, moved_position}
use Rattle.worklist_rules.specs.Pools.{Spot, Pooled, with_alarm, may_fault}
use Rattle.worklist_rules.specs.Events.{opened, Happens, IsOneOn, next_spot, book_after, spots_after, spread_book, spread_spots, book_at_faults, stepped_at}
use Rattle.worklist_rules.specs.EventLaws.{event_one_on}
use Rattle.worklist_rules.specs.Policies.{IsChoice, IsPolicyRun}
use Rattle.program_analysis.specs.Twins.{AreTwins, along}

-- ---- what one step makes

faults_along : {R B : Type 0} (z : Recording R B) (o other : Outlined) → AreTwins z o other
    → (r : R) (n : ℕ) (b : B) (faults : FaultSet)
    → book_at_faults z o r n b faults ≡ book_at_faults z other r n b faults
faults_along {B = B} z o other twins r n b faults = ap (λ (done : B). if may_fault faults then done else b) (twins.finished r b n)

module _ {T R B : Type 0} (z : Recording R B) (o other : Outlined) (twins : AreTwins z o other) where
  book_after_along : (r : R) (n : ℕ) (b : B) (s : ℕ × T) → book_after z o r n b s ≡ book_after z other r n b s
  book_after_along r n b s =
      ap (λ (count : ℕ). if s.0 == count then z.finished o r b n else z.gone_book o r b n s.0) twins.count
      ∙ ap (λ (done : B). if s.0 == length other.nodes then done else z.gone_book o r b n s.0) (twins.finished r b n)
      ∙ ap (λ (on : B). if s.0 == length other.nodes then z.finished other r b n else on) (twins.gone_book r b n s.0)

  next_along : (position : List ℕ) (r : R) (n : ℕ) (b : B) (s : ℕ × T)
      → next_spot z o position r n b s ≡ next_spot z other position r n b s
  next_along position r n b s =
      let spot : Shape → R → Spot T R = λ shape recorder. record { node = s.0; position = moved_position shape n position s.0; state = s.1; recorder = recorder } in
      ap (λ (shape : Shape). spot shape (z.gone o r b n s.0)) twins.shape ∙ ap (spot (shape_of other)) (twins.gone r b n s.0)

  spots_after_along : (position : List ℕ) (r : R) (n : ℕ) (b : B) (s : ℕ × T)
      → spots_after z o position r n b s ≡ spots_after z other position r n b s
  spots_after_along position r n b s =
      let none : List (Spot T R) = [] in
      ap (λ (count : ℕ). if s.0 == count then none else next_spot z o position r n b s ∷ []) twins.count
      ∙ ap (λ (spot : Spot T R). if s.0 == length other.nodes then none else spot ∷ []) (next_along position r n b s)

  spread_book_along : (r : R) (n : ℕ) (b : B) (next : List (ℕ × T))
      → spread_book z o r n b next ≡ spread_book z other r n b next
  spread_book_along r n b [] = refl
  spread_book_along r n b (s ∷ rest) =
      spread_book_along r n (book_after z o r n b s) rest ∙ ap (λ (book : B). spread_book z other r n book rest) (book_after_along r n b s)

  spread_spots_along : (position : List ℕ) (r : R) (n : ℕ) (b : B) (next : List (ℕ × T))
      → spread_spots z o position r n b next ≡ spread_spots z other position r n b next
  spread_spots_along position r n b [] = refl
  spread_spots_along position r n b (s ∷ rest) =
      ap (λ (spots : List (Spot T R)). spots ++ spread_spots z o position r n (book_after z o r n b s) rest) (spots_after_along position r n b s)
      ∙ ap (λ (spots : List (Spot T R)). spots_after z other position r n b s ++ spots)
      (spread_spots_along position r n (book_after z o r n b s) rest ∙ ap (λ (book : B). spread_spots z other position r n book rest) (book_after_along r n b s))

-- ---- pools

module _ {S T C R B : Type 0} (machine : S → Machine T C) (states : Order T) (recorders : Order R) (z : Recording R B) where
  -- a pool at its start
  pub opened_along : (stepper : S) (o other : Outlined) → AreTwins z o other
      → along (opened machine z stepper o) other ≡ opened machine z stepper other
  opened_along stepper o other twins =
      let pool : Shape → R → B → ℕ → Pooled S T R B = λ shape recorder book count. record {
        stepper = stepper;
        outline = other;
        spots = record { node = 0; position = position_of shape (0 ∷ []); state = (machine stepper).first; recorder = recorder } ∷ [];
        book = book;
        alarms = replicate count no_faults;
        stepped = replicate count false;
        steps = 0;
      } in
      ap (λ (shape : Shape). pool shape (z.first o) (z.first_book o) (length o.nodes)) twins.shape
      ∙ ap (λ (recorder : R). pool (shape_of other) recorder (z.first_book o) (length o.nodes)) twins.first
      ∙ ap (λ (book : B). pool (shape_of other) (z.first other) book (length o.nodes)) twins.first_book
      ∙ ap (pool (shape_of other) (z.first other) (z.first_book other)) twins.count

  -- a pool after a step
  stepped_along : (w : Pooled S T R B) (other : Outlined) (i : ℕ) (spot : Spot T R) → AreTwins z w.outline other
      → along (stepped_at machine z w i spot) other ≡ stepped_at machine z (along w other) i spot
  stepped_along w other i spot twins =
      let faults : FaultSet = (machine w.stepper).faults spot.node spot.state in
      let next : List (ℕ × T) = (machine w.stepper).next spot.node spot.state in
      let pool : List (Spot T R) → B → Pooled S T R B = λ spots book. record {
        stepper = w.stepper;
        outline = other;
        spots = take i w.spots ++ (spots ++ drop (suc i) w.spots);
        book = book;
        alarms = with_alarm w.alarms spot.node faults;
        stepped = slice_set w.stepped spot.node true;
        steps = w.steps + 1;
      } in
      let first : B = book_at_faults z w.outline spot.recorder spot.node w.book faults in
      let second : B = book_at_faults z other spot.recorder spot.node w.book faults in
      let same : first ≡ second = faults_along z w.outline other twins spot.recorder spot.node w.book faults in
      ap (λ (b : B). pool (spread_spots z w.outline spot.position spot.recorder spot.node b next) (spread_book z w.outline spot.recorder spot.node b next)) same
      ∙ ap (λ (spots : List (Spot T R)). pool spots (spread_book z w.outline spot.recorder spot.node second next)) (spread_spots_along z w.outline other twins spot.position spot.recorder spot.node second next)
      ∙ ap (pool (spread_spots z other spot.position spot.recorder spot.node second next)) (spread_book_along z w.outline other twins spot.recorder spot.node second next)

  pub happens_along : (old new : Pooled S T R B) (other : Outlined) (event : Event) → AreTwins z old.outline other
      → Happens machine states recorders z old event new
      → Happens machine states recorders z (along old other) event (along new other)
  happens_along old new other (Step i) twins (spot, found, is) = (spot, found, ap (λ (w : Pooled S T R B). along w other) is ∙ stepped_along old other i spot twins)
  happens_along old new other (Merge i j) twins (a, b, before, first, second, same, is) = (a, b, before, first, second, same, ap (λ (w : Pooled S T R B). along w other) is)

  -- a policy run along the one is one along the other
  pub run_along : (policy : Policy) (turns : ℕ) (events : List Event) (old new : Pooled S T R B) (other : Outlined)
      → AreTwins z old.outline other
      → IsPolicyRun machine states recorders z policy turns old events new → IsPolicyRun machine states recorders z policy turns (along old other) events (along new other)
  run_along policy turns [] old new other twins (is, end) = (ap (λ (w : Pooled S T R B). along w other) is, end)
  run_along policy turns (event ∷ events) old new other twins (more, choice, mid, happens, rest) =
      let on : IsOneOn old mid = event_one_on machine states recorders z old mid event happens in (
        more,
        subst (λ (shape : Shape). IsChoice shape policy old.spots event) twins.shape choice,
        along mid other,
        happens_along old mid other event twins happens,
        run_along policy turns events mid new other (subst (λ (o : Outlined). AreTwins z o other) (sym on.outline) twins) rest,
      )

  -- a policy run keeps the outline
  pub run_same : (policy : Policy) (turns : ℕ) (events : List Event) (old new : Pooled S T R B)
      → IsPolicyRun machine states recorders z policy turns old events new → new.outline ≡ old.outline
  run_same policy turns [] old new (is, end) = ap (λ (w : Pooled S T R B). w.outline) is
  run_same policy turns (event ∷ events) old new (more, choice, mid, happens, rest) =
      let on : IsOneOn old mid = event_one_on machine states recorders z old mid event happens in
      run_same policy turns events mid new rest ∙ on.outline
