-- A step keeps what every pool keeps.
--   still_told, now_told   what is told at nodes after a step
--   faults_of, faults_sum   the book of a step whose node may fault
--   step_kept    what every pool keeps holds after a step
use Rattle.std.proofs.Common.{◌≡◌, ◌≢◌, ℕ, zero, suc, ◌+◌, ◌<◌, ◌≤◌, List, [], ◌∷◌, length, inl, inr, refl, sym, subst, ap, ◌∙◌, Bool, true, ◌||◌, arith, Contains, Some, slice_get, slice_set, get_or, length-set}
use Rattle.std.proofs.lemmas.List.{length-map}
use Rattle.std.proofs.lemmas.Bool.{cases_Bool}
use Rattle.lists.specs.MemberLaws.{contained}
use Rattle.alf_ops.specs.declared.history.RunFault.{RunFault}
use Rattle.domain_core.specs.declared.fault_set.FaultSet.{FaultSet}
use Rattle.domain_core.specs.FaultSets.{has_fault, no_faults, either}
use Rattle.domain_core.specs.FaultLaws.{is_united}
use Rattle.domain_core.specs.Orders.{Order}
use Rattle.domain_core.specs.Outlines.{Outlined, IsOutline, shape_of, scopes_around}
use Rattle.domain_core.specs.Traces.{IsTrace}
use Rattle.domain_core.specs.Machines.{Machine, IsMachine}
use Rattle.domain_core.specs.Recordings.{Recording, IsRecording, IsOf}
use Rattle.worklist_rules.specs.Positions.{position_by, turn_in, entered, moved_position}
use Rattle.worklist_rules.specs.PositionLaws.{next_position, turns_rise}
use Rattle.worklist_rules.specs.Pools.{Spot, Pooled, alarm_at, with_alarm, may_fault}
use Rattle.worklist_rules.specs.FaultTestLaws.{or_right, some_fault}
use Rattle.worklist_rules.specs.Events.{book_at_faults, spread_spots, stepped_at}
use Rattle.worklist_rules.specs.Runs.{IsHandled, waits, passed, Stands}
use Rattle.worklist_rules.specs.Kept.{IsPlaced, IsKept}
use Rattle.worklist_rules.specs.PlaceLaws.{elsewhere, in_room, from_room, still_set, now_set}
use Rattle.worklist_rules.specs.Successors.{AreAlong, IsFrom}
use Rattle.worklist_rules.specs.SuccessorLaws.{spread_of, spread_ends, spread_finds, spread_from}

-- ---- faults

or_left : (a b : Bool) → a ≡ true → a || b ≡ true
or_left a b e = rw e refl

-- what was told at a node stays told
told_after : (sets : List FaultSet) (i j : ℕ) (v : FaultSet) (fault : RunFault)
    → (has_fault (get_or sets i no_faults) fault ≡ true → has_fault v fault ≡ true)
    → has_fault (get_or sets j no_faults) fault ≡ true → has_fault (get_or (slice_set sets i v) j no_faults) fault ≡ true
told_after [] zero j v fault stays has = has
told_after [] (suc i) j v fault stays has = has
told_after (set ∷ sets) zero zero v fault stays has = stays has
told_after (set ∷ sets) zero (suc j) v fault stays has = has
told_after (set ∷ sets) (suc i) zero v fault stays has = has
told_after (set ∷ sets) (suc i) (suc j) v fault stays has = told_after sets i j v fault stays has

pub still_told : (alarms : List FaultSet) (n m : ℕ) (faults : FaultSet) (kind : RunFault)
    → has_fault (alarm_at alarms m) kind ≡ true → has_fault (alarm_at (with_alarm alarms n faults) m) kind ≡ true
still_told alarms n m faults kind has =
    told_after alarms n m (either (alarm_at alarms n) faults) kind (λ was. is_united (alarm_at alarms n) faults kind ∙ or_left (has_fault (alarm_at alarms n) kind) (has_fault faults kind) was) has

-- and what a step tells there is
set_here : (sets : List FaultSet) (n : ℕ) (v : FaultSet) → n < length sets → get_or (slice_set sets n v) n no_faults ≡ v
set_here [] n v low = absurd (omega arith)
set_here (set ∷ sets) zero v low = refl
set_here (set ∷ sets) (suc n) v low = set_here sets n v (omega arith)

pub now_told : (alarms : List FaultSet) (n : ℕ) (faults : FaultSet) (kind : RunFault) → n < length alarms
    → has_fault faults kind ≡ true → has_fault (alarm_at (with_alarm alarms n faults) n) kind ≡ true
now_told alarms n faults kind low has =
    ap (λ (set : FaultSet). has_fault set kind) (set_here alarms n (either (alarm_at alarms n) faults) low)
    ∙ is_united (alarm_at alarms n) faults kind ∙ or_right (has_fault (alarm_at alarms n) kind) (has_fault faults kind) has

-- ---- the book where a node may fault

module _ {R B : Type 0} (order : Order R) (z : Recording R B) (laws : IsRecording R B order z) (o : Outlined) (r : R) (n : ℕ) (b : B) (mine : IsOf z o r b) (in_range : n < length o.nodes) where
  pub faults_of : (faults : FaultSet)
      → z.book_is_of o (book_at_faults z o r n b faults) × z.grows b (book_at_faults z o r n b faults)
  faults_of faults =
      elim (cases_Bool (may_fault faults)) [
        | inl some ↦ rw some (laws.finished_is_of o r b n mine in_range, laws.finished_grows o r b n mine in_range)
        | inr none ↦ rw none (mine.book, laws.grows_itself b)
      ]

  -- a fault leaves the trace collected
  pub faults_sum : (faults : FaultSet) (kind : RunFault) (past : List ℕ) → IsTrace (shape_of o) (n ∷ past)
      → z.covers o r b (n ∷ past) → has_fault faults kind ≡ true
      → z.sums_up o (book_at_faults z o r n b faults) (n ∷ past)
  faults_sum faults kind past walk covered has = rw (some_fault faults kind has) (laws.finished_covers o r b n past mine walk covered)

-- ---- the step

module _ {S T C R B : Type 0} (machine : S → Machine T C) (states : Order T) (recorders : Order R) (z : Recording R B) (w : Pooled S T R B) (i : ℕ) (spot : Spot T R)
    (machine_laws : IsMachine T C states (machine w.stepper)) (laws : IsRecording R B recorders z) (kept : IsKept machine z w) (found : slice_get w.spots i ≡ Some spot) where
  abbrev m : Machine T C
  m = machine w.stepper

  abbrev o : Outlined
  o = w.outline

  abbrev new : Pooled S T R B
  new = stepped_at machine z w i spot

  abbrev next : List (ℕ × T)
  next = m.next spot.node spot.state

  abbrev faults : FaultSet
  faults = m.faults spot.node spot.state

  abbrev mid : B
  mid = book_at_faults z o spot.recorder spot.node w.book faults

  ok : IsOutline (shape_of o)
  ok = kept.suited.kept

  own_long : length (shape_of o).own ≡ length o.nodes
  own_long = length-map o.nodes (λ row. row.scope)

  placed : IsPlaced o m z w.steps spot
  placed = kept.placed spot (contained w.spots i spot found)

  along : AreAlong o spot.node next
  along s has no_end =
      let edge = kept.along.next_along spot.node s.0 spot.state s.1 placed.fits has in
      let within = (ok.edges_within spot.node s.0 edge).1 in
      let long = own_long in
      (edge, omega arith)

  mine : IsOf z o spot.recorder w.book
  mine = record { suited = kept.suited; recorder = placed.is_of; book = kept.book }

  mid_of : z.book_is_of o mid × z.grows w.book mid
  mid_of = faults_of recorders z laws o spot.recorder spot.node w.book mine placed.in_range faults

  new_of : z.book_is_of o new.book × z.grows mid new.book
  new_of = spread_of recorders z o spot.recorder spot.node laws kept.suited placed.is_of placed.in_range next mid mid_of.0 along

  grown : z.grows w.book new.book
  grown = laws.grows_farther w.book mid new.book mid_of.1 new_of.1

  mid_covers : (past : List ℕ) (c : C) → Stands o m z w.book spot past spot.node c
      → z.covers o spot.recorder mid (spot.node ∷ past)
  mid_covers past c stands = laws.covers_grown o spot.recorder w.book mid (spot.node ∷ past) mid_of.1 stands.recorder

  -- a concrete step leads to a new place
  way_on : (past : List ℕ) (c : C) (k : ℕ) (d : C) → Stands o m z w.book spot past spot.node c
      → m.system.goes spot.node c k d → IsHandled m z new (spot.node ∷ past) k d
  way_on past c k d stands step =
      let (edge, low) = kept.along.goes_along spot.node k c d step in
      let (u, has, covered) = machine_laws.next_covers spot.node k spot.state c d placed.fits stands.state step in
      let long = own_long in
      let node : k ≢ length o.nodes = λ e. omega arith in
      let walk : IsTrace (shape_of o) (k ∷ spot.node ∷ past) = (edge, low, stands.walk) in
      let made = spread_finds recorders z o spot.recorder spot.node laws kept.suited placed.is_of placed.in_range next mid spot.position past (k, u) mid_of.0 along walk (mid_covers past c stands) node has in
      waits made.0 (in_room w.spots (spread_spots z o spot.position spot.recorder spot.node mid next) i made.0 made.1) (record {
        node = made.2.node;
        position = made.2.position_is ∙ ap (λ (position : List ℕ). moved_position (shape_of o) spot.node position k) stands.position ∙ next_position (shape_of o) ok spot.node k past low;
        walk = walk;
        state = subst (λ (t : T). m.covers t d) (sym made.2.state) covered;
        recorder = made.2.recorder;
      })

  over_at : (past : List ℕ) (c : C) → Stands o m z w.book spot past spot.node c → IsHandled m z new past spot.node c
  over_at past c stands =
      passed stands.walk
      (let flags = kept.flags in let in_range = placed.in_range in now_set w.stepped spot.node true (omega arith))
      (λ k d step. way_on past c k d stands step)
      (λ done.
      let (u, has) = machine_laws.end_follows spot.node spot.state c placed.fits stands.state done in
      spread_ends recorders z o spot.recorder spot.node laws kept.suited placed.is_of placed.in_range next mid past u mid_of.0 along stands.walk (mid_covers past c stands)
      (subst (λ (e : ℕ). Contains next (e, u)) (kept.along.exit_is ∙ own_long) has))
      (λ kind failed.
      let told = machine_laws.fault_told spot.node spot.state c kind placed.fits stands.state failed in (
        (let long = kept.told in let in_range = placed.in_range in now_told w.alarms spot.node faults kind (omega arith) told),
        laws.sums_up_grown o mid new.book (spot.node ∷ past) new_of.1 (faults_sum recorders z laws o spot.recorder spot.node w.book mine placed.in_range faults kind past stands.walk stands.recorder told),
      ))

  -- the points that the stepped place stands for are over, and each way on has a place
  over : (past : List ℕ) (n : ℕ) (c : C) → Stands o m z w.book spot past n c → IsHandled m z new past n c
  over past n c stands =
      subst (λ (k : ℕ). IsHandled m z new past k c) stands.node
      (over_at past c (subst (λ (k : ℕ). Stands o m z w.book spot past k c) (sym stands.node) stands))

  step_handled : {past : List ℕ} {n : ℕ} {c : C} → IsHandled m z w past n c → IsHandled m z new past n c
  step_handled {past} {n} {c} (waits other among stands) =
      elim (elsewhere w.spots (spread_spots z o spot.position spot.recorder spot.node mid next) i other spot found among) [
        | inl same ↦ over past n c (subst (λ (q : Spot T R). Stands o m z w.book q past n c) (sym same) stands)
        | inr stays ↦ waits other stays (record {
          node = stands.node;
          position = stands.position;
          walk = stands.walk;
          state = stands.state;
          recorder = laws.covers_grown o other.recorder w.book new.book (n ∷ past) grown stands.recorder;
        })
      ]
  step_handled {past} {n} {c} (passed walk stepped goes ends fails) =
      passed walk (still_set w.stepped spot.node n true stepped)
      (λ k d step. step_handled (goes k d step))
      (λ done. laws.sums_up_grown o w.book new.book (n ∷ past) grown (ends done))
      (λ kind failed. (still_told w.alarms spot.node n faults kind (fails kind failed).0, laws.sums_up_grown o w.book new.book (n ∷ past) grown (fails kind failed).1))

  old_placed : (other : Spot T R) → Contains w.spots other → IsPlaced o m z (w.steps + 1) other
  old_placed other among =
      let was = kept.placed other among in
      let long = was.long in
      record {
        in_range = was.in_range;
        fits = was.fits;
        is_of = was.is_of;
        long = omega arith;
        position_is = was.position_is;
        low = λ t. let low = was.low t in omega arith;
      }

  made_placed : (other : Spot T R) → IsFrom z o spot.position spot.node next (z.length_of spot.recorder + 1) other
      → IsPlaced o m z (w.steps + 1) other
  made_placed other from =
      let node : other.node ≡ from.source.0 = from.node in
      let long = from.long in let limit = placed.long in
      let moved : List ℕ = moved_position (shape_of o) spot.node spot.position from.source.0 in
      record {
        in_range = subst (λ (k : ℕ). k < length o.nodes) (sym node) (along from.source from.among from.no_end).1;
        fits =
            subst (λ (t : T). m.fits other.node t) (sym from.state)
            (subst (λ (k : ℕ). m.fits k from.source.1) (sym node)
            (machine_laws.next_fits spot.node from.source.0 spot.state from.source.1 placed.fits from.among (λ e. from.no_end (e ∙ kept.along.exit_is ∙ own_long))));
        is_of = from.is_of;
        long = omega arith;
        position_is = (
          λ t. entered (shape_of o) from.source.0 t (turn_in (scopes_around (shape_of o) spot.node) spot.position t),
          from.position_is ∙ ap (λ (k : ℕ). position_by (shape_of o) (λ t. entered (shape_of o) from.source.0 t (turn_in (scopes_around (shape_of o) spot.node) spot.position t)) k) (sym node),
        );
        low = λ t.
            subst (λ (position : List ℕ). turn_in (scopes_around (shape_of o) other.node) position t ≤ (w.steps + 1) + 1) (sym from.position_is)
            (subst (λ (k : ℕ). turn_in (scopes_around (shape_of o) k) moved t ≤ (w.steps + 1) + 1) (sym node)
            (turns_rise (shape_of o) spot.node from.source.0 (w.steps + 1) spot.position placed.low t));
      }

  placed_after : (other : Spot T R) → Contains new.spots other → IsPlaced o m z (w.steps + 1) other
  placed_after other has =
      elim (from_room w.spots (spread_spots z o spot.position spot.recorder spot.node mid next) i other has) [
        | inl old ↦ old_placed other old
        | inr made ↦
            made_placed other (spread_from recorders z o spot.recorder spot.node laws kept.suited placed.is_of placed.in_range next mid spot.position other mid_of.0 along made)
      ]

  pub step_kept : IsKept machine z new
  step_kept = record {
    suited = kept.suited;
    stepper = kept.stepper;
    along = kept.along;
    placed = placed_after;
    book = new_of.0;
    flags = length-set w.stepped spot.node true ∙ kept.flags;
    told = length-set w.alarms spot.node (either (alarm_at w.alarms spot.node) faults) ∙ kept.told;
    handled = λ c starts. step_handled (kept.handled c starts);
  }
