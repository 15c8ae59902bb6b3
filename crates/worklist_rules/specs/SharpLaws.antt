-- Events keep a sharp pool sharp.
--   sharp_start   a pool at its start is sharp, where runs start with one value
--   sharp_event, sharp_events   an event keeps it so, and so do events one after another
use Rattle.std.proofs.Common.{◌≡◌, ◌≢◌, ℕ, zero, suc, ◌<◌, List, [], ◌∷◌, ◌++◌, ◌⊎◌, inl, inr, length, take, drop, Option, None, Some, slice_get, slice_set, get_or, replicate, Bool, true, false, ◌==◌, Contains, refl, sym, subst, ap, ◌∙◌, arith}
use Rattle.std.proofs.lemmas.Bool.{eq-eqb, ne_eqb}
use Rattle.std.proofs.lemmas.Option.{same_Some}
use Rattle.std.proofs.lemmas.List.{length-map}
use Rattle.lists.specs.MemberLaws.{first_member, further_member, contained}
use Rattle.alf_ops.specs.declared.history.RunFault.{RunFault}
use Rattle.alf_ops.specs.declared.history.RunFault.TheVariants.{Divide, Uninit, Mixed, Bounds, Dead, Kind, Pointers}
use Rattle.domain_core.specs.declared.event.Event.{Event}
use Rattle.domain_core.specs.declared.event.Event.TheVariants.{Step, Merge}
use Rattle.domain_core.specs.declared.fault_set.FaultSet.{FaultSet}
use Rattle.domain_core.specs.FaultSets.{no_faults, with_fault, either}
use Rattle.domain_core.specs.Orders.{Order, IsOrder}
use Rattle.domain_core.specs.Outlines.{Outlined, shape_of}
use Rattle.domain_core.specs.Traces.{IsTrace}
use Rattle.domain_core.specs.Machines.{Machine, IsMachine}
use Rattle.domain_core.specs.Recordings.{Recording, IsRecording, IsSuited, IsOf}
use Rattle.worklist_rules.specs.Positions.{position_of, moved_position}
use Rattle.worklist_rules.specs.PositionLaws.{next_position}
use Rattle.worklist_rules.specs.Pools.{Spot, Pooled, alarm_at, with_alarm, may_fault}
use Rattle.worklist_rules.specs.Events.{opened, Happens, HappenAll, stepped_at, spread_spots, spread_book, book_at_faults, next_spot}
use Rattle.domain_core.specs.SystemRuns.{IsRun, trace_to, with_node}
use Rattle.worklist_rules.specs.Runs.{AllStepped}
use Rattle.worklist_rules.specs.Kept.{IsPlaced, IsKept}
use Rattle.worklist_rules.specs.PlaceLaws.{still_set, now_set}
use Rattle.worklist_rules.specs.EventLaws.{event_kept}
use Rattle.worklist_rules.specs.Sharp.{HasStepped, IsSharpAt, IsSharpOver, IsSharp}

-- ---- what is told

either_new : (kind : RunFault) → either no_faults (with_fault no_faults kind) ≡ with_fault no_faults kind
either_new Divide = refl
either_new Uninit = refl
either_new Mixed = refl
either_new Bounds = refl
either_new Dead = refl
either_new Kind = refl
either_new Pointers = refl

new_may_fault : (kind : RunFault) → may_fault (with_fault no_faults kind) ≡ true
new_may_fault Divide = refl
new_may_fault Uninit = refl
new_may_fault Mixed = refl
new_may_fault Bounds = refl
new_may_fault Dead = refl
new_may_fault Kind = refl
new_may_fault Pointers = refl

written_elsewhere : {X : Type 0} (xs : List X) (n k : ℕ) (v d : X) → k ≢ n
    → get_or (slice_set xs n v) k d ≡ get_or xs k d
written_elsewhere [] zero k v d other = refl
written_elsewhere [] (suc n) k v d other = refl
written_elsewhere (x ∷ xs) zero zero v d other = absurd (other refl)
written_elsewhere (x ∷ xs) zero (suc k) v d other = refl
written_elsewhere (x ∷ xs) (suc n) zero v d other = refl
written_elsewhere (x ∷ xs) (suc n) (suc k) v d other = written_elsewhere xs n k v d (λ e. other (ap suc e))

written_here : {X : Type 0} (xs : List X) (n : ℕ) (v d : X) → n < length xs → get_or (slice_set xs n v) n d ≡ v
written_here [] n v d low = absurd (omega arith)
written_here (x ∷ xs) zero v d low = refl
written_here (x ∷ xs) (suc n) v d low = written_here xs n v d (omega arith)

written_same : {X : Type 0} (xs : List X) (n k : ℕ) (v d : X) → v ≡ d → ((j : ℕ) → get_or xs j d ≡ d)
    → get_or (slice_set xs n v) k d ≡ d
written_same [] zero k v d e quiet = refl
written_same [] (suc n) k v d e quiet = refl
written_same (x ∷ xs) zero zero v d e quiet = e
written_same (x ∷ xs) zero (suc k) v d e quiet = quiet (suc k)
written_same (x ∷ xs) (suc n) zero v d e quiet = quiet zero
written_same (x ∷ xs) (suc n) (suc k) v d e quiet = written_same xs n k v d e (λ j. quiet (suc j))

-- nothing more was told
quiet_after : (alarms : List FaultSet) (n : ℕ) (faults : FaultSet) → faults ≡ no_faults
    → ((j : ℕ) → alarm_at alarms j ≡ no_faults) → (k : ℕ) → alarm_at (with_alarm alarms n faults) k ≡ no_faults
quiet_after alarms n faults none quiet k =
    written_same alarms n k (either (alarm_at alarms n) faults) no_faults (let at_n : alarm_at alarms n ≡ no_faults = quiet n in rw (at_n, none) refl) quiet

-- ---- what was stepped

flag_was : (flags : List Bool) (n k : ℕ) → slice_get (slice_set flags n true) k ≡ Some true
    → (k ≡ n) ⊎ (slice_get flags k ≡ Some true)
flag_was [] zero k is = inr is
flag_was [] (suc n) k is = inr is
flag_was (f ∷ flags) zero zero is = inl refl
flag_was (f ∷ flags) zero (suc k) is = inr is
flag_was (f ∷ flags) (suc n) zero is = inr is
flag_was (f ∷ flags) (suc n) (suc k) is = elim (flag_was flags n k is) [ inl e ↦ inl (ap suc e) | inr was ↦ inr was ]

all_still : (flags : List Bool) (n : ℕ) (nodes : List ℕ) → AllStepped flags nodes
    → AllStepped (slice_set flags n true) nodes
all_still flags n [] all = tt
all_still flags n (k ∷ nodes) (here, rest) = (still_set flags n k true here, all_still flags n nodes rest)

no_flag : (count k : ℕ) → slice_get (replicate count false) k ≡ Some true → ⊥
no_flag zero k is = cc
no_flag (suc count) zero is = let bad : Some false ≡ Some true = is in cc
no_flag (suc count) (suc k) is = no_flag count k is

no_alarm : (count k : ℕ) → alarm_at (replicate count no_faults) k ≡ no_faults
no_alarm zero k = refl
no_alarm (suc count) zero = refl
no_alarm (suc count) (suc k) = no_alarm count k

-- ---- a list of one

only_place : {X : Type 0} (x y : X) (i : ℕ) → slice_get (x ∷ []) i ≡ Some y → (i ≡ 0) × (x ≡ y)
only_place x y zero found = (refl, same_Some x y found)
only_place x y (suc i) found = absurd (let bad : None ≡ Some y = found in cc)

no_place : {X : Type 0} (y : X) (i : ℕ) → slice_get [] i ≡ Some y → ⊥
no_place y i found = cc

module _ {S T C R B : Type 0} (machine : S → Machine T C) (states : Order T) (recorders : Order R) (z : Recording R B) where
  pub sharp_start : (stepper : S) (o : Outlined) (run : ℕ → Option (ℕ × C)) → IsMachine T C states (machine stepper)
      → IsRecording R B recorders z → IsSuited z o → IsRun (machine stepper).system run
      → ((c d : C) → (machine stepper).system.starts c → (machine stepper).system.starts d → d ≡ c) → IsSharp (machine stepper) z (opened machine z stepper o) run
  sharp_start stepper o run machine_laws laws suited is_run alone =
      let (c, here, starts) = is_run.first in
      inl (
        0,
        0,
        c,
        here,
        record {
          spot = record { node = 0; position = position_of (shape_of o) (0 ∷ []); state = (machine stepper).first; recorder = z.first o };
          one = refl;
          node = refl;
          position = refl;
          walk = refl;
          state = machine_laws.first_sharp c starts (λ d other. alone c d starts other);
          recorder = laws.first_sharp o suited;
          quiet = λ k. no_alarm (length o.nodes) k;
          stepped = record { all = tt; only = λ k is. absurd (no_flag (length o.nodes) k is); count = refl };
        },
      )

  module _ (w : Pooled S T R B) (machine_laws : IsMachine T C states (machine w.stepper)) (laws : IsRecording R B recorders z) (kept : IsKept machine z w)
      (past : List ℕ) (n : ℕ) (c : C) (p : IsSharpAt (machine w.stepper) z w past n c) where
    abbrev pub m : Machine T C
    m = machine w.stepper

    abbrev new : Pooled S T R B
    new = stepped_at machine z w 0 p.spot

    pub placed : IsPlaced w.outline m z w.steps p.spot
    placed = kept.placed p.spot (contained w.spots 0 p.spot (ap (λ (xs : List (Spot T R)). slice_get xs 0) p.one))

    mine : IsOf z w.outline p.spot.recorder w.book
    mine = record { suited = kept.suited; recorder = placed.is_of; book = kept.book }

    stepped_now : HasStepped new (n ∷ past)
    stepped_now = record {
      all = (
        subst (λ (k : ℕ). slice_get (slice_set w.stepped p.spot.node true) k ≡ Some true) p.node
            (now_set w.stepped p.spot.node true (let flags = kept.flags in let low = placed.in_range in omega arith)),
        all_still w.stepped p.spot.node past p.stepped.all,
      );
      only = λ k is. elim (flag_was w.stepped p.spot.node k is) [
        | inl e ↦ subst (λ (j : ℕ). Contains (n ∷ past) j) (sym (e ∙ p.node)) (first_member n past)
        | inr was ↦ further_member n past k (p.stepped.only k was)
      ];
      count = (let before = p.stepped.count in omega arith);
    }

    -- a step that tells no fault and has one successor
    book_quiet : m.faults p.spot.node p.spot.state ≡ no_faults
        → book_at_faults z w.outline p.spot.recorder p.spot.node w.book (m.faults p.spot.node p.spot.state) ≡ w.book
    book_quiet none = rw none refl

    goes_book : (k : ℕ) (u : T) → m.next p.spot.node p.spot.state ≡ (k, u) ∷ []
        → m.faults p.spot.node p.spot.state ≡ no_faults → k ≢ length w.outline.nodes
        → new.book ≡ z.gone_book w.outline p.spot.recorder w.book p.spot.node k
    goes_book k u follows none node =
        ap (λ (b : B). spread_book z w.outline p.spot.recorder p.spot.node b (m.next p.spot.node p.spot.state)) (book_quiet none)
        ∙ ap (λ (next : List (ℕ × T)). spread_book z w.outline p.spot.recorder p.spot.node w.book next) follows
        ∙ (let test : (k == length w.outline.nodes) ≡ false = ne_eqb k (length w.outline.nodes) node in rw test refl)

    goes_spots : (k : ℕ) (u : T) → m.next p.spot.node p.spot.state ≡ (k, u) ∷ []
        → m.faults p.spot.node p.spot.state ≡ no_faults → k ≢ length w.outline.nodes
        → new.spots ≡ next_spot z w.outline p.spot.position p.spot.recorder p.spot.node w.book (k, u) ∷ []
    goes_spots k u follows none node =
        ap (λ (xs : List (Spot T R)). take 0 xs ++ (spread_spots z w.outline p.spot.position p.spot.recorder p.spot.node (book_at_faults z w.outline p.spot.recorder p.spot.node w.book (m.faults p.spot.node p.spot.state)) (m.next p.spot.node p.spot.state) ++ drop 1 xs)) p.one
        ∙ ap (λ (b : B). spread_spots z w.outline p.spot.position p.spot.recorder p.spot.node b (m.next p.spot.node p.spot.state) ++ []) (book_quiet none)
        ∙ ap (λ (next : List (ℕ × T)). spread_spots z w.outline p.spot.position p.spot.recorder p.spot.node w.book next ++ []) follows
        ∙ (let test : (k == length w.outline.nodes) ≡ false = ne_eqb k (length w.outline.nodes) node in rw test refl)

    pub sharp_goes : (k : ℕ) (d : C) → m.system.goes n c k d → IsSharpAt m z new (n ∷ past) k d
    sharp_goes k d step =
        let went : m.system.goes p.spot.node c k d = subst (λ (j : ℕ). m.system.goes j c k d) (sym p.node) step in
        let (u, follows, none, sharp_u) = machine_laws.next_sharp p.spot.node k p.spot.state c d placed.fits p.state went in
        let (edge, low) = kept.along.goes_along n k c d step in
        let long : length (shape_of w.outline).own ≡ length w.outline.nodes = length-map w.outline.nodes (λ row. row.scope) in
        let node : k ≢ length w.outline.nodes = λ e. omega arith in
        let walk : IsTrace (shape_of w.outline) (k ∷ n ∷ past) = (edge, low, p.walk) in
        record {
          spot = next_spot z w.outline p.spot.position p.spot.recorder p.spot.node w.book (k, u);
          one = goes_spots k u follows none node;
          node = refl;
          position =
              ap (λ (j : ℕ). moved_position (shape_of w.outline) j p.spot.position k) p.node
              ∙ ap (λ (position : List ℕ). moved_position (shape_of w.outline) n position k) p.position ∙ next_position (shape_of w.outline) kept.suited.kept n k past low;
          walk = walk;
          state = sharp_u;
          recorder =
              subst (λ (b : B). z.sharp w.outline (z.gone w.outline p.spot.recorder w.book p.spot.node k) b (k ∷ n ∷ past)) (sym (goes_book k u follows none node))
              (subst (λ (j : ℕ). z.sharp w.outline (z.gone w.outline p.spot.recorder w.book j k) (z.gone_book w.outline p.spot.recorder w.book j k) (k ∷ n ∷ past)) (sym p.node)
              (laws.gone_sharp w.outline p.spot.recorder w.book n k past mine walk p.recorder));
          quiet = quiet_after w.alarms p.spot.node (m.faults p.spot.node p.spot.state) none p.quiet;
          stepped = stepped_now;
        }

    exactly : new.book ≡ z.finished w.outline p.spot.recorder w.book p.spot.node → z.exact w.outline new.book (n ∷ past)
    exactly is =
        subst (λ (b : B). z.exact w.outline b (n ∷ past)) (sym is)
        (subst (λ (j : ℕ). z.exact w.outline (z.finished w.outline p.spot.recorder w.book j) (n ∷ past)) (sym p.node) (laws.finished_sharp w.outline p.spot.recorder w.book n past mine p.walk p.recorder))

    pub sharp_ends : m.system.ends n c → IsSharpOver m z new past n c
    sharp_ends done =
        let ended : m.system.ends p.spot.node c = subst (λ (j : ℕ). m.system.ends j c) (sym p.node) done in
        let (u, follows, none) = machine_laws.end_sharp p.spot.node p.spot.state c placed.fits p.state ended in
        let at_end : (m.exit == length w.outline.nodes) ≡ true = eq-eqb m.exit (length w.outline.nodes) (kept.along.exit_is ∙ length-map w.outline.nodes (λ row. row.scope)) in
        record {
          none =
              ap (λ (xs : List (Spot T R)). take 0 xs ++ (spread_spots z w.outline p.spot.position p.spot.recorder p.spot.node (book_at_faults z w.outline p.spot.recorder p.spot.node w.book (m.faults p.spot.node p.spot.state)) (m.next p.spot.node p.spot.state) ++ drop 1 xs)) p.one
              ∙ ap (λ (next : List (ℕ × T)). spread_spots z w.outline p.spot.position p.spot.recorder p.spot.node (book_at_faults z w.outline p.spot.recorder p.spot.node w.book (m.faults p.spot.node p.spot.state)) next ++ []) follows
              ∙ rw at_end refl;
          walk = p.walk;
          book = exactly
              (ap (λ (b : B). spread_book z w.outline p.spot.recorder p.spot.node b (m.next p.spot.node p.spot.state)) (book_quiet none)
              ∙ ap (λ (next : List (ℕ × T)). spread_book z w.outline p.spot.recorder p.spot.node w.book next) follows
              ∙ rw at_end refl);
          way = inl (done, quiet_after w.alarms p.spot.node (m.faults p.spot.node p.spot.state) none p.quiet);
          stepped = stepped_now;
        }

    told_at : (kind : RunFault) → m.faults p.spot.node p.spot.state ≡ with_fault no_faults kind
        → alarm_at new.alarms n ≡ with_fault no_faults kind
    told_at kind is =
        subst (λ (j : ℕ). alarm_at (with_alarm w.alarms p.spot.node (m.faults p.spot.node p.spot.state)) j ≡ with_fault no_faults kind) p.node
        (written_here w.alarms p.spot.node (either (alarm_at w.alarms p.spot.node) (m.faults p.spot.node p.spot.state)) no_faults (let told = kept.told in let low = placed.in_range in omega arith)
        ∙ ap (λ (set : FaultSet). either set (m.faults p.spot.node p.spot.state)) (p.quiet p.spot.node) ∙ ap (λ (set : FaultSet). either no_faults set) is ∙ either_new kind)

    pub sharp_fails : (kind : RunFault) → m.system.fails n c kind → IsSharpOver m z new past n c
    sharp_fails kind failed =
        let fault : m.system.fails p.spot.node c kind = subst (λ (j : ℕ). m.system.fails j c kind) (sym p.node) failed in
        let (follows, is) = machine_laws.fault_sharp p.spot.node p.spot.state c kind placed.fits p.state fault in
        record {
          none =
              ap (λ (xs : List (Spot T R)). take 0 xs ++ (spread_spots z w.outline p.spot.position p.spot.recorder p.spot.node (book_at_faults z w.outline p.spot.recorder p.spot.node w.book (m.faults p.spot.node p.spot.state)) (m.next p.spot.node p.spot.state) ++ drop 1 xs)) p.one
              ∙ ap (λ (next : List (ℕ × T)). spread_spots z w.outline p.spot.position p.spot.recorder p.spot.node (book_at_faults z w.outline p.spot.recorder p.spot.node w.book (m.faults p.spot.node p.spot.state)) next ++ []) follows;
          walk = p.walk;
          book = exactly
              (ap (λ (next : List (ℕ × T)). spread_book z w.outline p.spot.recorder p.spot.node (book_at_faults z w.outline p.spot.recorder p.spot.node w.book (m.faults p.spot.node p.spot.state)) next) follows
              ∙ ap (λ (set : FaultSet). book_at_faults z w.outline p.spot.recorder p.spot.node w.book set) is
              ∙ (let some : may_fault (with_fault no_faults kind) ≡ true = new_may_fault kind in rw some refl));
          way = inr (
            kind,
            failed,
            told_at kind is,
            λ k other.
                written_elsewhere w.alarms p.spot.node k (either (alarm_at w.alarms p.spot.node) (m.faults p.spot.node p.spot.state)) no_faults (λ e. other (e ∙ p.node)) ∙ p.quiet k,
          );
          stepped = stepped_now;
        }

  sharp_step : (w : Pooled S T R B) (run : ℕ → Option (ℕ × C)) (k n : ℕ) (c : C)
      → IsMachine T C states (machine w.stepper) → IsRecording R B recorders z → IsKept machine z w
      → IsRun (machine w.stepper).system run
      → run k ≡ Some (n, c) → (p : IsSharpAt (machine w.stepper) z w (trace_to run k) n c) → IsSharp (machine w.stepper) z (stepped_at machine z w 0 p.spot) run
  sharp_step w run k n c machine_laws laws kept is_run here p =
      elim (is_run.on k n c here) [
        | inl (j, d, step, next) ↦
            inl (
              suc k,
              j,
              d,
              next,
              subst (λ (nodes : List ℕ). IsSharpAt (machine w.stepper) z (stepped_at machine z w 0 p.spot) nodes j d)
                  (let e : n ∷ trace_to run k ≡ trace_to run (suc k) = ap (λ (point : Option (ℕ × C)). with_node point (trace_to run k)) (sym here) in e)
                  (sharp_goes w machine_laws laws kept (trace_to run k) n c p j d step),
            )
        | inr (way, over) ↦
            inr (
              k,
              n,
              c,
              here,
              over,
              elim way [
                | inl done ↦ sharp_ends w machine_laws laws kept (trace_to run k) n c p done
                | inr (kind, failed) ↦ sharp_fails w machine_laws laws kept (trace_to run k) n c p kind failed
              ],
            )
      ]

  -- an event keeps a sharp pool sharp
  pub sharp_event : (w new : Pooled S T R B) (run : ℕ → Option (ℕ × C)) (event : Event)
      → IsMachine T C states (machine w.stepper) → IsRecording R B recorders z → IsKept machine z w
      → IsRun (machine w.stepper).system run → IsSharp (machine w.stepper) z w run → Happens machine states recorders z w event new → IsSharp (machine w.stepper) z new run
  sharp_event w new run (Step i) machine_laws laws kept is_run (inl (k, n, c, here, p)) (spot, found, is) =
      let one = only_place p.spot spot i (subst (λ (xs : List (Spot T R)). slice_get xs i ≡ Some spot) p.one found) in
      subst (λ (v : Pooled S T R B). IsSharp (machine w.stepper) z v run)
      (ap (stepped_at machine z w 0) one.1 ∙ ap (λ (j : ℕ). stepped_at machine z w j spot) (sym one.0) ∙ sym is)
      (sharp_step w run k n c machine_laws laws kept is_run here p)
  sharp_event w new run (Step i) machine_laws laws kept is_run (inr (k, n, c, here, over, p)) (spot, found, is) =
      absurd (no_place spot i (subst (λ (xs : List (Spot T R)). slice_get xs i ≡ Some spot) p.none found))
  sharp_event w new run (Merge i j) machine_laws laws kept is_run (inl (k, n, c, here, p)) (a, b, before, first, second, same, is) =
      let one = only_place p.spot b j (subst (λ (xs : List (Spot T R)). slice_get xs j ≡ Some b) p.one second) in
      let last : j ≡ 0 = one.0 in
      absurd (omega arith)
  sharp_event w new run (Merge i j) machine_laws laws kept is_run (inr (k, n, c, here, over, p)) (a, b, before, first, second, same, is) =
      absurd (no_place b j (subst (λ (xs : List (Spot T R)). slice_get xs j ≡ Some b) p.none second))

  stepper_same : (w after : Pooled S T R B) (event : Event) → Happens machine states recorders z w event after
      → after.stepper ≡ w.stepper
  stepper_same w after (Step i) (spot, found, is) = ap (λ (v : Pooled S T R B). v.stepper) is
  stepper_same w after (Merge i j) (a, b, before, first, second, same, is) = ap (λ (v : Pooled S T R B). v.stepper) is

  -- and so do events one after another
  pub sharp_events : (events : List Event) (stepper : S) (w after : Pooled S T R B) (run : ℕ → Option (ℕ × C))
      → w.stepper ≡ stepper → IsOrder T states → ((s : S) → (machine s).kept → IsMachine T C states (machine s))
      → IsOrder R recorders → IsRecording R B recorders z → IsKept machine z w → IsRun (machine stepper).system run → IsSharp (machine stepper) z w run → HappenAll machine states recorders z w events after
      → IsSharp (machine stepper) z after run
  sharp_events [] stepper w after run its states_laws machine_laws recorders_laws laws kept is_run sharp is =
      subst (λ (v : Pooled S T R B). IsSharp (machine stepper) z v run) (sym is) sharp
  sharp_events (event ∷ events) stepper w after run its states_laws machine_laws recorders_laws laws kept is_run sharp (mid, happens, rest) =
      let next = event_kept machine states recorders z w mid event states_laws (machine_laws w.stepper kept.stepper) recorders_laws laws kept happens in
      sharp_events events stepper mid after run (stepper_same w mid event happens ∙ its) states_laws machine_laws recorders_laws laws next is_run
      (subst (λ (s : S). IsSharp (machine s) z mid run) its
      (sharp_event w mid run event (machine_laws w.stepper kept.stepper) laws kept (subst (λ (s : S). IsRun (machine s).system run) (sym its) is_run) (subst (λ (s : S). IsSharp (machine s) z w run) (sym its) sharp) happens))
      rest
