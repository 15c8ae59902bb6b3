-- Events that are applied one after another.
--   some_at          what stands at a place of a list
--   allowed_happens  an event that is allowed happens
--   events_more      one event more
--   refused_at       an event that does not happen is refused
use Rattle.std.proofs.Common.{◌≡◌, ◌<◌, ◌+◌, ℕ, zero, suc, List, [], ◌∷◌, ◌++◌, take, get_or, length, Some, refl, sym, ◌∙◌, subst, arith}
use Rattle.std.specs.Prelude.{slice_get}
use Rattle.std.proofs.lemmas.List.{take_more, length-map}
use Rattle.std.proofs.lemmas.Option.{slice_get-get_or}
use Rattle.lists.specs.ImageLaws.{mapped_at}
use Rattle.domain_core.specs.declared.event.Event.{Event}
use Rattle.domain_core.specs.declared.event.Event.TheVariants.{Step, Merge}
use Rattle.domain_core.specs.Orders.{Order}
use Rattle.domain_core.specs.Machines.{Machine}
use Rattle.worklist_rules.specs.Pools.{Spot, Pooled, positions_of}
use Rattle.worklist_rules.specs.Events.{Happens, HappenAll, stepped_at, merged_at}
use Rattle.report_soundness.specs.ReportTold.{FourRecorders, FourBooks, four_order, four_recording}
use Rattle.report_objections.specs.Checks.{IsAllowed}
use Rattle.report_checks.specs.Applied.{IsRefusedAt}

pub some_at : {A : Type 0} (xs : List A) (i : ℕ) → i < length xs → (x : A) × (slice_get xs i ≡ Some x)
some_at [] i low = absurd (omega arith)
some_at (x ∷ xs) zero low = (x, refl)
some_at (x ∷ xs) (suc i) low = some_at xs i (omega (arith, low))

module _ {S T C : Type 0} (machine : S → Machine T C) (states : Order T) where
  -- an event that is allowed happens
  pub allowed_happens : (old : Pooled S T FourRecorders FourBooks) (event : Event)
      → IsAllowed (positions_of old.spots) event
      → (new : Pooled S T FourRecorders FourBooks) × Happens machine states four_order four_recording old event new
  allowed_happens old (Step i) low =
      let same = length-map old.spots (λ s. s.position) in
      let spot = some_at old.spots i (omega (arith, low, same)) in
      (stepped_at machine four_recording old i spot.0, (spot.0, spot.1, refl))
  allowed_happens old (Merge i j) (position, before, first, second) =
      let a = mapped_at (λ (s : Spot T FourRecorders). s.position) old.spots i position first in
      let b = mapped_at (λ (s : Spot T FourRecorders). s.position) old.spots j position second in
      (merged_at states four_order old i j a.0 b.0, (a.0, b.0, before, a.1, b.1, a.2 ∙ sym b.2, refl))

  -- one event more
  happen_more : (events : List Event) (old mid new : Pooled S T FourRecorders FourBooks) (event : Event)
      → HappenAll machine states four_order four_recording old events mid
      → Happens machine states four_order four_recording mid event new → HappenAll machine states four_order four_recording old (events ++ event ∷ []) new
  happen_more [] old mid new event is happens = (new, subst (λ (p : Pooled S T FourRecorders FourBooks). Happens machine states four_order four_recording p event new) is happens, refl)
  happen_more (first ∷ events) old mid new event (next, went, rest) happens = (next, went, happen_more events next mid new event rest happens)

  pub events_more : (events : List Event) (k : ℕ) (d : Event) (old mid new : Pooled S T FourRecorders FourBooks)
      → k < length events → HappenAll machine states four_order four_recording old (take k events) mid
      → Happens machine states four_order four_recording mid (get_or events k d) new → HappenAll machine states four_order four_recording old (take (k + 1) events) new
  events_more events k d old mid new low so_far happens =
      subst (λ (es : List Event). HappenAll machine states four_order four_recording old es new) (sym (take_more events k d low)) (happen_more (take k events) old mid new (get_or events k d) so_far happens)

  -- an event that does not happen is refused
  pub refused_at : (events : List Event) (k : ℕ) (d : Event) (old mid new : Pooled S T FourRecorders FourBooks)
      → k < length events → HappenAll machine states four_order four_recording old (take k events) mid
      → new ≡ mid → ((w : Pooled S T FourRecorders FourBooks) → Happens machine states four_order four_recording mid (get_or events k d) w → ⊥) → IsRefusedAt machine states old events k new
  refused_at events k d old mid new low so_far same never =
      subst (λ (p : Pooled S T FourRecorders FourBooks). IsRefusedAt machine states old events k p) (sym same)
      (record {
        event = get_or events k d;
        there = slice_get-get_or events k d low;
        so_far = so_far;
        never = λ allowed. let happens = allowed_happens mid (get_or events k d) allowed in never happens.0 happens.1;
      })
