-- Pools that record with the four recorders, from their start on.
--   four_is_order, four_is_recording   the laws of the four recorders
--   four_suited       each outline suits them
--   four_kept         a pool that events led to keeps what pools keep
--   events_one_on     it has the stepper and the outline of its start
--   sound_events      where no place is left, its report is sound
use Rattle.std.proofs.Common.{◌≡◌, List, [], ◌∷◌, ap, ◌∙◌, subst}
use Rattle.domain_core.specs.declared.event.Event.{Event}
use Rattle.domain_core.specs.Orders.{Order, IsOrder}
use Rattle.domain_core.specs.Outlines.{Outlined, IsOutline, shape_of}
use Rattle.domain_core.specs.Machines.{Machine, IsMachine, IsAlong}
use Rattle.domain_core.specs.Recordings.{IsRecording, IsSuited}
use Rattle.recorder_rules.specs.TotalRules.{span_order, total_recording}
use Rattle.recorder_rules.specs.TotalLaws.{span_is_order, total_is_recording}
use Rattle.recorder_rules.specs.LoopRules.{loop_recording, count_recording}
use Rattle.recorder_rules.specs.LoopRuleLaws.{loop_is_recording, count_is_recording}
use Rattle.recorder_rules.specs.PairRules.{pair_order, pair_recording}
use Rattle.recorder_rules.specs.PairLaws.{pair_is_order, pair_is_recording}
use Rattle.flow_recorders.specs.BothRules.{both_order, both_recording}
use Rattle.flow_recorders.specs.BothLaws.{both_is_order, both_is_recording}
use Rattle.worklist_rules.specs.Pools.{Pooled}
use Rattle.worklist_rules.specs.Events.{opened, HappenAll}
use Rattle.worklist_rules.specs.Kept.{IsKept}
use Rattle.worklist_rules.specs.EventLaws.{start_kept, events_kept, event_one_on}
use Rattle.report_soundness.specs.ReportTold.{FourRecorders, FourBooks, four_order, four_recording, found_of, told_report}
use Rattle.report_soundness.specs.Runs.{IsSound}
use Rattle.report_soundness.specs.SoundLaws.{sound_report}

-- ---- the laws of the four recorders

pub four_is_order : IsOrder FourRecorders four_order
four_is_order =
    both_is_order (both_order span_order span_order) (both_order span_order pair_order)
    (both_is_order span_order span_order span_is_order span_is_order) (both_is_order span_order pair_order span_is_order pair_is_order)

pub four_is_recording : IsRecording FourRecorders FourBooks four_order four_recording
four_is_recording =
    both_is_recording (both_order span_order span_order) (both_order span_order pair_order) (both_recording total_recording loop_recording) (both_recording count_recording pair_recording)
    (both_is_recording span_order span_order total_recording loop_recording total_is_recording loop_is_recording)
    (both_is_recording span_order pair_order count_recording pair_recording count_is_recording pair_is_recording)

-- each outline suits them
pub four_suited : (o : Outlined) → IsOutline (shape_of o) → IsSuited four_recording o
four_suited o ok = record { suits = ((tt, tt), (tt, tt)); kept = ok }

-- ---- pools from their start on

-- the pool explores the same
pub record IsOfStart {S T R B : Type 0} (old new : Pooled S T R B) : Type 0 where
  pub stepper : new.stepper ≡ old.stepper
  pub outline : new.outline ≡ old.outline

module _ {S T C : Type 0} (machine : S → Machine T C) (states : Order T) where
  pub events_one_on : (events : List Event) (old new : Pooled S T FourRecorders FourBooks)
      → HappenAll machine states four_order four_recording old events new → IsOfStart old new
  events_one_on [] old new is = record { stepper = ap (λ w. w.stepper) is; outline = ap (λ w. w.outline) is }
  events_one_on (event ∷ events) old new (mid, happens, rest) =
      let first = event_one_on machine states four_order four_recording old mid event happens in
      let later = events_one_on events mid new rest in
      record { stepper = later.stepper ∙ first.stepper; outline = later.outline ∙ first.outline }

  pub four_kept : (events : List Event) (stepper : S) (o : Outlined) (w : Pooled S T FourRecorders FourBooks)
      → IsOrder T states → ((s : S) → (machine s).kept → IsMachine T C states (machine s)) → (machine stepper).kept
      → IsOutline (shape_of o) → IsAlong T C (shape_of o) (machine stepper) → HappenAll machine states four_order four_recording (opened machine four_recording stepper o) events w → IsKept machine four_recording w
  four_kept events stepper o w states_laws machine_laws stepper_kept ok along happen =
      events_kept machine states four_order four_recording events (opened machine four_recording stepper o) w states_laws machine_laws four_is_order four_is_recording
      (start_kept machine states four_order four_recording stepper o (machine_laws stepper stepper_kept) four_is_recording stepper_kept (four_suited o ok) along)
      happen

  -- where no place is left, its report is sound
  pub sound_events : (events : List Event) (stepper : S) (o : Outlined) (w : Pooled S T FourRecorders FourBooks)
      → IsOrder T states → ((s : S) → (machine s).kept → IsMachine T C states (machine s)) → (machine stepper).kept
      → IsOutline (shape_of o) → IsAlong T C (shape_of o) (machine stepper) → HappenAll machine states four_order four_recording (opened machine four_recording stepper o) events w → w.spots ≡ []
      → IsSound (machine stepper).system o (told_report o (found_of w))
  sound_events events stepper o w states_laws machine_laws stepper_kept ok along happen none =
      let kept = four_kept events stepper o w states_laws machine_laws stepper_kept ok along happen in
      let same = events_one_on events (opened machine four_recording stepper o) w happen in
      subst (λ (p : Outlined). IsSound (machine stepper).system p (told_report p (found_of w))) same.outline
      (subst (λ (s : S). IsSound (machine s).system w.outline (told_report w.outline (found_of w))) same.stepper (sound_report machine w kept.suited.kept kept.handled none))
