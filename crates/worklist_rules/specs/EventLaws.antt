-- A new pool has what every pool keeps, and events keep it.
--   start_kept    a pool at its start has it
--   event_kept, events_kept   an event keeps it, and so do events one after another
--   event_one_on  an event goes on with the same stepper and outline
--   events_join   events one after another, and then others
use Rattle.std.proofs.Common.{◌≡◌, List, [], ◌∷◌, length, refl, sym, subst, inl, inr, false, arith, slice_index}
use Rattle.std.proofs.lemmas.List.{length-replicate, length-map}
use Rattle.lists.specs.MemberLaws.{no_member, first_member}
use Rattle.graph_walks.specs.ListLaws.{contains_cases}
use Rattle.domain_core.specs.declared.event.Event.{Event}
use Rattle.domain_core.specs.declared.event.Event.TheVariants.{Step, Merge}
use Rattle.domain_core.specs.FaultSets.{no_faults}
use Rattle.domain_core.specs.Orders.{Order, IsOrder}
use Rattle.domain_core.specs.Outlines.{Outlined, IsOutline, shape_of}
use Rattle.domain_core.specs.Executions.{turns_of}
use Rattle.domain_core.specs.Machines.{Machine, IsMachine, IsAlong}
use Rattle.domain_core.specs.Recordings.{Recording, IsRecording, IsSuited}
use Rattle.worklist_rules.specs.Positions.{position_of}
use Rattle.worklist_rules.specs.PositionLaws.{first_low}
use Rattle.worklist_rules.specs.Pools.{Spot, Pooled}
use Rattle.worklist_rules.specs.Events.{opened, Happens, HappenAll, IsOneOn}
use Rattle.worklist_rules.specs.Runs.{waits}
use Rattle.worklist_rules.specs.Kept.{IsPlaced, IsKept}
use Rattle.worklist_rules.specs.StepLaws.{step_kept}
use Rattle.worklist_rules.specs.MergeLaws.{merge_kept}

module _ {S T C R B : Type 0} (machine : S → Machine T C) (states : Order T) (recorders : Order R) (z : Recording R B) where
  pub start_kept : (stepper : S) (o : Outlined) → IsMachine T C states (machine stepper) → IsRecording R B recorders z
      → (machine stepper).kept → IsSuited z o → IsAlong T C (shape_of o) (machine stepper)
      → IsKept machine z (opened machine z stepper o)
  start_kept stepper o machine_laws laws stepper_kept suited along =
      let ok : IsOutline (shape_of o) = suited.kept in
      let spot : Spot T R = record { node = 0; position = position_of (shape_of o) (0 ∷ []); state = (machine stepper).first; recorder = z.first o } in
      let placed : IsPlaced o (machine stepper) z 0 spot =
      record {
        in_range = (let some = ok.some in let long : length (shape_of o).own ≡ length o.nodes = length-map o.nodes (λ row. row.scope) in omega arith);
        fits = machine_laws.first_fits;
        is_of = laws.first_is_of o suited;
        long = (let low = laws.first_length o suited in omega arith);
        position_is = (λ t. slice_index (turns_of (shape_of o) (0 ∷ [])) t, refl);
        low = λ t. let low = first_low (shape_of o) ok t in omega arith;
      } in
      record {
        suited = suited;
        stepper = stepper_kept;
        along = along;
        placed = λ other has. elim (contains_cases spot [] other has) [ inl same ↦ subst (IsPlaced o (machine stepper) z 0) (sym same) placed | inr none ↦ no_member other none ];
        book = laws.first_book_is_of o suited;
        flags = length-replicate (length o.nodes) false;
        told = length-replicate (length o.nodes) no_faults;
        handled = λ c starts. waits spot (first_member spot []) (record {
          node = refl;
          position = refl;
          walk = refl;
          state = machine_laws.first_covers c starts;
          recorder = laws.first_covers o (z.first_book o) suited (laws.first_book_is_of o suited);
        });
      }

  -- an event keeps it
  pub event_kept : (old new : Pooled S T R B) (event : Event) → IsOrder T states
      → IsMachine T C states (machine old.stepper) → IsOrder R recorders → IsRecording R B recorders z
      → IsKept machine z old → Happens machine states recorders z old event new → IsKept machine z new
  event_kept old new (Step i) states_laws machine_laws recorders_laws laws kept (spot, found, is) =
      subst (IsKept machine z) (sym is) (step_kept machine states recorders z old i spot machine_laws laws kept found)
  event_kept old new (Merge i j) states_laws machine_laws recorders_laws laws kept (a, b, before, first, second, same, is) =
      subst (IsKept machine z) (sym is) (merge_kept machine states recorders z old i j a b machine_laws laws kept first second same states_laws recorders_laws before)

  -- it goes on with the same stepper and outline
  pub event_one_on : (old new : Pooled S T R B) (event : Event) → Happens machine states recorders z old event new
      → IsOneOn old new
  event_one_on old new (Step i) (spot, found, is) = subst (IsOneOn old) (sym is) (record { stepper = refl; outline = refl; steps = omega arith })
  event_one_on old new (Merge i j) (a, b, before, first, second, same, is) = subst (IsOneOn old) (sym is) (record { stepper = refl; outline = refl; steps = omega arith })

  -- and so do events one after another
  pub events_kept : (events : List Event) (old new : Pooled S T R B) → IsOrder T states
      → ((s : S) → (machine s).kept → IsMachine T C states (machine s)) → IsOrder R recorders
      → IsRecording R B recorders z
      → IsKept machine z old → HappenAll machine states recorders z old events new → IsKept machine z new
  events_kept [] old new states_laws machine_laws recorders_laws laws kept is = subst (IsKept machine z) (sym is) kept
  events_kept (event ∷ events) old new states_laws machine_laws recorders_laws laws kept (mid, happens, rest) =
      events_kept events mid new states_laws machine_laws recorders_laws laws (event_kept old mid event states_laws (machine_laws old.stepper kept.stepper) recorders_laws laws kept happens) rest
