-- A merge keeps what every pool keeps.
--   alike_at     two places of one position may be joined
--   merge_kept   what every pool keeps holds after a merge
use Rattle.std.proofs.Common.{◌≡◌, ℕ, ◌<◌, List, [], ◌∷◌, length, ◌⊎◌, inl, inr, sym, subst, ◌∙◌, arith, Contains, Some, slice_get, slice_set}
use Rattle.std.proofs.lemmas.List.{length-map}
use Rattle.lists.specs.MemberLaws.{contained}
use Rattle.domain_core.specs.Orders.{Order, IsOrder}
use Rattle.domain_core.specs.Outlines.{Outlined, IsOutline, scopes_around, shape_of}
use Rattle.domain_core.specs.Machines.{Machine, IsMachine}
use Rattle.domain_core.specs.Recordings.{Recording, IsRecording}
use Rattle.worklist_rules.specs.Positions.{ranks_and_turns}
use Rattle.worklist_rules.specs.PositionLaws.{same_node}
use Rattle.worklist_rules.specs.Pools.{Spot, Pooled}
use Rattle.worklist_rules.specs.Events.{met, merged_at}
use Rattle.worklist_rules.specs.Runs.{IsHandled, waits, passed, Stands}
use Rattle.worklist_rules.specs.Kept.{IsPlaced, IsKept}
use Rattle.worklist_rules.specs.PlaceLaws.{elsewhere, beside_set, from_set, later_as_before, stays_written, from_remove}

-- places of one position stand at one node
pub one_node : {T C R B : Type 0} (o : Outlined) (m : Machine T C) (z : Recording R B) (steps : ℕ) (a b : Spot T R)
    → IsOutline (shape_of o) → IsPlaced o m z steps a → IsPlaced o m z steps b → a.position ≡ b.position
    → a.node ≡ b.node
one_node o m z steps a b ok left right same =
    let long : length (shape_of o).own ≡ length o.nodes = length-map o.nodes (λ row. row.scope) in
    let low_a = left.in_range in let low_b = right.in_range in
    let before_a : List ℕ = ranks_and_turns (shape_of o) left.position_is.0 (scopes_around (shape_of o) a.node) in
    let before_b : List ℕ = ranks_and_turns (shape_of o) right.position_is.0 (scopes_around (shape_of o) b.node) in
    same_node (shape_of o) ok a.node b.node before_a before_b (omega arith) (omega arith) (sym left.position_is.1 ∙ same ∙ right.position_is.1)

module _ {S T C R B : Type 0} (machine : S → Machine T C) (states : Order T) (recorders : Order R) (z : Recording R B) (w : Pooled S T R B) (i j : ℕ) (a b : Spot T R)
    (machine_laws : IsMachine T C states (machine w.stepper)) (laws : IsRecording R B recorders z) (kept : IsKept machine z w)
    (first : slice_get w.spots i ≡ Some a) (second : slice_get w.spots j ≡ Some b) (same : a.position ≡ b.position) where
  abbrev m : Machine T C
  m = machine w.stepper

  left : IsPlaced w.outline m z w.steps a
  left = kept.placed a (contained w.spots i a first)

  right : IsPlaced w.outline m z w.steps b
  right = kept.placed b (contained w.spots j b second)

  pub nodes : a.node ≡ b.node
  nodes = one_node w.outline m z w.steps a b kept.suited.kept left right same

  right_fits : m.fits a.node b.state
  right_fits = subst (λ (n : ℕ). m.fits n b.state) (sym nodes) right.fits

  -- two places of one position may be joined
  pub alike_at : states.alike a.state b.state × recorders.alike a.recorder b.recorder
  alike_at = (machine_laws.fits_alike a.node a.state b.state left.fits right_fits, laws.alike w.outline a.recorder b.recorder kept.suited left.is_of right.is_of)

  module _ (states_laws : IsOrder T states) (recorders_laws : IsOrder R recorders) (before : i < j) where
    abbrev joined : Spot T R
    joined = met states recorders a b

    abbrev new : Pooled S T R B
    new = merged_at states recorders w i j a b

    -- the join stands for what either place stood for
    left_stands : (past : List ℕ) (n : ℕ) (c : C) → Stands w.outline m z w.book a past n c
        → Stands w.outline m z w.book joined past n c
    left_stands past n c stands = record {
      node = stands.node;
      position = stands.position;
      walk = stands.walk;
      state = machine_laws.above_covers a.state joined.state c (states_laws.left a.state b.state alike_at.0) stands.state;
      recorder = laws.above_covers w.outline a.recorder joined.recorder w.book (n ∷ past) (recorders_laws.left a.recorder b.recorder alike_at.1) stands.recorder;
    }

    right_stands : (past : List ℕ) (n : ℕ) (c : C) → Stands w.outline m z w.book b past n c
        → Stands w.outline m z w.book joined past n c
    right_stands past n c stands = record {
      node = nodes ∙ stands.node;
      position = same ∙ stands.position;
      walk = stands.walk;
      state = machine_laws.above_covers b.state joined.state c (states_laws.right a.state b.state alike_at.0) stands.state;
      recorder = laws.above_covers w.outline b.recorder joined.recorder w.book (n ∷ past) (recorders_laws.right a.recorder b.recorder alike_at.1) stands.recorder;
    }

    joined_among : Contains new.spots joined
    joined_among = stays_written w.spots i j joined a before first

    -- a place is one of the two, or stays
    kept_or_joined : (other : Spot T R) → Contains w.spots other
        → ((a ≡ other) ⊎ (b ≡ other)) ⊎ Contains new.spots other
    kept_or_joined other among =
        elim (beside_set w.spots i other a joined first among) [
          | inl is_a ↦ inl (inl is_a)
          | inr stays ↦ elim (elsewhere (slice_set w.spots i joined) [] j other b (later_as_before w.spots i j joined b before second) stays) [
            | inl is_b ↦ inl (inr is_b)
            | inr still ↦ inr still
          ]
        ]

    merge_handled : {past : List ℕ} {n : ℕ} {c : C} → IsHandled m z w past n c → IsHandled m z new past n c
    merge_handled {past} {n} {c} (waits other among stands) =
        elim (kept_or_joined other among) [
          | inl (inl is_a) ↦ waits joined joined_among (left_stands past n c (subst (λ (q : Spot T R). Stands w.outline m z w.book q past n c) (sym is_a) stands))
          | inl (inr is_b) ↦ waits joined joined_among (right_stands past n c (subst (λ (q : Spot T R). Stands w.outline m z w.book q past n c) (sym is_b) stands))
          | inr stays ↦ waits other stays stands
        ]
    merge_handled {past} {n} {c} (passed walk stepped goes ends fails) = passed walk stepped (λ k d step. merge_handled (goes k d step)) ends fails

    joined_placed : IsPlaced w.outline m z w.steps joined
    joined_placed =
        let of_left = left.long in let of_right = right.long in
        let long = laws.joined_length a.recorder b.recorder alike_at.1 in
        record {
          in_range = left.in_range;
          fits = machine_laws.joined_fits a.node a.state b.state left.fits right_fits;
          is_of = laws.joined_is_of w.outline a.recorder b.recorder kept.suited left.is_of right.is_of;
          long = omega arith;
          position_is = left.position_is;
          low = left.low;
        }

    placed_after : (other : Spot T R) → Contains new.spots other → IsPlaced w.outline m z w.steps other
    placed_after other has =
        elim (from_set w.spots i other joined (from_remove (slice_set w.spots i joined) j other has)) [
          | inl old ↦ kept.placed other old
          | inr is ↦ subst (IsPlaced w.outline m z w.steps) is joined_placed
        ]

    pub merge_kept : IsKept machine z new
    merge_kept = record {
      suited = kept.suited;
      stepper = kept.stepper;
      along = kept.along;
      placed = placed_after;
      book = kept.book;
      flags = kept.flags;
      told = kept.told;
      handled = λ c starts. merge_handled (kept.handled c starts);
    }
