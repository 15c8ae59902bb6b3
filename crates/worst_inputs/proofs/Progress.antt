-- A search, one split after the other.
use Rattle.std.proofs.Common.{◌≡◌, ◌≤◌, ◌<◌, ◌+◌, ◌↔◌, ℕ, Bool, true, false, List, [], ◌∷◌, All, IsTrue, ◌⊎◌, sym, ap, subst, ◌∙◌, add-one}
use Rattle.std.specs.Global.{Vec}
use Rattle.worst_inputs.specs.declared.area.Range.{Range}
use Rattle.worst_inputs.specs.declared.bounder.Bounded.TheVariants.{At}
use Rattle.worst_inputs.specs.declared.fault.SearchFault.{SearchFault}
use Rattle.worst_inputs.specs.declared.fault.SearchFault.TheVariants.{Left as LeftIn, Memory}
use Rattle.worst_inputs.specs.Areas.{Area, IsRange}
use Rattle.worst_inputs.specs.Bounders.{Bounding, IsBounding}
use Rattle.worst_inputs.specs.Boxes.{Box, Answers, HasPointAtTop, IsSplit, Splits, begins, goes_on}
use Rattle.worst_inputs.specs.Searches.{seen_boxes, IsSearched, at_half, IsStoppedBy, IsFaultOf}
use Rattle.worst_inputs.specs.Promises.{Bounds}
use Rattle.worst_inputs.proofs.Splitting.{promised}

-- the one box of the ranges
pub begun : (answers : Answers) (ranges area : Area) (pair : Vec Range × ℕ) (pairs : List (Vec Range × ℕ))
    → pairs ≡ pair ∷ [] → pair.0.items ≡ area → area ≡ ranges → answers area (At pair.1)
    → Splits answers ranges 0 (seen_boxes pairs)
begun answers ranges area pair pairs one here there at =
    let is : seen_boxes pairs ≡ record { area = ranges; bound = pair.1 } ∷ [] = ap seen_boxes one ∙ ap (λ (a : Area). record { area = a; bound = pair.1 } ∷ []) (here ∙ there) in
    subst (λ (bs : List Box). Splits answers ranges 0 bs) (sym is) (begins pair.1 (subst (λ (a : Area). answers a (At pair.1)) there at))

-- whether a point stands at the top, as the code reads it
pub no_point_read : (pairs boxes : List (Vec Range × ℕ)) (told : Bool) → pairs ≡ boxes
    → (IsTrue told ↔ HasPointAtTop (seen_boxes pairs)) → told ≡ false → HasPointAtTop (seen_boxes boxes) → ⊥
no_point_read pairs boxes told same means fails has = let holds : told ≡ true = means.1 (subst (λ (ps : List (Vec Range × ℕ)). HasPointAtTop (seen_boxes ps)) (sym same) has) in cc

pub point_read : (pairs boxes : List (Vec Range × ℕ)) (told : Bool) → pairs ≡ boxes
    → (IsTrue told ↔ HasPointAtTop (seen_boxes pairs)) → IsTrue told ↔ HasPointAtTop (seen_boxes boxes)
point_read pairs boxes told same means = subst (λ (ps : List (Vec Range × ℕ)). IsTrue told ↔ HasPointAtTop (seen_boxes ps)) same means

module _ (answers : Answers) (ranges : Area) (splits made : ℕ) (boxes : List Box) (so_far : Splits answers ranges made boxes) where
  -- one split more
  pub split_more : (next : List Box) → (HasPointAtTop boxes → ⊥) → IsSplit answers boxes next
      → Splits answers ranges (made + 1) next
  split_more next more split = subst (λ (n : ℕ). Splits answers ranges n next) (sym (add-one made)) (goes_on made boxes next so_far more split)

  -- a half without a bound
  pub fault_at : made < splits → (HasPointAtTop boxes → ⊥) → (fault : SearchFault) → IsStoppedBy answers boxes fault
      → IsFaultOf answers ranges splits fault
  fault_at low more (LeftIn scope) stopped = at_half made boxes low so_far more stopped
  fault_at low more Memory stopped = tt

  pub searched_at : (exact : Bool) → made ≤ splits → HasPointAtTop boxes ⊎ (made ≡ splits)
      → (IsTrue exact ↔ HasPointAtTop boxes)
      → IsSearched answers ranges splits (record { boxes = boxes; exact = exact })
  searched_at exact within ends means = record { made = made; within = within; boxes = so_far; ends = ends; exact = means }

-- what the boxes promise
pub bounds_at : (b : Bounding) → IsBounding b → (ranges : Area) → b.suits ranges → All IsRange ranges
    → (splits made : ℕ) (boxes : List Box) → Splits b.answers ranges made boxes
    → (exact : Bool) → made ≤ splits → HasPointAtTop boxes ⊎ (made ≡ splits) → (IsTrue exact ↔ HasPointAtTop boxes) → Bounds b.costs ranges (record { boxes = boxes; exact = exact })
bounds_at b laws ranges suits are splits made boxes so_far exact within ends means =
    promised b laws ranges suits are splits (record { boxes = boxes; exact = exact }) (searched_at b.answers ranges splits made boxes so_far exact within ends means)
