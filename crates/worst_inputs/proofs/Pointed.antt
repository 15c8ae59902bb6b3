-- Whether some box of this bound is a point, one box after the other.
use Rattle.std.proofs.Common.{◌≡◌, ◌<◌, ◌≤◌, ◌+◌, ℕ, List, length, get_or, take, All, sym, ap, subst, ◌∙◌}
use Rattle.std.specs.Global.{Vec}
use Rattle.std.proofs.lemmas.List.{take_all}
use Rattle.std.proofs.lemmas.List.Elements.{All-more, All-contains}
use Rattle.lists.specs.ImageLaws.{mapped, image}
use Rattle.worst_inputs.specs.declared.area.Range.{Range}
use Rattle.worst_inputs.specs.Areas.{IsPoint}
use Rattle.worst_inputs.specs.Boxes.{Box, HasPoint}
use Rattle.worst_inputs.specs.Searches.{seen_box, seen_boxes}

module _ (pairs : List (Vec Range × ℕ)) (worst : ℕ) where
  -- the pair is no point of this bound
  abbrev pub IsNone : Vec Range × ℕ → Type 0
  IsNone pair = pair.1 ≡ worst → IsPoint pair.0.items → ⊥

  module _ (place : ℕ) (pair : Vec Range × ℕ) (low : place < length pairs) (at : pair ≡ get_or pairs place pair) where
    pub point_here : pair.1 ≡ worst → IsPoint pair.0.items → HasPoint (seen_boxes pairs) worst
    point_here is point = record { box = seen_box pair; among = image seen_box pairs pair (place, low, sym at); is = is; point = point }

    pub no_more : All IsNone (take place pairs) → IsNone pair → All IsNone (take (place + 1) pairs)
    no_more none here = All-more IsNone pairs place pair low none (subst IsNone at here)

  pub no_point : (place : ℕ) → length pairs ≤ place → All IsNone (take place pairs) → HasPoint (seen_boxes pairs) worst
      → ⊥
  no_point place over none has =
      let m = mapped seen_box pairs has.box has.among in
      let all : All IsNone pairs = subst (λ (ps : List (Vec Range × ℕ)). All IsNone ps) (take_all place pairs over) none in
      All-contains IsNone pairs m.0 all m.1 (ap (λ (box : Box). box.bound) m.2 ∙ has.is) (subst (λ (box : Box). IsPoint box.area) (sym m.2) has.point)
