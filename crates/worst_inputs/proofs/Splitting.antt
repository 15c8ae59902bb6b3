-- What is true of the boxes after any number of splits.
use Rattle.std.proofs.Common.{◌≡◌, ◌≤◌, ◌<◌, ℕ, List, [], ◌∷◌, ◌++◌, length, length-append, map, All, Contains, inl, inr, sym, ap, subst, arith}
use Rattle.std.specs.Prelude.{ℤ}
use lib.Signed.{≤ℤ_refl}
use Rattle.std.proofs.lemmas.List.Elements.{All-nil, All-cons, All-append, All-contains, All-head, All-tail, Contains-append_left, Contains-append_right, Contains-append_cases}
use Rattle.lists.specs.MemberLaws.{first_member, further_member, first_or_further, all_members}
use Rattle.worst_inputs.specs.declared.area.Range.{Range}
use Rattle.worst_inputs.specs.declared.bounder.Bounded.TheVariants.{At}
use Rattle.worst_inputs.specs.Most.{most_by}
use Rattle.worst_inputs.specs.Areas.{Area, IsInside, IsRange, IsPoint, IsPart}
use Rattle.worst_inputs.specs.Bounders.{Bounding, IsBounding, CostsAtMost}
use Rattle.worst_inputs.specs.Boxes.{Box, bound_of, worst_of, HasPointAtTop, Cut, lower_of, upper_of, IsSplit, Splits, begins, goes_on}
use Rattle.worst_inputs.specs.Searches.{Searched, IsSearched}
use Rattle.worst_inputs.specs.Promises.{IsGreatestCost, Bounds}
use Rattle.worst_inputs.specs.Made.{IsMade, AreMade}
use Rattle.worst_inputs.proofs.Parts.{part_itself, part_farther, part_inside, part_ranges}
use Rattle.worst_inputs.proofs.Halving.{lower_part, upper_part, inside_one}

-- no element has a greater number
pub most_of : {A : Type 0} (f : A → ℕ) (xs : List A) (x : A) → Contains xs x → f x ≤ most_by f xs
most_of f [] x (k, low, is) = absurd (omega arith)
most_of f (y ∷ xs) x among = first_or_further y xs x among
    (λ same. let e : f y ≡ f x = ap f same in omega arith)
    (λ further. let more = most_of f xs x further in omega arith)

-- the least numbers of the ranges are an input
pub lows : Area → List ℤ
lows area = map (λ (range : Range). range.low) area

pub lows_inside : (area : Area) → All IsRange area → IsInside area (lows area)
unfolding lows
lows_inside [] ranges = tt
lows_inside (range ∷ area) ranges = (record { least = ≤ℤ_refl range.low; most = (All-head IsRange range area ranges).ordered }, lows_inside area (All-tail IsRange range area ranges))

-- ---- a cut

module _ (boxes : List Box) (cut : Cut boxes) where
  pub cut_among : Contains boxes cut.box
  cut_among = subst (λ (bs : List Box). Contains bs cut.box) (sym cut.worst.is) (Contains-append_right cut.front (cut.box ∷ cut.rest) cut.box (first_member cut.box cut.rest))

  -- where no box of greatest bound is a point, the one that is cut is none
  pub cut_more : (HasPointAtTop boxes → ⊥) → IsPoint cut.box.area → ⊥
  cut_more more point = more (record { box = cut.box; among = cut_among; is = cut.worst.most; point = point })

  -- what holds of all holds before and after
  pub cut_front : (P : Box → Type 0) → All P boxes → All P cut.front
  cut_front P all = all_members P cut.front (λ box among. All-contains P boxes box all (subst (λ (bs : List Box). Contains bs box) (sym cut.worst.is) (Contains-append_left cut.front (cut.box ∷ cut.rest) box among)))

  pub cut_rest : (P : Box → Type 0) → All P boxes → All P cut.rest
  cut_rest P all = all_members P cut.rest (λ box among. All-contains P boxes box all
      (subst (λ (bs : List Box). Contains bs box) (sym cut.worst.is) (Contains-append_right cut.front (cut.box ∷ cut.rest) box (further_member cut.box cut.rest box among))))

-- ---- boxes of the ranges

-- part of the ranges, and this is its bound
pub record IsBoxOf (b : Bounding) (ranges : Area) (box : Box) : Type 0 where
  pub part : IsPart ranges box.area
  pub is : b.answers box.area (At box.bound)

module _ (b : Bounding) (laws : IsBounding b) (ranges : Area) (suits : b.suits ranges) (are : All IsRange ranges) where
  pub box_suits : (box : Box) → IsBoxOf b ranges box → b.suits box.area
  box_suits box of = laws.part_suits ranges box.area suits of.part

  pub box_ranges : (box : Box) → IsBoxOf b ranges box → All IsRange box.area
  box_ranges box of = part_ranges ranges box.area are of.part

  module _ (boxes next : List Box) (all : All (IsBoxOf b ranges) boxes) (more : HasPointAtTop boxes → ⊥) (split : IsSplit b.answers boxes next) where
    cut_of : IsBoxOf b ranges split.cut.box
    cut_of = All-contains (IsBoxOf b ranges) boxes split.cut.box all (cut_among boxes split.cut)

    lower_box : Box
    lower_box = record { area = lower_of split.cut.halves; bound = split.lower }

    upper_box : Box
    upper_box = record { area = upper_of split.cut.halves; bound = split.upper }

    next_is : next ≡ split.cut.front ++ lower_box ∷ upper_box ∷ split.cut.rest
    unfolding lower_box upper_box
    next_is = split.next_is

    lower_of_ranges : IsBoxOf b ranges lower_box
    unfolding lower_box
    lower_of_ranges = record {
      part = part_farther ranges split.cut.box.area (lower_of split.cut.halves) cut_of.part
          (lower_part split.cut.box.area split.cut.halves (box_ranges split.cut.box cut_of) (cut_more boxes split.cut more));
      is = split.lower_is;
    }

    upper_of_ranges : IsBoxOf b ranges upper_box
    unfolding upper_box
    upper_of_ranges = record {
      part = part_farther ranges split.cut.box.area (upper_of split.cut.halves) cut_of.part
          (upper_part split.cut.box.area split.cut.halves (box_ranges split.cut.box cut_of) (cut_more boxes split.cut more));
      is = split.upper_is;
    }

    pub split_boxes : All (IsBoxOf b ranges) next
    split_boxes = subst (λ (bs : List Box). All (IsBoxOf b ranges) bs) (sym next_is)
        (All-append (IsBoxOf b ranges) split.cut.front (lower_box ∷ upper_box ∷ split.cut.rest) (cut_front boxes split.cut (IsBoxOf b ranges) all)
        (All-cons (IsBoxOf b ranges) lower_box (upper_box ∷ split.cut.rest) lower_of_ranges
        (All-cons (IsBoxOf b ranges) upper_box split.cut.rest upper_of_ranges (cut_rest boxes split.cut (IsBoxOf b ranges) all))))

    pub split_some : 0 < length next
    split_some = let long = length-append split.cut.front (lower_box ∷ upper_box ∷ split.cut.rest) in let e = ap length next_is in omega arith

    in_next : (box : Box) → Contains (split.cut.front ++ lower_box ∷ upper_box ∷ split.cut.rest) box → Contains next box
    in_next box among = subst (λ (bs : List Box). Contains bs box) (sym next_is) among

    -- an input inside a box is inside one after the split
    pub split_covers : (input : List ℤ) (box : Box) → Contains boxes box → IsInside box.area input
        → (other : Box) × Contains next other × IsInside other.area input
    unfolding lower_box upper_box
    split_covers input box among inside =
        elim (Contains-append_cases split.cut.front (split.cut.box ∷ split.cut.rest) box (subst (λ (bs : List Box). Contains bs box) split.cut.worst.is among)) [
          | inl before ↦ (box, in_next box (Contains-append_left split.cut.front (lower_box ∷ upper_box ∷ split.cut.rest) box before), inside)
          | inr behind ↦ first_or_further split.cut.box split.cut.rest box behind
              (λ same.
              elim (inside_one split.cut.box.area split.cut.halves (box_ranges split.cut.box cut_of) (cut_more boxes split.cut more) input (subst (λ (other : Box). IsInside other.area input) (sym same) inside)) [
                | inl low ↦ (lower_box, in_next lower_box (Contains-append_right split.cut.front (lower_box ∷ upper_box ∷ split.cut.rest) lower_box (first_member lower_box (upper_box ∷ split.cut.rest))), low)
                | inr high ↦ (
                  upper_box,
                  in_next upper_box (Contains-append_right split.cut.front (lower_box ∷ upper_box ∷ split.cut.rest) upper_box (further_member lower_box (upper_box ∷ split.cut.rest) upper_box (first_member upper_box split.cut.rest))),
                  high,
                )
              ])
              (λ after. (
                box,
                in_next box (Contains-append_right split.cut.front (lower_box ∷ upper_box ∷ split.cut.rest) box (further_member lower_box (upper_box ∷ split.cut.rest) box (further_member upper_box split.cut.rest box after))),
                inside,
              ))
        ]

  -- each box after any number of splits is one of the ranges
  pub all_boxes : (n : ℕ) (boxes : List Box) → Splits b.answers ranges n boxes → All (IsBoxOf b ranges) boxes
  all_boxes n boxes (begins bound is) = All-cons (IsBoxOf b ranges) (record { area = ranges; bound = bound }) [] (record { part = part_itself ranges are; is = is }) (All-nil (IsBoxOf b ranges))
  all_boxes n next (goes_on k boxes other before more split) = split_boxes boxes other (all_boxes k boxes before) more split

  pub some_box : (n : ℕ) (boxes : List Box) → Splits b.answers ranges n boxes → 0 < length boxes
  some_box n boxes (begins bound is) = omega arith
  some_box n next (goes_on k boxes other before more split) = split_some boxes other (all_boxes k boxes before) more split

  pub all_made : (n : ℕ) (boxes : List Box) → Splits b.answers ranges n boxes → AreMade b boxes
  all_made n boxes splits = record {
    some = some_box n boxes splits;
    each = all_members (IsMade b) boxes (λ box among. let of = All-contains (IsBoxOf b ranges) boxes box (all_boxes n boxes splits) among in record { suits = box_suits box of; ranges = box_ranges box of });
  }

  -- and each input is inside one of them
  pub covered : (n : ℕ) (boxes : List Box) → Splits b.answers ranges n boxes → (input : List ℤ) → IsInside ranges input
      → (box : Box) × Contains boxes box × IsInside box.area input
  covered n boxes (begins bound is) input inside = (record { area = ranges; bound = bound }, first_member (record { area = ranges; bound = bound }) [], inside)
  covered n next (goes_on k boxes other before more split) input inside =
      let found = covered k boxes before input inside in
      split_covers boxes other (all_boxes k boxes before) more split input found.0 found.1 found.2

  -- ---- what the boxes promise

  module _ (splits : ℕ) (found : Searched) (searched : IsSearched b.answers ranges splits found) where
    each_box : All (IsBoxOf b ranges) found.boxes
    each_box = all_boxes searched.made found.boxes searched.boxes

    box_at : (box : Box) → Contains found.boxes box → IsBoxOf b ranges box
    box_at box among = All-contains (IsBoxOf b ranges) found.boxes box each_box among

    bounds_in : (box : Box) (input : List ℤ) → Contains found.boxes box → IsInside box.area input
        → CostsAtMost b.costs input box.bound
    bounds_in box input among inside = laws.bounds box.area box.bound input (box_suits box (box_at box among)) (box_at box among).is inside

    greatest : HasPointAtTop found.boxes → IsGreatestCost b.costs ranges (worst_of found.boxes)
    greatest top =
        let of = box_at top.box top.among in
        let input = lows top.box.area in
        let inside = lows_inside top.box.area (box_ranges top.box of) in
        let costs = laws.point_exact top.box.area top.box.bound input (box_suits top.box of) top.point of.is inside in
        record {
          input = input;
          inside = part_inside ranges top.box.area input of.part inside;
          is = subst (λ (cost : ℕ). b.costs input cost) top.is costs.is;
          most = λ other within.
              let place = covered searched.made found.boxes searched.boxes other within in
              let most = bounds_in place.0 other place.1 place.2 in
              let low = most_of bound_of found.boxes place.0 place.1 in
              record { some = most.some; most = λ cost is. let under = most.most cost is in omega arith };
        }

    pub promised : Bounds b.costs ranges found
    promised = record {
      covers = covered searched.made found.boxes searched.boxes;
      within = λ box input among inside. part_inside ranges box.area input (box_at box among).part inside;
      bounds = bounds_in;
      exact = λ t. greatest (searched.exact.0 t);
    }
