-- From places in lists to cuts.
use Rattle.std.proofs.Common.{◌≡◌, ◌<◌, ◌+◌, ℕ, List, [], ◌∷◌, ◌++◌, length, get_or, take, drop, set, slice_set, map, All, inl, inr, refl, sym, ap, subst, ◌∙◌, append_assoc, take-append-drop, add-one, arith}
use Rattle.std.specs.Prelude.{pos, ◌+ℤ◌}
use Rattle.std.specs.List.{insert}
use Rattle.std.specs.Global.{Vec}
use Rattle.std.proofs.lemmas.List.{take_more_set, drop-set-lt, drop_more, set_split, map-append, take-map, drop-map, length-map, get_or-map}
use Rattle.std.proofs.lemmas.List.Elements.{All-contains}
use Rattle.std.proofs.lemmas.Option.{slice_get_within, get_or_from_slice_get}
use Rattle.lists.specs.MemberLaws.{contained}
use Rattle.worst_inputs.specs.declared.area.Range.{Range}
use Rattle.worst_inputs.specs.declared.bounder.Bounded.TheVariants.{At, Left}
use Rattle.worst_inputs.specs.Most.{IsFirstMost, IsFirstAt}
use Rattle.worst_inputs.specs.Areas.{Area, width_of, IsRange, IsPoint, AreHalved}
use Rattle.worst_inputs.specs.Bounders.{Bounding, IsBounding}
use Rattle.worst_inputs.specs.Boxes.{Box, Answers, bound_of, IsCutAt, HasPointAtTop, AreHalves, lower_of, upper_of, IsSplit}
use Rattle.worst_inputs.specs.declared.fault.SearchFault.{SearchFault}
use Rattle.worst_inputs.specs.declared.fault.SearchFault.TheVariants.{Left as LeftIn, Memory}
use Rattle.worst_inputs.specs.Searches.{seen_box, seen_boxes, IsLeftOf, IsStoppedBy}
use Rattle.worst_inputs.specs.Made.{IsMade, AreMade, HaveRanges}
use Rattle.worst_inputs.proofs.Halving.{lower_part, upper_part}
use Rattle.worst_inputs.proofs.Splitting.{cut_among, cut_more}

module _ {A : Type 0} (f : A → ℕ) (xs : List A) (place : ℕ) (first : IsFirstAt f xs place) where
  pub within : place < length xs
  within = slice_get_within xs place first.x first.at

  pub read : (d : A) → get_or xs place d ≡ first.x
  read d = get_or_from_slice_get xs place first.x d first.at

  -- what stands before and behind the place
  pub parted : IsFirstMost f xs (take place xs) first.x (drop (place + 1) xs)
  parted = record {
    is = sym (take-append-drop place xs) ∙ ap (λ (ys : List A). take place xs ++ ys) (drop_more xs place first.x within ∙ ap (λ (x : A). x ∷ drop (place + 1) xs) (read first.x));
    most = first.most;
    first = first.first;
  }

-- another element at the place
pub set_parts : {A : Type 0} (xs : List A) (place : ℕ) (a : A) → place < length xs
    → set xs place a ≡ take place xs ++ a ∷ drop (place + 1) xs
set_parts xs place a low = set_split xs place a low ∙ ap (λ (n : ℕ). take place xs ++ a ∷ drop n xs) (sym (add-one place))

-- two elements at the place
pub two_parts : {A : Type 0} (xs : List A) (place : ℕ) (a b : A) → place < length xs
    → insert (set xs place a) (place + 1) b ≡ take place xs ++ a ∷ b ∷ drop (place + 1) xs
two_parts xs place a b low =
    rw (take_more_set xs place a low, drop-set-lt (place + 1) xs place a (omega arith), append_assoc (take place xs) (a ∷ []) (b ∷ drop (place + 1) xs)) refl

-- ---- halves

pub made_halves : (area : Area) (place : ℕ) (first : IsFirstAt width_of area place) (range low_range high_range : Range)
    → range ≡ first.x → AreHalved range low_range high_range
    → (lower upper : Area) → lower ≡ slice_set area place low_range → upper ≡ slice_set area place high_range → AreHalves area lower upper
made_halves area place first range low_range high_range same half lower upper low_is high_is =
    let low = within width_of area place first in
    let here : AreHalved first.x low_range high_range = subst (λ (r : Range). AreHalved r low_range high_range) same half in
    record {
      halves = record { before = take place area; range = first.x; after = drop (place + 1) area; widest = parted width_of area place first; middle = here.middle; half = here.half };
      lower_is = low_is ∙ ap (λ (r : Range). slice_set area place r) here.lower_is ∙ set_parts area place (record { low = first.x.low; high = here.middle }) low;
      upper_is = high_is ∙ ap (λ (r : Range). slice_set area place r) here.upper_is ∙ set_parts area place (record { low = here.middle +ℤ pos 1; high = first.x.high }) low;
    }

-- ---- a cut at the place

module _ (boxes : List Box) (place : ℕ) (first : IsFirstAt bound_of boxes place) (more : HasPointAtTop boxes → ⊥) where
  pub no_point : IsPoint first.x.area → ⊥
  no_point point = more (record { box = first.x; among = contained boxes place first.x first.at; is = first.most; point = point })

  pub ranges_here : HaveRanges boxes → All IsRange first.x.area
  ranges_here have = All-contains (λ (box : Box). All IsRange box.area) boxes first.x have.each (contained boxes place first.x first.at)

  pub cut_here : (area lower upper : Area) → area ≡ first.x.area → AreHalves area lower upper
      → IsCutAt boxes place lower upper
  cut_here area lower upper here are =
      let halves : AreHalves first.x.area lower upper = subst (λ (a : Area). AreHalves a lower upper) here are in
      record {
        cut = record { front = take place boxes; box = first.x; rest = drop (place + 1) boxes; worst = parted bound_of boxes place first; halves = halves.halves };
        low = within bound_of boxes place first;
        front_is = refl;
        rest_is = refl;
        lower_is = halves.lower_is;
        upper_is = halves.upper_is;
      }

-- ---- a split

module _ (b : Bounding) (laws : IsBounding b) (boxes : List Box) (made : AreMade b boxes) (more : HasPointAtTop boxes → ⊥) (place : ℕ) (lower upper : Area) (at : IsCutAt boxes place lower upper) where
  made_here : IsMade b at.cut.box
  made_here = All-contains (IsMade b) boxes at.cut.box made.each (cut_among boxes at.cut)

  pub lower_suits : b.suits lower
  lower_suits = subst b.suits (sym at.lower_is)
      (laws.part_suits at.cut.box.area (lower_of at.cut.halves) made_here.suits (lower_part at.cut.box.area at.cut.halves made_here.ranges (cut_more boxes at.cut more)))

  pub upper_suits : b.suits upper
  upper_suits = subst b.suits (sym at.upper_is)
      (laws.part_suits at.cut.box.area (upper_of at.cut.halves) made_here.suits (upper_part at.cut.box.area at.cut.halves made_here.ranges (cut_more boxes at.cut more)))

module _ (answers : Answers) (boxes : List Box) (place : ℕ) (lower upper : Area) (at : IsCutAt boxes place lower upper) where
  -- an area without a bound stops the split
  pub lower_stopped : (fault : SearchFault) → IsLeftOf answers lower fault → IsStoppedBy answers boxes fault
  lower_stopped (LeftIn scope) left = record { cut = at.cut; left = inl (subst (λ (a : Area). answers a (Left scope)) at.lower_is left) }
  lower_stopped Memory left = tt

  pub upper_stopped : (bound : ℕ) → answers lower (At bound) → (fault : SearchFault) → IsLeftOf answers upper fault
      → IsStoppedBy answers boxes fault
  upper_stopped bound is (LeftIn scope) left = record {
    cut = at.cut;
    left = inr (bound, subst (λ (a : Area). answers a (At bound)) at.lower_is is, subst (λ (a : Area). answers a (Left scope)) at.upper_is left);
  }
  upper_stopped bound is Memory left = tt

  -- two bounds split the boxes
  pub split_here : (low high : Box) (next : List Box) → low.area ≡ lower → high.area ≡ upper
      → answers lower (At low.bound) → answers upper (At high.bound)
      → next ≡ take place boxes ++ low ∷ high ∷ drop (place + 1) boxes → IsSplit answers boxes next
  split_here low high next low_area high_area at_low at_high is = record {
    cut = at.cut;
    lower = low.bound;
    upper = high.bound;
    lower_is = subst (λ (a : Area). answers a (At low.bound)) at.lower_is at_low;
    upper_is = subst (λ (a : Area). answers a (At high.bound)) at.upper_is at_high;
    next_is = is ∙ ap (λ (bs : List Box). bs ++ low ∷ high ∷ drop (place + 1) boxes) (sym at.front_is) ∙ ap (λ (bs : List Box). at.cut.front ++ low ∷ high ∷ bs) (sym at.rest_is)
        ∙ ap (λ (a : Area). at.cut.front ++ record { area = a; bound = low.bound } ∷ high ∷ at.cut.rest) (low_area ∙ at.lower_is)
        ∙ ap (λ (a : Area). at.cut.front ++ record { area = lower_of at.cut.halves; bound = low.bound } ∷ record { area = a; bound = high.bound } ∷ at.cut.rest) (high_area ∙ at.upper_is);
  }

-- the boxes after the two writes
pub two_seen : (pairs : List (Vec Range × ℕ)) (place : ℕ) (lower upper : Vec Range × ℕ) → place < length pairs
    → seen_boxes (insert (set pairs place lower) (place + 1) upper) ≡ take place (seen_boxes pairs) ++ seen_box lower ∷ seen_box upper ∷ drop (place + 1) (seen_boxes pairs)
two_seen pairs place lower upper low =
    ap seen_boxes (two_parts pairs place lower upper low) ∙ map-append seen_box (take place pairs) (lower ∷ upper ∷ drop (place + 1) pairs)
    ∙ ap (λ (bs : List Box). bs ++ seen_box lower ∷ seen_box upper ∷ map seen_box (drop (place + 1) pairs)) (sym (take-map seen_box place pairs))
    ∙ ap (λ (bs : List Box). take place (seen_boxes pairs) ++ seen_box lower ∷ seen_box upper ∷ bs) (sym (drop-map seen_box (place + 1) pairs))

-- the area that is read at the place is that of the box there
pub read_area : (pairs : List (Vec Range × ℕ)) (place : ℕ) (first : IsFirstAt bound_of (seen_boxes pairs) place) (d : Vec Range × ℕ) → (get_or pairs place d).0.items ≡ first.x.area
read_area pairs place first d =
    let low : place < length pairs = let l = within bound_of (seen_boxes pairs) place first in let e = length-map pairs seen_box in omega arith in
    ap (λ (box : Box). box.area) (sym (get_or-map seen_box pairs place d first.x low) ∙ read bound_of (seen_boxes pairs) place first first.x)
