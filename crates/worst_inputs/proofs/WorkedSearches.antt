-- The searches of the worked rows, split by split.
--   after_1, after_2, after_3   the boxes after so many splits
--   without_point               after two splits, none of which is a point
--   with_point                  a point is worst after one split
--   half_left                   the upper half of the first split has no bound
use Rattle.std.proofs.Common.{◌≡◌, ℕ, List, [], ◌∷◌, true, false, All, inl, inr, refl, arith}
use Rattle.std.specs.Prelude.{ℤ, pos, negsuc}
use Rattle.std.proofs.lemmas.Bool.{false≢true}
use Rattle.std.proofs.lemmas.Int.{ints}
use Rattle.std.proofs.lemmas.List.Elements.{All-nil, All-cons, All-head, All-contains}
use Rattle.worst_inputs.specs.declared.area.Range.{Range}
use Rattle.worst_inputs.specs.Areas.{Area, width_of, IsPoint}
use Rattle.worst_inputs.specs.Boxes.{Box, bound_of, HasPointAtTop, Halves, Splits, begins, goes_on}
use Rattle.worst_inputs.specs.Searches.{IsSearched, IsLeftIn, at_half}
use Rattle.worst_inputs.specs.Worked.{two, told, boxes_of_1, boxes_of_2, boxes_of_3, one_row, told_of_one}

-- ---- points

abbrev IsWide : Range → Type 0
IsWide range = range.low ≡ range.high → ⊥

-- an area whose first range has two numbers is no point
no_point : (range : Range) (area : Area) → IsWide range → IsPoint (range ∷ area) → ⊥
no_point range area wide point = wide (All-head (λ (r : Range). r.low ≡ r.high) range area point)

abbrev IsMore : Box → Type 0
IsMore box = IsPoint box.area → ⊥

none_at_top : (boxes : List Box) → All IsMore boxes → HasPointAtTop boxes → ⊥
none_at_top boxes each has = All-contains IsMore boxes has.box each has.among has.point

abbrev wide_box : (lx hx ly hy : ℤ) (bound : ℕ) (boxes : List Box) → (lx ≡ hx → ⊥) → All IsMore boxes
    → All IsMore (record { area = two lx hx ly hy; bound = bound } ∷ boxes)
wide_box lx hx ly hy bound boxes apart rest = All-cons IsMore (record { area = two lx hx ly hy; bound = bound }) boxes
    (no_point (record { low = lx; high = hx }) (record { low = ly; high = hy } ∷ []) apart) rest

no_more : All IsMore []
no_more = All-nil IsMore

to_five : pos 0 ≡ pos 5 → ⊥
to_five e = omega (arith, ints, e)

to_two : pos 0 ≡ pos 2 → ⊥
to_two e = omega (arith, ints, e)

from_three : pos 3 ≡ pos 5 → ⊥
from_three e = omega (arith, ints, e)

-- ---- two rows

abbrev pub ranges : Area
ranges = two (pos 0) (pos 5) (negsuc 3) (pos 1)

abbrev pub whole : List Box
whole = record { area = ranges; bound = 90 } ∷ []

abbrev first_row : Halves ranges
first_row = record {
  before = [];
  range = record { low = pos 0; high = pos 5 };
  after = record { low = negsuc 3; high = pos 1 } ∷ [];
  widest = record { is = refl; most = refl; first = All-nil _ };
  middle = pos 2;
  half = record { least = omega (arith, ints); most = omega (arith, ints) };
}

-- the second row is the wider one
abbrev upper_row : Halves (two (pos 3) (pos 5) (negsuc 3) (pos 1))
upper_row = record {
  before = record { low = pos 3; high = pos 5 } ∷ [];
  range = record { low = negsuc 3; high = pos 1 };
  after = [];
  widest = record { is = refl; most = refl; first = All-cons (λ (y : Range). width_of y ≡ 5 → ⊥) (record { low = pos 3; high = pos 5 }) [] (λ e. let no : 2 ≡ 5 = e in omega (arith, no)) (All-nil _) };
  middle = negsuc 1;
  half = record { least = omega (arith, ints); most = omega (arith, ints) };
}

abbrev lower_row : Halves (two (pos 0) (pos 2) (negsuc 3) (pos 1))
lower_row = record {
  before = record { low = pos 0; high = pos 2 } ∷ [];
  range = record { low = negsuc 3; high = pos 1 };
  after = [];
  widest = record { is = refl; most = refl; first = All-cons (λ (y : Range). width_of y ≡ 5 → ⊥) (record { low = pos 0; high = pos 2 }) [] (λ e. let no : 2 ≡ 5 = e in omega (arith, no)) (All-nil _) };
  middle = negsuc 1;
  half = record { least = omega (arith, ints); most = omega (arith, ints) };
}

pub after_1 : Splits told ranges 1 boxes_of_1
after_1 = goes_on 0 whole boxes_of_1 (begins 90 (0, omega arith, refl)) (none_at_top whole (wide_box (pos 0) (pos 5) (negsuc 3) (pos 1) 90 [] to_five no_more))
    (record {
      cut = record { front = []; box = record { area = ranges; bound = 90 }; rest = []; worst = record { is = refl; most = refl; first = All-nil _ }; halves = first_row };
      lower = 50;
      upper = 90;
      lower_is = (1, omega arith, refl);
      upper_is = (2, omega arith, refl);
      next_is = refl;
    })

pub after_2 : Splits told ranges 2 boxes_of_2
after_2 = goes_on 1 boxes_of_1 boxes_of_2 after_1
    (none_at_top boxes_of_1 (wide_box (pos 0) (pos 2) (negsuc 3) (pos 1) 50 (record { area = two (pos 3) (pos 5) (negsuc 3) (pos 1); bound = 90 } ∷ []) to_two (wide_box (pos 3) (pos 5) (negsuc 3) (pos 1) 90 [] from_three no_more)))
    (record {
      cut = record {
        front = record { area = two (pos 0) (pos 2) (negsuc 3) (pos 1); bound = 50 } ∷ [];
        box = record { area = two (pos 3) (pos 5) (negsuc 3) (pos 1); bound = 90 };
        rest = [];
        worst = record { is = refl; most = refl; first = All-cons (λ (b : Box). bound_of b ≡ 90 → ⊥) (record { area = two (pos 0) (pos 2) (negsuc 3) (pos 1); bound = 50 }) [] (λ e. let no : 50 ≡ 90 = e in omega (arith, no)) (All-nil _) };
        halves = upper_row;
      };
      lower = 50;
      upper = 40;
      lower_is = (3, omega arith, refl);
      upper_is = (4, omega arith, refl);
      next_is = refl;
    })

of_two : All IsMore boxes_of_2
of_two = wide_box (pos 0) (pos 2) (negsuc 3) (pos 1) 50 (record { area = two (pos 3) (pos 5) (negsuc 3) (negsuc 1); bound = 50 } ∷ record { area = two (pos 3) (pos 5) (negsuc 0) (pos 1); bound = 40 } ∷ []) to_two (wide_box (pos 3) (pos 5) (negsuc 3) (negsuc 1) 50 (record { area = two (pos 3) (pos 5) (negsuc 0) (pos 1); bound = 40 } ∷ []) from_three (wide_box (pos 3) (pos 5) (negsuc 0) (pos 1) 40 [] from_three no_more))

pub after_3 : Splits told ranges 3 boxes_of_3
after_3 = goes_on 2 boxes_of_2 boxes_of_3 after_2 (none_at_top boxes_of_2 of_two)
    (record {
      cut = record {
        front = [];
        box = record { area = two (pos 0) (pos 2) (negsuc 3) (pos 1); bound = 50 };
        rest = record { area = two (pos 3) (pos 5) (negsuc 3) (negsuc 1); bound = 50 } ∷ record { area = two (pos 3) (pos 5) (negsuc 0) (pos 1); bound = 40 } ∷ [];
        worst = record { is = refl; most = refl; first = All-nil _ };
        halves = lower_row;
      };
      lower = 30;
      upper = 20;
      lower_is = (5, omega arith, refl);
      upper_is = (6, omega arith, refl);
      next_is = refl;
    })

pub without_point : IsSearched told ranges 2 (record { boxes = boxes_of_2; exact = false })
without_point = record {
  made = 2;
  within = omega arith;
  boxes = after_2;
  ends = inr refl;
  exact = ((λ yes. absurd (false≢true yes)), (λ has. absurd (none_at_top boxes_of_2 of_two has)));
}

-- ---- one row

apart_row : (low high : ℤ) → (low ≡ high → ⊥) → (bound : ℕ) → HasPointAtTop (record { area = one_row low high; bound = bound } ∷ []) → ⊥
apart_row low high apart bound = none_at_top (record { area = one_row low high; bound = bound } ∷ []) (All-cons IsMore (record { area = one_row low high; bound = bound }) [] (no_point (record { low = low; high = high }) [] apart) no_more)

abbrev pub points : List Box
points = record { area = one_row (pos 0) (pos 0); bound = 5 } ∷ record { area = one_row (pos 1) (pos 1); bound = 9 } ∷ []

top : HasPointAtTop points
top = record { box = record { area = one_row (pos 1) (pos 1); bound = 9 }; among = (1, omega arith, refl); is = refl; point = All-cons (λ (r : Range). r.low ≡ r.high) (record { low = pos 1; high = pos 1 }) [] refl (All-nil _) }

pub with_point : IsSearched told_of_one (one_row (pos 0) (pos 1)) 5 (record { boxes = points; exact = true })
with_point = record {
  made = 1;
  within = omega arith;
  boxes = goes_on 0 (record { area = one_row (pos 0) (pos 1); bound = 9 } ∷ []) points (begins 9 (0, omega arith, refl)) (apart_row (pos 0) (pos 1) (λ e. omega (arith, ints, e)) 9)
      (record {
        cut = record {
          front = [];
          box = record { area = one_row (pos 0) (pos 1); bound = 9 };
          rest = [];
          worst = record { is = refl; most = refl; first = All-nil _ };
          halves = record {
            before = [];
            range = record { low = pos 0; high = pos 1 };
            after = [];
            widest = record { is = refl; most = refl; first = All-nil _ };
            middle = pos 0;
            half = record { least = omega (arith, ints); most = omega (arith, ints) };
          };
        };
        lower = 5;
        upper = 9;
        lower_is = (1, omega arith, refl);
        upper_is = (2, omega arith, refl);
        next_is = refl;
      });
  ends = inl top;
  exact = ((λ yes. top), (λ has. refl));
}

pub half_left : IsLeftIn told_of_one (one_row (pos 4) (pos 7)) 5 3
half_left = at_half 0 (record { area = one_row (pos 4) (pos 7); bound = 9 } ∷ []) (omega arith) (begins 9 (3, omega arith, refl)) (apart_row (pos 4) (pos 7) (λ e. omega (arith, ints, e)) 9)
    (record {
      cut = record {
        front = [];
        box = record { area = one_row (pos 4) (pos 7); bound = 9 };
        rest = [];
        worst = record { is = refl; most = refl; first = All-nil _ };
        halves = record {
          before = [];
          range = record { low = pos 4; high = pos 7 };
          after = [];
          widest = record { is = refl; most = refl; first = All-nil _ };
          middle = pos 5;
          half = record { least = omega (arith, ints); most = omega (arith, ints) };
        };
      };
      left = inr (5, (4, omega arith, refl), (5, omega arith, refl));
    })
