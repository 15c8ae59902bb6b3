-- What a bounder states.
--   Bounding                    which areas suit, what is answered of each, and what inputs cost
--   Costs                       what inputs cost
--   CostsAtMost costs input bound   the input costs something, and never more than the bound
--   CostsExactly costs input cost   it costs this, and nothing else
--   IsBounding b                the laws
use Rattle.std.specs.Prelude.{◌≡◌, ◌≤◌, ℕ, ℤ, List}
use Rattle.worst_inputs.specs.declared.bounder.Bounded.{Bounded}
use Rattle.worst_inputs.specs.declared.bounder.Bounded.TheVariants.{At}
use Rattle.worst_inputs.specs.Areas.{Area, IsInside, IsPoint, IsPart}

-- a run with the input costs so much
abbrev pub Costs : Type 1
Costs = List ℤ → ℕ → Type 0

pub record Bounding : Type 1 where
  -- the area may be bounded
  pub suits : Area → Type 0
  -- this is what is answered of the area where memory is there
  pub answers : Area → Bounded → Type 0
  -- a run with the input costs so much
  pub costs : Costs

-- the input costs something, and never more than the bound
pub record CostsAtMost (costs : Costs) (input : List ℤ) (bound : ℕ) : Type 0 where
  pub some : (cost : ℕ) × costs input cost
  pub most : (cost : ℕ) → costs input cost → cost ≤ bound

-- it costs this, and nothing else
pub record CostsExactly (costs : Costs) (input : List ℤ) (cost : ℕ) : Type 0 where
  pub is : costs input cost
  pub only : (other : ℕ) → costs input other → other ≡ cost

pub record IsBounding (b : Bounding) : Type 0 where
  -- where an area suits, so does each part of it
  pub part_suits : (area part : Area) → b.suits area → IsPart area part → b.suits part
  -- an area has one answer
  pub one_answer : (area : Area) (first second : Bounded) → b.suits area → b.answers area first → b.answers area second
      → first ≡ second
  -- each input inside an area costs at most its bound
  pub bounds : (area : Area) (bound : ℕ) (input : List ℤ) → b.suits area → b.answers area (At bound)
      → IsInside area input → CostsAtMost b.costs input bound
  -- and where the area is a point, exactly this
  pub point_exact : (area : Area) (bound : ℕ) (input : List ℤ) → b.suits area → IsPoint area → b.answers area (At bound)
      → IsInside area input → CostsExactly b.costs input bound
