-- What a switch's expression tells.
--   sides_by rel first second m   the memory where the relation holds between the sides; none where nothing is left of one
--   refined_by r m arm            the memory of an arm with these words; none where the arm is absent
--   there on m                    the memory, if it is there
--   of_place place                what an expression tells that is no comparison
--   IsComparing rows m rel x y r  it is what a comparison of these sides tells
--   IsRefinement rows m e r       it is what the expression tells
--   Refines rows size r           its places lie in their frames, and have the sizes of words that are pinned
use Rattle.std.specs.Prelude.{◌≡◌, ℕ, Bool, List, Option, Some, None, if◌then◌else◌}
use Rattle.std.specs.Option.{option_map}
use Rattle.alf_ops.specs.declared.history.FrameShape.{FrameShape}
use Rattle.alf_program.specs.Tree.{NumberedExpression}
use Rattle.domain_core.specs.declared.relation.Rel.{Rel}
use Rattle.strided_rules.specs.Strides.{Stride}
use Rattle.strided_rules.specs.Members.{is_one, word_of}
use Rattle.memory_rules.specs.Memories.{Mem}
use Rattle.memory_rules.specs.AbstractSets.{abstract_sets}
use Rattle.transfer_rules.specs.Refining.{Comparison, place_of, comparison_of, pinned_to, pinned_sides, rel_at}
use Rattle.branch_refinement.specs.declared.refinements.Place.{Place}
use Rattle.branch_refinement.specs.declared.refinements.Side.{Side}
use Rattle.branch_refinement.specs.declared.refinements.Refinement.{Refinement}
use Rattle.branch_refinement.specs.declared.refinements.Refinement.TheVariants.{Nothing, At, Between}
use Rattle.branch_refinement.specs.Places.{seen_place, PinFits}
use Rattle.branch_refinement.specs.Sides.{IsSide, SideFits}

-- the memory where the relation holds between the sides
abbrev pub sides_by : Rel → Side → Side → Mem abstract_sets → Option (Mem abstract_sets)
sides_by rel first second m = pinned_sides rel (option_map seen_place first.place) first.words (option_map seen_place second.place) second.words m

-- the memory of an arm with these words
abbrev pub refined_by : Refinement → Mem abstract_sets → Stride → Option (Mem abstract_sets)
refined_by Nothing m arm = Some m
refined_by (At place) m arm = Some (pinned_to m (seen_place place) arm)
refined_by (Between rel first second) m arm = if is_one arm then sides_by (rel_at rel (word_of arm)) first second m else Some m

-- the memory, if it is there
abbrev pub there : Bool → Mem abstract_sets → Option (Mem abstract_sets)
there on m = if on then Some m else None

-- what an expression tells that is no comparison
abbrev pub of_place : Option Place → Refinement
of_place None = Nothing
of_place (Some place) = At place

-- it is what a comparison of these sides tells
abbrev pub IsComparing : List FrameShape → Mem abstract_sets → Rel → NumberedExpression → NumberedExpression
    → Refinement → Type 0
IsComparing rows m rel x y Nothing = ⊥
IsComparing rows m rel x y (At place) = ⊥
IsComparing rows m rel x y (Between own first second) = (own ≡ rel) × IsSide rows m x first × IsSide rows m y second

-- the expression compares the two sides, and is no place
pub record IsBetween (rows : List FrameShape) (m : Mem abstract_sets) (e : NumberedExpression) (rel : Rel)
    (first second : Side) : Type 0 where
  pub c : Comparison
  pub is : comparison_of e ≡ Some c
  pub related : c.rel ≡ rel
  pub left : IsSide rows m c.first first
  pub right : IsSide rows m c.second second
  pub no_place : place_of rows m e ≡ None

-- it is what the expression tells
abbrev pub IsRefinement : List FrameShape → Mem abstract_sets → NumberedExpression → Refinement → Type 0
IsRefinement rows m e Nothing = (place_of rows m e ≡ None) × (comparison_of e ≡ None)
IsRefinement rows m e (At place) = place_of rows m e ≡ Some (seen_place place)
IsRefinement rows m e (Between rel first second) = IsBetween rows m e rel first second

-- both sides fit one size
pub record SidesFit (rows : List FrameShape) (first second : Side) : Type 0 where
  pub size : ℕ
  pub left : SideFits rows size first
  pub right : SideFits rows size second

-- its places lie in their frames, and have the sizes of words that are pinned
abbrev pub Refines : List FrameShape → ℕ → Refinement → Type 0
Refines rows size Nothing = Unit {0}
Refines rows size (At place) = PinFits rows size place
Refines rows size (Between rel first second) = SidesFit rows first second
