-- Where items stand among those of a function, and where labels lead.
--   Stands all items         the items of the function end with these
--   StandOnce within all     each label of the function stands at most once among its items
use Rattle.std.proofs.Common.{◌≡◌, List, ◌++◌}
use Rattle.alf_program.specs.Tree.{BodyItem, Label, Do}
use Rattle.c_lowered.specs.Conditions.{Within}

-- the items end with these
pub record Stands (all items : List BodyItem) : Type 0 where
  pub before : List BodyItem
  pub so : before ++ items ≡ all

-- ---- what follows items

module _ (all : List BodyItem) (within : Within) where
  -- where items stand, the rest does
  abbrev pub Follows : List BodyItem → List BodyItem → Type 0
  Follows rest items = Stands all items → Stands all rest
