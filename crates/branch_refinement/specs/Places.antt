-- Places as code keeps them.
--   seen_place place          the place as the rules name it
--   placed size extended cell   the place of a load of the cell, if there is one
--   PinFits rows size place   the cell lies in its frame, and the place is one of an expression of this size
use Rattle.std.specs.Prelude.{ℕ, Bool, List, Option}
use Rattle.std.specs.Option.{option_map}
use Rattle.alf_ops.specs.declared.history.FrameShape.{FrameShape}
use Rattle.abstract_memory.specs.Cells.{IsCellOf}
use Rattle.transfer_rules.specs.Refining.{Place as SeenPlace}
use Rattle.transfer_rules.specs.PlaceLaws.{PlaceFits}
use Rattle.branch_refinement.specs.declared.refinements.Place.{Place}

-- the place as the rules name it
abbrev pub seen_place : Place → SeenPlace
seen_place place = record { cell = place.cell; size = place.size; extended = place.extended }

-- the place of a load of the cell, if there is one
abbrev pub placed : ℕ → Bool → Option (ℕ × ℕ) → Option SeenPlace
placed size extended cell = option_map (λ (c : ℕ × ℕ). record { cell = c; size = size; extended = extended }) cell

-- the cell lies in its frame, and the place is one of an expression of this size
pub record PinFits (rows : List FrameShape) (size : ℕ) (place : Place) : Type 0 where
  pub lies : IsCellOf rows place.cell.0 place.cell.1 place.size
  pub fits : PlaceFits (seen_place place) size
