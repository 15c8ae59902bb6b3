-- The frames of a program as runs take them.
--   shapes_of rows   for each frame its owner and its size
use Rattle.std.specs.Prelude.{List, map}
use Rattle.alf_ops.specs.declared.history.FrameShape.{FrameShape}
use Rattle.alf_check.specs.declared.rows.FrameRow.{FrameRow}

-- for each frame its owner and its size
abbrev pub shapes_of : List FrameRow → List FrameShape
shapes_of rows = map (λ row. record { owner = row.owner; bits = row.bits }) rows
