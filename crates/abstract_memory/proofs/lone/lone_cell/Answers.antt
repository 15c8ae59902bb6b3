use Rattle.alf_check.specs.Shapes.{shapes_of}
use Rattle.abstract_memory.specs.Running.{runs_in}
use Rattle.abstract_memory.proofs.OnlyCellLaws.{only_cell}
use Rattle.abstract_memory.proofs.lone.lone_cell.Goals as goal

pub returns-then-has_cell : goal.returns-then-has_cell
returns-then-has_cell c =
    only_cell (shapes_of c.args.rows.now) (runs_in c.args.running.now) c.args.at.now c.args.size (c.in_ok-frame.frame, c.in_ok-frame.offset)
    c.requires.address c.requires.size c.in_ok-frame.ensures (c.has_cell.ensures.0 c.if-has_cell.true)
