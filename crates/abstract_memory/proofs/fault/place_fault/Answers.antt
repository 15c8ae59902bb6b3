use Rattle.std.proofs.Common.{slice_get}
use Rattle.alf_check.specs.Shapes.{shapes_of}
use Rattle.abstract_memory.specs.Running.{runs_in}
use Rattle.abstract_memory.proofs.Faulty.{dead_told}
use Rattle.abstract_memory.proofs.fault.place_fault.Goals as goal

pub returns-in-None : goal.returns-in-None
returns-in-None c = λ fault. rw (c.with.ensures, c.none.ensures)
    (dead_told (slice_get (shapes_of c.args.rows.now) c.args.place.now.0) (runs_in c.args.running.now) c.args.place.now c.args.size fault c.requires.place c.in-None.ensures)
