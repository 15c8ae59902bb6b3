use Rattle.std.proofs.Common.{map, ◌∙◌}
use Rattle.alf_program.specs.Tree.{allocation_of, initial_of}
use Rattle.alf_faults.specs.FoundFaults.{told}
use Rattle.alf_faults.specs.Faults.{start_faults}
use Rattle.alf_faults.proofs.Reading.{walk_found, walk_passed}
use Rattle.alf_faults.proofs.frame_faults.start_fault.Goals as goal

pub returns-in-Some : goal.returns-in-Some
returns-in-Some c =
    walk_found (start_faults (map allocation_of c.args.frames.now)) initial_of c.args.inits.now c.loop-init.init-index c.init-item.result (told c.in-Some.found) c.loop-init-test.true c.init-item.is c.in-Some.ensures
    ∙ c.loop-init.invariant

pub loop-init-preserved : goal.loop-init-preserved
loop-init-preserved c =
    walk_passed (start_faults (map allocation_of c.args.frames.now)) initial_of c.args.inits.now c.loop-init.init-index c.init-item.result c.loop-init-test.true c.init-item.is c.in_default.ensures
    ∙ c.loop-init.invariant
