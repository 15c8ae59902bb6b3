use Rattle.std.proofs.Common.{◌≡◌, Some}
use Rattle.alf_check.specs.CheckedPrograms.{seen, term_of}
use Rattle.alf_runs.specs.Steps.{frames_of}
use Rattle.memory_model.specs.KeptMemories.{memory_in}
use Rattle.transfer_rules.specs.Evaluating.{value_at}
use Rattle.abstract_step.proofs.EndLaws.{returned_taken, value_left}
use Rattle.abstract_step.proofs.ending.give_back.Goals as goal

pub leave-requires-clause-taken : goal.leave-requires-clause-taken
leave-requires-clause-taken c =
    let here = c.args.here.now in
    let e = term_of c.args.term.now in
    let found : record { left = Some c.in-Some.value; faults = c.in_ok-value.faults } ≡ value_at (frames_of (seen here.checked)) (memory_in c.args.memory) e =
    value_left here c.args.memory e c.in_ok-value.value c.in-Some.value c.in_ok-value.faults c.requires.own c.in-Some.is c.in_ok-value.ensures in
    returned_taken here c.args.block e (memory_in c.args.memory) c.in-Some.value c.in_ok-value.faults c.requires.stands c.requires.own.is.sized found
