use Rattle.std.proofs.Common.{◌≡◌, ℕ, List, map, Some, sym, subst}
use Rattle.alf_check.specs.CheckedPrograms.{seen, term_of}
use Rattle.alf_runs.specs.Steps.{frames_of}
use Rattle.pointer_rules.specs.AbstractValues.{AbstractValue}
use Rattle.memory_model.specs.KeptMemories.{MemoryParts, memory_in}
use Rattle.transfer_rules.specs.Evaluating.{arguments_at}
use Rattle.transfer_rules.specs.Stepping.{call_to}
use Rattle.abstract_step.specs.Standing.{path_at}
use Rattle.abstract_step.specs.Turns.{IsTurn}
use Rattle.abstract_step.proofs.EndLaws.{arguments_typed, call_fits, values_left}
use Rattle.abstract_step.proofs.TurnLaws.{turn_on}
use Rattle.abstract_step.proofs.calling.call.Goals as goal

pub evaluate_arguments-requires-clause-typed : goal.evaluate_arguments-requires-clause-typed
evaluate_arguments-requires-clause-typed c = arguments_typed c.args.here.now c.args.func (map term_of c.args.args.now) c.requires.stands

pub go_in-requires-clause-call : goal.go_in-requires-clause-call
go_in-requires-clause-call c =
    let here = c.args.here.now in
    let es = map term_of c.args.args.now in
    let found : record { left = Some c.deref.result.now; faults = c.in_ok-values.faults } ≡ arguments_at (frames_of (seen here.checked)) (memory_in c.args.memory) es =
    values_left here c.args.memory es c.in_ok-values.values c.in-Some.values c.deref.result.now c.in_ok-values.faults c.requires.own c.in-Some.is c.deref.ensures.value c.in_ok-values.ensures in
    call_fits here c.args.func es (memory_in c.args.memory) c.deref.result.now c.in_ok-values.faults c.requires.stands c.requires.own.is.sized found

pub returns : goal.returns
returns c = λ block next to stands.
    let here = c.args.here.now in
    let es = map term_of c.args.args.now in
    let m = memory_in c.args.memory in
    let found : record { left = Some c.deref.result.now; faults = c.in_ok-values.faults } ≡ arguments_at (frames_of (seen here.checked)) m es =
    values_left here c.args.memory es c.in_ok-values.values c.in-Some.values c.deref.result.now c.in_ok-values.faults c.requires.own c.in-Some.is c.deref.ensures.value c.in_ok-values.ensures in
    let stepped = c.in_ok-stepped-in-Some.stepped in
    turn_on (List AbstractValue) here c.after.result.next.items c.after.result.faults c.in_ok-values.faults stepped.faults c.deref.result.now (arguments_at (frames_of (seen here.checked)) m es)
    (call_to (seen here.checked) (path_at here) block c.args.func m) found c.after.ensures.faults
    (subst (λ (points : List (ℕ × MemoryParts)). IsTurn here points stepped.faults (call_to (seen here.checked) (path_at here) block c.args.func m c.deref.result.now)) (sym c.after.ensures.next)
    (c.in_ok-stepped-in-Some.ensures block next es to stands))
