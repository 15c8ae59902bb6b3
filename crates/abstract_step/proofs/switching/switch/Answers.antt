use Rattle.std.proofs.Common.{◌≡◌, ◌++◌, ℕ, List, length, Some, sym, ap, subst, ◌∙◌}
use Rattle.std.specs.Prelude.{All, take, drop}
use Rattle.std.proofs.lemmas.List.{length-map}
use Rattle.alf_check.specs.CheckedPrograms.{CheckedParts, seen, term_of}
use Rattle.alf_runs.specs.Steps.{frames_of}
use Rattle.pointer_rules.specs.AbstractValues.{AbstractValue}
use Rattle.memory_model.specs.KeptMemories.{MemoryParts, memory_in, rows_of}
use Rattle.transfer_rules.specs.Remains.{goes_on}
use Rattle.transfer_rules.specs.Evaluating.{value_at}
use Rattle.transfer_rules.specs.Stepping.{arms, switched, pointer_fault}
use Rattle.branch_refinement.specs.Arms.{goals_of, IsArmOf}
use Rattle.abstract_step.specs.Standing.{path_at}
use Rattle.abstract_step.specs.Turns.{numbered_arm, IsTurn}
use Rattle.abstract_step.proofs.EndLaws.{arms_lead, arms_turn, arms_own, value_left}
use Rattle.abstract_step.proofs.TurnLaws.{turn_on}
use Rattle.abstract_step.proofs.ArmLaws.{whole}
use Rattle.abstract_step.proofs.switching.switch.Goals as goal

pub number-requires : goal.number-requires
number-requires c =
    let here = c.args.here.now in
    let e = term_of c.args.term.now in
    let m = memory_in c.args.memory in
    let points = c.deref_mut.result.now in
    let words = c.in-Some-int.words in
    let found : record { left = Some c.in-Some.value; faults = c.in_ok-value.faults } ≡ value_at (frames_of (seen here.checked)) m e =
    value_left here c.args.memory e c.in_ok-value.value c.in-Some.value c.in_ok-value.faults c.requires.own c.in-Some.is c.in_ok-value.ensures in
    let same : goals_of (path_at here) points ≡ arms (frames_of (seen here.checked)) m e (path_at here) c.args.targets.now c.args.others words =
    ap (goals_of (path_at here)) c.deref_mut.ensures.value ∙ c.in_ok-next.ensures.arms (path_at here)
    ∙ ap (λ (p : CheckedParts). arms (rows_of p) m e (path_at here) c.args.targets.now c.args.others words) c.requires.own.checked in
    arms_lead here e c.args.targets.now c.args.others m c.in-Some.value words c.in_ok-value.faults points c.requires.stands c.requires.own.is.sized found (sym c.int.ensures ∙ c.in-Some-int.is) same

pub returns : goal.returns
returns c =
    let here = c.args.here.now in
    let e = term_of c.args.term.now in
    let m = memory_in c.args.memory in
    let points = c.deref_mut.result.now in
    let words = c.in-Some-int.words in
    let found : record { left = Some c.in-Some.value; faults = c.in_ok-value.faults } ≡ value_at (frames_of (seen here.checked)) m e =
    value_left here c.args.memory e c.in_ok-value.value c.in-Some.value c.in_ok-value.faults c.requires.own c.in-Some.is c.in_ok-value.ensures in
    let same : goals_of (path_at here) points ≡ arms (frames_of (seen here.checked)) m e (path_at here) c.args.targets.now c.args.others words =
    ap (goals_of (path_at here)) c.deref_mut.ensures.value ∙ c.in_ok-next.ensures.arms (path_at here)
    ∙ ap (λ (p : CheckedParts). arms (rows_of p) m e (path_at here) c.args.targets.now c.args.others words) c.requires.own.checked in
    let own = arms_own here c.args.memory c.requires.own points (subst (λ (ps : List (ℕ × MemoryParts)). All (IsArmOf c.args.memory) ps) (sym c.deref_mut.ensures.value) c.in_ok-next.ensures.each) in
    let told : c.pointer_fault.result ≡ pointer_fault c.in-Some.value.places = c.pointer_fault.ensures ∙ ap pointer_fault c.at.ensures.value in
    let many : c.in_ok-next.next.len ≡ length c.number.new.arms =
    sym c.deref_mut.ensures.len ∙ sym (length-map points (numbered_arm here)) ∙ ap length (sym c.number.ensures) in
    let all : take c.in_ok-next.next.len (c.number.new.arms ++ drop (length c.number.new.arms) c.in_ok-next.next.items) ≡ c.number.new.arms =
    whole (ℕ × MemoryParts) c.number.new.arms c.in_ok-next.next.items c.in_ok-next.next.len many in
    subst (λ (ps : List (ℕ × MemoryParts)). IsTurn here ps c.union-faults.result (goes_on (value_at (frames_of (seen here.checked)) m e) (switched (frames_of (seen here.checked)) m e (path_at here) c.args.targets.now c.args.others)))
    (sym all)
    (turn_on AbstractValue here c.number.new.arms c.union-faults.result c.in_ok-value.faults c.pointer_fault.result c.in-Some.value (value_at (frames_of (seen here.checked)) m e)
    (switched (frames_of (seen here.checked)) m e (path_at here) c.args.targets.now c.args.others) found c.union-faults.ensures
    (arms_turn here e c.args.targets.now c.args.others m c.in-Some.value words c.pointer_fault.result points c.number.new.arms (sym c.int.ensures ∙ c.in-Some-int.is) told same own c.number.ensures))
