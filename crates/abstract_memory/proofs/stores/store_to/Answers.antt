-- What is left to show of `store_to`: facts of the proof files, applied.
use Rattle.std.specs.Prelude.{◌≢◌, ◌↔◌, IsTrue}
use Rattle.std.proofs.Common.{◌≡◌, ◌∙◌, true, [], ap, subst}
use Rattle.std.proofs.lemmas.Result.{IfOk-weaker, on_ok_weaker}
use Rattle.alf_check.specs.Shapes.{shapes_of}
use Rattle.alf_ops.specs.declared.history.RunFault.{RunFault}
use Rattle.domain_core.specs.FaultSets.{has_fault}
use Rattle.pointer_rules.specs.AbstractValues.{Places, alone}
use Rattle.memory_rules.specs.Addresses.{cells_of, IsAddressFault}
use Rattle.abstract_memory.specs.Running.{runs_in}
use Rattle.abstract_memory.specs.OnlyCells.{pointer_to}
use Rattle.abstract_memory.proofs.OnlyCellLaws.{pointer_cell}
use Rattle.abstract_memory.proofs.stores.store_to.Goals as goal

pub returns-then-has_cell-clause-changes : goal.returns-then-has_cell-clause-changes
returns-then-has_cell-clause-changes c =
    let rows = shapes_of c.args.rows.now in
    let runs = runs_in c.args.running.now in
    let only = pointer_cell rows runs c.args.frame c.args.offset c.args.size c.ranges.offset.fits c.requires.size (c.has_cell.ensures.0 c.if-has_cell.true) in
    on_ok_weaker c.store_lone.result (λ all. all rows runs (pointer_to c.args.frame c.args.offset) only) c.store_lone.ensures.changes

pub returns-then-has_cell-clause-goes_on : goal.returns-then-has_cell-clause-goes_on
returns-then-has_cell-clause-goes_on c =
    let rows = shapes_of c.args.rows.now in
    let runs = runs_in c.args.running.now in
    let at = pointer_to c.args.frame c.args.offset in
    let only = pointer_cell rows runs c.args.frame c.args.offset c.args.size c.ranges.offset.fits c.requires.size (c.has_cell.ensures.0 c.if-has_cell.true) in
    IfOk-weaker c.store_lone.result _ (λ stored. IsTrue stored.0 ↔ (cells_of rows runs at.places c.args.size ≢ []))
    (λ stored all. all rows runs at only) c.store_lone.ensures.goes_on

pub returns-then-has_cell-clause-faults : goal.returns-then-has_cell-clause-faults
returns-then-has_cell-clause-faults c =
    let rows = shapes_of c.args.rows.now in
    let runs = runs_in c.args.running.now in
    let at = pointer_to c.args.frame c.args.offset in
    let only = pointer_cell rows runs c.args.frame c.args.offset c.args.size c.ranges.offset.fits c.requires.size (c.has_cell.ensures.0 c.if-has_cell.true) in
    IfOk-weaker c.store_lone.result _ (λ stored. (fault : RunFault) → (has_fault stored.1 fault ≡ true) ↔ IsAddressFault rows runs at c.args.size fault)
    (λ stored all. all rows runs at only) c.store_lone.ensures.faults

pub returns-clause-goes_on : goal.returns-clause-goes_on
returns-clause-goes_on c =
    let rows = shapes_of c.args.rows.now in
    let runs = runs_in c.args.running.now in
    IfOk-weaker c.store_through.result _ (λ stored. IsTrue stored.0 ↔ (cells_of rows runs (pointer_to c.args.frame c.args.offset).places c.args.size ≢ []))
    (λ stored is. subst (λ places. IsTrue stored.0 ↔ (cells_of rows runs places c.args.size ≢ [])) (ap (λ v. v.places) (c.in_ok-at.ensures ∙ ap (λ d. alone (Places c.args.frame d)) c.one_word.ensures)) is) c.store_through.ensures.goes_on
