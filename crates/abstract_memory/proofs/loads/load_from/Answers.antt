-- What is left to show of `load_from`: facts of the proof files, applied.
use Rattle.std.specs.Prelude.{◌↔◌}
use Rattle.std.proofs.Common.{◌≡◌, true, None, IfSome}
use Rattle.std.proofs.lemmas.Result.{IfOk-weaker}
use Rattle.alf_check.specs.Shapes.{shapes_of}
use Rattle.alf_ops.specs.declared.history.RunFault.{RunFault}
use Rattle.domain_core.specs.FaultSets.{has_fault}
use Rattle.pointer_rules.specs.Covering.{IsValue}
use Rattle.memory_rules.specs.AbstractSets.{abstract_sets}
use Rattle.memory_rules.specs.Addresses.{load_at, IsLoadFault}
use Rattle.memory_rules.specs.Memories.{joined_values}
use Rattle.memory_model.specs.HeldMemories.{memory_of}
use Rattle.abstract_memory.specs.Running.{runs_in}
use Rattle.abstract_memory.specs.OnlyCells.{pointer_to}
use Rattle.abstract_memory.proofs.OnlyCellLaws.{pointer_cell}
use Rattle.abstract_memory.proofs.loads.load_from.Goals as goal

pub returns-then-has_cell-clause-value : goal.returns-then-has_cell-clause-value
returns-then-has_cell-clause-value c =
    let rows = shapes_of c.args.rows.now in
    let at = pointer_to c.args.frame c.args.offset in
    let only = pointer_cell rows (runs_in c.args.running.now) c.args.frame c.args.offset c.args.size c.ranges.offset.fits c.requires.size (c.has_cell.ensures.0 c.if-has_cell.true) in
    IfOk-weaker c.load_lone.result _
    (λ loaded. loaded.0 ≡ joined_values abstract_sets None (load_at rows (memory_of c.args.running.now c.args.frames.now) at c.args.size))
    (λ loaded all. (all rows c.args.running.now at only).value) c.load_lone.ensures

pub returns-then-has_cell-clause-sized : goal.returns-then-has_cell-clause-sized
returns-then-has_cell-clause-sized c =
    let rows = shapes_of c.args.rows.now in
    let at = pointer_to c.args.frame c.args.offset in
    let only = pointer_cell rows (runs_in c.args.running.now) c.args.frame c.args.offset c.args.size c.ranges.offset.fits c.requires.size (c.has_cell.ensures.0 c.if-has_cell.true) in
    IfOk-weaker c.load_lone.result _ (λ loaded. IfSome loaded.0 (IsValue c.args.size))
    (λ loaded all. (all rows c.args.running.now at only).sized) c.load_lone.ensures

pub returns-then-has_cell-clause-faults : goal.returns-then-has_cell-clause-faults
returns-then-has_cell-clause-faults c =
    let rows = shapes_of c.args.rows.now in
    let at = pointer_to c.args.frame c.args.offset in
    let only = pointer_cell rows (runs_in c.args.running.now) c.args.frame c.args.offset c.args.size c.ranges.offset.fits c.requires.size (c.has_cell.ensures.0 c.if-has_cell.true) in
    IfOk-weaker c.load_lone.result _
    (λ loaded. (fault : RunFault) → (has_fault loaded.1 fault ≡ true) ↔ IsLoadFault rows (memory_of c.args.running.now c.args.frames.now) at c.args.size fault)
    (λ loaded all. (all rows c.args.running.now at only).faults) c.load_lone.ensures
