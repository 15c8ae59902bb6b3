use Rattle.std.proofs.Common.{◌≡◌, ◌∷◌, [], List, ap, subst, ◌∙◌}
use Rattle.alf_check.specs.declared.rows.InputRow.{InputRow}
use Rattle.memory_rules.specs.Memories.{Mem}
use Rattle.memory_rules.specs.AbstractSets.{abstract_sets}
use Rattle.memory_model.specs.KeptMemories.{memory_in}
use Rattle.transfer_rules.specs.Filling.{with_inputs}
use Rattle.abstract_step.proofs.InputLaws.{first_input, later_inputs}
use Rattle.abstract_step.proofs.start.put_inputs.Goals as goal

pub put_input-requires-clause-room : goal.put_input-requires-clause-room
put_input-requires-clause-room c = first_input c.loop-row.memory c.in-Some.row.now c.in-Some.others.now c.loop-row.rest.now c.in-Some.ensures.cases.0 c.loop-row.invariant.room

pub loop-row-preserved : goal.loop-row-preserved
loop-row-preserved c =
    let inv = c.loop-row.invariant in
    let row = c.in-Some.row.now in
    let others = c.in-Some.others.now in
    let m = memory_in c.loop-row.memory in
    let cons : c.loop-row.rest.now ≡ row ∷ others = c.in-Some.ensures.cases.0 in
    let filled : memory_in c.put_input.new.memory ≡ with_inputs (row ∷ []) m = c.in_ok-put_input.ensures.filled in
    record {
      kept = c.in_ok-put_input.ensures.kept;
      checked = c.in_ok-put_input.ensures.checked ∙ inv.checked;
      room = later_inputs c.loop-row.memory c.put_input.new.memory row others c.loop-row.rest.now cons c.in_ok-put_input.ensures.checked (ap (λ (n : Mem abstract_sets). n.runs) filled) inv.room;
      goes_on = ap (λ (n : Mem abstract_sets). with_inputs others n) filled
          ∙ subst (λ (rows : List InputRow). with_inputs rows m ≡ with_inputs c.args.rows.now (memory_in c.args.memory.now)) cons inv.goes_on;
    }
