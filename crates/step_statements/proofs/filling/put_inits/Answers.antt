use Rattle.std.proofs.Common.{◌≡◌, ◌∷◌, [], List, ap, subst, ◌∙◌}
use Rattle.alf_check.specs.declared.rows.InitRow.{InitRow}
use Rattle.memory_rules.specs.Memories.{Mem}
use Rattle.memory_rules.specs.AbstractSets.{abstract_sets}
use Rattle.memory_model.specs.KeptMemories.{memory_in}
use Rattle.transfer_rules.specs.Filling.{with_inits}
use Rattle.step_statements.proofs.RoomLaws.{later_room}
use Rattle.step_statements.proofs.filling.put_inits.Goals as goal

pub loop-init-preserved : goal.loop-init-preserved
loop-init-preserved c =
    let inv = c.loop-init.invariant in
    let init = c.in-Some.init.now in
    let others = c.in-Some.others.now in
    let m = memory_in c.loop-init.memory in
    let cons : c.loop-init.rest.now ≡ init ∷ others = c.in-Some.ensures.cases.0 in
    let filled : memory_in c.put_word.new.memory ≡ with_inits (init ∷ []) m = c.in_ok-put_word.ensures.filled in
    record {
      kept = c.in_ok-put_word.ensures.kept;
      checked = c.in_ok-put_word.ensures.checked ∙ inv.checked;
      room = later_room c.loop-init.memory c.put_word.new.memory init others c.loop-init.rest.now cons c.in_ok-put_word.ensures.checked (ap (λ (n : Mem abstract_sets). n.runs) filled) inv.room;
      goes_on = ap (λ (n : Mem abstract_sets). with_inits others n) filled
          ∙ subst (λ (inits : List InitRow). with_inits inits m ≡ with_inits c.args.inits.now (memory_in c.args.memory.now)) cons inv.goes_on;
    }
