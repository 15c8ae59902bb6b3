use Rattle.std.proofs.Common.{◌≡◌, ◌∷◌, List, Bool, true, map, sym, ap, subst, ◌∙◌, rules}
use Rattle.std.specs.List.{AllByRecursion}
use Rattle.alf_check.specs.declared.rows.Act.{Act}
use Rattle.alf_check.specs.CheckedPrograms.{CheckedParts, act_of}
use Rattle.memory_model.specs.KeptMemories.{memory_in, rows_of}
use Rattle.transfer_rules.specs.Doing.{after_statement, after_statements}
use Rattle.step_statements.specs.Typed.{IsTypedStatement}
use Rattle.step_statements.specs.Found.{done}
use Rattle.step_statements.proofs.FoundLaws.{next_statements}
use Rattle.step_statements.proofs.storing.do_statements.Goals as goal

pub loop-act-preserved : goal.loop-act-preserved
loop-act-preserved c =
    let inv = c.loop-act.invariant in
    let act = c.in-Some.act.now in
    let others = c.in-Some.others.now in
    let more = c.in_ok-goes_on.more in
    let m = memory_in c.loop-act.memory in
    let later = memory_in c.do_statement.new.memory in
    let cons : c.loop-act.rest.now ≡ act ∷ others = c.in-Some.ensures.cases.0 in
    let on : c.in_ok-goes_on.goes_on ≡ true = search rules in
    let told = subst (λ (checked : CheckedParts). done (c.in_ok-goes_on.goes_on, more) later ≡ after_statement (rows_of checked) (act_of act) m) inv.checked c.in_ok-goes_on.ensures.done in
    let is = sym told ∙ ap (λ (b : Bool). done (b, more) later) on in
    let typed = subst (λ (acts : List Act). AllByRecursion IsTypedStatement (map act_of acts)) cons inv.typed in
    record {
      typed = typed.1;
      checked = c.in_ok-goes_on.ensures.checked ∙ inv.checked;
      kept = c.in_ok-goes_on.ensures.kept;
      goes_on = next_statements (rows_of c.args.memory.now.checked) m later c.loop-act.rest.now others act c.loop-act.faults more c.union-faults.result
          (after_statements (rows_of c.args.memory.now.checked) (map act_of c.args.acts.now) (memory_in c.args.memory.now)) cons c.union-faults.ensures is inv.goes_on;
    }
