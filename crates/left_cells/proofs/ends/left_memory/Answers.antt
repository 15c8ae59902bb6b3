use Rattle.std.proofs.Common.{◌≡◌, Bool, map, subst}
use Rattle.alf_check.specs.CheckedPrograms.{act_of}
use Rattle.memory_model.specs.KeptMemories.{memory_in, rows_of}
use Rattle.transfer_rules.specs.Doing.{after_statements}
use Rattle.step_statements.specs.Found.{done}
use Rattle.left_cells.proofs.Leaving.{each_typed, left_stands, left_runs, none_left}
use Rattle.left_cells.proofs.ends.left_memory.Goals as goal

pub do_statements-requires-clause-typed : goal.do_statements-requires-clause-typed
do_statements-requires-clause-typed c =
    each_typed c.values_have_their_size.ensures.value c.args.memory.checked (map act_of c.args.acts.now) c.args.memory c.requires.kept.sized c.requires.keep

pub returns : goal.returns
returns c =
    let acts = map act_of c.args.acts.now in
    let done_is = subst (λ (on : Bool). done (on, c.in_ok-goes_on.field-0-1) (memory_in c.do_statements.new.memory) ≡ after_statements (rows_of c.args.memory.checked) acts (memory_in c.args.memory)) c.if-not-goes_on.false c.in_ok-goes_on.ensures.done in
    let sizes = c.values_have_their_size.ensures.value in
    record {
      like = record {
        checked = c.in_ok-goes_on.ensures.checked;
        is = c.in_ok-goes_on.ensures.kept;
        runs = left_runs sizes c.args.memory.checked acts c.args.memory c.requires.kept.sized c.requires.keep c.do_statements.new.memory c.in_ok-goes_on.field-0-1 done_is;
      };
      stands = left_stands sizes c.args.memory.checked acts c.args.memory c.requires.kept.sized c.requires.keep c.do_statements.new.memory c.in_ok-goes_on.field-0-1 done_is;
    }

pub returns-then-not-goes_on-clause-stands : goal.returns-then-not-goes_on-clause-stands
returns-then-not-goes_on-clause-stands c =
    let acts = map act_of c.args.acts.now in
    none_left c.values_have_their_size.ensures.value c.args.memory.checked acts c.args.memory c.requires.kept.sized c.requires.keep
    (memory_in c.do_statements.new.memory) c.in_ok-goes_on.field-0-1
    (subst (λ (on : Bool). done (on, c.in_ok-goes_on.field-0-1) (memory_in c.do_statements.new.memory) ≡ after_statements (rows_of c.args.memory.checked) acts (memory_in c.args.memory)) c.if-not-goes_on.true c.in_ok-goes_on.ensures.done)
