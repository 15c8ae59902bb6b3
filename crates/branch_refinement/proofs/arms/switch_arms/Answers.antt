use Rattle.alf_check.specs.CheckedPrograms.{term_of}
use Rattle.memory_model.specs.KeptMemories.{memory_in, rows_of}
use Rattle.branch_refinement.proofs.Tellings.{is_refined, refinement_fits}
use Rattle.branch_refinement.proofs.ArmLists.{all_arms_are}
use Rattle.branch_refinement.proofs.arms.switch_arms.Goals as goal

pub arms_by-requires-clause-fits : goal.arms_by-requires-clause-fits
arms_by-requires-clause-fits c =
    refinement_fits c.args.memory (term_of c.args.value.now) c.args.given.now c.args.words c.in_ok-told.told c.requires.kept c.requires.typed c.requires.given c.requires.words
    c.in_ok-told.ensures

pub returns-clause-arms : goal.returns-clause-arms
returns-clause-arms c =
    let rows = rows_of c.args.memory.checked in
    let m = memory_in c.args.memory in
    let e = term_of c.args.value.now in
    let r = c.in_ok-told.told in
    all_arms_are rows m e r (is_refined rows m e r c.in_ok-told.ensures) c.args.targets.now c.args.others c.args.words c.arms_by.result c.arms_by.ensures.arms
