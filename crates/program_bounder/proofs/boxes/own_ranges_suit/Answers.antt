-- What is promised of analyses and runs of programs, and what the bounder is given.
use Rattle.alf_check.specs.CheckedPrograms.{seen}
use Rattle.program_bounder.proofs.InputRowLemmas.{are_ranges}
use Rattle.program_bounder.specs.PathBounding.{Promises}
use Rattle.program_bounder.proofs.Suiting.{suits_own}
use Rattle.program_bounder.proofs.boxes.own_ranges_suit.Goals as goal

pub returns : goal.returns
returns c =
    let b = c.args.bounder.now in
    let promises : Promises = record {
      right = c.found_reports_are_right.ensures;
      one = c.a_program_has_one_bounded_analysis.ensures.one;
      exact = c.an_input_alone_is_told_exactly.ensures;
      agree = c.bounds_of_an_input_alone_agree.ensures;
      ends = c.a_run_has_one_end.ensures.one;
    } in
    record {
      suits = suits_own b promises c.keeps.ensures c.requires.graph c.requires.rows c.kept.ensures c.requires.outline c.requires.named c.requires.costs c.requires.turns;
      ranges = are_ranges (seen b.checked) b.rows.items c.requires.rows.each;
    }
