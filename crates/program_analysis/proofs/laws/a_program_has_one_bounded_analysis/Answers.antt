use Rattle.program_analysis.proofs.AlikeBoundLemmas.{one_bounded, longer_bounded, one_printed, longer_printed}
use Rattle.program_analysis.proofs.laws.a_program_has_one_bounded_analysis.Goals as goal

pub returns : goal.returns
returns c =
    let law = c.a_program_has_one_analysis.ensures in
    record {
      one = one_bounded law.one law.alike;
      longer = longer_bounded law.longer law.alike;
      printed = one_printed law.one law.alike law.events;
      printed_longer = longer_printed law.longer law.alike law.events;
    }
