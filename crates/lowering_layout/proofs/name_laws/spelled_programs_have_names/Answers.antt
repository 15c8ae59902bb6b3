-- What is left to show of `spelled_programs_have_names`.
use Rattle.lowering_layout.specs.CheckedLaws.{program_has_names}
use Rattle.lowering_layout.proofs.name_laws.spelled_programs_have_names.Goals as goal

pub returns : goal.returns
returns c = program_has_names
