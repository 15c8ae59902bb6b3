-- What is left to show of `lowered_programs_have_few_bytes`.
use Rattle.lowering_layout.specs.Texts.{IsIdentifier}
use Rattle.c_limits.specs.ByteLaws.{few_bytes}
use Rattle.c_limits.proofs.size_laws.lowered_programs_have_few_bytes.Goals as goal

pub returns : goal.returns
returns c unit counted few = few_bytes unit IsIdentifier counted few
