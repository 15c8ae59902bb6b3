-- What is left to show of `declarations_agree_with_definitions`.
use Rattle.lowering_layout.specs.DeclaredLaws.{entries_agree}
use Rattle.lowering_layout.proofs.function_laws.declarations_agree_with_definitions.Goals as goal

pub returns : goal.returns
returns c = entries_agree
