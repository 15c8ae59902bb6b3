use Rattle.transfer_rules.proofs.WorkedRows.{targets, extended, pointer, uninitialised}
use Rattle.transfer_rules.proofs.worked.a_switch_takes_words_alone.Goals as goal

pub returns-clause-targets : goal.returns-clause-targets
returns-clause-targets c = targets

pub returns-clause-extended : goal.returns-clause-extended
returns-clause-extended c = extended

pub returns-clause-pointer : goal.returns-clause-pointer
returns-clause-pointer c = pointer

pub returns-clause-uninitialised : goal.returns-clause-uninitialised
returns-clause-uninitialised c = uninitialised
