use Rattle.transfer_rules.proofs.WorkedRows.{first, first_not, second, second_not, decided}
use Rattle.transfer_rules.proofs.worked.a_comparison_cuts_its_place.Goals as goal

pub returns-clause-first : goal.returns-clause-first
returns-clause-first c = first

pub returns-clause-first_not : goal.returns-clause-first_not
returns-clause-first_not c = first_not

pub returns-clause-second : goal.returns-clause-second
returns-clause-second c = second

pub returns-clause-second_not : goal.returns-clause-second_not
returns-clause-second_not c = second_not

pub returns-clause-decided : goal.returns-clause-decided
returns-clause-decided c = decided
