use Rattle.transfer_rules.proofs.WorkedRows.{call_enters, call_returns}
use Rattle.transfer_rules.proofs.worked.a_call_enters_and_returns.Goals as goal

pub returns-clause-called : goal.returns-clause-called
returns-clause-called c = call_enters

pub returns-clause-returned : goal.returns-clause-returned
returns-clause-returned c = call_returns
