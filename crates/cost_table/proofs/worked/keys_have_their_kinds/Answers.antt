-- What is left to show of `keys_have_their_kinds`.
use Rattle.std.proofs.Common.{refl}
use Rattle.cost_table.proofs.worked.keys_have_their_kinds.Goals as goal

pub returns-clause-number : goal.returns-clause-number
returns-clause-number c = refl

pub returns-clause-no_number : goal.returns-clause-no_number
returns-clause-no_number c = refl

pub returns-clause-text : goal.returns-clause-text
returns-clause-text c = refl

pub returns-clause-absent : goal.returns-clause-absent
returns-clause-absent c = refl

pub returns-clause-tables : goal.returns-clause-tables
returns-clause-tables c = refl

pub returns-clause-no_table : goal.returns-clause-no_table
returns-clause-no_table c = refl

pub returns-clause-all_keys : goal.returns-clause-all_keys
returns-clause-all_keys c = refl
