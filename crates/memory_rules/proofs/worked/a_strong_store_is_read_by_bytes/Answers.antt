use Rattle.memory_rules.proofs.WorkedRows.{whole, lowest, second, past, of_pointer}
use Rattle.memory_rules.proofs.worked.a_strong_store_is_read_by_bytes.Goals as goal

pub returns-clause-whole : goal.returns-clause-whole
returns-clause-whole c = whole

pub returns-clause-lowest : goal.returns-clause-lowest
returns-clause-lowest c = lowest

pub returns-clause-next : goal.returns-clause-next
returns-clause-next c = second

pub returns-clause-past : goal.returns-clause-past
returns-clause-past c = past

pub returns-clause-of_pointer : goal.returns-clause-of_pointer
returns-clause-of_pointer c = of_pointer
