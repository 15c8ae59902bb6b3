use Rattle.alf_ops.specs.Histories.{load}
use Rattle.alf_ops.proofs.Cells.{load_empty, load_pointer, load_word, exactly_one}
use Rattle.alf_ops.proofs.laws.a_load_reads_its_bytes.Goals as goal

pub returns-clause-empty : goal.returns-clause-empty
returns-clause-empty c = load_empty

pub returns-clause-mixed : goal.returns-clause-mixed
returns-clause-mixed c = load_pointer

pub returns-clause-word : goal.returns-clause-word
returns-clause-word c = load_word

pub returns-clause-one_answer : goal.returns-clause-one_answer
returns-clause-one_answer c = λ frames history place size. exactly_one (load frames history place size)
