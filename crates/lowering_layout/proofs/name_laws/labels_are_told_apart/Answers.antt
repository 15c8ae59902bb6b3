-- What is left to show of `labels_are_told_apart`.
use Rattle.lowering_layout.proofs.DifferLemmas.{labels_differ}
use Rattle.lowering_layout.specs.DifferLaws.{label_is_no_function}
use Rattle.lowering_layout.proofs.name_laws.labels_are_told_apart.Goals as goal

pub returns-clause-told : goal.returns-clause-told
returns-clause-told c = labels_differ

pub returns-clause-alone : goal.returns-clause-alone
returns-clause-alone c = label_is_no_function
