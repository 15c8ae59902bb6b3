use Rattle.alf_ops.specs.Table.{size_of_result}
use Rattle.alf_ops.proofs.Rotations.{moves_round}
use Rattle.alf_ops.proofs.WordReadings.{word_below, truncates, splits, selects_bytes, concatenates}
use Rattle.alf_ops.proofs.laws.words_are_cut_and_computed.Goals as goal

pub returns-clause-fits : goal.returns-clause-fits
returns-clause-fits c = λ op sizes args. word_below (size_of_result op sizes) _

pub returns-clause-truncated : goal.returns-clause-truncated
returns-clause-truncated c = truncates

pub returns-clause-rotated : goal.returns-clause-rotated
returns-clause-rotated c = moves_round

pub returns-clause-lesser : goal.returns-clause-lesser
returns-clause-lesser c = splits

pub returns-clause-selected : goal.returns-clause-selected
returns-clause-selected c = selects_bytes

pub returns-clause-concatenated : goal.returns-clause-concatenated
returns-clause-concatenated c = concatenates
