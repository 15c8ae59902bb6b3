-- What was read is what the text means.
use Rattle.std.proofs.Common.{◌≡◌, map}
use Rattle.c_unit.specs.Tree.{external_of}
use Rattle.c_unit.specs.Units.{unit_of}
use Rattle.c_reader.specs.Reading.{word_in, fault_of}
use Rattle.c_text.specs.Language.{words_of, departure_of}
use Rattle.c_text.proofs.Meaning.{unit_spelled, told_means}
use Rattle.c_text.proofs.language.read.Goals as goal

pub returns-in-Ok-whole_unit-clause-printed : goal.returns-in-Ok-whole_unit-clause-printed
returns-in-Ok-whole_unit-clause-printed c =
    let bytes = c.args.bytes.now in
    let tokens = c.as_slice-tokens.result.now in
    let whole = unit_of c.in-Ok-whole_unit.unit in
    let words : map (word_in bytes) tokens ≡ words_of bytes = rw c.as_slice-tokens.ensures.value c.in-Ok.ensures.words in
    c.spelled_units_are_read_back.ensures.printed whole
    (bytes, unit_spelled bytes tokens (map external_of c.in-Ok-read_externals.externals.items) whole words c.in-Ok-read_externals.ensures.trees c.in-Ok-whole_unit.ensures)

pub returns-clause-departs : goal.returns-clause-departs
returns-clause-departs c = told_means c.args.bytes.now (departure_of c.told.result) (fault_of c.in-Err.departure) c.in-Err.ensures.fails c.told.ensures
