-- The two forms of a recorder.
--   sighted_count   either has a truth value for each node
use Rattle.std.proofs.Common.{◌≡◌, length}
use Rattle.recorder_rules.specs.GeneratedLaws.{length-generated}
use Rattle.pair_recorder.specs.declared.pairs.Form.{Form}
use Rattle.pair_recorder.specs.declared.pairs.Form.TheVariants as forms
use Rattle.pair_recorder.specs.Forms.{count_of, sighted}

-- either has a truth value for each node
pub sighted_count : (form : Form) → length (sighted form).seen ≡ count_of form
sighted_count (forms.Path count path) = length-generated count _
sighted_count (forms.Bits count bits) = length-generated count _
