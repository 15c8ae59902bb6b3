-- What is left to show of `paths_of_outlines_are_paths`.
use Rattle.domain_core.specs.Outlines.{Outlined}
use Rattle.pair_recorder.specs.declared.pairs.Form.{Form}
use Rattle.pair_recorder.specs.declared.pairs.Form.TheVariants as forms
use Rattle.pair_recorder.specs.Paths.{IsSmall}
use Rattle.pair_recorder.specs.Forms.{IsPath, IsPathOf}
use Rattle.pair_recorder.proofs.worked.paths_of_outlines_are_paths.Goals as goal

path_of : (o : Outlined) (form : Form) → IsPathOf o form → IsPath form
path_of o (forms.Path count path) is = tt
path_of o (forms.Bits count bits) is = is

small_of : (o : Outlined) (form : Form) → IsPathOf o form → IsSmall o
small_of o (forms.Path count path) is = is.0
small_of o (forms.Bits count bits) is = absurd is

pub returns-clause-path : goal.returns-clause-path
returns-clause-path c = path_of

pub returns-clause-small : goal.returns-clause-small
returns-clause-small c = small_of
