-- The two forms of a recorder of pairs.
--   count_of form   of how many nodes it is
--   sighted form    what it has seen
--   IsKept form     the nodes of a path are nodes, and there are as many words as bits have
--   IsPath form     it is a path
--   IsPathOf o form   it is a path whose scopes are those of its nodes in the outline, which has numbers of 16 bits
use Rattle.std.specs.Prelude.{ℕ}
use Rattle.domain_core.specs.Outlines.{Outlined, shape_of}
use Rattle.recorder_rules.specs.PairRules.{Sightings}
use Rattle.pair_recorder.specs.Paths.{path_sightings, AreBelow, AreOwn, IsSmall}
use Rattle.pair_recorder.specs.SeenBits.{bit_sightings, AreBits}
use Rattle.pair_recorder.specs.declared.pairs.Form.{Form}
use Rattle.pair_recorder.specs.declared.pairs.Form.TheVariants as forms

-- of how many nodes it is
abbrev pub count_of : Form → ℕ
count_of (forms.Path count path) = count
count_of (forms.Bits count bits) = count

-- what it has seen
abbrev pub sighted : Form → Sightings
sighted (forms.Path count path) = path_sightings count path.items
sighted (forms.Bits count bits) = bit_sightings count bits.items

-- the nodes of a path are nodes, and there are as many words as bits have
abbrev pub IsKept : Form → Type 0
IsKept (forms.Path count path) = AreBelow count path.items
IsKept (forms.Bits count bits) = AreBits count bits.items

-- it is a path
abbrev pub IsPath : Form → Type 0
IsPath (forms.Path count path) = Unit {0}
IsPath (forms.Bits count bits) = ⊥

-- it is a path whose scopes are those of its nodes in the outline, which has numbers of 16 bits
abbrev pub IsPathOf : Outlined → Form → Type 0
IsPathOf o (forms.Path count path) = IsSmall o × AreOwn (shape_of o) path.items
IsPathOf o (forms.Bits count bits) = ⊥
