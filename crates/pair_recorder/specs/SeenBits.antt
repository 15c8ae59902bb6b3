-- What a recorder has seen, as bits: one for each node, and after these one for each two.
--   bit_sightings n bits   what has been seen of n nodes
--   AreBits n bits         there are as many words as these bits have
use Rattle.std.specs.Prelude.{ℕ, List, take, drop}
use Rattle.recorder_rules.specs.PairRules.{Sightings}
use Rattle.recorder_rules.specs.BitWords.{words_for}
use Rattle.recorder_rules.specs.Seen.{sightings, AreSized}

-- what has been seen of n nodes
abbrev pub bit_sightings : ℕ → List ℕ → Sightings
bit_sightings n bits = sightings n (take (words_for n) bits) (drop (words_for n) bits)

-- there are as many words as these bits have
abbrev pub AreBits : ℕ → List ℕ → Type 0
AreBits n bits = AreSized n (take (words_for n) bits) (drop (words_for n) bits)
