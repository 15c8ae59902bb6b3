-- What canonical texts promise.
--   CanonicalTextsSpell      the canonical text of each program that some text spells is a spelling of it
use Rattle.alf_program.specs.Tree.{WholeProgram}
use Rattle.alf_text.specs.Language.{SpellsProgram, IsSpelled}
use Rattle.alf_text.specs.Canonical.{canonical_text}

abbrev pub CanonicalTextsSpell : Type 0
CanonicalTextsSpell = (whole : WholeProgram) → IsSpelled whole → SpellsProgram (canonical_text whole) whole
