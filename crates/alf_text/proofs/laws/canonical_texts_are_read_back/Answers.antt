-- What some text spells is writable, and then its canonical text spells it.
use Rattle.alf_text.proofs.laws.canonical_texts_are_read_back.Goals as goal

pub returns : goal.returns
returns c = record {
  spelled = λ whole s. c.writable_programs_are_spelled.ensures.canonical whole ((c.writable_programs_are_spelled.ensures.exactly whole).0 s);
}
