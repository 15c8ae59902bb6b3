-- Some text spells a program exactly where it is writable.
use Rattle.alf_text.specs.Canonical.{canonical_text}
use Rattle.alf_text.proofs.Needs.{writable_spelled, spelled_alone}
use Rattle.alf_text.proofs.Kept.{spelled_writable}
use Rattle.alf_text.proofs.writable.writable_programs_are_spelled.Goals as goal

pub returns : goal.returns
returns c =
    let cut = c.printed_texts_are_cut.ensures.cut in
    record {
      exactly = λ whole. (spelled_writable c.printed_texts_are_cut.ensures.names whole, λ w. (canonical_text whole, writable_spelled cut whole w));
      canonical = λ whole w. writable_spelled cut whole w;
      alone = λ whole other w h. spelled_alone cut whole w other h;
    }
