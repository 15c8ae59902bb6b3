use Rattle.std.proofs.Common.{sym}
use Rattle.pointer_domain.proofs.choice.some_pointer.Goals as goal

pub returns : goal.returns
returns c = rw (sym c.part_at.ensures, sym c.part_at-2.ensures, sym c.part_at-3.ensures) c.some_place.ensures
