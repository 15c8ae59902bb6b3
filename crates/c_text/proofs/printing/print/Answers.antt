-- The text that is printed is the canonical text.
use Rattle.std.proofs.Common.{ℕ, List, sym, subst}
use Rattle.c_unit.specs.Units.{unit_of}
use Rattle.c_text.specs.Laws.{IsReadBack}
use Rattle.c_text.proofs.printing.print.Goals as goal

pub returns-clause-spelled : goal.returns-clause-spelled
returns-clause-spelled c =
    let whole = unit_of c.args.unit.now in
    λ s. subst (λ (bytes : List ℕ). IsReadBack whole bytes) (sym c.in_ok-text.ensures.text) (c.spelled_units_are_read_back.ensures.again whole s)
