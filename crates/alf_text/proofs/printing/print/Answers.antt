-- The text that is printed is the canonical text.
use Rattle.std.proofs.Common.{ℕ, List, sym, subst}
use Rattle.alf_program.specs.Tree.{program_of}
use Rattle.alf_text.specs.Language.{SpellsProgram}
use Rattle.alf_text.proofs.printing.print.Goals as goal

pub returns-clause-spelled : goal.returns-clause-spelled
returns-clause-spelled c =
    let whole = program_of c.args.program.now in
    λ s. subst (λ (bytes : List ℕ). SpellsProgram bytes whole) (sym c.in_ok-text.ensures) (c.canonical_texts_are_read_back.ensures.spelled whole s)
