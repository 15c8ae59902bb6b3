-- Labels, returns and places in lowered functions.
--   is_given o  how many bits a function of this outcome gives, and whether it gives something
use Rattle.std.proofs.Common.{Bool, true, false}
use Rattle.alf_program.specs.Tree.{WholeProgram}
use Rattle.c_unit.specs.declared.types.Integer.{Integer}
use Rattle.c_unit.specs.declared.types.Outcome.{Outcome}
use Rattle.c_unit.specs.declared.types.Outcome.TheVariants as outcomes
use Rattle.c_meaning.specs.Objects.{Program}

-- ---- returns

abbrev pub is_given : Outcome → Bool
is_given outcomes.Nothing = false
is_given (outcomes.Integer i) = true
