-- What is made of a unit.
--   few_tokens   a unit has as many tokens as its text
--   is_lowered   the checked program of what the unit is lowered to is one to which it is lowered
use Rattle.std.proofs.Common.{◌≡◌, ◌<◌, ℕ, List, length, refl, sym, subst}
use Rattle.std.proofs.lemmas.List.{length-map}
use Rattle.alf_program.specs.Writable.{IsWritable}
use Rattle.alf_check.specs.CheckedPrograms.{NumberedProgram}
use Rattle.alf_check.specs.Numbered.{numbered}
use Rattle.alf_check.specs.Checking.{Passes}
use Rattle.alf_check.specs.Kept.{IsKept}
use Rattle.c_unit.specs.declared.unit.CUnit.{CUnit}
use Rattle.c_unit.specs.Units.{UnitTree, word_of_span, unit_of}
use Rattle.c_lowered.specs.Programs.{lowered}
use Rattle.lowering_simulation.specs.Correct.{IsLowered}
use Rattle.c_lower.specs.Passing.{TextHasFewTokens}

pub few_tokens : (unit : CUnit) → length unit.tokens.items < 4611686018427387904 → TextHasFewTokens (unit_of unit)
few_tokens unit low = subst (λ (n : ℕ). n < 4611686018427387904) (sym (length-map unit.tokens.items (word_of_span unit.text.items))) low

pub is_lowered : (unit : UnitTree) (root : List ℕ) (program : NumberedProgram) → IsKept program
    → IsWritable (lowered unit) → Passes (lowered unit) root
    → program ≡ numbered (lowered unit) root → IsLowered unit root program
is_lowered unit root program kept writable passes numbers = record {
  kept = record {
    checked = record { whole = lowered unit; root = root; writable = writable; passes = passes; numbers = numbers };
    bounded = kept.bounded;
    limits = kept.limits;
    frames = kept.frames;
    functions = kept.functions;
    names = kept.names;
    inits = kept.inits;
    exports = kept.exports;
    root = kept.root;
    ranked = kept.ranked;
  };
  whole = refl;
  root = refl;
}
