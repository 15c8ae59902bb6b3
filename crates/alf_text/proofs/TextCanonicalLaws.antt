-- The marks of expressions in a row, one after the other.
use Rattle.std.specs.Prelude.{◌≡◌, List, [], ◌∷◌}
use Rattle.std.specs.List.{flat_map}
use Rattle.std.proofs.Common.{refl}
use Rattle.alf_program.specs.Tree.{NamedExpression, expressions_of}
use Rattle.alf_text.specs.Canonical.{term_marks, terms_marks}

pub terms-marks : (ts : List NamedExpression) → terms_marks (expressions_of ts) ≡ flat_map term_marks ts
terms-marks [] = refl
terms-marks (t ∷ ts) = rw (terms-marks ts) refl
