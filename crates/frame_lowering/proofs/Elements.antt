-- Elements of arrays.
--   next_word   the first element, and the others
--   bytes_few   an integer has at most four bytes
use Rattle.std.proofs.Common.{◌≡◌, ◌+◌, ◌-◌, ◌<◌, ◌≤◌, ℕ, suc, List, ◌∷◌, ap, arith}
use Rattle.c_unit.specs.declared.types.Integer.{Integer}
use Rattle.c_unit.specs.declared.types.Integer.TheVariants.{Char, UnsignedChar, Short, UnsignedShort, Int, UnsignedInt}
use Rattle.c_unit.specs.declared.types.Constant.{Constant}
use Rattle.c_meaning.specs.Values.{bytes_of_type}
use Rattle.c_meaning.specs.Objects.{Program}
use Rattle.c_meaning.specs.Statements.{further_elements}
use Rattle.c_lowered.specs.Frames.{element_words, first_num}

pub next_word : (program : Program) (name : List ℕ) (i : Integer) (offset left : ℕ) (cs : List Constant) → 0 < left
    → element_words program name i offset left cs
    ≡ record { name = name; offset = offset; num = first_num program i cs } ∷ element_words program name i (offset + bytes_of_type i) (left - 1) (further_elements cs)
next_word program name i offset left cs low =
    let here : left ≡ suc (left - 1) = omega (arith, low) in
    ap (λ (k : ℕ). element_words program name i offset k cs) here

pub bytes_few : (i : Integer) → bytes_of_type i ≤ 4
bytes_few Char = omega arith
bytes_few UnsignedChar = omega arith
bytes_few Short = omega arith
bytes_few UnsignedShort = omega arith
bytes_few Int = omega arith
bytes_few UnsignedInt = omega arith
