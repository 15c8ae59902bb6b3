-- Steps of loops.
--   next_argument   the first argument, and the others
--   next_element    the first element, and the others
--   bytes_few       an integer has at most four bytes
--   value_first     a value's call comes first
use Rattle.std.proofs.Common.{◌≡◌, ◌+◌, ◌-◌, ◌<◌, ◌≤◌, ℕ, suc, List, [], ◌∷◌, refl, ap, arith}
use Rattle.alf_program.specs.Tree.{NamedExpression, BodyItem, Address, Do, Store}
use Rattle.c_unit.specs.declared.types.Integer.{Integer}
use Rattle.c_unit.specs.declared.types.Integer.TheVariants.{Char, UnsignedChar, Short, UnsignedShort, Int, UnsignedInt}
use Rattle.c_unit.specs.declared.types.Constant.{Constant}
use Rattle.c_unit.specs.declared.external.Parameter.{Parameter}
use Rattle.c_unit.specs.Tree.{Expression, ValueTree, OfExpression, OfCall}
use Rattle.c_rules.specs.Names.{Scope}
use Rattle.c_meaning.specs.Values.{bytes_of_type}
use Rattle.c_meaning.specs.Objects.{Program}
use Rattle.c_meaning.specs.Statements.{further_elements}
use Rattle.c_lowered.specs.Values.{cut}
use Rattle.c_lowered.specs.Conditions.{Within}
use Rattle.c_lowered.specs.Effects.{arguments, element_items, first_element, value_items}
use Rattle.statement_lowering.specs.Arguments.{argument_of, others_of}
use Rattle.statement_lowering.specs.ValueParts.{value_calls, value_term}

pub next_argument : (program : Program) (scopes : List Scope) (e : Expression) (es : List Expression) (ps : List Parameter)
    → arguments program scopes (e ∷ es) ps ≡ argument_of program scopes e ps ∷ arguments program scopes es (others_of ps)
next_argument program scopes e es [] = refl
next_argument program scopes e es (p ∷ ps) = refl

pub next_element : (program : Program) (name : List ℕ) (kind : Integer) (offset left : ℕ) (cs : List Constant) (rest : List BodyItem) → 0 < left
    → element_items program name kind offset left cs rest
    ≡ Do (Store (Address name offset) (cut kind (first_element program cs))) ∷ element_items program name kind (offset + bytes_of_type kind) (left - 1) (further_elements cs) rest
next_element program name kind offset left cs rest low =
    let here : left ≡ suc (left - 1) = omega (arith, low) in
    ap (λ (k : ℕ). element_items program name kind offset k cs rest) here

pub bytes_few : (i : Integer) → bytes_of_type i ≤ 4
bytes_few Char = omega arith
bytes_few UnsignedChar = omega arith
bytes_few Short = omega arith
bytes_few UnsignedShort = omega arith
bytes_few Int = omega arith
bytes_few UnsignedInt = omega arith

pub value_first : (within : Within) (scopes : List Scope) (value : ValueTree) (n : ℕ) (made : NamedExpression → BodyItem) (rest : List BodyItem)
    → value_items within scopes value n made rest ≡ value_calls within scopes value n (made (value_term within scopes value n) ∷ rest)
value_first within scopes (OfExpression e) n made rest = refl
value_first within scopes (OfCall call) n made rest = refl
