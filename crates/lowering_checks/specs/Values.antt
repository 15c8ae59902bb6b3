-- Values of expressions.
--   NamesStand words scopes e   each name in the expression is that of an object
--   ScopesUsable whole func program scopes   each object in the scopes has a frame that may be used
--   deep e                      how deep the values of an expression are at most: 3, and 5 for each operator
use Rattle.std.proofs.Common.{◌≡◌, ◌+◌, ◌*◌, ℕ, List, Some}
use Rattle.std.specs.Prelude.{⊤}
use Rattle.alf_program.specs.Tree.{Function, WholeProgram}
use Rattle.c_unit.specs.declared.types.Scalar.{Scalar}
use Rattle.c_unit.specs.Tree.{Expression, OfConstant, OfName, InParentheses, WithUnary, WithCast, AtIndex, WithBinary}
use Rattle.c_unit.specs.Measures.{depth_of}
use Rattle.c_unit.specs.Units.{Word}
use Rattle.c_rules.specs.Names.{Bound, Variable, Array, Function as FunctionBound, Entry, Scope, look_up}
use Rattle.c_rules.specs.Expressions.{value_type}
use Rattle.c_meaning.specs.Objects.{Program}
use Rattle.c_lowered.specs.Names.{frame_of}
use Rattle.lowering_checks.specs.Terms.{IsUsable}

-- the entry is an object's
abbrev pub IsObject : Bound → Type 0
IsObject b = (t : Scalar) × (value_type b ≡ Some t)

pub record IsObjectNamed (words : List Word) (scopes : List Scope) (token : ℕ) : Type 0 where
  pub entry : Entry
  pub found : look_up words scopes token ≡ Some entry
  pub is : IsObject entry.bound

abbrev pub NamesStand : List Word → List Scope → Expression → Type 0
NamesStand words scopes (OfConstant token) = ⊤
NamesStand words scopes (OfName token) = IsObjectNamed words scopes token
NamesStand words scopes (InParentheses token inner) = NamesStand words scopes inner
NamesStand words scopes (WithUnary op token operand) = NamesStand words scopes operand
NamesStand words scopes (WithCast token to operand) = NamesStand words scopes operand
NamesStand words scopes (AtIndex base token index) = NamesStand words scopes base × NamesStand words scopes index
NamesStand words scopes (WithBinary op token left right) = NamesStand words scopes left × NamesStand words scopes right

abbrev pub deep : Expression → ℕ
deep e = 3 + 5 * depth_of e

module _ (whole : WholeProgram) (func : Function) (program : Program) where
  abbrev pub ScopesUsable : List Scope → Type 0
  ScopesUsable scopes =
      (token : ℕ) (entry : Entry) → look_up program.words scopes token ≡ Some entry → IsObject entry.bound
      → IsUsable whole func (frame_of program entry.token)
