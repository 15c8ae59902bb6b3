-- What each item of a lowered function keeps.
--   IsLabel name              a label of the function, of which there are so many
--   StoreStands, SwitchStands, CallStands, ReturnStands   so of each statement
--   called_tokens, called_numbers program f   the calls in function f, by their tokens and by the functions that they name
--   ItemStands item           so of each item
use Rattle.std.specs.Prelude.{◌≡◌, ◌≢◌, ◌<◌, ◌≤◌, ◌%◌, ◌^◌, ℕ, map, Contains, List, [], ◌∷◌, ⊤, Option, None, Some, slice_get}
use Rattle.alf_program.specs.declared.program.Num.{Num}
use Rattle.alf_program.specs.Tree.{NamedExpression, Null, Store, Jump, Switch, Call, Return, BodyItem, Label, Do, WholeProgram}
use Rattle.alf_program.specs.Tree as alf
use Rattle.c_unit.specs.declared.types.Outcome.{Outcome}
use Rattle.c_unit.specs.declared.types.Outcome.TheVariants as outcomes
use Rattle.c_unit.specs.declared.external.Parameter.{Parameter}
use Rattle.c_rules.specs.Recursion.{called_in, numbers_at}
use Rattle.c_meaning.specs.Values.{bits_of_type}
use Rattle.c_meaning.specs.Objects.{Function, Program, function_at, bits_of_scalar}
use Rattle.c_lowered.specs.Names.{function_name, label_name}
use Rattle.lowering_layout.specs.Lists.{EachOf, Apart}
use Rattle.lowering_checks.specs.Terms.{IsUsable, Term}

-- the tokens of the calls in function f, and the functions that they name
abbrev pub called_tokens : Program → ℕ → List ℕ
called_tokens program f = called_in (function_at program f).body

abbrev pub called_numbers : Program → ℕ → List ℕ
called_numbers program f = numbers_at program.words (map (λ (g : Function). g.name) program.functions) (called_tokens program f)

-- an expression of a statement is as deep as ALF allows at most
module _ (whole : WholeProgram) (func : alf.Function) (program : Program) (f labels : ℕ) where
  pub record IsLabel (name : List ℕ) : Type 0 where
    pub number : ℕ
    pub low : number < labels
    pub is : name ≡ label_name program f number

  pub record StoreStands (at value : NamedExpression) : Type 0 where
    pub at_term : Term whole func 32 64 at
    pub bits : ℕ
    pub value_term : Term whole func bits 64 value
    pub bytes : bits % 8 ≡ 0

  pub record TargetStands (size : ℕ) (target : Num × List ℕ) : Type 0 where
    pub same : target.0.size ≡ size
    pub low : target.0.bits < 2 ^ size
    pub leads : IsLabel target.1

  pub record SwitchStands (value : NamedExpression) (targets : List (Num × List ℕ)) (others : List ℕ) : Type 0 where
    pub size : ℕ
    pub some : 1 ≤ size
    pub small : size ≤ 64
    pub value_term : Term whole func size 64 value
    pub each : EachOf (TargetStands size) targets
    pub differ : Apart (λ t u. t.0.bits ≢ u.0.bits) targets
    pub leads_else : IsLabel others

  abbrev pub ArgumentsFit : List NamedExpression → List Parameter → Type 0
  ArgumentsFit [] [] = ⊤
  ArgumentsFit [] (p ∷ ps) = ⊥
  ArgumentsFit (e ∷ es) [] = ⊥
  ArgumentsFit (e ∷ es) (p ∷ ps) = Term whole func (bits_of_scalar p.kind) 64 e × ArgumentsFit es ps

  -- a result goes to a frame where the callee gives one
  abbrev pub ResultStands : Outcome → Option (List ℕ × ℕ) → Type 0
  ResultStands outcomes.Nothing None = ⊤
  ResultStands outcomes.Nothing (Some to) = ⊥
  ResultStands (outcomes.Integer i) None = ⊥
  ResultStands (outcomes.Integer i) (Some to) = IsUsable whole func to.0 × (to.1 ≡ 0)

  pub record CallStands (name : List ℕ) (args : List NamedExpression) (result : Option (List ℕ × ℕ)) : Type 0 where
    pub callee : ℕ
    pub function : Function
    pub at : slice_get program.functions callee ≡ Some function
    pub among : Contains (called_numbers program f) callee
    pub named : name ≡ function_name program callee
    pub fit : ArgumentsFit args function.parameters
    pub gives : ResultStands function.result result

  abbrev pub ReturnStands : Outcome → Option NamedExpression → Type 0
  ReturnStands outcomes.Nothing None = ⊤
  ReturnStands outcomes.Nothing (Some e) = ⊥
  ReturnStands (outcomes.Integer i) None = ⊥
  ReturnStands (outcomes.Integer i) (Some e) = Term whole func (bits_of_type i) 64 e

  abbrev pub ItemStands : BodyItem → Type 0
  ItemStands (Label name) = IsLabel name
  ItemStands (Do Null) = ⊤
  ItemStands (Do (Store at value)) = StoreStands at value
  ItemStands (Do (Jump label)) = IsLabel label
  ItemStands (Do (Switch value targets others)) = SwitchStands value targets others
  ItemStands (Do (Call name args result)) = CallStands name args result
  ItemStands (Do (Return value)) = ReturnStands (function_at program f).result value
