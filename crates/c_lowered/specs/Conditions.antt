-- Conditions, lowered to switches on one bit.
--   Within                   a program, and the number of the function whose code is lowered
--   label within k           a label of the function, by its number
--   condition_labels e       how many labels a condition allocates
--   condition_items within scopes e next held failed rest   goes to `held` where the condition holds, else to `failed`; labels are allocated
--                            from `next` on, and `rest` are the items after it
use Rattle.std.specs.Prelude.{ℕ, suc, ◌+◌, false, List, [], ◌∷◌}
use Rattle.alf_program.specs.Tree.{NamedExpression, Switch, Jump, BodyItem, Label, Do}
use Rattle.c_unit.specs.declared.expression.Unary.{Unary}
use Rattle.c_unit.specs.declared.expression.Unary.TheVariants as unary
use Rattle.c_unit.specs.declared.expression.Binary.{Binary}
use Rattle.c_unit.specs.declared.expression.Binary.TheVariants as binary
use Rattle.c_unit.specs.Tree.{Expression, OfConstant, OfName, InParentheses, WithUnary, WithCast, AtIndex, WithBinary}
use Rattle.c_rules.specs.Names.{Scope}
use Rattle.c_meaning.specs.Objects.{Program}
use Rattle.c_meaning.specs.Expressions.{kind_of}
use Rattle.c_lowered.specs.Names.{label_name}
use Rattle.c_lowered.specs.Values.{is_true, test_of, value_of}

pub record Within : Type 0 where
  pub program : Program
  pub function : ℕ

abbrev pub label : Within → ℕ → List ℕ
label within k = label_name within.program within.function k

abbrev pub jump : Within → ℕ → BodyItem
jump within k = Do (Jump (label within k))

abbrev pub label_item : Within → ℕ → BodyItem
label_item within k = Label (label within k)

-- ---- what an operator makes of a condition

-- `!` swaps where it leads, and another operator has a value
abbrev pub by_unary : {A : Type 0} → Unary → A → A → A
by_unary unary.Not negated plain = negated
by_unary unary.Complement negated plain = plain
by_unary unary.Minus negated plain = plain
by_unary unary.Plus negated plain = plain
by_unary unary.Load negated plain = plain
by_unary unary.Address negated plain = plain

abbrev pub by_binary : {A : Type 0} → Binary → A → A → A → A
by_binary binary.Multiply both either plain = plain
by_binary binary.Divide both either plain = plain
by_binary binary.Remainder both either plain = plain
by_binary binary.Add both either plain = plain
by_binary binary.Subtract both either plain = plain
by_binary binary.ShiftLeft both either plain = plain
by_binary binary.ShiftRight both either plain = plain
by_binary binary.Less both either plain = plain
by_binary binary.Greater both either plain = plain
by_binary binary.AtMost both either plain = plain
by_binary binary.AtLeast both either plain = plain
by_binary binary.Equal both either plain = plain
by_binary binary.Unequal both either plain = plain
by_binary binary.And both either plain = plain
by_binary binary.Xor both either plain = plain
by_binary binary.Or both either plain = plain
by_binary binary.Both both either plain = both
by_binary binary.Either both either plain = either

-- ---- labels

abbrev pub condition_labels : Expression → ℕ
condition_labels (OfConstant token) = 0
condition_labels (OfName token) = 0
condition_labels (InParentheses token inner) = condition_labels inner
condition_labels (WithUnary op token operand) = by_unary op (condition_labels operand) 0
condition_labels (WithCast token to operand) = 0
condition_labels (AtIndex base token index) = 0
condition_labels (WithBinary op token left right) =
    by_binary op (suc (condition_labels left + condition_labels right)) (suc (condition_labels left + condition_labels right)) 0

-- ---- items

-- a switch on one bit
abbrev pub branch : NamedExpression → List ℕ → List ℕ → BodyItem
branch test held failed = Do (Switch test ((record { signed = false; size = 1; bits = 1 }, held) ∷ []) failed)

abbrev pub condition_items : Within → List Scope → Expression → ℕ → List ℕ → List ℕ → List BodyItem → List BodyItem
condition_items within scopes (OfConstant token) next held failed rest = branch (is_true (value_of within.program scopes (OfConstant token))) held failed ∷ rest
condition_items within scopes (OfName token) next held failed rest = branch (is_true (value_of within.program scopes (OfName token))) held failed ∷ rest
condition_items within scopes (InParentheses token inner) next held failed rest = condition_items within scopes inner next held failed rest
condition_items within scopes (WithUnary op token operand) next held failed rest =
    by_unary op (condition_items within scopes operand next failed held rest)
    (branch (is_true (value_of within.program scopes (WithUnary op token operand))) held failed ∷ rest)
condition_items within scopes (WithCast token to operand) next held failed rest =
    branch (is_true (value_of within.program scopes (WithCast token to operand))) held failed ∷ rest
condition_items within scopes (AtIndex base token index) next held failed rest =
    branch (is_true (value_of within.program scopes (AtIndex base token index))) held failed ∷ rest
condition_items within scopes (WithBinary op token left right) next held failed rest =
    by_binary op
    (condition_items within scopes left (suc next) (label within next) failed
    (label_item within next ∷ condition_items within scopes right (suc next + condition_labels left) held failed rest))
    (condition_items within scopes left (suc next) held (label within next)
    (label_item within next ∷ condition_items within scopes right (suc next + condition_labels left) held failed rest))
    (branch (test_of op (kind_of within.program.words scopes left) (kind_of within.program.words scopes right)
    (value_of within.program scopes left) (value_of within.program scopes right)) held failed ∷ rest)
