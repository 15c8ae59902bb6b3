-- Expressions and calls.
--   rank_of op             how tightly an operator binds, from 1 for || to 10 for *
--   is_logical e           && or || is the outermost operator of e, under ! and parentheses alone
--   expr p d min ..        an expression with at most p open parentheses and at most d nested operators, all of which bind as tightly as min at least
--   whole_expr, condition  an expression that stands in no other; one in which && and || may stand
--   call                   a call
--   assigned               what stands after =, as a value that is held at first, or after return
use Rattle.std.specs.Prelude.{ℕ, zero, suc, ◌+◌, ◌-◌, List, [], ◌∷◌, Bool, true, false, not, ◌&&◌, Result, Ok, Err, Option, Some, None, nat_lt, nat_le, if◌then◌else◌, codes}
use Rattle.flow_base.specs.declared.place.Which.TheVariants as which
use Rattle.grammar.specs.Form.{after}
use Rattle.grammar.specs.Rule.{judge, value, weaken, ◌>>=◌, ◌>>◌, many}
use Rattle.grammar.specs.Chain.{grow}
use Rattle.c_unit.specs.declared.types.Scalar.{Scalar}
use Rattle.c_unit.specs.declared.expression.Unary.{Unary}
use Rattle.c_unit.specs.declared.expression.Unary.TheVariants as unaries
use Rattle.c_unit.specs.declared.expression.Binary.{Binary}
use Rattle.c_unit.specs.declared.expression.Binary.TheVariants as binaries
use Rattle.c_unit.specs.Tree.{Expression, OfConstant, OfName, InParentheses, WithUnary, WithCast, AtIndex, WithBinary, CallTree, ValueTree, OfExpression, OfCall}
use Rattle.c_unit.specs.Measures.{depth_of}
use Rattle.c_grammar.specs.declared.symbol.Symbol.{Symbol}
use Rattle.c_grammar.specs.declared.symbol.Symbol.TheVariants as symbols
use Rattle.c_grammar.specs.declared.symbol.Lead.{Lead}
use Rattle.c_grammar.specs.declared.symbol.Lead.TheVariants as leads
use Rattle.c_grammar.specs.declared.others.Others.{Others}
use Rattle.c_grammar.specs.declared.others.Others.TheVariants as others
use Rattle.c_grammar.specs.declared.others.Casts.{Casts}
use Rattle.c_grammar.specs.declared.others.Casts.TheVariants as casts
use Rattle.c_grammar.specs.declared.specifiers.Setting.TheVariants as settings
use Rattle.c_grammar.specs.Symbols.{lead_of, starts_type, is_name}
use Rattle.c_grammar.specs.Types.{integer_type, pointer_stars}
use Rattle.c_grammar.specs.Tokens.{Fault, Limit, Seen, Place, Rule, misfit, one, mark, at_text, at_symbol, sees, sees_symbol, before_either, either, over, some_frames, gives_value, most_depth, most_parens}

-- ---- what is asked of expressions and operators

abbrev pub rank_of : Binary → ℕ
rank_of binaries.Multiply = 10
rank_of binaries.Divide = 10
rank_of binaries.Remainder = 10
rank_of binaries.Add = 9
rank_of binaries.Subtract = 9
rank_of binaries.ShiftLeft = 8
rank_of binaries.ShiftRight = 8
rank_of binaries.Less = 7
rank_of binaries.Greater = 7
rank_of binaries.AtMost = 7
rank_of binaries.AtLeast = 7
rank_of binaries.Equal = 6
rank_of binaries.Unequal = 6
rank_of binaries.And = 5
rank_of binaries.Xor = 4
rank_of binaries.Or = 3
rank_of binaries.Both = 2
rank_of binaries.Either = 1

abbrev pub joins_conditions : Binary → Bool
joins_conditions binaries.Both = true
joins_conditions binaries.Either = true
joins_conditions _ = false

abbrev pub is_not : Unary → Bool
is_not unaries.Not = true
is_not _ = false

abbrev pub is_logical : Expression → Bool
is_logical (OfConstant n) = false
is_logical (OfName n) = false
is_logical (InParentheses n e) = is_logical e
is_logical (WithUnary op n e) = is_not op && is_logical e
is_logical (WithCast n t e) = false
is_logical (AtIndex b n i) = false
is_logical (WithBinary op n a b) = joins_conditions op

-- C99's unary expressions: no cast and no binary operator is outermost
abbrev pub is_unary : Expression → Bool
is_unary (WithCast n t e) = false
is_unary (WithBinary op n a b) = false
is_unary _ = true

-- C99's postfix expressions
abbrev pub is_postfix : Expression → Bool
is_postfix (WithUnary op n e) = false
is_postfix (WithCast n t e) = false
is_postfix (WithBinary op n a b) = false
is_postfix _ = true

-- what C99 could go on with after an expression, where a comma may be an operator or not
abbrev pub rest_of : Bool → Expression → Others
rest_of comma e = others.Rest (is_unary e) comma

-- what it could go on with after a call or a step
abbrev pub rest_after_postfix : Bool → Others
rest_after_postfix comma = others.Rest true comma

-- ---- operators

-- the operator stands where these operators may
abbrev pub may_stand : ℕ → Bool → Expression → Binary → Bool
may_stand min logical left op = nat_le min (rank_of op) && (if joins_conditions op then logical else not (is_logical left))

abbrev pub is_operation_of : ℕ → Bool → Expression → Symbol → Bool
is_operation_of min logical left (symbols.Operator op) = may_stand min logical left op
is_operation_of min logical left _ = false

-- an operator comes next that may take this left side
abbrev pub at_operation : ℕ → Bool → Expression → Place → Bool
at_operation min logical left at = at_symbol (is_operation_of min logical left) at

abbrev pub fits_operator_of : Symbol → Seen → Result (Binary × ℕ) Fault
fits_operator_of (symbols.Operator op) t = Ok (op, t.number)
fits_operator_of _ t = Err (misfit others.Nothing t)

-- any operator
unfoldable pub operator : Rule true (Binary × ℕ)
operator = one (λ t. fits_operator_of t.symbol t)

-- one more operator may take in this operand where d may be nested
abbrev pub is_shallow : ℕ → Expression → Bool
is_shallow d e = nat_lt 0 d && nat_le (depth_of e) (d - 1)

unfoldable pub shallow : ℕ → Expression → Rule false (Unit {0})
shallow d e = judge (λ at. if is_shallow d e then Ok tt else Err (Limit which.Depth (most_depth + 1)))

-- one more operator may take in an operand that is still to be read
unfoldable pub some_depth : ℕ → Rule false (Unit {0})
some_depth d = judge (λ at. if nat_lt 0 d then Ok tt else Err (Limit which.Depth (most_depth + 1)))

-- what stands in an operator, by the rank of its operators and whether && and || may stand there
abbrev pub Operand : Type 1
Operand = ℕ → Bool → Rule true Expression

-- an operator and its right side
unfoldable pub operation : ℕ → Operand → Bool → Expression → Rule true Expression
operation d deeper logical left = do
  op ← operator
  shallow d left
  right ← deeper (rank_of op.0 + 1) (logical && joins_conditions op.0)
  value (WithBinary op.0 op.1 left right)

-- ---- operands

abbrev pub at_index : Expression → Place → Bool
at_index base at = at_text (codes "[") at && not (is_logical base)

unfoldable pub open_bracket : Rule true ℕ
open_bracket = mark (codes "[") others.Nothing

unfoldable pub close_bracket : Others → Rule true (Unit {0})
close_bracket o = do
  mark (codes "]") o
  value tt

-- [ e ]
unfoldable pub index : ℕ → Operand → Expression → Rule true Expression
index d deeper base = do
  n ← open_bracket
  shallow d base
  i ← deeper 1 false
  close_bracket (rest_of true i)
  value (AtIndex base n i)

-- an operand with as many indices as there are
abbrev pub indexed : ℕ → Operand → Expression → Rule false Expression
indexed d deeper base = grow at_index (index d deeper) base

unfoldable pub close_paren : Others → Rule true (Unit {0})
close_paren o = do
  mark (codes ")") o
  value tt

-- what stands in parentheses, by whether && and || may stand there, and what might stand at its first token
abbrev pub Inner : Type 1
Inner = Bool → Others → Rule true Expression

-- e ), after its parenthesis
unfoldable pub parenthesised : Inner → Bool → Others → ℕ → Rule true Expression
parenthesised inner logical o n = do
  e ← inner logical o
  close_paren (rest_of true e)
  value (InParentheses n e)

-- what might stand after the type of a cast, where a star stands in it or not
abbrev pub after_cast_type : Bool → Others
after_cast_type p = if p then others.StarsAndBrackets else others.Brackets

-- the type of a cast, with the parenthesis after it
unfoldable pub cast_type : Rule true Scalar
cast_type = do
  i ← integer_type settings.Cast
  p ← sees (codes "*")
  t ← pointer_stars p i
  close_paren (after_cast_type p)
  value t

-- a type ) and an operand, after its parenthesis
unfoldable pub cast : ℕ → Operand → ℕ → Rule true Expression
cast d deeper n = do
  some_depth d
  t ← cast_type
  e ← deeper 11 false
  value (WithCast n t e)

abbrev pub takes_cast : Casts → Bool
takes_cast casts.Taken = true
takes_cast _ = false

-- what might stand after a parenthesis where casts stand so
abbrev pub cast_others : Casts → Others
cast_others casts.Outside = others.StepsAndTypes
cast_others _ = others.Steps

-- a parenthesis may be open
unfoldable pub one_paren : ℕ → Rule false (Unit {0})
one_paren p = judge (λ at. if nat_lt 0 p then Ok tt else Err (Limit which.Parens (most_parens + 1)))

-- a cast, or an expression in parentheses, after its parenthesis
unfoldable pub bracketed : ℕ → ℕ → Inner → Operand → Bool → Casts → ℕ → Rule true Expression
bracketed p d inner deeper logical c n = do
  one_paren p
  type ← sees_symbol starts_type
  either (takes_cast c && type) (cast d deeper n) (parenthesised inner logical (cast_others c) n)

-- an operand, after the operator before it
unfoldable pub prefixed : ℕ → Operand → Bool → Unary → ℕ → Rule true Expression
prefixed d deeper logical op n = do
  some_depth d
  e ← deeper 11 (logical && is_not op)
  value (WithUnary op n e)

abbrev pub fits_lead_of : Option Lead → Others → Seen → Result (Lead × ℕ) Fault
fits_lead_of (Some lead) o t = Ok (lead, t.number)
fits_lead_of None o t = Err (misfit o t)

-- the first token of an operand
unfoldable pub lead : Others → Rule true (Lead × ℕ)
lead o = one (λ t. fits_lead_of (lead_of t.symbol) o t)

unfoldable pub bracketed_indexed : ℕ → ℕ → Inner → Operand → Bool → Casts → ℕ → Rule true Expression
bracketed_indexed p d inner deeper logical c n = do
  e ← bracketed p d inner deeper logical c n
  r ← indexed d deeper e
  value r

-- an operand, after its first token
unfoldable pub operand_after : ℕ → ℕ → Inner → Operand → Bool → Casts → Lead → ℕ → Rule false Expression
operand_after p d inner deeper logical c leads.Name n = indexed d deeper (OfName n)
operand_after p d inner deeper logical c leads.Constant n = indexed d deeper (OfConstant n)
operand_after p d inner deeper logical c leads.Paren n = weaken (bracketed_indexed p d inner deeper logical c n)
operand_after p d inner deeper logical c (leads.Prefix op) n = weaken (prefixed d deeper logical op n)

-- an operand of operators
unfoldable pub operand : ℕ → ℕ → Inner → Operand → Bool → Casts → Others → Rule true Expression
operand p d inner deeper logical c o = do
  l ← lead o
  e ← operand_after p d inner deeper logical c l.0 l.1
  value e

-- ---- expressions

-- an operand, and as many operators as may stand after it
unfoldable pub expr_of : ℕ → ℕ → Inner → Operand → ℕ → Bool → Casts → Others → Rule true Expression
expr_of p d inner deeper min logical c o = do
  left ← operand p d inner deeper logical c o
  e ← grow (at_operation min logical) (operation d deeper logical) left
  value e

-- nothing may stand in a further operator
abbrev pub no_operand : Operand
no_operand min logical = over which.Depth most_depth

-- with at most so many nested operators; inner is what stands in parentheses with so many
unfoldable pub expr_within : ℕ → (ℕ → Inner) → ℕ → ℕ → Bool → Casts → Others → Rule true Expression
expr_within p inner zero min logical c o = expr_of p zero (inner zero) no_operand min logical c o
expr_within p inner (suc d) min logical c o =
    expr_of p (suc d) (inner (suc d)) (λ min logical. expr_within p inner d min logical casts.Taken others.Steps) min logical c o

abbrev pub no_inner : ℕ → Inner
no_inner d logical o = over which.Parens most_parens

-- an expression: how many parentheses may be open, how many operators nested, how tightly they bind at least, whether
-- && and || may stand, how casts stand at its first token, and what else might
unfoldable pub expr : ℕ → ℕ → ℕ → Bool → Casts → Others → Rule true Expression
expr zero d min logical c o = expr_within zero no_inner d min logical c o
expr (suc p) d min logical c o = expr_within (suc p) (λ d logical o. expr p d 1 logical casts.Taken o) d min logical c o

-- what stands in parentheses of it
unfoldable pub inner_of : ℕ → ℕ → Inner
inner_of zero d logical o = over which.Parens most_parens
inner_of (suc p) d logical o = expr p d 1 logical casts.Taken o

-- what stands in operators of it
unfoldable pub deeper_of : ℕ → ℕ → Operand
deeper_of p zero min logical = over which.Depth most_depth
deeper_of p (suc d) min logical = expr p d min logical casts.Taken others.Steps

-- an expression that stands in no other, where so many parentheses may be open
unfoldable pub whole_expr : ℕ → Others → Rule true Expression
whole_expr p o = expr p most_depth 1 false casts.Taken o

-- one in which && and || may stand
unfoldable pub condition : ℕ → Rule true Expression
condition p = expr p most_depth 1 true casts.Taken others.Steps

-- a unary expression, as what is assigned to or stepped
unfoldable pub target : ℕ → Casts → Others → Rule true Expression
target p c o = expr p most_depth 11 false c o

-- ---- calls

-- a name and a parenthesis come next
abbrev pub at_call : Place → Bool
at_call at = at_symbol is_name at && at_text (codes "(") (after at)

-- whether a name and a parenthesis come next
unfoldable pub sees_call : Rule false Bool
sees_call = judge (λ at. Ok (at_call at))

-- a call of a function that gives a value has a frame
unfoldable pub call_frame : List ℕ → Rule false (Unit {0})
call_frame text = do
  known ← judge (λ at. Ok (gives_value text at.room.names))
  either known (some_frames 1) (value tt)

abbrev pub at_comma : Place → Bool
at_comma at = at_text (codes ",") at

unfoldable pub comma : Rule true (Unit {0})
comma = do
  mark (codes ",") others.Nothing
  value tt

-- an argument, after which a comma or a parenthesis stands
unfoldable pub argument : ℕ → Rule true Expression
argument p = do
  e ← whole_expr p others.Steps
  before_either (codes ",") (codes ")") (rest_of false e)
  value e

unfoldable pub further_argument : ℕ → Rule true Expression
further_argument p = do
  comma
  e ← argument p
  value e

-- arguments and a parenthesis
unfoldable pub some_arguments : ℕ → Rule true (List Expression)
some_arguments p = do
  e ← argument p
  es ← many at_comma (further_argument p)
  close_paren others.Nothing
  value (e ∷ es)

unfoldable pub no_arguments : Rule true (List Expression)
no_arguments = do
  close_paren others.Nothing
  value []

-- the arguments of a call, after its parenthesis
unfoldable pub arguments : ℕ → Rule true (List Expression)
arguments p = do
  none ← sees (codes ")")
  either none no_arguments (some_arguments p)

abbrev pub fits_any : Seen → Result Seen Fault
fits_any t = Ok t

-- any token
unfoldable pub some_token : Rule true Seen
some_token = one fits_any

unfoldable pub open_paren : Rule true (Unit {0})
open_paren = do
  mark (codes "(") others.Nothing
  value tt

-- a call, where a name and a parenthesis come next, and so many parentheses may be open in it
unfoldable pub call : ℕ → Rule true CallTree
call p = do
  t ← some_token
  open_paren
  call_frame t.text
  es ← arguments p
  value (record { name = t.number; arguments = es })

-- ---- what is assigned

unfoldable pub called_value : ℕ → Rule true ValueTree
called_value p = do
  c ← call p
  value (OfCall c)

unfoldable pub plain_value : ℕ → Others → Rule true ValueTree
plain_value p o = do
  e ← whole_expr p o
  value (OfExpression e)

-- a call, or an expression
unfoldable pub assigned : ℕ → Others → Rule true ValueTree
assigned p o = do
  c ← sees_call
  either c (called_value (p - 1)) (plain_value p o)

abbrev pub rest_of_value : Bool → ValueTree → Others
rest_of_value comma (OfExpression e) = rest_of comma e
rest_of_value comma (OfCall c) = rest_after_postfix comma
