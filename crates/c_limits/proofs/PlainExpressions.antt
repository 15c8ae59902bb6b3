-- What rules of expressions and calls spell is plain.
--   Good logical e           && and || stand in conditions alone, and e is one only where it may be
use Rattle.c_grammar.specs.ExpressionWalkLaws.{ExpressionWalk, arguments_goes, assigned_goes, condition_goes, open_paren_quiet, target_goes, whole_expr_goes}
use Rattle.c_grammar.specs.Expressions.{arguments, assigned, at_call, call, call_frame, condition, is_logical, is_not, joins_conditions, lead, may_stand, operator, some_token, target, whole_expr}
use Rattle.c_grammar.specs.Tokens.{some_frames}
use Rattle.c_grammar.specs.WalkLaws.{Spelled, done, seen, seen_anywhere, spelled_as, ◌>>-◌, ◌>>!◌}
use Rattle.c_grammar.specs.declared.others.Casts.{Casts}
use Rattle.c_grammar.specs.declared.others.Others.{Others}
use Rattle.c_unit.specs.Tree.{Expression, OfConstant, OfName, InParentheses, WithUnary, WithCast, AtIndex, WithBinary}
use Rattle.c_unit.specs.declared.expression.Unary.{Unary}
use Rattle.c_unit.specs.declared.expression.Unary.TheVariants as unary
use Rattle.c_unit.specs.declared.expression.Binary.{Binary}
use Rattle.c_unit.specs.declared.expression.Binary.TheVariants as binary
use Rattle.grammar.specs.Rule.{value}
use Rattle.lists.specs.TestLaws.{by_test}
use Rattle.std.proofs.Common.{Bool, All, List, not, false, true, refl, sym, ◌∙◌, ℕ, ◌&&◌, ◌≡◌}
use Rattle.std.proofs.lemmas.Bool.{false≢true}
use Rattle.std.proofs.lemmas.List.Elements.{All-nil, All-cons}
use Rattle.std.specs.Prelude.{⊤}
use Rattle.lowering_values.specs.Agreement.{IsPlain}
use Rattle.lowering_simulation.specs.Plain.{IsPlainCondition, CallIsPlain, ValueIsPlain}
use Rattle.c_limits.proofs.Keeping.{Keeps, either_keeps, judged_keeps, made_keeps, one_keeps, ◌>>>◌}
use Rattle.c_limits.proofs.TypesKeep.{fine_tokens, fine_walk, free_so, quiet_so, some_frames_keeps}

-- ---- plain expressions

pub record Good (logical : Bool) (e : Expression) : Type 0 where
  pub plain : IsPlainCondition e
  pub may : is_logical e ≡ true → logical ≡ true

plain_of : (e : Expression) → IsPlainCondition e → is_logical e ≡ false → IsPlain e
plain_of (OfConstant token) plain none = tt
plain_of (OfName token) plain none = tt
plain_of (InParentheses token inner) plain none = plain_of inner plain none
plain_of (WithUnary unary.Not token operand) plain none = plain_of operand plain none
plain_of (WithUnary op token operand) plain none = plain
plain_of (WithCast token to operand) plain none = plain
plain_of (AtIndex base token index) plain none = plain
plain_of (WithBinary binary.Both token left right) plain none = absurd (false≢true (sym none))
plain_of (WithBinary binary.Either token left right) plain none = absurd (false≢true (sym none))
plain_of (WithBinary op token left right) plain none = (refl, plain.0, plain.1)

pub plain_value_of : (e : Expression) → Good false e → IsPlain e
plain_value_of e good = by_test (is_logical e) (λ t. absurd (false≢true (good.may t))) (λ t. plain_of e good.plain t)

second_holds : (a b : Bool) → (a && b) ≡ true → b ≡ true
second_holds true b e = e
second_holds false b e = absurd (false≢true e)

first_holds : (a b : Bool) → (a && b) ≡ true → a ≡ true
first_holds true b e = refl
first_holds false b e = absurd (false≢true e)

is_none : (b : Bool) → not b ≡ true → b ≡ false
is_none true e = absurd (false≢true e)
is_none false e = refl

-- what is no condition
never : (logical : Bool) (e : Expression) → Good (logical && false) e → IsPlain e
never logical e good = by_test (is_logical e) (λ t. absurd (false≢true (second_holds logical false (good.may t)))) (λ t. plain_of e good.plain t)

binary_good : (min : ℕ) (logical : Bool) (op : Binary) (n : ℕ) (left right : Expression)
    → may_stand min logical left op ≡ true → Good logical left → Good (logical && joins_conditions op) right
    → Good logical (WithBinary op n left right)
binary_good min logical binary.Both n left right stands l r = record { plain = (l.plain, r.plain); may = λ t. second_holds _ logical stands }
binary_good min logical binary.Either n left right stands l r = record { plain = (l.plain, r.plain); may = λ t. second_holds _ logical stands }
binary_good min logical op n left right stands l r = record {
  plain = (plain_of left l.plain (is_none (is_logical left) (second_holds _ (not (is_logical left)) stands)), never logical right r);
  may = λ t. absurd (false≢true t);
}

unary_good : (logical : Bool) (op : Unary) (n : ℕ) (e : Expression) → Good (logical && is_not op) e
    → Good logical (WithUnary op n e)
unary_good logical unary.Not n e good = record { plain = good.plain; may = λ t. first_holds logical true (good.may t) }
unary_good logical op n e good = record { plain = never logical e good; may = λ t. absurd (false≢true t) }

leaf_good : (logical : Bool) (e : Expression) → IsPlainCondition e → is_logical e ≡ false → Good logical e
leaf_good logical e plain none = record { plain = plain; may = λ t. absurd (false≢true (sym none ∙ t)) }

-- ---- tokens

pub operator_keeps : Keeps operator.form
unfolding operator
operator_keeps = one_keeps

pub lead_keeps : (o : Others) → Keeps (lead o).form
unfolding lead
lead_keeps o = one_keeps

pub some_token_keeps : Keeps some_token.form
unfolding some_token
some_token_keeps = one_keeps

pub call_frame_keeps : (text : List ℕ) → Keeps (call_frame text).form
unfolding call_frame
call_frame_keeps text = judged_keeps >>> λ known. either_keeps known (some_frames 1) (value tt) (some_frames_keeps 1) made_keeps

abbrev plain_expressions : ExpressionWalk fine_walk
plain_expressions = record {
  Joining = λ m. ⊤;
  Good = λ d logical e m. Good logical e;
  tokens = fine_tokens;
  leads = λ o. quiet_so (lead_keeps o);
  operators = free_so operator_keeps;
  names = λ d logical n. leaf_good logical (OfName n) tt refl;
  constants = λ d logical n. leaf_good logical (OfConstant n) tt refl;
  parens = λ d logical n e m good. record { plain = good.plain; may = good.may };
  casts = λ d logical n to e m good. record { plain = plain_value_of e good; may = λ t. absurd (false≢true t) };
  unaries = λ d logical op n e m good. unary_good logical op n e good;
  indexes = λ d logical base n i a m none _ good made. record { plain = (plain_of base good.plain none, plain_value_of i made); may = λ t. absurd (false≢true t) };
  binaries = λ d min logical op n left right a b m stands _ _ good made. binary_good min logical op n left right stands good made;
}

-- a call, where this is asked of its arguments
pub fine_call : (Arguments : List Expression → Type 0)
    → ((p : ℕ) → Spelled fine_walk (arguments p).form (λ es m. Arguments es)) → (p : ℕ)
    → Spelled fine_walk (seen at_call (call p).form) (λ c m. Arguments c.arguments)
unfolding call
fine_call Arguments h p = seen_anywhere at_call (quiet_so some_token_keeps >>- λ t. open_paren_quiet plain_expressions >>- λ _. quiet_so (call_frame_keeps t.text) >>- λ _. h p >>! λ es m made. done (refl, made))

-- ---- what rules spell

plain_arguments : (p : ℕ) → Spelled fine_walk (arguments p).form (λ es m. All IsPlain es)
plain_arguments p = arguments_goes plain_expressions (λ es m. All IsPlain es) (All-nil IsPlain) (λ e es a m good made. All-cons IsPlain e es (plain_value_of e good) made) p

pub call_goes : (p : ℕ) → Spelled fine_walk (seen at_call (call p).form) (λ c m. CallIsPlain c)
call_goes p = fine_call (All IsPlain) plain_arguments p

pub value_goes : (p : ℕ) (o : Others) → Spelled fine_walk (whole_expr p o).form (λ e m. IsPlain e)
value_goes p o = spelled_as (whole_expr_goes plain_expressions p o) (λ e m good. plain_value_of e good)

pub plain_condition_goes : (p : ℕ) → Spelled fine_walk (condition p).form (λ e m. IsPlainCondition e)
plain_condition_goes p = spelled_as (condition_goes plain_expressions p) (λ e m good. good.plain)

pub plain_target_goes : (p : ℕ) (c : Casts) (o : Others) → Spelled fine_walk (target p c o).form (λ e m. IsPlain e)
plain_target_goes p c o = spelled_as (target_goes plain_expressions p c o) (λ e m good. plain_value_of e good)

pub plain_assigned_goes : (p : ℕ) (o : Others) → Spelled fine_walk (assigned p o).form (λ v m. ValueIsPlain v)
plain_assigned_goes p o = assigned_goes plain_expressions (λ v m. ValueIsPlain v) (λ c m made. made) (λ e m good. plain_value_of e good) call_goes p o
