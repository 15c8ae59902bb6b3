-- The walk over expressions and calls.
--   ExpressionWalk walk   what is asked of tokens and of each production; `expr_goes` is what follows
--   Below w d             what is asked of an operand where operators are nested d times at most
use Rattle.c_grammar.specs.Expressions.{Inner, Operand, after_cast_type, argument, arguments, assigned, at_call, at_comma, at_index, at_operation, bracketed, bracketed_indexed, call, called_value, cast, cast_others, cast_type, close_bracket, close_paren, comma, condition, expr, expr_of, expr_within, fits_operator_of, further_argument, index, indexed, is_logical, is_not, is_operation_of, is_shallow, joins_conditions, lead, may_stand, no_arguments, no_inner, no_operand, one_paren, open_bracket, open_paren, operand, operand_after, operation, operator, parenthesised, plain_value, prefixed, rank_of, rest_of, sees_call, shallow, some_arguments, some_depth, takes_cast, target, whole_expr}
use Rattle.c_grammar.specs.Tokens.{Fault, Limit, Place, Seen, Syntax, at_text, is_first, most_depth}
use Rattle.c_grammar.specs.TypeWalkLaws.{TypeTokens, before_either_quiet, close_bracket_prints, close_paren_prints, comma_prints, integer_type_quiet, open_bracket_prints, open_paren_prints, pointer_stars_quiet, sees_quiet}
use Rattle.c_grammar.specs.WalkLaws.{Quiet, Quietly, Spelled, Walk, chain_spelled, done, either_spelled, first_seen, from_none, judged_so, judged_spelled, refused_spelled, row_spelled, seen, seen_either, ◌>>+◌, ◌>>-◌, ◌>>!◌, ◌>>=◌}
use Rattle.c_grammar.specs.declared.others.Casts.{Casts}
use Rattle.c_grammar.specs.declared.others.Others.{Others}
use Rattle.c_grammar.specs.declared.symbol.Lead.{Lead}
use Rattle.c_grammar.specs.declared.symbol.Symbol.{Symbol}
use Rattle.c_unit.specs.Measures.{depth_of}
use Rattle.c_unit.specs.Tree.{AtIndex, CallTree, Expression, InParentheses, OfCall, OfConstant, OfExpression, OfName, ValueTree, WithBinary, WithCast, WithUnary}
use Rattle.c_unit.specs.declared.expression.Binary.{Binary}
use Rattle.c_unit.specs.declared.expression.Unary.{Unary}
use Rattle.c_unit.specs.declared.types.Scalar.{Scalar}
use Rattle.grammar.specs.Exact.{ok_no_err}
use Rattle.grammar.specs.ExactLaws.{ok_is}
use Rattle.grammar.specs.Form.{bound, fit_first, first_of, made}
use Rattle.std.proofs.Common.{Bool, Err, List, [], ◌∷◌, None, Ok, Result, false, if◌then◌else◌, nat_le, nat_lt, leb-true, not, refl, subst, suc, true, zero, ℕ, ◌&&◌, ◌+◌, ◌-◌, ◌<◌, ◌≤◌, ◌≡◌, arith}
use Rattle.std.proofs.lemmas.Bool.{false≢true}
use Rattle.std.specs.Prelude.{codes}
use Rattle.c_grammar.specs.declared.others.Casts.TheVariants as casts
use Rattle.c_grammar.specs.declared.symbol.Lead.TheVariants as leads
use Rattle.c_grammar.specs.declared.others.Others.TheVariants as others
use Rattle.c_grammar.specs.declared.specifiers.Setting.TheVariants as settings
use Rattle.c_grammar.specs.declared.symbol.Symbol.TheVariants as symbols
use Rattle.flow_base.specs.declared.place.Which.TheVariants as which

-- ---- what was tested

first_holds : (a b : Bool) → (a && b) ≡ true → a ≡ true
first_holds true b e = refl
first_holds false b e = absurd (false≢true e)

second_holds : (a b : Bool) → (a && b) ≡ true → b ≡ true
second_holds true b e = e
second_holds false b e = absurd (false≢true e)

is_none : (b : Bool) → not b ≡ true → b ≡ false
is_none true e = absurd (false≢true e)
is_none false e = refl

-- an operand that one more operator may take in
shallow_is : (d : ℕ) (e : Expression) (b : Bool) (x : Unit {0}) (fault : Fault) → is_shallow d e ≡ b
    → ◌≡◌ {A = Result (Unit {0}) Fault} (if b then Ok tt else Err fault) (Ok x) → depth_of e < d
shallow_is d e true x fault is ok =
    let some : 0 < d = leb-true 1 d (first_holds (nat_lt 0 d) (nat_le (depth_of e) (d - 1)) is) in
    let low : depth_of e ≤ d - 1 = leb-true (depth_of e) (d - 1) (second_holds (nat_lt 0 d) (nat_le (depth_of e) (d - 1)) is) in
    omega arith
shallow_is d e false x fault is ok = ok_no_err x fault ok

-- the operator that comes next may stand there
symbol_stands : (min : ℕ) (logical : Bool) (left : Expression) (s : Symbol) (t : Seen) (x : Binary × ℕ)
    → is_operation_of min logical left s ≡ true → fits_operator_of s t ≡ Ok x → may_stand min logical left x.0 ≡ true
symbol_stands min logical left (symbols.Operator op) t x is e =
    subst (λ (y : Binary × ℕ). may_stand min logical left y.0 ≡ true) (ok_is {F = Fault} (op, t.number) x e) is
symbol_stands min logical left _ t x is e = absurd (false≢true is)

operator_stands : (min : ℕ) (logical : Bool) (left : Expression) (ts : List Seen) (at : Place) (x : Binary × ℕ)
    → is_first (λ (t : Seen). is_operation_of min logical left t.symbol) (first_of ts) ≡ true
    → fit_first (λ (at : Place). Syntax None) (λ (t : Seen) (at : Place). fits_operator_of t.symbol t) (first_of ts) at ≡ Ok x → may_stand min logical left x.0 ≡ true
operator_stands min logical left [] at x is e = absurd (false≢true is)
operator_stands min logical left (t ∷ ts) at x is e = symbol_stands min logical left t.symbol t x is e

-- ---- what is asked

pub record ExpressionWalk (walk : Walk) : Type 1 where
  -- of the token of an operator
  pub Joining : walk.Count → Type 0
  -- of an expression where operators are nested so many times at most, by whether && and || may stand there
  pub Good : ℕ → Bool → Expression → walk.Count → Type 0
  pub tokens : TypeTokens walk
  pub leads : (o : Others) → Quiet walk (lead o).form
  pub operators : Spelled walk operator.form (λ op m. Joining m)
  pub names : (d : ℕ) (logical : Bool) (n : ℕ) → Good d logical (OfName n) walk.none
  pub constants : (d : ℕ) (logical : Bool) (n : ℕ) → Good d logical (OfConstant n) walk.none
  pub parens : (d : ℕ) (logical : Bool) (n : ℕ) (e : Expression) (m : walk.Count) → Good d logical e m
      → Good d logical (InParentheses n e) m
  pub casts : (d : ℕ) (logical : Bool) (n : ℕ) (t : Scalar) (e : Expression) (m : walk.Count) → Good d false e m
      → Good (suc d) logical (WithCast n t e) m
  pub unaries : (d : ℕ) (logical : Bool) (op : Unary) (n : ℕ) (e : Expression) (m : walk.Count)
      → Good d (logical && is_not op) e m → Good (suc d) logical (WithUnary op n e) m
  pub indexes : (d : ℕ) (logical : Bool) (base : Expression) (n : ℕ) (i : Expression) (a m : walk.Count)
      → is_logical base ≡ false → depth_of base ≤ d
      → Good (suc d) logical base a → Good d false i m → Good (suc d) logical (AtIndex base n i) (walk.join a m)
  pub binaries : (d min : ℕ) (logical : Bool) (op : Binary) (n : ℕ) (left right : Expression) (a b m : walk.Count)
      → may_stand min logical left op ≡ true → depth_of left ≤ d
      → Joining b → Good (suc d) logical left a → Good d (logical && joins_conditions op) right m
      → Good (suc d) logical (WithBinary op n left right) (walk.join a (walk.join b m))

module _ {walk : Walk} (w : ExpressionWalk walk) where
  abbrev pub Below : ℕ → Bool → Expression → walk.Count → Type 0
  Below zero logical e m = ⊥
  Below (suc d) logical e m = w.Good d logical e m

  cast_below : (d : ℕ) (logical : Bool) (n : ℕ) (t : Scalar) (e : Expression) (m : walk.Count) → Below d false e m
      → w.Good d logical (WithCast n t e) m
  cast_below zero logical n t e m h = absurd h
  cast_below (suc d) logical n t e m h = w.casts d logical n t e m h

  unary_below : (d : ℕ) (logical : Bool) (op : Unary) (n : ℕ) (e : Expression) (m : walk.Count)
      → Below d (logical && is_not op) e m → w.Good d logical (WithUnary op n e) m
  unary_below zero logical op n e m h = absurd h
  unary_below (suc d) logical op n e m h = w.unaries d logical op n e m h

  less : (d e : ℕ) → e < suc d → e ≤ d
  less d e low = omega arith

  index_below : (d : ℕ) (logical : Bool) (base : Expression) (n : ℕ) (i : Expression) (a m : walk.Count)
      → is_logical base ≡ false → depth_of base < d
      → w.Good d logical base a → Below d false i m → w.Good d logical (AtIndex base n i) (walk.join a m)
  index_below zero logical base n i a m none low good h = absurd h
  index_below (suc d) logical base n i a m none low good h =
      w.indexes d logical base n i a m none (less d (depth_of base) low) good h

  binary_below : (d min : ℕ) (logical : Bool) (op : Binary) (n : ℕ) (left right : Expression) (a b m : walk.Count)
      → may_stand min logical left op ≡ true → depth_of left < d
      → w.Joining b → w.Good d logical left a → Below d (logical && joins_conditions op) right m
      → w.Good d logical (WithBinary op n left right) (walk.join a (walk.join b m))
  binary_below zero min logical op n left right a b m stands low one good h = absurd h
  binary_below (suc d) min logical op n left right a b m stands low one good h =
      w.binaries d min logical op n left right a b m stands (less d (depth_of left) low) one good h

  -- ---- tokens

  shallow_goes : (d : ℕ) (e : Expression) → Quietly walk (shallow d e).form (λ x. depth_of e < d)
  unfolding shallow
  shallow_goes d e =
      judged_so (λ at x ok. shallow_is d e (is_shallow d e) x (Limit which.Depth (most_depth + 1)) refl ok)

  some_depth_quiet : (d : ℕ) → Quiet walk (some_depth d).form
  unfolding some_depth
  some_depth_quiet d = judged_spelled

  one_paren_quiet : (p : ℕ) → Quiet walk (one_paren p).form
  unfolding one_paren
  one_paren_quiet p = judged_spelled

  open_bracket_quiet : Quiet walk open_bracket.form
  unfolding open_bracket
  open_bracket_quiet = w.tokens.marks (codes "[") others.Nothing open_bracket_prints

  close_bracket_quiet : (o : Others) → Quiet walk (close_bracket o).form
  unfolding close_bracket
  close_bracket_quiet o = w.tokens.marks (codes "]") o close_bracket_prints >>- λ _. done refl

  close_paren_quiet : (o : Others) → Quiet walk (close_paren o).form
  unfolding close_paren
  close_paren_quiet o = w.tokens.marks (codes ")") o close_paren_prints >>- λ _. done refl

  pub open_paren_quiet : Quiet walk open_paren.form
  unfolding open_paren
  open_paren_quiet = w.tokens.marks (codes "(") others.Nothing open_paren_prints >>- λ _. done refl

  cast_type_quiet : Quiet walk cast_type.form
  unfolding cast_type
  cast_type_quiet =
      integer_type_quiet w.tokens settings.Cast >>- λ i. sees_quiet w.tokens (codes "*") >>- λ p. pointer_stars_quiet w.tokens p i >>- λ t.
      close_paren_quiet (after_cast_type p) >>- λ _. done refl

  -- ---- where what stands in operators is known

  module _ (d : ℕ) (deeper : Operand) (h : (min : ℕ) (logical : Bool) → Spelled walk (deeper min logical).form (Below d logical)) where
    after_operator : (min : ℕ) (logical : Bool) (left : Expression) (a b : walk.Count) (op : Binary × ℕ)
        → may_stand min logical left op.0 ≡ true → w.Joining b → w.Good d logical left a
        → Spelled walk (bound (shallow d left).form (λ _. bound (deeper (rank_of op.0 + 1) (logical && joins_conditions op.0)).form (λ right. made (WithBinary op.0 op.1 left right))))
        (λ y n. w.Good d logical y (walk.join a (walk.join b n)))
    after_operator min logical left a b op stands one good =
        shallow_goes d left >>= λ _ low. h (rank_of op.0 + 1) (logical && joins_conditions op.0) >>! λ right m below.
        done (refl, binary_below d min logical op.0 op.1 left right a b m stands low one good below)

    operation_step : (min : ℕ) (logical : Bool) (left : Expression) (a : walk.Count) (at : Place) (y : Expression) (rest : Place) → at_operation min logical left at ≡ true → w.Good d logical left a
        → (operation d deeper logical left).form.Spells at y rest
        → walk.Goes at (λ n. w.Good d logical y (walk.join a n)) rest
    unfolding operation operator
    operation_step min logical left a at y rest is good s =
        let op : Binary × ℕ = s.0 in
        let stands : may_stand min logical left op.0 ≡ true = operator_stands min logical left at.ahead at op is s.2.0 in
        walk.goes_on at s.1 rest w.Joining (λ n. w.Good d logical y (walk.join a n)) (w.operators.each at op s.1 s.2) (λ b one.
        (after_operator min logical left a b op stands one good).each s.1 y rest s.3)

    index_goes : (logical : Bool) (base : Expression) (a : walk.Count) → is_logical base ≡ false
        → w.Good d logical base a → Spelled walk (index d deeper base).form (λ y n. w.Good d logical y (walk.join a n))
    unfolding index
    index_goes logical base a none good =
        open_bracket_quiet >>- λ n. shallow_goes d base >>= λ _ low. h 1 false >>! λ i m below. close_bracket_quiet (rest_of true i) >>- λ _.
        done (refl, index_below d logical base n i a m none low good below)

    index_step : (logical : Bool) (base : Expression) (a : walk.Count) (at : Place) (y : Expression) (rest : Place)
        → at_index base at ≡ true → w.Good d logical base a
        → (index d deeper base).form.Spells at y rest → walk.Goes at (λ n. w.Good d logical y (walk.join a n)) rest
    index_step logical base a at y rest is good s =
        (index_goes logical base a (is_none (is_logical base) (second_holds (at_text (codes "[") at) (not (is_logical base)) is)) good).each at y rest s

    indexed_goes : (logical : Bool) (base : Expression) (a : walk.Count) → w.Good d logical base a
        → Spelled walk (indexed d deeper base).form (λ y n. w.Good d logical y (walk.join a n))
    indexed_goes logical base a good =
        chain_spelled {P = w.Good d logical} at_index (λ base. (index d deeper base).form) (index_step logical) base a good

    cast_goes : (logical : Bool) (n : ℕ) → Spelled walk (cast d deeper n).form (w.Good d logical)
    unfolding cast
    cast_goes logical n =
        some_depth_quiet d >>- λ _. cast_type_quiet >>- λ t. h 11 false >>! λ e m below.
        done (refl, cast_below d logical n t e m below)

    prefixed_goes : (logical : Bool) (op : Unary) (n : ℕ)
        → Spelled walk (prefixed d deeper logical op n).form (w.Good d logical)
    unfolding prefixed
    prefixed_goes logical op n =
        some_depth_quiet d >>- λ _. h 11 (logical && is_not op) >>! λ e m below.
        done (refl, unary_below d logical op n e m below)

    module _ (inner : Inner) (i : (logical : Bool) (o : Others) → Spelled walk (inner logical o).form (w.Good d logical)) where
      parenthesised_goes : (logical : Bool) (o : Others) (n : ℕ)
          → Spelled walk (parenthesised inner logical o n).form (w.Good d logical)
      unfolding parenthesised
      parenthesised_goes logical o n =
          i logical o >>! λ e m good. close_paren_quiet (rest_of true e) >>- λ _.
          done (refl, w.parens d logical n e m good)

      bracketed_goes : (p : ℕ) (logical : Bool) (c : Casts) (n : ℕ)
          → Spelled walk (bracketed p d inner deeper logical c n).form (w.Good d logical)
      unfolding bracketed
      bracketed_goes p logical c n =
          one_paren_quiet p >>- λ _. judged_spelled >>- λ type.
          either_spelled (takes_cast c && type) (cast d deeper n) (parenthesised inner logical (cast_others c) n) (cast_goes logical n) (parenthesised_goes logical (cast_others c) n)

      bracketed_indexed_goes : (p : ℕ) (logical : Bool) (c : Casts) (n : ℕ)
          → Spelled walk (bracketed_indexed p d inner deeper logical c n).form (w.Good d logical)
      unfolding bracketed_indexed
      bracketed_indexed_goes p logical c n =
          bracketed_goes p logical c n >>+ λ e a good. indexed_goes logical e a good >>! λ r m k. done (refl, k)

      operand_after_goes : (p : ℕ) (logical : Bool) (c : Casts) (l : Lead) (n : ℕ)
          → Spelled walk (operand_after p d inner deeper logical c l n).form (w.Good d logical)
      unfolding operand_after
      operand_after_goes p logical c leads.Name n =
          from_none (indexed_goes logical (OfName n) walk.none (w.names d logical n))
      operand_after_goes p logical c leads.Constant n =
          from_none (indexed_goes logical (OfConstant n) walk.none (w.constants d logical n))
      operand_after_goes p logical c leads.Paren n = bracketed_indexed_goes p logical c n
      operand_after_goes p logical c (leads.Prefix op) n = prefixed_goes logical op n

      operand_goes : (p : ℕ) (logical : Bool) (c : Casts) (o : Others)
          → Spelled walk (operand p d inner deeper logical c o).form (w.Good d logical)
      unfolding operand
      operand_goes p logical c o =
          w.leads o >>- λ l. operand_after_goes p logical c l.0 l.1 >>! λ e m good. done (refl, good)

      expr_of_goes : (p min : ℕ) (logical : Bool) (c : Casts) (o : Others)
          → Spelled walk (expr_of p d inner deeper min logical c o).form (w.Good d logical)
      unfolding expr_of
      expr_of_goes p min logical c o =
          operand_goes p logical c o >>+ λ left a good.
          chain_spelled {P = w.Good d logical} (at_operation min logical) (λ left. (operation d deeper logical left).form) (operation_step min logical) left a good >>! λ e m k. done (refl, k)

  -- ---- expressions

  within_goes : (p : ℕ) (inner : ℕ → Inner)
      → ((d : ℕ) (logical : Bool) (o : Others) → Spelled walk (inner d logical o).form (w.Good d logical))
      → (d min : ℕ) (logical : Bool) (c : Casts) (o : Others)
      → Spelled walk (expr_within p inner d min logical c o).form (w.Good d logical)
  unfolding expr_within
  within_goes p inner i zero min logical c o =
      expr_of_goes zero no_operand (λ min logical. refused_spelled) (inner zero) (i zero) p min logical c o
  within_goes p inner i (suc d) min logical c o =
      expr_of_goes (suc d) (λ min logical. expr_within p inner d min logical casts.Taken others.Steps)
      (λ min logical. within_goes p inner i d min logical casts.Taken others.Steps) (inner (suc d)) (i (suc d)) p min logical c o

  pub expr_goes : (p d min : ℕ) (logical : Bool) (c : Casts) (o : Others)
      → Spelled walk (expr p d min logical c o).form (w.Good d logical)
  unfolding expr
  expr_goes zero d min logical c o = within_goes zero no_inner (λ d logical o. refused_spelled) d min logical c o
  expr_goes (suc p) d min logical c o =
      within_goes (suc p) (λ d logical o. expr p d 1 logical casts.Taken o) (λ d logical o. expr_goes p d 1 logical casts.Taken o) d min logical c o

  pub whole_expr_goes : (p : ℕ) (o : Others) → Spelled walk (whole_expr p o).form (w.Good most_depth false)
  unfolding whole_expr
  whole_expr_goes p o = expr_goes p most_depth 1 false casts.Taken o

  pub condition_goes : (p : ℕ) → Spelled walk (condition p).form (w.Good most_depth true)
  unfolding condition
  condition_goes p = expr_goes p most_depth 1 true casts.Taken others.Steps

  pub target_goes : (p : ℕ) (c : Casts) (o : Others) → Spelled walk (target p c o).form (w.Good most_depth false)
  unfolding target
  target_goes p c o = expr_goes p most_depth 11 false c o

  -- ---- arguments, of which this is asked

  module _ (Arguments : List Expression → walk.Count → Type 0) (nil : Arguments [] walk.none)
      (more : (e : Expression) (es : List Expression) (a m : walk.Count) → w.Good most_depth false e a → Arguments es m → Arguments (e ∷ es) (walk.join a m)) where
    comma_quiet : Quiet walk comma.form
    unfolding comma
    comma_quiet = w.tokens.marks (codes ",") others.Nothing comma_prints >>- λ _. done refl

    argument_goes : (p : ℕ) → Spelled walk (argument p).form (w.Good most_depth false)
    unfolding argument
    argument_goes p =
        whole_expr_goes p others.Steps >>! λ e m good.
        before_either_quiet w.tokens (codes ",") (codes ")") (rest_of false e) >>- λ _. done (refl, good)

    further_argument_goes : (p : ℕ) → Spelled walk (further_argument p).form (w.Good most_depth false)
    unfolding further_argument
    further_argument_goes p = comma_quiet >>- λ _. argument_goes p >>! λ e m good. done (refl, good)

    some_arguments_goes : (p : ℕ) → Spelled walk (some_arguments p).form Arguments
    unfolding some_arguments
    some_arguments_goes p =
        argument_goes p >>+ λ e a good. row_spelled at_comma _ Arguments (further_argument_goes p) nil more >>! λ es m k.
        close_paren_quiet others.Nothing >>- λ _. done (refl, more e es a m good k)

    no_arguments_goes : Spelled walk no_arguments.form Arguments
    unfolding no_arguments
    no_arguments_goes = close_paren_quiet others.Nothing >>- λ _. done nil

    pub arguments_goes : (p : ℕ) → Spelled walk (arguments p).form Arguments
    unfolding arguments
    arguments_goes p =
        sees_quiet w.tokens (codes ")") >>- λ none. either_spelled none no_arguments (some_arguments p) no_arguments_goes (some_arguments_goes p)

  -- ---- what is assigned, of which this is asked

  module _ {Call : CallTree → walk.Count → Type 0} (Assigned : ValueTree → walk.Count → Type 0) (of_call : (c : CallTree) (m : walk.Count) → Call c m → Assigned (OfCall c) m)
      (of_expression : (e : Expression) (m : walk.Count) → w.Good most_depth false e m → Assigned (OfExpression e) m) (calls : (p : ℕ) → Spelled walk (seen at_call (call p).form) Call) where
    called_value_goes : (p : ℕ) → Spelled walk (seen at_call (called_value p).form) Assigned
    unfolding called_value
    called_value_goes p =
        first_seen (call p).form (λ c. made (OfCall c)) (calls p >>! λ c m h. done (refl, of_call c m h))

    plain_value_goes : (p : ℕ) (o : Others) → Spelled walk (plain_value p o).form Assigned
    unfolding plain_value
    plain_value_goes p o = whole_expr_goes p o >>! λ e m h. done (refl, of_expression e m h)

    pub assigned_goes : (p : ℕ) (o : Others) → Spelled walk (assigned p o).form Assigned
    unfolding assigned sees_call
    assigned_goes p o =
        seen_either at_call (called_value (p - 1)) (plain_value p o) (called_value_goes (p - 1)) (plain_value_goes p o)
