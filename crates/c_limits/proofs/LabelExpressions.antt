-- How many labels conditions allocate, against their tokens.
--   label_walk    so many labels are allocated, four for a token at most
use Rattle.c_grammar.specs.ExpressionWalkLaws.{ExpressionWalk, condition_goes}
use Rattle.c_grammar.specs.Expressions.{condition, lead, operator}
use Rattle.c_grammar.specs.Tokens.{Rule, constant, mark, name}
use Rattle.c_grammar.specs.TypeWalkLaws.{TypeTokens}
use Rattle.c_grammar.specs.Types.{specifier}
use Rattle.c_grammar.specs.WalkLaws.{Quiet, Spelled, Walk}
use Rattle.c_unit.specs.Tree.{Expression, AtIndex, WithUnary, WithBinary}
use Rattle.c_unit.specs.declared.expression.Unary.{Unary}
use Rattle.c_unit.specs.declared.expression.Unary.TheVariants as unary
use Rattle.c_unit.specs.declared.expression.Binary.{Binary}
use Rattle.c_unit.specs.declared.expression.Binary.TheVariants as binary
use Rattle.c_lowered.specs.Conditions.{condition_labels}
use Rattle.grammar.specs.Form.{left}
use Rattle.std.proofs.Common.{Bool, refl, true, ℕ, ◌+◌, ◌*◌, ◌≡◌, ◌≤◌, arith}
use Rattle.std.specs.Prelude.{⊤}
use Rattle.c_limits.proofs.Spending.{less, strict}

-- ---- labels against tokens

pub none_before : (m : ℕ) → 0 + m ≡ m
none_before m = omega arith

pub none_after : (m : ℕ) → m + 0 ≡ m
none_after m = omega arith

pub joined : (m n k : ℕ) → m + (n + k) ≡ m + n + k
joined m n k = omega arith

pub no_tokens : (m : ℕ) → 0 + 4 * m ≤ 4 * m
no_tokens m = omega arith

pub both : (m n at mid rest : ℕ) → m + 4 * mid ≤ 4 * at → n + 4 * rest ≤ 4 * mid → m + n + 4 * rest ≤ 4 * at
both m n at mid rest first second = omega arith

-- so many labels are allocated, four for a token at most
abbrev pub label_walk : Walk
label_walk = record {
  Count = ℕ;
  none = 0;
  join = λ m n. m + n;
  none_before = none_before;
  none_after = none_after;
  joined = joined;
  Goes = λ at P rest. (m : ℕ) × P m × (m + 4 * left rest ≤ 4 * left at);
  stays = λ at P h. (0, h, no_tokens (left at));
  goes_on = λ at mid rest P Q hp hq. let k = hq hp.0 hp.1 in (hp.0 + k.0, k.1, both hp.0 k.0 (left at) (left mid) (left rest) hp.2 k.2);
}

pub quiet_so : {some : Bool} {A : Type 0} (r : Rule some A) → Quiet label_walk r.form
quiet_so r = record { each = λ at x rest s. (0, refl, let low = (less r).each at x rest s in omega (arith, low)) }

pub free_so : {some : Bool} {A : Type 0} (r : Rule some A) → Spelled label_walk r.form (λ x m. ⊤)
free_so r = record { each = λ at x rest s. (0, tt, let low = (less r).each at x rest s in omega (arith, low)) }

-- a token takes four
abbrev pub One : ℕ → Type 0
One m = 4 ≤ m

pub one_so : {A : Type 0} (r : Rule true A) → Spelled label_walk r.form (λ x m. One m)
one_so r = record { each = λ at x rest s. (4, omega arith, let low = (strict r).each at x rest s in omega (arith, low)) }

pub label_tokens : TypeTokens label_walk
label_tokens = record {
  marks = λ word o _. quiet_so (mark word o);
  names = λ o. quiet_so (name o);
  constants = λ o. quiet_so (constant o);
  specifiers = λ setting w. quiet_so (specifier setting w);
}

-- ---- expressions

binary_low : (op : Binary) (n : ℕ) (l r : Expression)
    → condition_labels (WithBinary op n l r) ≤ condition_labels l + 4 + condition_labels r
binary_low binary.Both n l r = omega arith
binary_low binary.Either n l r = omega arith
binary_low _ n l r = omega arith

unary_low : (op : Unary) (n : ℕ) (e : Expression) → condition_labels (WithUnary op n e) ≤ 0 + condition_labels e
unary_low unary.Not n e = omega arith
unary_low _ n e = omega arith

binary_heavy : (op : Binary) (n : ℕ) (l r : Expression) (a b m : ℕ) → One b → condition_labels l ≤ a
    → condition_labels r ≤ m → condition_labels (WithBinary op n l r) ≤ a + (b + m)
binary_heavy op n l r a b m one low low' = let most = binary_low op n l r in omega (arith, most, one, low, low')

unary_heavy : (op : Unary) (n : ℕ) (e : Expression) (m : ℕ) → condition_labels e ≤ m
    → condition_labels (WithUnary op n e) ≤ m
unary_heavy op n e m low = let most = unary_low op n e in omega (arith, most, low)

index_heavy : (base : Expression) (n : ℕ) (i : Expression) (a m : ℕ) → condition_labels (AtIndex base n i) ≤ a + m
index_heavy base n i a m = omega arith

abbrev label_expressions : ExpressionWalk label_walk
label_expressions = record {
  Joining = One;
  Good = λ d logical e m. condition_labels e ≤ m;
  tokens = label_tokens;
  leads = λ o. quiet_so (lead o);
  operators = one_so operator;
  names = λ d logical n. omega arith;
  constants = λ d logical n. omega arith;
  parens = λ d logical n e m low. low;
  casts = λ d logical n t e m low. omega arith;
  unaries = λ d logical op n e m low. unary_heavy op n e m low;
  indexes = λ d logical base n i a m _ _ _ _. index_heavy base n i a m;
  binaries = λ d min logical op n left right a b m _ _ one low low'. binary_heavy op n left right a b m one low low';
}

pub label_condition_goes : (p : ℕ) → Spelled label_walk (condition p).form (λ e m. condition_labels e ≤ m)
label_condition_goes p = condition_goes label_expressions p
