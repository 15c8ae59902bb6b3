-- In what rules of expressions and calls spell no more operators are nested than may be.
--   Within d e               at most d operators are nested in it
use Rattle.c_grammar.specs.ExpressionWalkLaws.{ExpressionWalk, arguments_goes, assigned_goes, condition_goes, target_goes, whole_expr_goes}
use Rattle.c_grammar.specs.Expressions.{arguments, assigned, at_call, call, condition, target, whole_expr}
use Rattle.c_grammar.specs.WalkLaws.{Spelled, seen}
use Rattle.c_grammar.specs.declared.others.Casts.{Casts}
use Rattle.c_grammar.specs.declared.others.Others.{Others}
use Rattle.c_unit.specs.Tree.{Expression}
use Rattle.c_unit.specs.Measures.{depth_of}
use Rattle.std.proofs.Common.{suc, ℕ, max, ◌≤◌, arith}
use Rattle.std.specs.Prelude.{⊤}
use Rattle.c_rules.specs.SpelledExpressions.{Every, InCall, InValue}
use Rattle.c_limits.proofs.TypesKeep.{fine_tokens, fine_walk, free_so, quiet_so}
use Rattle.c_limits.proofs.PlainExpressions.{fine_call, lead_keeps, operator_keeps}

abbrev pub Within : ℕ → Expression → Type 0
Within d e = depth_of e ≤ d

abbrev pub Shallow : Expression → Type 0
Shallow e = depth_of e ≤ 10

one_more : (a d : ℕ) → a ≤ d → suc a ≤ suc d
one_more a d low = omega arith

max_more : (a b d : ℕ) → a ≤ d → b ≤ d → suc (max a b) ≤ suc d
max_more a b d low low' = grind (arith, low, low')

abbrev shallow_expressions : ExpressionWalk fine_walk
shallow_expressions = record {
  Joining = λ m. ⊤;
  Good = λ d logical e m. Within d e;
  tokens = fine_tokens;
  leads = λ o. quiet_so (lead_keeps o);
  operators = free_so operator_keeps;
  names = λ d logical n. omega arith;
  constants = λ d logical n. omega arith;
  parens = λ d logical n e m low. low;
  casts = λ d logical n t e m low. one_more (depth_of e) d low;
  unaries = λ d logical op n e m low. one_more (depth_of e) d low;
  indexes = λ d logical base n i a m _ low _ low'. max_more (depth_of base) (depth_of i) d low low';
  binaries = λ d min logical op n left right a b m _ low _ _ low'. max_more (depth_of left) (depth_of right) d low low';
}

-- ---- what rules spell

shallow_arguments : (p : ℕ) → Spelled fine_walk (arguments p).form (λ es m. Every Shallow es)
shallow_arguments p = arguments_goes shallow_expressions (λ es m. Every Shallow es) tt (λ e es a m low made. (low, made)) p

pub call_goes : (p : ℕ) → Spelled fine_walk (seen at_call (call p).form) (λ c m. InCall Shallow c)
call_goes p = fine_call (Every Shallow) shallow_arguments p

pub value_goes : (p : ℕ) (o : Others) → Spelled fine_walk (whole_expr p o).form (λ e m. Shallow e)
value_goes p o = whole_expr_goes shallow_expressions p o

pub shallow_condition_goes : (p : ℕ) → Spelled fine_walk (condition p).form (λ e m. Shallow e)
shallow_condition_goes p = condition_goes shallow_expressions p

pub shallow_target_goes : (p : ℕ) (c : Casts) (o : Others) → Spelled fine_walk (target p c o).form (λ e m. Shallow e)
shallow_target_goes p c o = target_goes shallow_expressions p c o

pub shallow_assigned_goes : (p : ℕ) (o : Others) → Spelled fine_walk (assigned p o).form (λ v m. InValue Shallow v)
shallow_assigned_goes p o = assigned_goes shallow_expressions (λ v m. InValue Shallow v) (λ c m made. made) (λ e m low. low) call_goes p o
