-- Laws of depths.
--   whole_expr_deep, condition_deep, target_deep, arguments_deep
use Rattle.std.proofs.Common.{◌≤◌, ℕ, suc, max, List, arith}
use Rattle.std.specs.Prelude.{⊤}
use Rattle.grammar.specs.Form.{Form}
use Rattle.c_unit.specs.Measures.{depth_of}
use Rattle.c_unit.specs.Units.{Word}
use Rattle.c_grammar.specs.declared.others.Casts.{Casts}
use Rattle.c_grammar.specs.declared.others.Others.{Others}
use Rattle.c_grammar.specs.Symbols.{lead_of}
use Rattle.c_grammar.specs.Tokens.{Fault, Seen, Room}
use Rattle.c_grammar.specs.Expressions.{arguments, condition, fits_lead_of, fits_operator_of, lead, open_paren, operator, sees_call, target, whole_expr}
use Rattle.c_grammar.specs.WalkLaws.{Spelled}
use Rattle.c_grammar.specs.ExpressionWalkLaws.{ExpressionWalk, arguments_goes, condition_goes, open_paren_quiet, target_goes, whole_expr_goes}
use Rattle.c_rules.specs.SpelledExpressions.{Every}
use Rattle.c_limits.proofs.TakingLaws.{Takes, free_so, judged_takes, later_walk, one_takes, quiet_so, takes_so}
use Rattle.c_limits.proofs.TypesTakeLaws.{later_tokens}
use Rattle.c_limits.specs.Measuring.{Quietly}
use Rattle.c_limits.specs.Depths.{Within}

-- ---- tokens

pub operator_takes : Takes operator.form
unfolding operator
operator_takes = one_takes (λ t. fits_operator_of t.symbol t)

pub lead_takes : (o : Others) → Takes (lead o).form
unfolding lead
lead_takes o = one_takes (λ t. fits_lead_of (lead_of t.symbol) o t)

pub sees_call_takes : Takes sees_call.form
unfolding sees_call
sees_call_takes = judged_takes

-- ---- depths

pub least : (d : ℕ) → 0 ≤ d
least d = omega arith

pub one_deeper : (a d : ℕ) → a ≤ d → suc a ≤ suc d
one_deeper a d low = omega arith

pub both_deeper : (a b d : ℕ) → a ≤ d → b ≤ d → suc (max a b) ≤ suc d
both_deeper a b d low low' = grind (arith, low, low')

abbrev pub deep_expressions : ExpressionWalk later_walk
deep_expressions = record {
  Joining = λ m. ⊤;
  Good = λ d logical e m. depth_of e ≤ d;
  tokens = later_tokens;
  leads = λ o. quiet_so (lead_takes o);
  operators = free_so operator_takes;
  names = λ d logical n. least d;
  constants = λ d logical n. least d;
  parens = λ d logical n e m low. low;
  casts = λ d logical n t e m low. one_deeper (depth_of e) d low;
  unaries = λ d logical op n e m low. one_deeper (depth_of e) d low;
  indexes = λ d logical base n i a m _ low _ low'. both_deeper (depth_of base) (depth_of i) d low low';
  binaries = λ d min logical op n left right a b m _ low _ _ low'. both_deeper (depth_of left) (depth_of right) d low low';
}

pub open_paren_takes : Takes open_paren.form
open_paren_takes = takes_so (open_paren_quiet deep_expressions)

module _ (words : List Word) where
  quietly : {A : Type 0} {p : Form Seen Room Fault A} {R : A → Type 0} → Spelled later_walk p (λ x m. R x)
      → Quietly words p R
  quietly h = record { each = λ at x rest s. h.each at x rest s }

  pub whole_expr_deep : (p : ℕ) (o : Others) → Quietly words (whole_expr p o).form (Within words 10)
  whole_expr_deep p o = quietly (whole_expr_goes deep_expressions p o)

  pub condition_deep : (p : ℕ) → Quietly words (condition p).form (Within words 10)
  condition_deep p = quietly (condition_goes deep_expressions p)

  pub target_deep : (p : ℕ) (c : Casts) (o : Others) → Quietly words (target p c o).form (Within words 10)
  target_deep p c o = quietly (target_goes deep_expressions p c o)

  pub arguments_deep : (p : ℕ) → Quietly words (arguments p).form (Every (Within words 10))
  arguments_deep p = quietly (arguments_goes deep_expressions (λ es m. Every (Within words 10) es) tt (λ e es a m low lows. (low, lows)) p)
