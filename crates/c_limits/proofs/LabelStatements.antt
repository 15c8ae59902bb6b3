-- How many labels statements allocate, against their tokens.
use Rattle.c_grammar.specs.Expressions.{assigned, call, some_token, target, whole_expr}
use Rattle.c_grammar.specs.StatementWalkLaws.{MayAssign, StatementWalk, all_may}
use Rattle.c_grammar.specs.Statements.{assigning_mark, step}
use Rattle.c_grammar.specs.Tokens.{mark, name, some_frames}
use Rattle.c_grammar.specs.Types.{array_size}
use Rattle.c_grammar.specs.WalkLaws.{IfThere, Quietly, seen_anywhere}
use Rattle.c_unit.specs.Tree as tree
use Rattle.c_unit.specs.Tree.{EffectTree, Expression, Statement, Statements, statements_of, if_of, for_of}
use Rattle.grammar.specs.Rule.{value, ◌>>=◌, ◌>>◌}
use Rattle.c_lowered.specs.Conditions.{condition_labels}
use Rattle.c_lowered.specs.Statements.{is_case, cases_in, labels_in, labels_in_all}
use Rattle.std.proofs.Common.{Bool, List, [], ◌∷◌, Option, Some, None, refl, ℕ, ◌+◌, ◌≤◌, arith}
use Rattle.std.specs.Prelude.{⊤}
use Rattle.c_limits.proofs.Spending.{less, total}
use Rattle.c_limits.proofs.LabelExpressions.{One, free_so, label_condition_goes, label_tokens, label_walk, one_so, quiet_so}

abbrev block_cases : Statement → ℕ
block_cases (tree.Block ss) = cases_in ss
block_cases _ = 0

abbrev pub weight : Statement → ℕ
weight s = is_case s + labels_in s + block_cases s

pub any_assigning : (to : Expression) (last : Bool)
    → Quietly label_walk (assigning_mark to last).form (λ a. MayAssign (λ op. ⊤) a.0)
any_assigning to last = record { each = λ at x rest s. (0, (refl, all_may x.0), let low = (less (assigning_mark to last)).each at x rest s in omega (arith, low)) }

-- ---- statements

abbrev pub Heavy : Statement → ℕ → Type 0
Heavy s m = weight s ≤ m

abbrev pub IfHeavy : Option Statement → ℕ → Type 0
IfHeavy = IfThere label_walk Heavy

pub controls_low : (c : Expression) (a m b : ℕ) → One a → condition_labels c ≤ m → One b
    → condition_labels c + 8 ≤ a + (m + b)
controls_low c a m b one low other = omega arith

pub selects_low : (a m b : ℕ) → One a → One b → 8 ≤ a + (m + b)
selects_low a m b one other = omega arith

pub if_low : (c : Expression) (s : Statement) (e : Option Statement) (a m n : ℕ) → condition_labels c + 8 ≤ a
    → Heavy s m → IfHeavy e n → Heavy (if_of c s e) (a + (m + n))
if_low c s None a m n control low other = omega arith
if_low c s (Some e) a m n control low other = omega arith

pub while_low : (c : Expression) (s : Statement) (a m : ℕ) → condition_labels c + 8 ≤ a → Heavy s m
    → Heavy (tree.While c s) (a + m)
while_low c s a m control low = omega arith

pub do_low : (s : Statement) (c : Expression) (m a : ℕ) → Heavy s m → condition_labels c + 8 ≤ a
    → Heavy (tree.Do s c) (m + a)
do_low s c m a low control = omega arith

pub for_low : (f : Option Statement) (c : Option Expression) (e : Option EffectTree) (s : Statement) (p a b d m : ℕ)
    → One p → IfHeavy f a → IfThere label_walk (λ c m. condition_labels c ≤ m) c b → Heavy s m → Heavy (for_of f c e s) (p + (a + (b + (d + m))))
for_low None None e s p a b d m one first control low = omega arith
for_low None (Some c) e s p a b d m one first control low = omega arith
for_low (Some f) None e s p a b d m one first control low = omega arith
for_low (Some f) (Some c) e s p a b d m one first control low = omega arith

pub switch_low : (e : Expression) (ss : Statements) (a m : ℕ) → 8 ≤ a → Heavy (tree.Block ss) m
    → Heavy (tree.Switch e ss) (a + m)
switch_low e ss a m control low = omega arith

pub one_low : (m : ℕ) → One m → 1 ≤ m
one_low m one = omega arith

pub all_low : (ss : List Statement) → labels_in_all (statements_of ss) + cases_in (statements_of ss) ≤ total weight ss
all_low [] = omega arith
all_low (s ∷ ss) = omega (arith, all_low ss)

pub block_low : (ss : List Statement) (m : ℕ) → total weight ss ≤ m → Heavy (tree.Block (statements_of ss)) m
block_low ss m low = let all = all_low ss in omega (arith, all, low)

abbrev pub label_statements : StatementWalk label_walk
label_statements = record {
  One = One;
  Named = λ n m. ⊤;
  Sized = λ n m. ⊤;
  MayUpdate = λ op. ⊤;
  Value = λ e m. ⊤;
  Condition = λ c m. condition_labels c ≤ m;
  Call = λ c m. ⊤;
  Assigned = λ v m. ⊤;
  Controls = λ c m. condition_labels c + 8 ≤ m;
  Selects = λ e m. 8 ≤ m;
  Effect = λ e m. ⊤;
  Local = λ l m. ⊤;
  Locals = λ ls m. ⊤;
  Stands = Heavy;
  Stand = λ ss m. total weight ss ≤ m;
  tokens = label_tokens;
  counted = λ word o _. one_so (mark word o);
  steps = quiet_so step;
  assigns = any_assigning;
  words = seen_anywhere _ (quiet_so some_token);
  named = λ o. free_so (name o >>= λ t. some_frames 1 >> value t);
  sized = free_so array_size;
  values = λ p o. free_so (whole_expr p o);
  targets = λ p c o. free_so (target p c o);
  conditions = label_condition_goes;
  calls = λ p. seen_anywhere _ (free_so (call p));
  assigned_values = λ p o. free_so (assigned p o);
  call_effects = λ c m _. tt;
  step_effects = λ e up n m _. tt;
  assign_effects = λ to n v a m _ _. tt;
  update_effects = λ to op n e a m _ _ _. tt;
  pointers = λ n v a m _ _. tt;
  integers = λ n v a m _ _. tt;
  arrays = λ n s cs a m _ _. tt;
  no_locals = tt;
  more_locals = λ l ls a m _ _. tt;
  declares = λ n i ls m _. omega arith;
  cases = λ n c m one. one_low m one;
  defaults = λ n m one. one_low m one;
  controls = λ c a m b one low other. controls_low c a m b one low other;
  selects = λ e a m b one _ other. selects_low a m b one other;
  ifs = λ c s e a m n control low other. if_low c s e a m n control low other;
  whiles = λ c s a m control low. while_low c s a m control low;
  dos = λ s c m a low control. do_low s c m a low control;
  fors = λ f c e s p a b d m one first control _ low. for_low f c e s p a b d m one first control low;
  switches = λ e ss a m control low. switch_low e ss a m control low;
  breaks = λ n. omega arith;
  continues = λ n. omega arith;
  returns = λ n. omega arith;
  value_returns = λ n v m _. omega arith;
  empties = λ n. omega arith;
  blocks = λ ss m low. block_low ss m low;
  no_statements = omega arith;
  more_statements = λ s ss a m low others_low. omega (arith, low, others_low);
  effects = λ e m _. omega arith;
}
