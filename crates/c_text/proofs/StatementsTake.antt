-- The rules of statements take tokens that can be printed.
--   good_statements   the walk over them
use Rattle.c_grammar.specs.Expressions.{is_postfix, some_token}
use Rattle.c_grammar.specs.ExpressionWalkLaws.{condition_goes, target_goes, whole_expr_goes}
use Rattle.c_grammar.specs.StatementWalkLaws.{MayAssign, StatementWalk, all_may}
use Rattle.c_grammar.specs.Statements.{assigning_mark, fits_assigning_of, fits_step_of, is_statement, step}
use Rattle.c_grammar.specs.Tokens.{at_symbol, misfit}
use Rattle.c_grammar.specs.WalkLaws.{Quiet, Quietly, seen}
use Rattle.c_text.proofs.ExpressionsTake.{call_goes, good_assigned_goes, good_expressions}
use Rattle.c_text.proofs.Taking.{Takes, first_good, fitting, made_takes, mark_takes, one_takes, same, ◌>>>◌}
use Rattle.c_text.proofs.TypesTake.{array_size_takes, free_so, good_tokens, good_walk, name_takes, quiet_so, some_frames_takes}
use Rattle.c_unit.specs.Tree.{Expression}
use Rattle.grammar.specs.Form.{after}
use Rattle.std.proofs.Common.{Bool, refl}
use Rattle.std.specs.Prelude.{⊤}
use Rattle.c_grammar.specs.declared.others.Others.TheVariants as others

-- ---- tokens

pub step_takes : Takes step.form
unfolding step
step_takes = one_takes (λ t. fits_step_of t.symbol t) (λ t x e. fitting fits_step_of t (misfit others.Nothing t) x refl e)

pub assigning_takes : (to : Expression) (last : Bool) → Takes (assigning_mark to last).form
unfolding assigning_mark
assigning_takes to last = one_takes (λ t. fits_assigning_of t.symbol (is_postfix to) (others.RestOrEnd last) t)
    (λ t x e. fitting (λ s t. fits_assigning_of s (is_postfix to) (others.RestOrEnd last) t) t (misfit (others.RestOrEnd last) t) x refl e)

pub assigning_goes : (to : Expression) (last : Bool)
    → Quietly good_walk (assigning_mark to last).form (λ a. MayAssign (λ op. ⊤) a.0)
assigning_goes to last = record { each = λ at x rest s. ((refl, all_may x.0), (assigning_takes to last).each at x rest s) }

-- where the first word of a statement comes next
pub word_goes : Quiet good_walk (seen (λ at. at_symbol is_statement at) some_token.form)
unfolding some_token
word_goes = record { each = λ at t rest s. (refl, λ g. first_good is_statement at.ahead refl s.0 (same (after at) rest s.1.1 g)) }

-- ---- statements

abbrev pub good_statements : StatementWalk good_walk
good_statements = record {
  One = λ m. ⊤;
  Named = λ n m. ⊤;
  Sized = λ n m. ⊤;
  MayUpdate = λ op. ⊤;
  Value = λ e m. ⊤;
  Condition = λ c m. ⊤;
  Call = λ c m. ⊤;
  Assigned = λ v m. ⊤;
  Controls = λ c m. ⊤;
  Selects = λ e m. ⊤;
  Effect = λ e m. ⊤;
  Local = λ l m. ⊤;
  Locals = λ ls m. ⊤;
  Stands = λ s m. ⊤;
  Stand = λ ss m. ⊤;
  tokens = good_tokens;
  counted = λ word o prints. free_so (mark_takes word o prints);
  steps = quiet_so step_takes;
  assigns = assigning_goes;
  words = word_goes;
  named = λ o. free_so (name_takes o >>> λ t. some_frames_takes 1 >>> λ _. made_takes);
  sized = free_so array_size_takes;
  values = whole_expr_goes good_expressions;
  targets = target_goes good_expressions;
  conditions = condition_goes good_expressions;
  calls = call_goes;
  assigned_values = good_assigned_goes;
  call_effects = λ c m _. tt;
  step_effects = λ e up n m _. tt;
  assign_effects = λ to n v a m _ _. tt;
  update_effects = λ to op n e a m _ _ _. tt;
  pointers = λ n v a m _ _. tt;
  integers = λ n v a m _ _. tt;
  arrays = λ n s cs a m _ _. tt;
  no_locals = tt;
  more_locals = λ l ls a m _ _. tt;
  declares = λ n i ls m _. tt;
  cases = λ n c m _. tt;
  defaults = λ n m _. tt;
  controls = λ c a m b _ _ _. tt;
  selects = λ e a m b _ _ _. tt;
  ifs = λ c s e a m n _ _ _. tt;
  whiles = λ c s a m _ _. tt;
  dos = λ s c m a _ _. tt;
  fors = λ f c e s p a b d m _ _ _ _ _. tt;
  switches = λ e ss a m _ _. tt;
  breaks = λ n. tt;
  continues = λ n. tt;
  returns = λ n. tt;
  value_returns = λ n v m _. tt;
  empties = λ n. tt;
  blocks = λ ss m _. tt;
  no_statements = tt;
  more_statements = λ s ss a m _ _. tt;
  effects = λ e m _. tt;
}
