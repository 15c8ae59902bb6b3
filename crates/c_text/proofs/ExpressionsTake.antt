-- The rules of expressions and calls take tokens that can be printed.
use Rattle.c_grammar.specs.ExpressionWalkLaws.{ExpressionWalk, arguments_goes, assigned_goes, open_paren_quiet}
use Rattle.c_grammar.specs.Expressions.{arguments, assigned, at_call, call, call_frame, fits_lead_of, fits_operator_of, lead, open_paren, operator, some_token}
use Rattle.c_grammar.specs.Symbols.{is_name, lead_of}
use Rattle.c_grammar.specs.Tokens.{at_symbol, at_text, misfit, some_frames}
use Rattle.c_grammar.specs.WalkLaws.{Quiet, Spelled, done, first_seen, seen, ◌>>-◌, ◌>>!◌}
use Rattle.c_grammar.specs.declared.others.Others.{Others}
use Rattle.c_text.proofs.Taking.{Takes, either_takes, first_good, first_holds, fitting, judged_takes, made_takes, one_takes, same, ◌>>>◌}
use Rattle.c_text.proofs.TypesTake.{free_so, good_tokens, good_walk, quiet_so, some_frames_takes}
use Rattle.grammar.specs.Form.{after, bound, made}
use Rattle.grammar.specs.Rule.{value}
use Rattle.std.proofs.Common.{List, refl, ℕ}
use Rattle.std.specs.Prelude.{codes, ⊤}
use Rattle.c_grammar.specs.declared.others.Others.TheVariants as others

pub operator_takes : Takes operator.form
unfolding operator
operator_takes = one_takes (λ t. fits_operator_of t.symbol t) (λ t x e. fitting fits_operator_of t (misfit others.Nothing t) x refl e)

pub lead_takes : (o : Others) → Takes (lead o).form
unfolding lead
lead_takes o = one_takes (λ t. fits_lead_of (lead_of t.symbol) o t) (λ t x e. fitting (λ s t. fits_lead_of (lead_of s) o t) t (misfit o t) x refl e)

pub call_frame_takes : (text : List ℕ) → Takes (call_frame text).form
unfolding call_frame
call_frame_takes text = judged_takes >>> λ known. either_takes known (some_frames 1) (value tt) (some_frames_takes 1) made_takes

abbrev pub good_expressions : ExpressionWalk good_walk
good_expressions = record {
  Joining = λ m. ⊤;
  Good = λ d logical e m. ⊤;
  tokens = good_tokens;
  leads = λ o. quiet_so (lead_takes o);
  operators = free_so operator_takes;
  names = λ d logical n. tt;
  constants = λ d logical n. tt;
  parens = λ d logical n e m _. tt;
  casts = λ d logical n t e m _. tt;
  unaries = λ d logical op n e m _. tt;
  indexes = λ d logical base n i a m _ _ _ _. tt;
  binaries = λ d min logical op n left right a b m _ _ _ _ _. tt;
}

-- where a name comes next
name_goes : Quiet good_walk (seen at_call some_token.form)
unfolding some_token
name_goes = record { each = λ at t rest s. (refl, λ g. first_good is_name at.ahead refl (first_holds (at_symbol is_name at) (at_text (codes "(") (after at)) s.0) (same (after at) rest s.1.1 g)) }

pub call_goes : (p : ℕ) → Spelled good_walk (seen at_call (call p).form) (λ c m. ⊤)
unfolding call
call_goes p =
    first_seen some_token.form (λ t. bound open_paren.form (λ _. bound (call_frame t.text).form (λ _. bound (arguments p).form (λ es. made (record { name = t.number; arguments = es })))))
    (name_goes >>- λ t. open_paren_quiet good_expressions >>- λ _. quiet_so (call_frame_takes t.text) >>- λ _. arguments_goes good_expressions (λ es m. ⊤) tt (λ e es a m _ _. tt) p >>! λ es m _. done (refl, tt))

pub good_assigned_goes : (p : ℕ) (o : Others) → Spelled good_walk (assigned p o).form (λ v m. ⊤)
good_assigned_goes p o = assigned_goes good_expressions (λ v m. ⊤) (λ c m _. tt) (λ e m _. tt) call_goes p o
