-- The rules of single tokens, of types and of parameters count nothing.
use Rattle.c_grammar.specs.Tokens.{before_either, constant, fits_constant_of, fits_name_of, name, next_number, sees}
use Rattle.c_grammar.specs.TypeWalkLaws.{TypeTokens, assign_mark_quiet, bracketed_type_quiet, close_brace_quiet, comma_mark_quiet, element_list_quiet, integer_told_quiet, integer_type_quiet, left_bracket_quiet, parameter_end_quiet, right_bracket_quiet, right_paren_quiet, signed_constant_quiet, star_quiet, type_of_quiet}
use Rattle.c_grammar.specs.Types.{assign_mark, bracketed_type, close_brace, comma_mark, element_list, fits_word_of, integer_told, integer_type, left_bracket, parameter_end, right_bracket, right_paren, signed_constant, specifier, star, type_of}
use Rattle.c_grammar.specs.Words.{with_word}
use Rattle.c_grammar.specs.declared.others.Others.{Others}
use Rattle.c_grammar.specs.declared.specifiers.Setting.{Setting}
use Rattle.c_grammar.specs.declared.specifiers.Specifiers.{Specifiers}
use Rattle.c_limits.proofs.TakingLaws.{Takes, judged_takes, later_walk, mark_takes, one_takes, quiet_so, takes_so}
use Rattle.c_unit.specs.declared.types.Integer.{Integer}
use Rattle.c_unit.specs.declared.types.Outcome.{Outcome}
use Rattle.std.proofs.Common.{Bool, List, ℕ}

pub name_takes : (o : Others) → Takes (name o).form
unfolding name
name_takes o = one_takes (λ t. fits_name_of t.symbol o t)

pub constant_takes : (o : Others) → Takes (constant o).form
unfolding constant
constant_takes o = one_takes (λ t. fits_constant_of t.symbol o t)

pub next_number_takes : Takes next_number.form
unfolding next_number
next_number_takes = judged_takes

pub sees_takes : (w : List ℕ) → Takes (sees w).form
unfolding sees
sees_takes w = judged_takes

pub before_either_takes : (w : List ℕ) (v : List ℕ) (o : Others) → Takes (before_either w v o).form
unfolding before_either
before_either_takes w v o = judged_takes

pub specifier_takes : (setting : Setting) (w : Specifiers) → Takes (specifier setting w).form
unfolding specifier
specifier_takes setting w = one_takes (λ t. fits_word_of (with_word setting w t.symbol) t)

abbrev pub later_tokens : TypeTokens later_walk
later_tokens = record {
  marks = λ word o _. quiet_so (mark_takes word o);
  names = λ o. quiet_so (name_takes o);
  constants = λ o. quiet_so (constant_takes o);
  specifiers = λ setting w. quiet_so (specifier_takes setting w);
}

pub type_of_takes : (setting : Setting) → Takes (type_of setting).form
type_of_takes setting = takes_so (type_of_quiet later_tokens setting)

pub integer_told_takes : (o : Others) (t : Outcome) → Takes (integer_told o t).form
integer_told_takes o t = takes_so (integer_told_quiet later_tokens o t)

pub integer_type_takes : (setting : Setting) → Takes (integer_type setting).form
integer_type_takes setting = takes_so (integer_type_quiet later_tokens setting)

pub star_takes : Takes star.form
star_takes = takes_so (star_quiet later_tokens)

pub signed_constant_takes : (o : Others) → Takes (signed_constant o).form
signed_constant_takes o = takes_so (signed_constant_quiet later_tokens o)

pub assign_mark_takes : Takes assign_mark.form
assign_mark_takes = takes_so (assign_mark_quiet later_tokens)

pub comma_mark_takes : Takes comma_mark.form
comma_mark_takes = takes_so (comma_mark_quiet later_tokens)

pub close_brace_takes : Takes close_brace.form
close_brace_takes = takes_so (close_brace_quiet later_tokens)

pub element_list_takes : Takes element_list.form
element_list_takes = takes_so (element_list_quiet later_tokens)

pub left_bracket_takes : Takes left_bracket.form
left_bracket_takes = takes_so (left_bracket_quiet later_tokens)

pub right_bracket_takes : (o : Others) → Takes (right_bracket o).form
right_bracket_takes o = takes_so (right_bracket_quiet later_tokens o)

pub parameter_end_takes : (o : Others) → Takes (parameter_end o).form
parameter_end_takes o = takes_so (parameter_end_quiet later_tokens o)

pub bracketed_type_takes : (b : Bool) (i : Integer) → Takes (bracketed_type b i).form
bracketed_type_takes b i = takes_so (bracketed_type_quiet later_tokens b i)

pub right_paren_takes : (o : Others) → Takes (right_paren o).form
right_paren_takes o = takes_so (right_paren_quiet later_tokens o)
