-- The rules of single tokens, of types and of declarators take tokens that can be printed.
--   good_walk     where what is left is good, all that stands ahead is, and nothing is counted
--   good_tokens   so it is over single tokens
use Rattle.c_grammar.specs.Tokens.{Fault, Place, Room, Seen, before_either, constant, declares, fits_constant_of, fits_name_of, misfit, name, one_function, some_elements, some_frames}
use Rattle.c_grammar.specs.TypeWalkLaws.{TypeTokens, element_list_quiet, left_bracket_quiet, right_bracket_quiet}
use Rattle.c_grammar.specs.Types.{after_array, after_constant, array, array_size, at_assign, element_list, fits_word_of, left_bracket, right_bracket, specifier}
use Rattle.c_grammar.specs.WalkLaws.{Walk, Spelled, Quiet}
use Rattle.c_grammar.specs.Words.{with_word}
use Rattle.c_grammar.specs.declared.others.Others.{Others}
use Rattle.c_grammar.specs.declared.specifiers.Setting.{Setting}
use Rattle.c_grammar.specs.declared.specifiers.Specifiers.{Specifiers}
use Rattle.c_text.proofs.Taking.{Good, Takes, fitting, judged_takes, made_takes, mark_takes, maybe_takes, one_takes, same_ahead, ◌>>>◌}
use Rattle.grammar.specs.Each.{Each}
use Rattle.grammar.specs.Form.{Form}
use Rattle.std.proofs.Common.{Bool, List, ap, refl, ℕ}
use Rattle.std.specs.Prelude.{codes, ⊤}
use Rattle.c_grammar.specs.declared.others.Others.TheVariants as others

abbrev pub good_walk : Walk
good_walk = record {
  Count = Unit {0};
  none = tt;
  join = λ m n. tt;
  none_before = λ m. refl;
  none_after = λ m. refl;
  joined = λ m n k. refl;
  Goes = λ at P rest. P tt × (Each Good rest.ahead → Each Good at.ahead);
  stays = λ at P h. (h, λ g. g);
  goes_on = λ at mid rest P Q hp hq. let k = hq tt hp.0 in (k.0, λ g. hp.1 (k.1 g));
}

pub quiet_so : {A : Type 0} {p : Form Seen Room Fault A} → Takes p → Quiet good_walk p
quiet_so h = record { each = λ at x rest s. (refl, h.each at x rest s) }

pub takes_so : {A : Type 0} {p : Form Seen Room Fault A} → Quiet good_walk p → Takes p
takes_so h = record { each = λ at x rest s g. (h.each at x rest s).1 g }

-- of which nothing is asked
pub free_so : {A : Type 0} {p : Form Seen Room Fault A} → Takes p → Spelled good_walk p (λ x m. ⊤)
free_so h = record { each = λ at x rest s. (tt, h.each at x rest s) }

pub name_takes : (o : Others) → Takes (name o).form
unfolding name
name_takes o = one_takes (λ t. fits_name_of t.symbol o t) (λ t x e. fitting (λ s t. fits_name_of s o t) t (misfit o t) x refl e)

pub constant_takes : (o : Others) → Takes (constant o).form
unfolding constant
constant_takes o = one_takes (λ t. fits_constant_of t.symbol o t) (λ t x e. fitting (λ s t. fits_constant_of s o t) t (misfit o t) x refl e)

pub before_either_takes : (w : List ℕ) (v : List ℕ) (o : Others) → Takes (before_either w v o).form
unfolding before_either
before_either_takes w v o = judged_takes

pub one_function_takes : Takes one_function.form
unfolding one_function
one_function_takes = same_ahead (λ at x rest s. ap (λ (p : Place). p.ahead) s.1)

pub some_frames_takes : (count : ℕ) → Takes (some_frames count).form
unfolding some_frames
some_frames_takes count = same_ahead (λ at x rest s. ap (λ (p : Place). p.ahead) s.1)

pub some_elements_takes : (count : ℕ) → Takes (some_elements count).form
unfolding some_elements
some_elements_takes count = same_ahead (λ at x rest s. ap (λ (p : Place). p.ahead) s.1)

pub declares_takes : (text : List ℕ) (gives : Bool) → Takes (declares text gives).form
unfolding declares
declares_takes text gives = same_ahead (λ at x rest s. ap (λ (p : Place). p.ahead) s.1)

pub specifier_takes : (setting : Setting) (w : Specifiers) → Takes (specifier setting w).form
unfolding specifier
specifier_takes setting w = one_takes (λ t. fits_word_of (with_word setting w t.symbol) t) (λ t x e. fitting (λ s t. fits_word_of (with_word setting w s) t) t (misfit others.Nothing t) x refl e)

abbrev pub good_tokens : TypeTokens good_walk
good_tokens = record {
  marks = λ word o prints. quiet_so (mark_takes word o prints);
  names = λ o. quiet_so (name_takes o);
  constants = λ o. quiet_so (constant_takes o);
  specifiers = λ setting w. quiet_so (specifier_takes setting w);
}

pub element_list_takes : Takes element_list.form
element_list_takes = takes_so (element_list_quiet good_tokens)

pub left_bracket_takes : Takes left_bracket.form
left_bracket_takes = takes_so (left_bracket_quiet good_tokens)

pub right_bracket_takes : (o : Others) → Takes (right_bracket o).form
right_bracket_takes o = takes_so (right_bracket_quiet good_tokens o)

pub array_size_takes : Takes array_size.form
unfolding array_size
array_size_takes = left_bracket_takes >>> λ _. constant_takes others.Sizes >>> λ s. some_elements_takes s.1 >>> λ _. right_bracket_takes after_constant >>> λ _. made_takes

pub array_takes : Takes array.form
unfolding array
array_takes = array_size_takes >>> λ s. maybe_takes at_assign _ element_list_takes >>> λ cs. before_either_takes (codes ",") (codes ";") (after_array cs) >>> λ _. made_takes
