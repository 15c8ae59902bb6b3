-- The rules of single tokens, of types and of declarators keep tokens fine.
--   fine_walk     where the tokens ahead are fine, those that are left are, and nothing is counted
--   fine_tokens   so it is over single tokens
use Rattle.c_grammar.specs.Tokens.{Fault, Place, Room, Seen, before_either, constant, declares, name, one_function, some_elements, some_frames}
use Rattle.c_grammar.specs.TypeWalkLaws.{TypeTokens, element_list_quiet, left_bracket_quiet, right_bracket_quiet}
use Rattle.c_grammar.specs.Types.{after_array, after_constant, array, array_size, at_assign, element_list, left_bracket, right_bracket, specifier}
use Rattle.c_grammar.specs.WalkLaws.{Walk, Spelled, Quiet}
use Rattle.c_grammar.specs.declared.others.Others.{Others}
use Rattle.c_grammar.specs.declared.specifiers.Setting.{Setting}
use Rattle.c_grammar.specs.declared.specifiers.Specifiers.{Specifiers}
use Rattle.c_limits.proofs.Keeping.{Fine, Keeps, judged_keeps, made_keeps, mark_keeps, maybe_keeps, one_keeps, same_ahead, ◌>>>◌}
use Rattle.grammar.specs.Each.{Each}
use Rattle.grammar.specs.Form.{Form}
use Rattle.std.proofs.Common.{Bool, List, ap, refl, ℕ}
use Rattle.std.specs.Prelude.{codes, ⊤}
use Rattle.c_grammar.specs.declared.others.Others.TheVariants as others

abbrev pub fine_walk : Walk
fine_walk = record {
  Count = Unit {0};
  none = tt;
  join = λ m n. tt;
  none_before = λ m. refl;
  none_after = λ m. refl;
  joined = λ m n k. refl;
  Goes = λ at P rest. Each Fine at.ahead → P tt × Each Fine rest.ahead;
  stays = λ at P h g. (h, g);
  goes_on = λ at mid rest P Q hp hq g. let k = hp g in hq tt k.0 k.1;
}

pub quiet_so : {A : Type 0} {p : Form Seen Room Fault A} → Keeps p → Quiet fine_walk p
quiet_so h = record { each = λ at x rest s g. (refl, h.each at x rest s g) }

pub keeps_so : {A : Type 0} {p : Form Seen Room Fault A} → Quiet fine_walk p → Keeps p
keeps_so h = record { each = λ at x rest s g. (h.each at x rest s g).1 }

-- of which nothing is asked
pub free_so : {A : Type 0} {p : Form Seen Room Fault A} → Keeps p → Spelled fine_walk p (λ x m. ⊤)
free_so h = record { each = λ at x rest s g. (tt, h.each at x rest s g) }

pub name_keeps : (o : Others) → Keeps (name o).form
unfolding name
name_keeps o = one_keeps

pub constant_keeps : (o : Others) → Keeps (constant o).form
unfolding constant
constant_keeps o = one_keeps

pub before_either_keeps : (w : List ℕ) (v : List ℕ) (o : Others) → Keeps (before_either w v o).form
unfolding before_either
before_either_keeps w v o = judged_keeps

pub one_function_keeps : Keeps one_function.form
unfolding one_function
one_function_keeps = same_ahead (λ at x rest s. ap (λ (p : Place). p.ahead) s.1)

pub some_frames_keeps : (count : ℕ) → Keeps (some_frames count).form
unfolding some_frames
some_frames_keeps count = same_ahead (λ at x rest s. ap (λ (p : Place). p.ahead) s.1)

pub some_elements_keeps : (count : ℕ) → Keeps (some_elements count).form
unfolding some_elements
some_elements_keeps count = same_ahead (λ at x rest s. ap (λ (p : Place). p.ahead) s.1)

pub declares_keeps : (text : List ℕ) (gives : Bool) → Keeps (declares text gives).form
unfolding declares
declares_keeps text gives = same_ahead (λ at x rest s. ap (λ (p : Place). p.ahead) s.1)

pub specifier_keeps : (setting : Setting) (w : Specifiers) → Keeps (specifier setting w).form
unfolding specifier
specifier_keeps setting w = one_keeps

abbrev pub fine_tokens : TypeTokens fine_walk
fine_tokens = record {
  marks = λ word o _. quiet_so (mark_keeps word o);
  names = λ o. quiet_so (name_keeps o);
  constants = λ o. quiet_so (constant_keeps o);
  specifiers = λ setting w. quiet_so (specifier_keeps setting w);
}

pub element_list_keeps : Keeps element_list.form
element_list_keeps = keeps_so (element_list_quiet fine_tokens)

pub left_bracket_keeps : Keeps left_bracket.form
left_bracket_keeps = keeps_so (left_bracket_quiet fine_tokens)

pub right_bracket_keeps : (o : Others) → Keeps (right_bracket o).form
right_bracket_keeps o = keeps_so (right_bracket_quiet fine_tokens o)

pub array_size_keeps : Keeps array_size.form
unfolding array_size
array_size_keeps = left_bracket_keeps >>> λ _. constant_keeps others.Sizes >>> λ s. some_elements_keeps s.1 >>> λ _. right_bracket_keeps after_constant >>> λ _. made_keeps

pub array_keeps : Keeps array.form
unfolding array
array_keeps = array_size_keeps >>> λ s. maybe_keeps at_assign _ element_list_keeps >>> λ cs. before_either_keeps (codes ",") (codes ";") (after_array cs) >>> λ _. made_keeps
