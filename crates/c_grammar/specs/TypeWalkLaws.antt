-- The walk over types and declarators, in which nothing is counted.
--   TypeTokens walk    what is asked of single tokens: nothing is counted for a mark, a name, a constant or a word of a type
use Rattle.c_grammar.specs.Tokens.{before, before_either, constant, mark, name, next_number, sees}
use Rattle.c_grammar.specs.Types.{after_constant, after_plain, after_pointer, assign_mark, at_const, at_further, at_list_comma, at_name, at_specifier, bracketed_type, close_brace, comma_mark, const_word, element, element_list, elements, empty_brackets, further_element, further_parameter, integer_told, integer_type, left_bracket, minus_constant, minus_sign, no_parameters, no_words, parameter_end, parameter_tail, parameters, parameters_after, parameters_from, plain_constant, plain_parameter, pointer_parameter, pointer_stars, pointer_to, right_bracket, right_paren, signed_constant, some_parameters, specifier, star, type_of, type_told, void_parameters}
use Rattle.c_grammar.specs.WalkLaws.{Walk, Quiet, chain_quiet, done, either_spelled, judged_spelled, maybe_quiet, row_quiet, ◌>>-◌}
use Rattle.c_grammar.specs.declared.others.Others.{Others}
use Rattle.c_grammar.specs.declared.specifiers.Setting.{Setting}
use Rattle.c_grammar.specs.declared.specifiers.Specifiers.{Specifiers}
use Rattle.c_tokens.specs.Kinds.{kind_of}
use Rattle.c_tokens.specs.Printed.{can_print}
use Rattle.c_unit.specs.declared.types.Integer.{Integer}
use Rattle.c_unit.specs.declared.types.Outcome.{Outcome}
use Rattle.grammar.specs.Rule.{value, weaken}
use Rattle.std.proofs.Common.{Bool, List, refl, true, ℕ, ◌≡◌}
use Rattle.std.specs.Prelude.{codes}
use Rattle.c_grammar.specs.declared.others.Others.TheVariants as others
use Rattle.c_unit.specs.declared.types.Outcome.TheVariants as outcomes
use Rattle.c_unit.specs.declared.types.Scalar.TheVariants as scalars
use Rattle.c_grammar.specs.declared.specifiers.Setting.TheVariants as settings

-- ---- the marks can be printed

pub const_prints : can_print (codes "const") ≡ true
unfolding can_print kind_of
const_prints = refl

pub star_prints : can_print (codes "*") ≡ true
unfolding can_print kind_of
star_prints = refl

pub minus_prints : can_print (codes "-") ≡ true
unfolding can_print kind_of
minus_prints = refl

pub equals_prints : can_print (codes "=") ≡ true
unfolding can_print kind_of
equals_prints = refl

pub open_brace_prints : can_print (codes "{") ≡ true
unfolding can_print kind_of
open_brace_prints = refl

pub close_brace_prints : can_print (codes "}") ≡ true
unfolding can_print kind_of
close_brace_prints = refl

pub open_bracket_prints : can_print (codes "[") ≡ true
unfolding can_print kind_of
open_bracket_prints = refl

pub close_bracket_prints : can_print (codes "]") ≡ true
unfolding can_print kind_of
close_bracket_prints = refl

pub open_paren_prints : can_print (codes "(") ≡ true
unfolding can_print kind_of
open_paren_prints = refl

pub close_paren_prints : can_print (codes ")") ≡ true
unfolding can_print kind_of
close_paren_prints = refl

pub comma_prints : can_print (codes ",") ≡ true
unfolding can_print kind_of
comma_prints = refl

pub semicolon_prints : can_print (codes ";") ≡ true
unfolding can_print kind_of
semicolon_prints = refl

pub colon_prints : can_print (codes ":") ≡ true
unfolding can_print kind_of
colon_prints = refl

pub case_prints : can_print (codes "case") ≡ true
unfolding can_print kind_of
case_prints = refl

pub default_prints : can_print (codes "default") ≡ true
unfolding can_print kind_of
default_prints = refl

pub else_prints : can_print (codes "else") ≡ true
unfolding can_print kind_of
else_prints = refl

pub while_prints : can_print (codes "while") ≡ true
unfolding can_print kind_of
while_prints = refl

-- ---- types

pub record TypeTokens (walk : Walk) : Type 0 where
  pub marks : (word : List ℕ) (o : Others) → can_print word ≡ true → Quiet walk (mark word o).form
  pub names : (o : Others) → Quiet walk (name o).form
  pub constants : (o : Others) → Quiet walk (constant o).form
  pub specifiers : (setting : Setting) (w : Specifiers) → Quiet walk (specifier setting w).form

module _ {walk : Walk} (tokens : TypeTokens walk) where
  pub next_number_quiet : Quiet walk next_number.form
  unfolding next_number
  next_number_quiet = judged_spelled

  pub sees_quiet : (w : List ℕ) → Quiet walk (sees w).form
  unfolding sees
  sees_quiet w = judged_spelled

  pub before_quiet : (w : List ℕ) (o : Others) → Quiet walk (before w o).form
  unfolding before
  before_quiet w o = judged_spelled

  pub before_either_quiet : (w : List ℕ) (v : List ℕ) (o : Others) → Quiet walk (before_either w v o).form
  unfolding before_either
  before_either_quiet w v o = judged_spelled

  pub type_told_quiet : (w : Specifiers) → Quiet walk (type_told w).form
  unfolding type_told
  type_told_quiet w = judged_spelled

  pub type_of_quiet : (setting : Setting) → Quiet walk (type_of setting).form
  unfolding type_of
  type_of_quiet setting =
      tokens.specifiers setting no_words >>- λ w. chain_quiet at_specifier _ (tokens.specifiers setting) w >>- λ ws.
      type_told_quiet ws >>- λ o. done refl

  pub integer_told_quiet : (o : Others) (t : Outcome) → Quiet walk (integer_told o t).form
  unfolding integer_told
  integer_told_quiet o t = judged_spelled

  pub integer_type_quiet : (setting : Setting) → Quiet walk (integer_type setting).form
  unfolding integer_type
  integer_type_quiet setting = type_of_quiet setting >>- λ o. integer_told_quiet others.Nothing o >>- λ i. done refl

  pub const_word_quiet : Quiet walk const_word.form
  unfolding const_word
  const_word_quiet = tokens.marks (codes "const") others.Nothing const_prints >>- λ _. done refl

  pub star_quiet : Quiet walk star.form
  unfolding star
  star_quiet =
      tokens.marks (codes "*") others.Nothing star_prints >>- λ _. row_quiet at_const _ const_word_quiet >>- λ consts.
      done refl

  pub pointer_to_quiet : (i : Integer) → Quiet walk (pointer_to i).form
  unfolding pointer_to
  pointer_to_quiet i = star_quiet >>- λ _. done refl

  pub pointer_stars_quiet : (p : Bool) (i : Integer) → Quiet walk (pointer_stars p i).form
  unfolding pointer_stars
  pointer_stars_quiet p i =
      either_spelled p (weaken (pointer_to i)) (value (scalars.Integer i)) (pointer_to_quiet i) (done refl)

  pub minus_sign_quiet : Quiet walk minus_sign.form
  unfolding minus_sign
  minus_sign_quiet = tokens.marks (codes "-") others.Nothing minus_prints >>- λ _. done refl

  pub minus_constant_quiet : Quiet walk minus_constant.form
  unfolding minus_constant
  minus_constant_quiet = minus_sign_quiet >>- λ _. tokens.constants others.Expressions >>- λ c. done refl

  pub plain_constant_quiet : (o : Others) → Quiet walk (plain_constant o).form
  unfolding plain_constant
  plain_constant_quiet o = tokens.constants o >>- λ c. done refl

  pub signed_constant_quiet : (o : Others) → Quiet walk (signed_constant o).form
  unfolding signed_constant
  signed_constant_quiet o =
      sees_quiet (codes "-") >>- λ m.
      either_spelled m minus_constant (plain_constant o) minus_constant_quiet (plain_constant_quiet o) >>- λ c.
      done refl

  pub assign_mark_quiet : Quiet walk assign_mark.form
  unfolding assign_mark
  assign_mark_quiet = tokens.marks (codes "=") others.Nothing equals_prints

  pub comma_mark_quiet : Quiet walk comma_mark.form
  unfolding comma_mark
  comma_mark_quiet = tokens.marks (codes ",") others.Nothing comma_prints >>- λ _. done refl

  pub element_quiet : Quiet walk element.form
  unfolding element
  element_quiet =
      signed_constant_quiet others.ExpressionsAndBraces >>- λ c.
      before_either_quiet (codes ",") (codes "}") after_constant >>- λ _. done refl

  pub further_element_quiet : Quiet walk further_element.form
  unfolding further_element
  further_element_quiet = comma_mark_quiet >>- λ _. element_quiet >>- λ c. done refl

  pub close_brace_quiet : Quiet walk close_brace.form
  unfolding close_brace
  close_brace_quiet = tokens.marks (codes "}") others.Nothing close_brace_prints >>- λ _. done refl

  pub elements_quiet : Quiet walk elements.form
  unfolding elements
  elements_quiet =
      element_quiet >>- λ c. row_quiet at_further _ further_element_quiet >>- λ cs.
      maybe_quiet at_list_comma _ comma_mark_quiet >>- λ last. close_brace_quiet >>- λ _. done refl

  pub element_list_quiet : Quiet walk element_list.form
  unfolding element_list
  element_list_quiet =
      assign_mark_quiet >>- λ _. tokens.marks (codes "{") others.Expressions open_brace_prints >>- λ _.
      elements_quiet >>- λ cs. done refl

  pub left_bracket_quiet : Quiet walk left_bracket.form
  unfolding left_bracket
  left_bracket_quiet = tokens.marks (codes "[") others.Nothing open_bracket_prints >>- λ _. done refl

  pub right_bracket_quiet : (o : Others) → Quiet walk (right_bracket o).form
  unfolding right_bracket
  right_bracket_quiet o = tokens.marks (codes "]") o close_bracket_prints >>- λ _. done refl

  pub parameter_end_quiet : (o : Others) → Quiet walk (parameter_end o).form
  unfolding parameter_end
  parameter_end_quiet o = before_either_quiet (codes ",") (codes ")") o

  pub pointer_parameter_quiet : (n : ℕ) (i : Integer) → Quiet walk (pointer_parameter n i).form
  unfolding pointer_parameter
  pointer_parameter_quiet n i =
      star_quiet >>- λ _. maybe_quiet at_name _ (tokens.names others.Nothing) >>- λ t.
      parameter_end_quiet (after_pointer t) >>- λ _. done refl

  pub empty_brackets_quiet : (i : Integer) → Quiet walk (empty_brackets i).form
  unfolding empty_brackets
  empty_brackets_quiet i = left_bracket_quiet >>- λ _. right_bracket_quiet others.Expressions >>- λ _. done refl

  pub bracketed_type_quiet : (b : Bool) (i : Integer) → Quiet walk (bracketed_type b i).form
  unfolding bracketed_type
  bracketed_type_quiet b i =
      either_spelled b (weaken (empty_brackets i)) (value (scalars.Integer i)) (empty_brackets_quiet i) (done refl)

  pub plain_parameter_quiet : (n : ℕ) (i : Integer) → Quiet walk (plain_parameter n i).form
  unfolding plain_parameter
  plain_parameter_quiet n i =
      maybe_quiet at_name _ (tokens.names others.Nothing) >>- λ t. sees_quiet (codes "[") >>- λ b.
      bracketed_type_quiet b i >>- λ k. parameter_end_quiet (after_plain b t) >>- λ _. done refl

  pub parameter_tail_quiet : (n : ℕ) (i : Integer) → Quiet walk (parameter_tail n i).form
  unfolding parameter_tail
  parameter_tail_quiet n i =
      sees_quiet (codes "*") >>- λ p.
      either_spelled p (weaken (pointer_parameter n i)) (plain_parameter n i) (pointer_parameter_quiet n i) (plain_parameter_quiet n i) >>- λ r. done refl

  pub further_parameter_quiet : Quiet walk further_parameter.form
  unfolding further_parameter
  further_parameter_quiet =
      comma_mark_quiet >>- λ _. next_number_quiet >>- λ n. integer_type_quiet settings.Parameter >>- λ i.
      parameter_tail_quiet n i >>- λ p. done refl

  pub right_paren_quiet : (o : Others) → Quiet walk (right_paren o).form
  unfolding right_paren
  right_paren_quiet o = tokens.marks (codes ")") o close_paren_prints >>- λ _. done refl

  pub parameters_from_quiet : (n : ℕ) (i : Integer) → Quiet walk (parameters_from n i).form
  unfolding parameters_from
  parameters_from_quiet n i =
      parameter_tail_quiet n i >>- λ p. row_quiet at_list_comma _ further_parameter_quiet >>- λ ps.
      right_paren_quiet others.Nothing >>- λ _. done refl

  pub void_parameters_quiet : Quiet walk void_parameters.form
  unfolding void_parameters
  void_parameters_quiet = right_paren_quiet others.Parameter >>- λ _. done refl

  pub parameters_after_quiet : (n : ℕ) (x1 : Outcome) → Quiet walk (parameters_after n x1).form
  parameters_after_quiet n outcomes.Nothing = void_parameters_quiet
  parameters_after_quiet n (outcomes.Integer i) = parameters_from_quiet n i

  pub some_parameters_quiet : Quiet walk some_parameters.form
  unfolding some_parameters
  some_parameters_quiet =
      next_number_quiet >>- λ n. type_of_quiet settings.FirstParameter >>- λ o. parameters_after_quiet n o >>- λ ps.
      done refl

  pub no_parameters_quiet : Quiet walk no_parameters.form
  unfolding no_parameters
  no_parameters_quiet = right_paren_quiet others.Nothing >>- λ _. done refl

  pub parameters_quiet : Quiet walk parameters.form
  unfolding parameters
  parameters_quiet =
      sees_quiet (codes ")") >>- λ none. either_spelled none no_parameters some_parameters no_parameters_quiet some_parameters_quiet >>- λ ps. done refl
