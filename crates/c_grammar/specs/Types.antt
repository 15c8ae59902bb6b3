-- Types and declarators.
--   type_of setting       the words of a type in any order: an integer type, or nothing where `void` may stand
--   integer_type setting  an integer type
--   signed_constant o     a constant, with a minus or without
--   array                 the size of an array in brackets, and its first elements in braces, if they are there
--   parameters            the parameters of a function, after its parenthesis
use Rattle.std.specs.Prelude.{ℕ, List, [], ◌∷◌, Bool, true, false, not, ◌&&◌, Result, Ok, Err, Option, Some, None, codes}
use Rattle.grammar.specs.Form.{first, after}
use Rattle.grammar.specs.Rule.{judge, value, weaken, ◌>>=◌, ◌>>◌, many, maybe}
use Rattle.grammar.specs.Chain.{grow}
use Rattle.c_unit.specs.declared.types.Integer.{Integer}
use Rattle.c_unit.specs.declared.types.Scalar.{Scalar}
use Rattle.c_unit.specs.declared.types.Scalar.TheVariants as scalars
use Rattle.c_unit.specs.declared.types.Outcome.{Outcome}
use Rattle.c_unit.specs.declared.types.Outcome.TheVariants as outcomes
use Rattle.c_unit.specs.declared.types.Constant.{Constant}
use Rattle.c_unit.specs.declared.external.Parameter.{Parameter}
use Rattle.c_grammar.specs.declared.others.Others.{Others}
use Rattle.c_grammar.specs.declared.others.Others.TheVariants as others
use Rattle.c_grammar.specs.declared.specifiers.Setting.{Setting}
use Rattle.c_grammar.specs.declared.specifiers.Setting.TheVariants as settings
use Rattle.c_grammar.specs.declared.specifiers.Base.TheVariants as bases
use Rattle.c_grammar.specs.declared.specifiers.Sign.TheVariants as signs
use Rattle.c_grammar.specs.declared.specifiers.Specifiers.{Specifiers}
use Rattle.c_grammar.specs.declared.specifiers.NextWord.{NextWord}
use Rattle.c_grammar.specs.declared.specifiers.NextWord.TheVariants as nexts
use Rattle.c_grammar.specs.Symbols.{is_specifier, is_name}
use Rattle.c_grammar.specs.Words.{with_word, outcome_of}
use Rattle.c_grammar.specs.Tokens.{Fault, OutOfProfile, Seen, Place, Rule, misfit, misfit_next, one, mark, name, constant, at_text, at_symbol, next_number, sees, before_either, either, some_elements}

-- ---- the words of a type

abbrev pub no_words : Specifiers
no_words = record { base = bases.Unsaid; sign = signs.Unsaid; is_static = false; is_const = false }

abbrev pub fits_word_of : NextWord → Seen → Result Specifiers Fault
fits_word_of (nexts.Fits w) t = Ok w
fits_word_of nexts.Outside t = Err (OutOfProfile t.number)
fits_word_of nexts.Wrong t = Err (misfit others.Nothing t)

-- a word of a type after these
unfoldable pub specifier : Setting → Specifiers → Rule true Specifiers
specifier setting w = one (λ t. fits_word_of (with_word setting w t.symbol) t)

-- a word of a type comes next
abbrev pub at_specifier : Specifiers → Place → Bool
at_specifier w at = at_symbol is_specifier at

abbrev pub is_type : Option Outcome → Place → Result Outcome Fault
is_type (Some o) at = Ok o
is_type None at = Err (misfit_next others.Nothing (first at))

-- the words are a type
unfoldable pub type_told : Specifiers → Rule false Outcome
type_told w = judge (λ at. is_type (outcome_of w) at)

-- the words of a type
unfoldable pub type_of : Setting → Rule true Outcome
type_of setting = do
  w ← specifier setting no_words
  ws ← grow at_specifier (specifier setting) w
  o ← type_told ws
  value o

abbrev pub is_integer : Others → Outcome → Place → Result Integer Fault
is_integer o (outcomes.Integer i) at = Ok i
is_integer o outcomes.Nothing at = Err (misfit_next o (first at))

-- the type is an integer type, or the next token does not fit
unfoldable pub integer_told : Others → Outcome → Rule false Integer
integer_told o t = judge (λ at. is_integer o t at)

unfoldable pub integer_type : Setting → Rule true Integer
integer_type setting = do
  o ← type_of setting
  i ← integer_told others.Nothing o
  value i

unfoldable pub const_word : Rule true (Unit {0})
const_word = do
  mark (codes "const") others.Nothing
  value tt

abbrev pub at_const : Place → Bool
at_const at = at_text (codes "const") at

-- a star, and `const` as often as it stands
unfoldable pub star : Rule true (Unit {0})
star = do
  mark (codes "*") others.Nothing
  consts ← many at_const const_word
  value tt

unfoldable pub pointer_to : Integer → Rule true Scalar
pointer_to i = do
  star
  value (scalars.Pointer i)

-- a pointer where a star comes next
unfoldable pub pointer_stars : Bool → Integer → Rule false Scalar
pointer_stars p i = either p (weaken (pointer_to i)) (value (scalars.Integer i))

-- ---- constants and arrays

unfoldable pub minus_sign : Rule true (Unit {0})
minus_sign = do
  mark (codes "-") others.Nothing
  value tt

unfoldable pub minus_constant : Rule true Constant
minus_constant = do
  minus_sign
  c ← constant others.Expressions
  value (record { minus = true; token = c.0 })

unfoldable pub plain_constant : Others → Rule true Constant
plain_constant o = do
  c ← constant o
  value (record { minus = false; token = c.0 })

-- a constant, with a minus or without
unfoldable pub signed_constant : Others → Rule true Constant
signed_constant o = do
  m ← sees (codes "-")
  c ← either m minus_constant (plain_constant o)
  value c

unfoldable pub assign_mark : Rule true ℕ
assign_mark = mark (codes "=") others.Nothing

abbrev pub at_assign : Place → Bool
at_assign at = at_text (codes "=") at

unfoldable pub comma_mark : Rule true (Unit {0})
comma_mark = do
  mark (codes ",") others.Nothing
  value tt

-- what might stand after a constant
abbrev pub after_constant : Others
after_constant = others.Rest true false

-- a comma comes next, and then no brace
abbrev pub at_further : Place → Bool
at_further at = at_text (codes ",") at && not (at_text (codes "}") (after at))

-- an element, after which a comma or a brace stands
unfoldable pub element : Rule true Constant
element = do
  c ← signed_constant others.ExpressionsAndBraces
  before_either (codes ",") (codes "}") after_constant
  value c

unfoldable pub further_element : Rule true Constant
further_element = do
  comma_mark
  c ← element
  value c

abbrev pub at_list_comma : Place → Bool
at_list_comma at = at_text (codes ",") at

unfoldable pub close_brace : Rule true (Unit {0})
close_brace = do
  mark (codes "}") others.Nothing
  value tt

-- elements in braces, of which the last may have a comma
unfoldable pub elements : Rule true (List Constant)
elements = do
  c ← element
  cs ← many at_further further_element
  last ← maybe at_list_comma comma_mark
  close_brace
  value (c ∷ cs)

-- = { elements }
unfoldable pub element_list : Rule true (List Constant)
element_list = do
  assign_mark
  mark (codes "{") others.Expressions
  cs ← elements
  value cs

unfoldable pub left_bracket : Rule true (Unit {0})
left_bracket = do
  mark (codes "[") others.Nothing
  value tt

unfoldable pub right_bracket : Others → Rule true (Unit {0})
right_bracket o = do
  mark (codes "]") o
  value tt

-- [ size ]
unfoldable pub array_size : Rule true ℕ
array_size = do
  left_bracket
  s ← constant others.Sizes
  some_elements s.1
  right_bracket after_constant
  value s.0

-- what might stand after an array
abbrev pub after_array : Option (List Constant) → Others
after_array None = others.Brackets
after_array (Some cs) = others.Nothing

-- [ size ] = { elements }, without elements or with them; after it a comma or a semicolon stands
unfoldable pub array : Rule true (ℕ × Option (List Constant))
array = do
  s ← array_size
  cs ← maybe at_assign element_list
  before_either (codes ",") (codes ";") (after_array cs)
  value (s, cs)

-- ---- parameters

abbrev pub at_name : Place → Bool
at_name at = at_symbol is_name at

-- after a parameter a comma or a parenthesis stands
unfoldable pub parameter_end : Others → Rule false (Unit {0})
parameter_end o = before_either (codes ",") (codes ")") o

abbrev pub number_of_name : Option Seen → Option ℕ
number_of_name None = None
number_of_name (Some t) = Some t.number

abbrev pub after_pointer : Option Seen → Others
after_pointer None = others.StarsAndBrackets
after_pointer (Some t) = others.BracketsAndParens

-- * and a name, which may be missing
unfoldable pub pointer_parameter : ℕ → Integer → Rule true Parameter
pointer_parameter n i = do
  star
  t ← maybe at_name (name others.Nothing)
  parameter_end (after_pointer t)
  value (record { first = n; kind = scalars.Pointer i; name = number_of_name t })

unfoldable pub empty_brackets : Integer → Rule true Scalar
empty_brackets i = do
  left_bracket
  right_bracket others.Expressions
  value (scalars.Pointer i)

-- empty brackets make a pointer
unfoldable pub bracketed_type : Bool → Integer → Rule false Scalar
bracketed_type b i = either b (weaken (empty_brackets i)) (value (scalars.Integer i))

abbrev pub after_plain : Bool → Option Seen → Others
after_plain true t = others.Brackets
after_plain false None = others.Nothing
after_plain false (Some t) = others.Parens

-- a name, which may be missing, and empty brackets, if it is an array
unfoldable pub plain_parameter : ℕ → Integer → Rule false Parameter
plain_parameter n i = do
  t ← maybe at_name (name others.Nothing)
  b ← sees (codes "[")
  k ← bracketed_type b i
  parameter_end (after_plain b t)
  value (record { first = n; kind = k; name = number_of_name t })

-- what stands after the type of a parameter
unfoldable pub parameter_tail : ℕ → Integer → Rule false Parameter
parameter_tail n i = do
  p ← sees (codes "*")
  r ← either p (weaken (pointer_parameter n i)) (plain_parameter n i)
  value r

unfoldable pub further_parameter : Rule true Parameter
further_parameter = do
  comma_mark
  n ← next_number
  i ← integer_type settings.Parameter
  p ← parameter_tail n i
  value p

unfoldable pub right_paren : Others → Rule true (Unit {0})
right_paren o = do
  mark (codes ")") o
  value tt

-- the first parameter, after its type, and the others
unfoldable pub parameters_from : ℕ → Integer → Rule true (List Parameter)
parameters_from n i = do
  p ← parameter_tail n i
  ps ← many at_list_comma further_parameter
  right_paren others.Nothing
  value (p ∷ ps)

-- `void` alone, without `const`, says that there is none
unfoldable pub void_parameters : Rule true (List Parameter)
void_parameters = do
  right_paren others.Parameter
  value []

abbrev pub parameters_after : ℕ → Outcome → Rule true (List Parameter)
parameters_after n outcomes.Nothing = void_parameters
parameters_after n (outcomes.Integer i) = parameters_from n i

unfoldable pub some_parameters : Rule true (List Parameter)
some_parameters = do
  n ← next_number
  o ← type_of settings.FirstParameter
  ps ← parameters_after n o
  value ps

unfoldable pub no_parameters : Rule true (List Parameter)
no_parameters = do
  right_paren others.Nothing
  value []

-- the parameters of a function, after its parenthesis
unfoldable pub parameters : Rule true (List Parameter)
parameters = do
  none ← sees (codes ")")
  ps ← either none no_parameters some_parameters
  value ps
