-- The words of a type, in any order.
--   with_word setting words s   what a further symbol after these words comes to
--   outcome_of words            the type that the words are, if they are one
use Rattle.std.specs.Prelude.{Bool, true, false, not, Option, Some, None, if◌then◌else◌}
use Rattle.c_unit.specs.declared.types.Integer.{Integer}
use Rattle.c_unit.specs.declared.types.Integer.TheVariants as integers
use Rattle.c_unit.specs.declared.types.Outcome.{Outcome}
use Rattle.c_unit.specs.declared.types.Outcome.TheVariants as outcomes
use Rattle.c_grammar.specs.declared.symbol.TypeWord.{TypeWord}
use Rattle.c_grammar.specs.declared.symbol.TypeWord.TheVariants as words
use Rattle.c_grammar.specs.declared.symbol.Symbol.{Symbol}
use Rattle.c_grammar.specs.declared.symbol.Symbol.TheVariants as symbols
use Rattle.c_grammar.specs.declared.specifiers.Setting.{Setting}
use Rattle.c_grammar.specs.declared.specifiers.Setting.TheVariants as settings
use Rattle.c_grammar.specs.declared.specifiers.Base.{Base}
use Rattle.c_grammar.specs.declared.specifiers.Base.TheVariants as bases
use Rattle.c_grammar.specs.declared.specifiers.Sign.{Sign}
use Rattle.c_grammar.specs.declared.specifiers.Sign.TheVariants as signs
use Rattle.c_grammar.specs.declared.specifiers.Specifiers.{Specifiers}
use Rattle.c_grammar.specs.declared.specifiers.NextWord.{NextWord}
use Rattle.c_grammar.specs.declared.specifiers.NextWord.TheVariants as nexts

-- at file level a function may give nothing, and `(void)`, without `const`, says that there are no parameters
abbrev pub takes_void : Setting → Bool → Bool
takes_void settings.File is_const = true
takes_void settings.FirstParameter is_const = not is_const
takes_void _ is_const = false

-- `const` stands with the words of each type, but not with the `void` of `(void)`
abbrev pub takes_const : Setting → Base → Bool
takes_const settings.FirstParameter bases.Void = false
takes_const _ _ = true

abbrev pub takes_static : Setting → Bool
takes_static settings.File = true
takes_static _ = false

-- C99 lets `static` stand here
abbrev pub knows_static : Setting → Bool
knows_static settings.Cast = false
knows_static _ = true

abbrev pub with_base : Specifiers → Base → NextWord
with_base w base = nexts.Fits (record { base = base; sign = w.sign; is_static = w.is_static; is_const = w.is_const })

abbrev pub signed_base : Specifiers → Sign → Base → NextWord
signed_base w sign bases.Void = nexts.Wrong
signed_base w sign base = nexts.Fits (record { base = base; sign = sign; is_static = w.is_static; is_const = w.is_const })

abbrev pub signed_again : Specifiers → Sign → Sign → NextWord
signed_again w sign signs.Unsaid = signed_base w sign w.base
signed_again w sign _ = nexts.Wrong

-- `signed` or `unsigned`
abbrev pub with_sign : Specifiers → Sign → NextWord
with_sign w sign = signed_again w sign w.sign

abbrev pub void_alone : Setting → Specifiers → Base → Sign → NextWord
void_alone setting w bases.Unsaid signs.Unsaid = if takes_void setting w.is_const then with_base w bases.Void else nexts.Outside
void_alone setting w _ _ = nexts.Wrong

-- `void` stands with no other word
abbrev pub with_void : Setting → Specifiers → NextWord
with_void setting w = void_alone setting w w.base w.sign

abbrev pub char_after : Specifiers → Base → NextWord
char_after w bases.Unsaid = with_base w bases.Char
char_after w _ = nexts.Wrong

abbrev pub with_char : Specifiers → NextWord
with_char w = char_after w w.base

abbrev pub short_after : Specifiers → Base → NextWord
short_after w bases.Unsaid = with_base w bases.Short
short_after w bases.Int = with_base w bases.ShortInt
short_after w _ = nexts.Wrong

abbrev pub with_short : Specifiers → NextWord
with_short w = short_after w w.base

abbrev pub int_after : Specifiers → Base → NextWord
int_after w bases.Unsaid = with_base w bases.Int
int_after w bases.Short = with_base w bases.ShortInt
int_after w _ = nexts.Wrong

abbrev pub with_int : Specifiers → NextWord
with_int w = int_after w w.base

abbrev pub with_type_word : Setting → Specifiers → TypeWord → NextWord
with_type_word setting w words.Void = with_void setting w
with_type_word setting w words.Char = with_char w
with_type_word setting w words.Short = with_short w
with_type_word setting w words.Int = with_int w
with_type_word setting w words.Signed = with_sign w signs.Signed
with_type_word setting w words.Unsigned = with_sign w signs.Unsigned

abbrev pub with_static : Setting → Specifiers → NextWord
with_static setting w =
    if takes_static setting then (if w.is_static then nexts.Wrong else nexts.Fits (record { base = w.base; sign = w.sign; is_static = true; is_const = w.is_const }))
    else if knows_static setting then nexts.Outside else nexts.Wrong

abbrev pub with_const : Setting → Specifiers → NextWord
with_const setting w =
    if takes_const setting w.base then nexts.Fits (record { base = w.base; sign = w.sign; is_static = w.is_static; is_const = true })
    else nexts.Outside

-- what a further symbol after these words comes to
abbrev pub with_word : Setting → Specifiers → Symbol → NextWord
with_word setting w (symbols.Type word) = with_type_word setting w word
with_word setting w symbols.Const = with_const setting w
with_word setting w symbols.Static = with_static setting w
with_word setting w _ = nexts.Wrong

-- ---- the type that words are

abbrev pub is_unsigned : Sign → Bool
is_unsigned signs.Unsigned = true
is_unsigned _ = false

abbrev pub int_of : Sign → Integer
int_of sign = if is_unsigned sign then integers.UnsignedInt else integers.Int

abbrev pub char_of : Sign → Integer
char_of sign = if is_unsigned sign then integers.UnsignedChar else integers.Char

abbrev pub short_of : Sign → Integer
short_of sign = if is_unsigned sign then integers.UnsignedShort else integers.Short

-- `signed` and `unsigned` alone are `int`
abbrev pub unsaid_of : Sign → Option Outcome
unsaid_of signs.Unsaid = None
unsaid_of sign = Some (outcomes.Integer (int_of sign))

abbrev pub outcome_among : Base → Sign → Option Outcome
outcome_among bases.Unsaid sign = unsaid_of sign
outcome_among bases.Void sign = Some outcomes.Nothing
outcome_among bases.Char sign = Some (outcomes.Integer (char_of sign))
outcome_among bases.Short sign = Some (outcomes.Integer (short_of sign))
outcome_among bases.ShortInt sign = Some (outcomes.Integer (short_of sign))
outcome_among bases.Int sign = Some (outcomes.Integer (int_of sign))

-- the type that the words are
abbrev pub outcome_of : Specifiers → Option Outcome
outcome_of w = outcome_among w.base w.sign
