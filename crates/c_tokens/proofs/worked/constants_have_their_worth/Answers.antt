-- What is left to show of `constants_have_their_worth`.
use Rattle.std.proofs.Common.{refl}
use Rattle.c_tokens.proofs.worked.constants_have_their_worth.Goals as goal

pub returns-clause-decimal : goal.returns-clause-decimal
returns-clause-decimal c = refl

pub returns-clause-too_large : goal.returns-clause-too_large
returns-clause-too_large c = refl

pub returns-clause-without_sign : goal.returns-clause-without_sign
returns-clause-without_sign c = refl

pub returns-clause-past : goal.returns-clause-past
returns-clause-past c = refl

pub returns-clause-small : goal.returns-clause-small
returns-clause-small c = refl

pub returns-clause-octal : goal.returns-clause-octal
returns-clause-octal c = refl

pub returns-clause-no_octal : goal.returns-clause-no_octal
returns-clause-no_octal c = refl

pub returns-clause-hexadecimal : goal.returns-clause-hexadecimal
returns-clause-hexadecimal c = refl

pub returns-clause-high : goal.returns-clause-high
returns-clause-high c = refl

pub returns-clause-no_digit : goal.returns-clause-no_digit
returns-clause-no_digit c = refl

pub returns-clause-zero : goal.returns-clause-zero
returns-clause-zero c = refl

pub returns-clause-suffix : goal.returns-clause-suffix
returns-clause-suffix c = refl
