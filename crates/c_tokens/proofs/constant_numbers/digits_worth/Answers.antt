-- A digit was read.
use Rattle.std.proofs.Common.{◌≡◌, ℕ, List, Some, sym, subst}
use Rattle.c_tokens.specs.Worth.{digit_in, judge, number_from}
use Rattle.c_tokens.proofs.Large.{IsWorth, digit_read}
use Rattle.c_tokens.proofs.constant_numbers.digits_worth.Goals as goal

pub loop-byte-preserved : goal.loop-byte-preserved
loop-byte-preserved c =
    let all = judge c.args.base (number_from c.args.base c.args.some 0 c.args.text.now) in
    let so = subst (λ (rest : List ℕ). IsWorth c.args.base c.loop-byte.some c.loop-byte.number rest all) c.in-Some.ensures.cases.0 c.loop-byte.invariant in
    let digit : digit_in c.args.base c.in-Some.byte.now ≡ Some c.in-Some-digit_in.digit = sym c.in-Some-digit_in.ensures.value in
    digit_read c.args.base c.loop-byte.some c.loop-byte.number c.in-Some.byte.now c.in-Some-digit_in.digit c.with_digit-number.result c.in-Some.others.now all c.requires.least digit
    c.with_digit-number.ensures.within c.with_digit-number.ensures.value c.with_digit-number.ensures.large so
