use Rattle.std.proofs.Common.{◌∙◌, sym}
use Rattle.sweet_words.proofs.Numerals.{too_great, not_read}
use Rattle.sweet_words.proofs.values.number_within.Goals as goal

pub returns-in_err-number-clause-number : goal.returns-in_err-number-clause-number
returns-in_err-number-clause-number c =
    c.from_residual.ensures
    ∙ sym (too_great c.args.text.now c.args.least c.args.most (sym c.if-not-is_numeral.ensures) c.ranges.most.fits
    (not_read c.args.text.now c.parse.result (sym c.ok.ensures.value ∙ c.in_err-number.was) c.parse.ensures.value.0))
