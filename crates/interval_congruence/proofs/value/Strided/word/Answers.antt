use Rattle.std.proofs.Common.{◌≡◌, ◌∙◌, ap, pos}
use Rattle.progressions.specs.declared.ends.Progression.{Progression}
use Rattle.interval_congruence.proofs.LonePieces.{word_low}
use Rattle.interval_congruence.proofs.value.Strided.word.Goals as goal

pub returns-then-at_most-clause-value : goal.returns-then-at_most-clause-value
returns-then-at_most-clause-value c =
    let is = c.numbers-lo.ensures.stride in
    let same : pos c.word.result ≡ c.args.self.numbers.lo = c.word.ensures ∙ ap (λ (p : Progression). p.lo) c.numbers-lo.ensures.value in
    (word_low c.args.self.size c.word.result c.args.self.numbers.lo is.size.least same is.placed.high).0
