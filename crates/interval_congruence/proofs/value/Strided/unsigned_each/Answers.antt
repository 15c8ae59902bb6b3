use Rattle.std.proofs.Common.{◌≡◌, ◌∙◌, sym, ap, refl}
use Rattle.progressions.specs.declared.ends.Progression.{Progression}
use Rattle.progressions.specs.declared.ends.Pieces.{Pieces}
use Rattle.strided_rules.specs.Members.{unsigned_of}
use Rattle.strided_rules.specs.Joins.{each, settled}
use Rattle.interval_congruence.proofs.Bounds.{unsigned_far}
use Rattle.interval_congruence.proofs.LonePieces.{second_alone, unsigned_turn, each_alone, normed_value}
use Rattle.interval_congruence.proofs.value.Strided.unsigned_each.Goals as goal

pub each-requires-clause-pieces : goal.each-requires-clause-pieces
each-requires-clause-pieces g c = unsigned_far c.args.self.size c.unsigned-pieces.result c.unsigned-pieces.ensures.stride.size.most c.unsigned-pieces.ensures.are

pub returns-then-are_words : goal.returns-then-are_words
returns-then-are_words g c =
    let rule = g.R.Rule.gives c.args.rule.now in
    let is = c.numbers-numbers.ensures.stride in
    let low = rw c.numbers-numbers.ensures.value at c.if-are_words.ensures.low refl in
    let high = rw (c.size.ensures.value, c.numbers-numbers.ensures.value) at c.if-are_words.ensures.high refl in
    let turn : unsigned_of c.args.self ≡ second_alone c.args.self.numbers = unsigned_turn c.args.self.size c.args.self.numbers is.placed.progression.order low high in
    c.normal.ensures
    ∙ (ap (λ (p : Progression). normed_value c.args.size p) (c.at.ensures.value ∙ ap rule c.numbers-numbers.ensures.value)
    ∙ (sym (each_alone c.args.size rule c.args.self.numbers) ∙ ap (λ (pieces : Pieces). settled c.args.size (each c.args.size rule pieces)) (sym turn)))
