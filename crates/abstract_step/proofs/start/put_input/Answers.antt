use Rattle.std.proofs.Common.{◌≡◌, ap, ◌∙◌}
use Rattle.strided_rules.specs.Strides.{Stride}
use Rattle.pointer_rules.specs.AbstractValues.{Words, alone}
use Rattle.transfer_rules.specs.Filling.{range_of}
use Rattle.abstract_step.proofs.InputLaws.{input_storable, input_there}
use Rattle.abstract_step.proofs.start.put_input.Goals as goal

pub fill-requires-clause-value : goal.fill-requires-clause-value
fill-requires-clause-value c =
    let is : c.word-words.result ≡ alone (Words (range_of c.args.row.now)) = c.word-words.ensures ∙ ap (λ (x : Stride). alone (Words x)) c.range.ensures in
    input_storable c.args.memory.now c.args.row.now c.word-words.result c.requires.room is

pub fill-requires-clause-cell : goal.fill-requires-clause-cell
fill-requires-clause-cell c =
    let is : c.word-words.result ≡ alone (Words (range_of c.args.row.now)) = c.word-words.ensures ∙ ap (λ (x : Stride). alone (Words x)) c.range.ensures in
    input_there c.args.memory.now c.args.row.now c.word-words.result c.requires.room is
