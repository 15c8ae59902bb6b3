use Rattle.std.proofs.Common.{◌≡◌, ap, ◌∙◌}
use Rattle.strided_rules.specs.Strides.{Stride}
use Rattle.pointer_rules.specs.AbstractValues.{Words, alone}
use Rattle.transfer_rules.specs.Evaluating.{word_value}
use Rattle.step_statements.proofs.RoomLaws.{cell_there}
use Rattle.step_statements.proofs.filling.put_word.Goals as goal

pub fill-requires-clause-cell : goal.fill-requires-clause-cell
fill-requires-clause-cell c =
    let is : c.word-word.result ≡ word_value c.args.init.now.num.size c.args.init.now.num.bits = c.word-word.ensures ∙ ap (λ (x : Stride). alone (Words x)) c.one_word.ensures in
    cell_there c.args.memory.now c.args.init.now c.word-word.result c.requires.room is
