-- What is left to show of `meet`.
use Rattle.std.proofs.Common.{ℕ, List, length, ap, ◌∙◌, arith}
use Rattle.recorder_rules.specs.BitWords.{is_marked}
use Rattle.recorder_rules.specs.StepBitLaws.{first_set}
use Rattle.pair_recorder.proofs.Rows.{added_row}
use Rattle.pair_recorder.proofs.collecting.meet.Goals as goal

pub returns-clause-marks : goal.returns-clause-marks
returns-clause-marks c a below =
    let low = c.requires.node in
    let fit = c.requires.marks in
    ap (λ (xs : List ℕ). is_marked xs 0 a) c.mark.ensures
    ∙ first_set c.args.marks.now (length c.args.marks.now) c.args.node (omega arith) (omega arith) a (omega arith)

pub returns-clause-rows : goal.returns-clause-rows
returns-clause-rows c a b below within =
    let fit = c.requires.marks in
    added_row (length c.args.marks.now) c.args.node c.mark.new.words c.args.rows.now c.add_words.new.into c.add_words.ensures a b (omega arith)
