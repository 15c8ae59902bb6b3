-- What is left to show of `bits_finish`.
use Rattle.std.proofs.Common.{take, drop, refl}
use Rattle.recorder_rules.specs.BitWords.{words_for}
use Rattle.pair_recorder.proofs.Handed.{added_rows_by, finished_collected}
use Rattle.pair_recorder.proofs.Parted.{front_read, back_read}
use Rattle.pair_recorder.proofs.bits.bits_finish.Goals as goal

pub returns : goal.returns
returns c o scopes k owned same =
    let n = c.args.count in
    let w = words_for c.args.count in
    let bits = c.args.bits.now in
    let old = c.args.collected.now in
    let new = c.add_marked.new.into in
    let seen = c.split_at.result.0.now in
    let rows = c.split_at.result.1.now in
    finished_collected o n k (take w bits) (drop w bits) scopes owned old new same c.requires.bits.0
    (added_rows_by n seen (take w bits) old old rows (drop w bits) new (front_read w c.words.result bits bits seen c.split_at.ensures.front c.words.ensures refl) refl (back_read w c.words.result bits bits rows c.split_at.ensures.back c.words.ensures refl) c.add_marked.ensures)
