-- What is left to show of `bits_go`.
use Rattle.std.proofs.Common.{◌≡◌, ◌++◌, ℕ, List, take, length, refl, ap, ◌∙◌}
use Rattle.recorder_rules.specs.PairRules.{pair_recording}
use Rattle.recorder_rules.specs.BitWords.{words_for}
use Rattle.recorder_rules.specs.Seen.{sightings, pair_book}
use Rattle.pair_recorder.proofs.Handed.{sightings_same}
use Rattle.pair_recorder.proofs.Parted.{front_of, back_of, front_read, back_read}
use Rattle.pair_recorder.proofs.bits.bits_go.Goals as goal

pub returns-clause-gone : goal.returns-clause-gone
returns-clause-gone c b =
    let o = c.args.outline.now in
    let n = length c.args.outline.now.nodes in
    let w = words_for n in
    let bits = c.args.bits.now in
    let width : c.words-width.result ≡ w = c.words-width.ensures ∙ ap (λ (m : ℕ). words_for m) c.node_count.ensures in
    let x = c.advance.new.seen in
    let y = c.advance.new.rows in
    let first : length x ≡ w = c.advance.auto.seen ∙ c.split_at_mut-seen.ensures.front_len ∙ width in
    let seen = c.split_at_mut-seen.result.0.now in
    let rows = c.split_at_mut-seen.result.1.now in
    sightings_same n (front_of w (x ++ y) x y refl first) (back_of w (x ++ y) x y refl first)
    ∙ c.in_ok-advance.ensures.recorder b
    ∙ ap (λ (xs : List ℕ). pair_recording.gone o (sightings n xs rows) b c.args.from c.args.to) (front_read w c.words-width.result bits bits seen c.split_at_mut-seen.ensures.front width refl)
    ∙ ap (λ (ys : List ℕ). pair_recording.gone o (sightings n (take w bits) ys) b c.args.from c.args.to) (back_read w c.words-width.result bits bits rows c.split_at_mut-seen.ensures.back width refl)

pub returns-clause-collected : goal.returns-clause-collected
returns-clause-collected c scopes =
    let o = c.args.outline.now in
    let n = length c.args.outline.now.nodes in
    let w = words_for n in
    let bits = c.args.bits.now in
    let width : c.words-width.result ≡ w = c.words-width.ensures ∙ ap (λ (m : ℕ). words_for m) c.node_count.ensures in
    let book = pair_book n scopes c.args.owned.now c.args.collected.now in
    let seen = c.split_at_mut-seen.result.0.now in
    let rows = c.split_at_mut-seen.result.1.now in
    c.in_ok-advance.ensures.book scopes
    ∙ ap (λ (xs : List ℕ). pair_recording.gone_book o (sightings n xs rows) book c.args.from c.args.to) (front_read w c.words-width.result bits bits seen c.split_at_mut-seen.ensures.front width refl)
    ∙ ap (λ (ys : List ℕ). pair_recording.gone_book o (sightings n (take w bits) ys) book c.args.from c.args.to) (back_read w c.words-width.result bits bits rows c.split_at_mut-seen.ensures.back width refl)
