-- What is left to show of `bits_begun`.
use Rattle.std.proofs.Common.{◌≡◌, ◌+◌, ◌-◌, ◌*◌, ◌<◌, ◌==◌, ◌||◌, ◌++◌, ℕ, Bool, List, take, drop, replicate, length, sym, ap, ◌∙◌, arith}
use Rattle.std.specs.Vec.{with_items}
use Rattle.std.proofs.lemmas.List.{with_items_is, length-append, length-replicate, take-replicate, drop-replicate}
use Rattle.recorder_rules.specs.TotalLaws.{node_low}
use Rattle.recorder_rules.specs.BitWords.{words_for, is_marked}
use Rattle.recorder_rules.specs.RowLaws.{row_low}
use Rattle.recorder_rules.specs.StepBitLaws.{none_marked, first_set, first_marked}
use Rattle.recorder_rules.specs.PairBitLaws.{begun}
use Rattle.pair_recorder.specs.SeenBits.{bit_sightings}
use Rattle.pair_recorder.proofs.Handed.{sightings_same}
use Rattle.pair_recorder.proofs.Parted.{front_of, back_of}
use Rattle.pair_recorder.proofs.bits.bits_begun.Goals as goal

pub returns-clause-bits : goal.returns-clause-bits
returns-clause-bits c =
    let n = c.node_count-count.result in
    let w = c.words-width.result in
    let seen = c.mark.new.words in
    let rows = c.mark-2.new.words in
    let some : 0 < n = (let e = c.node_count-count.ensures in let f = node_low c.args.outline.now 0 c.kept.ensures.some in omega arith) in
    let width = c.words-width.ensures in
    let all_made : c.deref_mut.result.now ≡ replicate (w + n * w) 0 = c.deref_mut.ensures.value ∙ c.in_ok-bits.ensures.items_if_clones_equal (λ y e. e) in
    let made : c.split_at_mut-seen.result.0.now ≡ replicate w 0 = c.split_at_mut-seen.ensures.front ∙ ap (λ (xs : List ℕ). take w xs) all_made ∙ take-replicate w (w + n * w) 0 (omega arith) in
    let made_rows : c.split_at_mut-seen.result.1.now ≡ replicate (n * w) 0 =
    c.split_at_mut-seen.ensures.back ∙ ap (λ (xs : List ℕ). drop w xs) all_made ∙ drop-replicate w (w + n * w) 0 ∙ ap (λ (m : ℕ). replicate m 0) (let e : w + n * w - w ≡ n * w = omega arith in e) in
    let first : length seen ≡ words_for n = c.mark.auto.words ∙ c.split_at_mut-seen.ensures.front_len ∙ width in
    let all : length seen + length rows ≡ length c.deref_mut.result.now =
    (let e = c.mark.auto.words in let f = c.mark-2.auto.words in let g = c.split_at_mut-seen.ensures.front_len in let h = c.split_at_mut-seen.ensures.back_len in omega arith) in
    let kept = with_items_is c.in_ok-bits.bits (seen ++ rows) (length-append seen rows ∙ all ∙ c.deref_mut.ensures.len) in
    ap (λ (m : ℕ). bit_sightings m (with_items c.in_ok-bits.bits (seen ++ rows)).items) (sym c.node_count-count.ensures)
    ∙ sightings_same n (front_of (words_for n) (with_items c.in_ok-bits.bits (seen ++ rows)).items seen rows kept first) (back_of (words_for n) (with_items c.in_ok-bits.bits (seen ++ rows)).items seen rows kept first)
    ∙ begun c.args.outline.now n seen rows c.node_count-count.ensures
    (λ a low. ap (λ (xs : List ℕ). is_marked xs 0 a) c.mark.ensures
    ∙ first_set c.split_at_mut-seen.result.0.now w 0 (omega arith) (let len : length c.split_at_mut-seen.result.0.now ≡ w = ap (λ (xs : List ℕ). length xs) made ∙ length-replicate w 0 in omega arith) a (omega arith)
    ∙ ap (λ (x : Bool). x || (a == 0)) (none_marked c.split_at_mut-seen.result.0.now w made 0 a))
    (λ a b low within. ap (λ (v : ℕ). is_marked rows (a * v) b) (sym width) ∙ ap (λ (xs : List ℕ). is_marked xs (a * w) b) c.mark-2.ensures
    ∙ first_marked c.split_at_mut-seen.result.1.now w (n * w) made_rows (omega arith) (let f = row_low 0 w 0 n some (omega arith) in omega arith) a b (omega arith))
