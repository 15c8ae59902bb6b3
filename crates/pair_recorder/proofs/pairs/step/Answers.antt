-- What is left to show of `step`.
use Rattle.std.proofs.Common.{◌≡◌, ℕ, List, length, OnOk, subst, sym, ap, ◌∙◌}
use Rattle.std.proofs.lemmas.List.{with_items_is}
use Rattle.std.proofs.lemmas.Result.{on_ok_weaker}
use Rattle.recorder_rules.specs.PairRules.{Sightings, PairBook, pair_recording}
use Rattle.recorder_rules.specs.Seen.{pair_book}
use Rattle.pair_recorder.specs.declared.pairs.Form.{Form}
use Rattle.pair_recorder.specs.declared.seen.Seen.{Seen}
use Rattle.pair_recorder.specs.Paths.{path_sightings}
use Rattle.pair_recorder.specs.SeenBits.{bit_sightings}
use Rattle.pair_recorder.specs.Forms.{count_of, sighted}
use Rattle.pair_recorder.proofs.pairs.step.Goals as goal

pub returns-then-is_path_of-clause-gone : goal.returns-then-is_path_of-clause-gone
returns-then-is_path_of-clause-gone c =
    let o = c.args.outline.now in
    let new = c.path_goes.new.path.items in
    let m = c.in-Path.count in
    let path = c.in-Path.path.items in
    let same : m ≡ length o.nodes = ap (λ (form : Form). count_of form) (sym c.in-Path.is) ∙ c.requires.count in
    subst (λ (form : Form). OnOk c.path_goes.result ((b : PairBook) → path_sightings m new ≡ pair_recording.gone o (sighted form) b c.args.from c.args.to)) (sym c.in-Path.is)
    (subst (λ (n : ℕ). OnOk c.path_goes.result ((b : PairBook) → path_sightings n new ≡ pair_recording.gone o (path_sightings n path) b c.args.from c.args.to)) (sym same) c.path_goes.ensures.gone)

pub returns-in_ok-bits_go-in-Path-clause-gone : goal.returns-in_ok-bits_go-in-Path-clause-gone
returns-in_ok-bits_go-in-Path-clause-gone c b =
    let o = c.args.outline.now in
    let n = length c.args.outline.now.nodes in
    let new = c.bits_go.new.bits in
    let m = c.in-Path.count in
    let bits = c.in_ok-bits-in-Path.bits in
    let same : m ≡ n = ap (λ (form : Form). count_of form) (sym c.in-Path.is) ∙ c.requires.count in
    ap (λ (xs : List ℕ). bit_sightings m xs) (with_items_is bits new (c.bits_go.auto.bits ∙ c.deref_mut.ensures.len))
    ∙ ap (λ (k : ℕ). bit_sightings k new) same
    ∙ c.in_ok-bits_go-in-Path.ensures.gone b
    ∙ ap (λ (z : Sightings). pair_recording.gone o z b c.args.from c.args.to)
    (ap (λ (xs : List ℕ). bit_sightings n xs) c.deref_mut.ensures.value ∙ ap (λ (k : ℕ). bit_sightings k bits.items) (sym same)
    ∙ c.in_ok-bits-in-Path.ensures.bits ∙ ap (λ (xs : List Seen). path_sightings m xs) c.deref-else-is_path_of.ensures.value ∙ ap (λ (form : Form). sighted form) (sym c.in-Path.is))

pub returns-in_ok-bits_go-in-Path-clause-collected : goal.returns-in_ok-bits_go-in-Path-clause-collected
returns-in_ok-bits_go-in-Path-clause-collected c s =
    let o = c.args.outline.now in
    let n = length c.args.outline.now.nodes in
    let m = c.in-Path.count in
    let bits = c.in_ok-bits-in-Path.bits in
    let same : m ≡ n = ap (λ (form : Form). count_of form) (sym c.in-Path.is) ∙ c.requires.count in
    c.in_ok-bits_go-in-Path.ensures.collected s
    ∙ ap (λ (z : Sightings). pair_recording.gone_book o z (pair_book n s c.args.owned.now c.args.rows.now) c.args.from c.args.to)
    (ap (λ (xs : List ℕ). bit_sightings n xs) c.deref_mut.ensures.value ∙ ap (λ (k : ℕ). bit_sightings k bits.items) (sym same)
    ∙ c.in_ok-bits-in-Path.ensures.bits ∙ ap (λ (xs : List Seen). path_sightings m xs) c.deref-else-is_path_of.ensures.value ∙ ap (λ (form : Form). sighted form) (sym c.in-Path.is))

pub returns-in-Bits-clause-gone : goal.returns-in-Bits-clause-gone
returns-in-Bits-clause-gone c =
    let o = c.args.outline.now in
    let n = length c.args.outline.now.nodes in
    let new = c.bits_go-in-Bits.new.bits in
    let m = c.in-Bits.field-0 in
    let bits = c.in-Bits.bits in
    let same : m ≡ n = ap (λ (form : Form). count_of form) (sym c.in-Bits.is) ∙ c.requires.count in
    on_ok_weaker c.bits_go-in-Bits.result (λ gone b.
    ap (λ (xs : List ℕ). bit_sightings m xs) (with_items_is bits new (c.bits_go-in-Bits.auto.bits ∙ c.deref_mut-in-Bits.ensures.len))
    ∙ ap (λ (k : ℕ). bit_sightings k new) same
    ∙ gone b
    ∙ ap (λ (z : Sightings). pair_recording.gone o z b c.args.from c.args.to)
    (ap (λ (xs : List ℕ). bit_sightings n xs) c.deref_mut-in-Bits.ensures.value ∙ ap (λ (k : ℕ). bit_sightings k bits.items) (sym same) ∙ ap (λ (form : Form). sighted form) (sym c.in-Bits.is)))
    c.bits_go-in-Bits.ensures.gone
