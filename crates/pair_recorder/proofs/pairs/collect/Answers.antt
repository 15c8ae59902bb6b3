-- What is left to show of `collect`.
use Rattle.std.proofs.Common.{◌≡◌, ℕ, List, length, OnOk, subst, sym, ap, ◌∙◌}
use Rattle.domain_core.specs.Outlines.{Outlined}
use Rattle.recorder_rules.specs.PairRules.{pair_recording}
use Rattle.recorder_rules.specs.Seen.{pair_book}
use Rattle.pair_recorder.specs.declared.pairs.Form.{Form}
use Rattle.pair_recorder.specs.declared.seen.Seen.{Seen}
use Rattle.pair_recorder.specs.Paths.{path_sightings}
use Rattle.pair_recorder.specs.SeenBits.{bit_sightings}
use Rattle.pair_recorder.specs.Forms.{count_of, sighted}
use Rattle.pair_recorder.proofs.pairs.collect.Goals as goal

pub returns-in-Path : goal.returns-in-Path
returns-in-Path c =
    let n = c.in-Path.count in
    let old = c.args.rows.now in
    let new = c.path_finish.new.collected in
    subst (λ (form : Form). OnOk c.path_finish.result ((o : Outlined) (s k : ℕ) (owned : List ℕ) → count_of form ≡ length o.nodes → pair_book (count_of form) s owned new ≡ pair_recording.finished o (sighted form) (pair_book (count_of form) s owned old) k)) (sym c.in-Path.is)
    (subst (λ (xs : List Seen). OnOk c.path_finish.result ((o : Outlined) (s k : ℕ) (owned : List ℕ) → n ≡ length o.nodes → pair_book n s owned new ≡ pair_recording.finished o (path_sightings n xs) (pair_book n s owned old) k)) c.deref.ensures.value c.path_finish.ensures)

pub returns-in-Bits : goal.returns-in-Bits
returns-in-Bits c o s k owned =
    let n = c.in-Bits.count in
    let old = c.args.rows.now in
    let new = c.bits_finish.new.collected in
    subst (λ (form : Form). count_of form ≡ length o.nodes → pair_book (count_of form) s owned new ≡ pair_recording.finished o (sighted form) (pair_book (count_of form) s owned old) k) (sym c.in-Bits.is)
    (λ same. c.bits_finish.ensures o s k owned same ∙ ap (λ (xs : List ℕ). pair_recording.finished o (bit_sightings n xs) (pair_book n s owned old) k) c.deref-in-Bits.ensures.value)
