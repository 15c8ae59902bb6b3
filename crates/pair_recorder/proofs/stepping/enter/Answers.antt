-- What is left to show of `enter`.
use Rattle.std.proofs.Common.{◌≡◌, ◌*◌, ℕ, List, length, refl, ap, ◌∙◌, arith}
use Rattle.std.proofs.lemmas.List.{with_items_is}
use Rattle.domain_core.specs.Outlines.{shape_of}
use Rattle.recorder_rules.specs.BitWords.{is_marked}
use Rattle.recorder_rules.specs.RowLaws.{row_end}
use Rattle.recorder_rules.specs.StepBitLaws.{entered_seen, entered_rows}
use Rattle.pair_recorder.proofs.Handed.{kept_by, added_by}
use Rattle.pair_recorder.proofs.stepping.enter.Goals as goal

pub keep_words-requires : goal.keep_words-requires
keep_words-requires c =
    let w = length c.args.seen.now in
    let same : length c.deref_mut.result.now ≡ w = ap (λ (xs : List ℕ). length xs) (c.deref_mut.ensures.value ∙ c.in_ok-met.ensures.items) ∙ c.mark.auto.words in
    let fits = row_end c.own_scope-own.result w (length c.args.outline.now.scopes) c.own_scope-own.ensures.low in
    let owned = c.requires.owned_length in
    omega arith

pub returns-clause-seen : goal.returns-clause-seen
returns-clause-seen c a low =
    ap (λ (xs : List ℕ). is_marked xs 0 a) c.mark.ensures
    ∙ entered_seen (shape_of c.args.outline.now) (length c.args.outline.now.nodes) (length c.args.outline.now.scopes) (length c.args.seen.now) c.args.node c.requires.seen c.requires.node c.args.seen.now refl a low

pub returns-clause-rows : goal.returns-clause-rows
returns-clause-rows c a b low within =
    let w = length c.args.seen.now in
    let met = c.keep_words.new.into in
    entered_rows (shape_of c.args.outline.now) (length c.args.outline.now.nodes) (length c.args.outline.now.scopes) w c.args.node c.requires.seen c.requires.node
    c.own_scope-own.result c.mark.new.words c.args.owned.now met c.args.rows.now c.add_words.new.into c.own_scope-own.ensures.own c.own_scope-own.ensures.low c.requires.owned
    (kept_by c.args.owned.now met c.deref_mut.result.now c.mark.new.words (c.own_scope-own.result * w) w (c.deref_mut.ensures.value ∙ c.in_ok-met.ensures.items) c.mark.auto.words c.keep_words.ensures.words)
    (added_by (c.args.node * w) w c.deref.result.now met c.args.rows.now c.add_words.new.into
    (c.deref.ensures.value ∙ with_items_is c.in_ok-met.met met (c.keep_words.auto.into ∙ c.deref_mut.ensures.len)) c.add_words.ensures)
    a b low within
