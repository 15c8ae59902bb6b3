-- What is left to show of `ended_nodes`.
use Rattle.std.proofs.Common.{◌≡◌, ◌<◌, ◌*◌, ◌||◌, ℕ, Bool, List, length, refl, ap, subst, ◌∙◌, sym, arith}
use Rattle.std.specs.List.{list_any}
use Rattle.std.proofs.lemmas.List.{with_items_is, length-replicate}
use Rattle.lists.specs.MemberLaws.{all_members}
use Rattle.domain_core.specs.Outlines.{shape_of}
use Rattle.recorder_rules.specs.BitWords.{is_marked}
use Rattle.recorder_rules.specs.EndedNodeLaws.{ended_low, owned_ended}
use Rattle.recorder_rules.specs.StepBitLaws.{none_marked}
use Rattle.flow_recorders.specs.ClimbLaws.{own_low}
use Rattle.pair_recorder.proofs.ending.ended_nodes.Goals as goal

pub add_all_owned-requires-clause-scopes : goal.add_all_owned-requires-clause-scopes
add_all_owned-requires-clause-scopes c =
    all_members (λ s. s < c.scope_count-count.result) c.args.ended.now (λ s there.
    subst (λ (n : ℕ). s < n) (sym c.scope_count-count.ensures)
    (ended_low (shape_of c.args.outline.now) c.kept.ensures c.args.from c.args.to (own_low c.args.outline.now c.args.from c.requires.from) c.args.ended.now c.requires.ended s there))

pub returns-clause-ended : goal.returns-clause-ended
returns-clause-ended c a low =
    let o = shape_of c.args.outline.now in
    let dm = c.deref_mut.result.now in
    let made = c.deref_mut.ensures.value ∙ c.in_ok-marks.ensures.items_if_clones_equal (λ y e. e) in
    let len : length dm ≡ c.args.width = ap (λ (xs : List ℕ). length xs) made ∙ length-replicate c.args.width 0 in
    ap (λ (xs : List ℕ). is_marked xs 0 a) (with_items_is c.in_ok-marks.marks c.add_all_owned.new.marks (c.add_all_owned.auto.marks ∙ c.deref_mut.ensures.len))
    ∙ c.add_all_owned.ensures a (let fit = c.requires.width in omega arith)
    ∙ ap (λ (x : Bool). x || list_any (λ s. is_marked c.args.owned.now (s * length dm) a) c.args.ended.now) (none_marked dm c.args.width made 0 a)
    ∙ ap (λ (w : ℕ). list_any (λ s. is_marked c.args.owned.now (s * w) a) c.args.ended.now) len
    ∙ owned_ended o c.kept.ensures c.args.from c.args.to (own_low c.args.outline.now c.args.from c.requires.from) c.args.ended.now c.requires.ended
    (length c.args.outline.now.scopes) (length c.args.outline.now.nodes) c.args.width c.args.owned.now refl c.requires.owned a low
