-- What is left to show of `are_own`.
use Rattle.std.proofs.Common.{List, length, subst, sym, ◌∙◌, arith}
use Rattle.std.proofs.lemmas.Bool.{true≢false, eqb-true, eq-eqb}
use Rattle.std.proofs.lemmas.List.{take_more}
use Rattle.domain_core.specs.Outlines.{shape_of}
use Rattle.pair_recorder.specs.declared.seen.Seen.{Seen}
use Rattle.pair_recorder.specs.Paths.{AreOwn}
use Rattle.pair_recorder.proofs.Pathed.{below_at, own_at, own_joined}
use Rattle.pair_recorder.proofs.entries.are_own.Goals as goal

pub is_own-requires : goal.is_own-requires
is_own-requires c = below_at (length c.args.outline.now.nodes) c.args.entries.now c.loop-seen.seen-index _ c.requires (let low = c.loop-seen-test.true in omega arith)

pub loop-seen-preserved : goal.loop-seen-preserved
loop-seen-preserved c =
    subst (λ (xs : List Seen). AreOwn (shape_of c.args.outline.now) xs) (sym (take_more c.args.entries.now c.loop-seen.seen-index _ (let low = c.loop-seen-test.true in omega arith)))
    (own_joined (shape_of c.args.outline.now) _ _ c.loop-seen.invariant (eqb-true _ _ (sym c.is_own.ensures ∙ c.if-not-is_own.false)))

pub returns-then-not-is_own : goal.returns-then-not-is_own
returns-then-not-is_own c = (
  λ no. absurd (true≢false (sym no)),
  λ own. absurd (true≢false (sym (eq-eqb _ _ (own_at (shape_of c.args.outline.now) c.args.entries.now c.loop-seen.seen-index _ own (let low = c.loop-seen-test.true in omega arith))) ∙ sym c.is_own.ensures ∙ c.if-not-is_own.true)),
)
