-- What is left to show of `heads_none`.
use Rattle.std.proofs.Common.{sym, ◌∙◌, inl, inr}
use Rattle.domain_core.specs.Outlines.{shape_of}
use Rattle.abstract_exec.proofs.Placing.{parent_is, header_is}
use Rattle.abstract_exec.proofs.Beside.{passes, outermost_passed}
use Rattle.abstract_exec.proofs.numbers.heads_none.Goals as goal

pub loop-step-init : goal.loop-step-init
loop-step-init c = record { low = c.requires; ahead = λ t way. inr way }

pub returns-in-None : goal.returns-in-None
returns-in-None c =
    let o = c.args.outline.now in
    let at = c.loop-step.at in
    let row = c.scope-row.result.now in
    λ yes t way.
    elim (c.loop-step.invariant.ahead t way) [
      | inl passed ↦ passed
      | inr ahead ↦ outermost_passed (shape_of o) c.args.node at t (λ e. c.if-row-node.false (header_is o at row c.scope-row.ensures ∙ e)) (sym (parent_is o at row c.scope-row.ensures) ∙ c.in-None.is) ahead
    ]

pub loop-step-preserved : goal.loop-step-preserved
loop-step-preserved c =
    let o = c.args.outline.now in
    let at = c.loop-step.at in
    let row = c.scope-row.result.now in
    let parent = sym (parent_is o at row c.scope-row.ensures) ∙ c.in-Some.is in
    record {
      low = c.kept.ensures.parents_within at c.in-Some.parent c.loop-step.invariant.low parent;
      ahead = λ t way.
          elim (c.loop-step.invariant.ahead t way) [
            | inl passed ↦ inl passed
            | inr ahead ↦ passes (shape_of o) c.args.node at c.in-Some.parent t (λ e. c.if-row-node.false (header_is o at row c.scope-row.ensures ∙ e)) parent ahead
          ];
    }
