-- Boxes of inputs, or that places are left, are the only meaning.
use Rattle.std.proofs.Common.{◌≡◌, refl, subst}
use Rattle.program_bounder.specs.declared.bounder.PathBounder.{PathBounder}
use Rattle.worst_inputs.specs.Searches.{found_of}
use Rattle.answer_texts.specs.ScopeLines.{left_line}
use Rattle.sweet_cli.specs.SeenBounders.{scoped_in_bounder}
use Rattle.sweet_cli.proofs.JudgedBoxes.{boxes_only, left_only}
use Rattle.sweet_cli.proofs.commands.worst.searched.Goals as goal

pub returns-in-Ok-clause-means : goal.returns-in-Ok-clause-means
returns-in-Ok-clause-means c =
    let b = c.args.bounder.now in
    boxes_only (scoped_in_bounder b) b.rows.items b.costs b.policy b.turns b.pivots c.args.splits (c.worst_boxes.ensures.one c.args.splits) (found_of c.in-Ok.found) c.in-Ok.ensures.found

pub returns-in_ok-line-in-Err-Left-clause-means : goal.returns-in_ok-line-in-Err-Left-clause-means
returns-in_ok-line-in-Err-Left-clause-means c =
    let b = c.args.bounder.now in
    let left = rw c.in-Err-Left.field-0-is at c.in-Err-Left.ensures.fault in
    let line = subst (λ (x : PathBounder). c.in_ok-line-in-Err-Left.line.items ≡ left_line x.graph x.outline.scopes c.in-Err-Left.scope) c.worst_boxes.ensures.unchanged
    c.in_ok-line-in-Err-Left.ensures in
    (refl, left_only (scoped_in_bounder b) b.rows.items b.costs b.policy b.turns b.pivots c.args.splits (c.worst_boxes.ensures.one c.args.splits) c.in-Err-Left.scope c.in_ok-line-in-Err-Left.line.items left line)
