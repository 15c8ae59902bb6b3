-- What is left to show of `first_position`.
use Rattle.std.proofs.Common.{◌≡◌, ◌∷◌, [], ℕ, ◌∙◌}
use Rattle.std.proofs.lemmas.Result.{IfOk-weaker}
use Rattle.smallvec.specs.SmallVec.{SmallVec}
use Rattle.domain_core.specs.Outlines.{shape_of}
use Rattle.worklist_rules.specs.Positions.{position_by, position_of, entered}
use Rattle.worklist_rules.specs.PositionLaws.{first_position}
use Rattle.abstract_exec.proofs.position.first_position.Goals as goal

pub returns : goal.returns
returns c =
    let step : (made : SmallVec ℕ) → made.items ≡ position_by (shape_of c.args.outline.now) (λ t. entered (shape_of c.args.outline.now) 0 t 0) 0 → made.items ≡ position_of (shape_of c.args.outline.now) (0 ∷ []) =
    λ made is. is ∙ first_position (shape_of c.args.outline.now) c.kept.ensures in
    IfOk-weaker c.position_after.result (λ made. made.items ≡ position_by (shape_of c.args.outline.now) (λ t. entered (shape_of c.args.outline.now) 0 t 0) 0) (λ made. made.items ≡ position_of (shape_of c.args.outline.now) (0 ∷ [])) step c.position_after.ensures
