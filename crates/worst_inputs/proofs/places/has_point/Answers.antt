use Rattle.std.proofs.Common.{◌≡◌, true, sym, subst, rules}
use Rattle.worst_inputs.specs.Areas.{Area, IsPoint}
use Rattle.worst_inputs.proofs.Pointed.{point_here, no_point, no_more}
use Rattle.worst_inputs.proofs.places.has_point.Goals as goal
use Rattle.worst_inputs.proofs.places.has_point.Goals.{else-pair-worst-via-then-pair-worst+else-is_point, else-pair-worst-via-else-pair-worst}

pub returns-then-is_point : goal.returns-then-is_point
returns-then-is_point c = (
  λ t. point_here c.args.boxes.now c.args.worst c.loop-pair.pair-index c.pair-item.result c.loop-pair-test.true c.pair-item.is c.if-pair-worst.true
      (subst (λ (area : Area). IsPoint area) c.deref.ensures.value (c.is_point.ensures.0 (search rules))),
  λ h. search rules,
)

pub loop-pair-preserved : goal.loop-pair-preserved
loop-pair-preserved c = no_more c.args.boxes.now c.args.worst c.loop-pair.pair-index c.pair-item.result c.loop-pair-test.true c.pair-item.is c.loop-pair.invariant
    (elim c.else-pair-worst.branch [
      | else-pair-worst-via-then-pair-worst+else-is_point w ↦
          λ e p. let yes : w.is_point.result ≡ true = let q = w.is_point.ensures.1 (subst (λ (area : Area). IsPoint area) (sym w.deref.ensures.value) p) in search rules in let no = w.if-is_point.false in cc
      | else-pair-worst-via-else-pair-worst w ↦ λ e p. w.if-pair-worst.false e
    ])

pub returns : goal.returns
returns c = (λ t. absurd (search rules), λ h. absurd (no_point c.args.boxes.now c.args.worst c.loop-pair.pair-index c.loop-pair-test.false c.loop-pair.invariant h))
