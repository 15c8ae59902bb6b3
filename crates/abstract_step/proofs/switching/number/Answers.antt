use Rattle.std.proofs.Common.{◌≡◌, ◌<◌, ℕ, List, length, Some, sym, ap, subst, ◌∙◌, arith}
use Rattle.std.specs.Prelude.{get_or}
use Rattle.alf_check.specs.CheckedPrograms.{seen}
use Rattle.flow_graph.specs.Nodes.{Leads, block_node}
use Rattle.memory_model.specs.KeptMemories.{MemoryParts}
use Rattle.abstract_step.specs.Standing.{place_of, path_at}
use Rattle.abstract_step.specs.Turns.{numbered_arm}
use Rattle.abstract_step.proofs.ArmLaws.{first_mapped, not_yet, next_mapped, all_mapped}
use Rattle.abstract_step.proofs.switching.number.Goals as goal

pub number_arm-requires : goal.number_arm-requires
number_arm-requires c =
    let at = c.loop-at.at in
    let d = c.index-arms-at.result in
    let low : at < length c.args.arms.now = omega arith in
    let same : get_or c.loop-at.arms at d ≡ get_or c.args.arms.now at d =
    ap (λ (arms : List (ℕ × MemoryParts)). get_or arms at d) c.loop-at.invariant ∙ not_yet (ℕ × MemoryParts) (numbered_arm c.args.here.now) at c.args.arms.now d low in
    subst (λ (arm : ℕ × MemoryParts). Leads (seen c.args.here.now.checked) (place_of c.args.here.now) (Some (block_node (path_at c.args.here.now) arm.0))) (sym same) (c.requires at d low)

pub loop-at-preserved : goal.loop-at-preserved
loop-at-preserved c =
    let low : c.loop-at.at < length c.args.arms.now = omega arith in
    next_mapped (ℕ × MemoryParts) (numbered_arm c.args.here.now) c.loop-at.at c.args.arms.now c.loop-at.arms c.index-arms-at.result c.number_arm.new.arm low c.loop-at.invariant c.number_arm.ensures

pub returns : goal.returns
returns c =
    let all : c.loop-at.at ≡ length c.args.arms.now = omega arith in
    c.loop-at.invariant ∙ ap (λ (n : ℕ). first_mapped (numbered_arm c.args.here.now) n c.args.arms.now) all ∙ all_mapped (ℕ × MemoryParts) (numbered_arm c.args.here.now) c.args.arms.now
