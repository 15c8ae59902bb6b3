use Rattle.std.proofs.Common.{ℕ, ◌∷◌, [], ◌++◌}
use Rattle.std.proofs.lemmas.List.Elements.{All-push, All-same}
use Rattle.memory_model.specs.KeptMemories.{MemoryParts}
use Rattle.branch_refinement.specs.Arms.{IsArmOf}
use Rattle.branch_refinement.proofs.ArmLists.{one_arm}
use Rattle.branch_refinement.proofs.arms.push_arm.Goals as goal

pub returns-clause-arms : goal.returns-clause-arms
returns-clause-arms c =
    let memory = c.args.memory in
    let last : ℕ × MemoryParts = (c.args.to, c.in-Some.own) in
    let one = one_arm memory c.args.to c.in_ok-own.own c.in-Some.own c.in-Some.is c.in_ok-own.ensures.checked c.in_ok-own.ensures.kept in
    All-same (IsArmOf memory) c.push.new.self.items (c.args.arms.now.items ++ last ∷ []) c.in_ok-push.ensures.items
    (All-push (IsArmOf memory) c.args.arms.now.items last c.requires.arms one)
