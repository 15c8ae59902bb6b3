-- Lists of arms.
--   one_arm       an arm that is there is one of the same program
--   arms_are, all_arms_are   arms by what the expression tells are those of the rules, as goals
use Rattle.std.specs.Prelude.{IfSome, IfOk}
use Rattle.std.specs.declared.alloc.Global.{Global}
use Rattle.std.proofs.Common.{◌≡◌, ℕ, List, [], ◌∷◌, ◌++◌, map, Option, Some, None, Result, Ok, Err, Vec, refl, ap, subst, ◌∙◌}
use Rattle.alf_ops.specs.declared.history.FrameShape.{FrameShape}
use Rattle.alf_program.specs.Tree.{NumberedExpression}
use Rattle.flow_graph.specs.Nodes.{block_node}
use Rattle.strided_rules.specs.Strides.{Stride}
use Rattle.strided_rules.specs.Members.{only}
use Rattle.memory_rules.specs.Memories.{Mem}
use Rattle.memory_rules.specs.AbstractSets.{abstract_sets}
use Rattle.memory_model.specs.KeptMemories.{MemoryParts, memory_in, IsMemory}
use Rattle.transfer_rules.specs.Refining.{refined}
use Rattle.transfer_rules.specs.Stepping.{Goals, without_all, arm_to, arm, target_arms, arms}
use Rattle.branch_refinement.specs.declared.refinements.Refinement.{Refinement}
use Rattle.branch_refinement.specs.Refinements.{refined_by}
use Rattle.branch_refinement.specs.Arms.{seen_arms, if_there, arm_by, target_arms_by, arms_by, goals_of, IsArmOf}

-- an arm that is there is one of the same program
pub one_arm : (memory : MemoryParts) (to : ℕ) (o : Option MemoryParts) (own : MemoryParts) → o ≡ Some own
    → IfSome o (λ m. m.checked ≡ memory.checked) → IfSome o IsMemory → IsArmOf memory (to, own)
one_arm memory to o own is checked kept = record {
  checked = subst (λ (x : Option MemoryParts). IfSome x (λ m. m.checked ≡ memory.checked)) is checked;
  kept = subst (λ (x : Option MemoryParts). IfSome x IsMemory) is kept;
}

-- ---- arms as goals

abbrev to_goals : List ℕ → List (ℕ × Mem abstract_sets) → Goals
to_goals path arms = map (λ (a : ℕ × Mem abstract_sets). (Some (block_node path a.0), a.1)) arms

seen_goals : (path : List ℕ) (own : List (ℕ × MemoryParts)) → goals_of path own ≡ to_goals path (seen_arms own)
seen_goals path [] = refl
seen_goals path (a ∷ own) = ap (λ (goals : Goals). (Some (block_node path a.0), memory_in a.1) ∷ goals) (seen_goals path own)

both_goals : (path : List ℕ) (xs ys : List (ℕ × Mem abstract_sets))
    → to_goals path (xs ++ ys) ≡ to_goals path xs ++ to_goals path ys
both_goals path [] ys = refl
both_goals path (x ∷ xs) ys = ap (λ (goals : Goals). (Some (block_node path x.0), x.1) ∷ goals) (both_goals path xs ys)

one_goal : (path : List ℕ) (to : ℕ) (o : Option (Mem abstract_sets)) → to_goals path (if_there to o) ≡ arm_to path to o
one_goal path to None = refl
one_goal path to (Some m) = refl

module _ (rows : List FrameShape) (m : Mem abstract_sets) (e : NumberedExpression) (r : Refinement) (same : (words : Stride) → refined_by r m words ≡ refined rows m e words) (path : List ℕ) where
  arm_is : (to : ℕ) (words : Option Stride) → to_goals path (arm_by r m to words) ≡ arm rows m e path to words
  arm_is to None = refl
  arm_is to (Some words) = one_goal path to (refined_by r m words) ∙ ap (arm_to path to) (same words)

  targets_are : (words : Stride) (targets : List (ℕ × ℕ))
      → to_goals path (target_arms_by r m words targets) ≡ target_arms rows m e path words targets
  targets_are words [] = refl
  targets_are words (target ∷ targets) =
      both_goals path (arm_by r m target.1 (only words target.0)) (target_arms_by r m words targets)
      ∙ (ap (λ (goals : Goals). goals ++ to_goals path (target_arms_by r m words targets)) (arm_is target.1 (only words target.0))
      ∙ ap (λ (goals : Goals). arm rows m e path target.1 (only words target.0) ++ goals) (targets_are words targets))

  -- arms by what the expression tells are those of the rules, as goals
  pub arms_are : (own : List (ℕ × MemoryParts)) (targets : List (ℕ × ℕ)) (others : ℕ) (words : Stride)
      → seen_arms own ≡ arms_by r m targets others words
      → goals_of path own ≡ arms rows m e path targets others words
  arms_are own targets others words is =
      let last = arm_by r m others (without_all (Some words) targets) in
      seen_goals path own
      ∙ (ap (to_goals path) is
      ∙ (both_goals path (target_arms_by r m words targets) last
      ∙ (ap (λ (goals : Goals). goals ++ to_goals path last) (targets_are words targets)
      ∙ ap (λ (goals : Goals). target_arms rows m e path words targets ++ goals) (arm_is others (without_all (Some words) targets)))))

-- and so are they all
pub all_arms_are : {E : Type 0} (rows : List FrameShape) (m : Mem abstract_sets) (e : NumberedExpression) (r : Refinement) → ((words : Stride) → refined_by r m words ≡ refined rows m e words)
    → (targets : List (ℕ × ℕ)) (others : ℕ) (words : Stride) (answer : Result (Vec (ℕ × MemoryParts) Global) E) → IfOk answer (λ own. seen_arms own.items ≡ arms_by r m targets others words)
    → IfOk answer (λ own. (path : List ℕ) → goals_of path own.items ≡ arms rows m e path targets others words)
all_arms_are rows m e r same targets others words (Ok own) is = λ path. arms_are rows m e r same path own.items targets others words is
all_arms_are rows m e r same targets others words (Err error) is = tt
