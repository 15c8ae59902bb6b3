-- Blocks that switches lead to, and where nodes lead, as the code lists them.
--   among_targets    members of the list of a switch's blocks are its targets, and targets_among the other way
--   some_blocks      numbers as blocks: members, and some_ascend their order
--   one_goal         where a node leads to one node alone
--   end_leads, leads_end   where a block leads is told by how it ends
use Rattle.std.proofs.Common.{◌≡◌, ◌<◌, ◌≤◌, ◌↔◌, ℕ, List, [], ◌∷◌, ◌++◌, map, length, Option, Some, slice_get, drop, Contains, AllPairs, inl, inr, refl, ap, sym, ◌∙◌, subst, arith, append-nil}
use Rattle.std.specs.Option.{option_map}
use Rattle.std.proofs.Math.ListN.{drop_of_length-le}
use Rattle.std.proofs.lemmas.List.{length-map, get_or-map}
use Rattle.lists.specs.MemberLaws.{first_member, further_member, first_or_further, no_member}
use Rattle.lists.specs.ImageLaws.{mapped, image}
use Rattle.alf_check.specs.CheckedPrograms.{NumberedProgram, NumberedBlock, BlockEnding, blocks_at}
use Rattle.flow_graph.specs.Nodes.{Node, Goal, IsTarget, ending_at, function_at, EndLeads, Leads, block_node}
use Rattle.flow_graph.specs.Numbering.{block_rank}
use Rattle.flow_graph.specs.Places.{node_at}
use Rattle.flow_graph.specs.Goals.{GoalsHave, GoesToTargets, AreGoals}
use Rattle.flow_graph.specs.declared.goals.Goals.{Goals}

-- all has been read
pub whole_read : (xs : List ℕ) (ts : List (ℕ × ℕ)) (k others : ℕ) → length ts ≤ k
    → xs ++ map (λ (target : ℕ × ℕ). target.1) (drop k ts) ≡ others ∷ map (λ (target : ℕ × ℕ). target.1) ts
    → xs ≡ others ∷ map (λ (target : ℕ × ℕ). target.1) ts
whole_read xs ts k others past e =
    sym (append-nil xs) ∙ sym (ap (λ (rest : List (ℕ × ℕ)). xs ++ map (λ (target : ℕ × ℕ). target.1) rest) (drop_of_length-le ts past)) ∙ e

-- members of the list of a switch's blocks are its targets
pub among_targets : (ts : List (ℕ × ℕ)) (others to : ℕ) → Contains (others ∷ map (λ (target : ℕ × ℕ). target.1) ts) to
    → IsTarget ts others to
among_targets ts others to h = first_or_further others (map (λ (target : ℕ × ℕ). target.1) ts) to h (λ e. inl (sym e)) (λ more. inr more)

pub targets_among : (ts : List (ℕ × ℕ)) (others to : ℕ) → IsTarget ts others to
    → Contains (others ∷ map (λ (target : ℕ × ℕ). target.1) ts) to
targets_among ts others to h = elim h [
  | inl e ↦ subst (λ (n : ℕ). Contains (others ∷ map (λ (target : ℕ × ℕ). target.1) ts) n) (sym e) (first_member others (map (λ (target : ℕ × ℕ). target.1) ts))
  | inr more ↦ further_member others (map (λ (target : ℕ × ℕ). target.1) ts) to more
]

-- numbers as blocks ascend as they do
pub some_ascend : (xs : List ℕ) → AllPairs (λ (a b : ℕ). a < b) xs
    → AllPairs (λ (a b : Option ℕ). block_rank a < block_rank b) (map (λ (n : ℕ). Some n) xs)
some_ascend xs up i j d before inside =
    let long = length-map xs (λ (n : ℕ). Some n) in
    let first = get_or-map (λ (n : ℕ). Some n) xs i 0 d (omega arith) in
    let second = get_or-map (λ (n : ℕ). Some n) xs j 0 d (omega arith) in
    let low = up i j 0 before (omega arith) in
    let a = ap block_rank first in
    let b = ap block_rank second in
    omega arith

-- what a switch leads to, from the numbers of its blocks
pub switch_goes : (goals : Goals) (path : List ℕ) (ts : List (ℕ × ℕ)) (others : ℕ) (xs : List ℕ)
    → goals.path.items ≡ path → goals.blocks.items ≡ map (λ (n : ℕ). Some n) xs
    → ((to : ℕ) → Contains xs to ↔ IsTarget ts others to) → AllPairs (λ (a b : ℕ). a < b) xs → GoesToTargets goals path ts others
switch_goes goals path ts others xs path_is blocks_are each up = record {
  path_is = path_is;
  blocks = λ block. (
    λ among. let m = mapped (λ (n : ℕ). Some n) xs block (subst (λ (bs : List (Option ℕ)). Contains bs block) blocks_are among) in (m.0, (each m.0).0 m.1, sym m.2),
    λ target. subst (λ (bs : List (Option ℕ)). Contains bs block) (sym blocks_are)
        (subst (λ (b : Option ℕ). Contains (map (λ (n : ℕ). Some n) xs) b) (sym target.2) (image (λ (n : ℕ). Some n) xs target.0 ((each target.0).1 target.1))),
  );
  ascends = subst (λ (bs : List (Option ℕ)). AllPairs (λ (a b : Option ℕ). block_rank a < block_rank b) bs) (sym blocks_are) (some_ascend xs up);
}

module _ (program : NumberedProgram) (node : Node) (goals : Goals) (path : List ℕ) where
  -- where a node leads to one node alone
  pub one_goal : (to : Option ℕ) → GoalsHave goals path (to ∷ [])
      → ((goal : Goal) → goal ≡ Some (node_at path to) → Leads program node goal)
      → ((goal : Goal) → Leads program node goal → goal ≡ Some (node_at path to))
      → AreGoals program node (Some goals)
  one_goal to have from leads = record {
    each = λ goal in_goals. from goal (
        let among = subst (λ (bs : List (Option ℕ)). Contains bs in_goals.0) have.blocks_are in_goals.1 in
        let same : in_goals.0 ≡ to = first_or_further to [] in_goals.0 among (λ e. sym e) (λ more. no_member in_goals.0 more) in
        in_goals.2 ∙ ap (λ (p : List ℕ). Some (node_at p in_goals.0)) have.path_is ∙ ap (λ (b : Option ℕ). Some (node_at path b)) same);
    all = λ goal lead. (to, subst (λ (bs : List (Option ℕ)). Contains bs to) (sym have.blocks_are) (first_member to []), leads goal lead ∙ ap (λ (p : List ℕ). Some (node_at p to)) (sym have.path_is));
    ascends = λ i j d before inside. let long = ap (λ (bs : List (Option ℕ)). length bs) have.blocks_are in absurd (omega arith);
  }

  -- where a switch leads
  pub switch_goals : (ts : List (ℕ × ℕ)) (others : ℕ) → GoesToTargets goals path ts others
      → ((goal : Goal) (to : ℕ) → IsTarget ts others to → goal ≡ Some (node_at path (Some to)) → Leads program node goal)
      → ((goal : Goal) → Leads program node goal → (to : ℕ) × IsTarget ts others to × (goal ≡ Some (node_at path (Some to))))
      → AreGoals program node (Some goals)
  switch_goals ts others goes from leads = record {
    each = λ goal in_goals.
        let target = (goes.blocks in_goals.0).0 in_goals.1 in
        from goal target.0 target.1 (in_goals.2 ∙ ap (λ (p : List ℕ). Some (node_at p in_goals.0)) goes.path_is ∙ ap (λ (b : Option ℕ). Some (node_at path b)) target.2);
    all = λ goal lead.
        let target = leads goal lead in
        (Some target.0, (goes.blocks (Some target.0)).1 (target.0, target.1, refl), target.2 ∙ ap (λ (p : List ℕ). Some (node_at p (Some target.0))) (sym goes.path_is));
    ascends = goes.ascends;
  }

module _ (program : NumberedProgram) (path : List ℕ) (b f : ℕ) (block : NumberedBlock) (ending : BlockEnding)
    (is : f ≡ function_at program path) (at : slice_get (blocks_at program f) b ≡ Some block) (ends : block.ending ≡ ending) where
  -- how the block ends
  pub ends_so : ending_at program (function_at program path) b ≡ Some ending
  ends_so = ap (λ (g : ℕ). ending_at program g b) (sym is) ∙ ap (λ (o : Option NumberedBlock). option_map (λ (block : NumberedBlock). block.ending) o) at ∙ ap (λ (e : BlockEnding). Some e) ends

  -- where a block leads is told by how it ends
  pub end_leads : (goal : Goal) → EndLeads program path b (Some ending) goal → Leads program (block_node path b) goal
  end_leads goal h = subst (λ (ending : Option BlockEnding). EndLeads program path b ending goal) (sym ends_so) h

  pub leads_end : (goal : Goal) → Leads program (block_node path b) goal → EndLeads program path b (Some ending) goal
  leads_end goal h = subst (λ (ending : Option BlockEnding). EndLeads program path b ending goal) ends_so h
