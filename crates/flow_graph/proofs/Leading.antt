-- Where the node of a place leads.
--   calls_of       its path is a call path
--   block_low      its block is there
--   for_place      what is known of a block of this path is known of the place
--   back_goals     where a return leads
use Rattle.std.proofs.Common.{◌≡◌, ◌<◌, ℕ, List, [], ◌∷◌, reverse, length, Option, Some, None, ap, sym, ◌∙◌, subst}
use Rattle.std.proofs.lemmas.List.{reverse-reverse}
use Rattle.alf_check.specs.CheckedPrograms.{NumberedProgram, BlockEnding, blocks_at}
use Rattle.alf_check.specs.Kept.{IsKept}
use Rattle.flow_graph.specs.Nodes.{Node, Goal, block_node, ending_at, function_at, IsKeptNode, Leads, ReturnLeads, BackLeads}
use Rattle.flow_graph.specs.Paths.{IsCallPath, HasBlock, next_of}
use Rattle.flow_graph.specs.PathLaws.{kept_is_placed}
use Rattle.flow_graph.specs.Places.{node_at, node_of}
use Rattle.flow_graph.specs.Goals.{GoesBack, AreGoals}
use Rattle.flow_graph.specs.declared.place.Place.{Place}
use Rattle.flow_graph.specs.declared.goals.Goals.{Goals}
use Rattle.flow_graph.proofs.Targets.{one_goal}

module _ (program : NumberedProgram) (keeps : IsKept program) (place : Place) (kept : IsKeptNode program (node_of place)) (p : List ℕ) (same : p ≡ place.path.items) where
  -- its path is a call path
  pub calls_of : IsCallPath program (reverse p)
  calls_of = subst (λ (q : List ℕ). IsCallPath program (reverse q)) (sym same) ((kept_is_placed program keeps (node_of place) kept).path)

  module _ (b : ℕ) (some : place.block ≡ Some b) where
    -- its block is there
    pub block_low : (f : ℕ) → f ≡ function_at program (reverse p) → b < length (blocks_at program f)
    block_low f is =
        let there = (kept_is_placed program keeps (node_of place) kept).block in
        let of_block : HasBlock program (function_at program (reverse place.path.items)) (Some b) = subst (λ (block : Option ℕ). HasBlock program (function_at program (reverse place.path.items)) block) some there in
        let f_is : function_at program (reverse place.path.items) ≡ f = ap (λ (q : List ℕ). function_at program (reverse q)) (sym same) ∙ sym is in
        subst (λ (g : ℕ). b < length (blocks_at program g)) f_is of_block

    -- what is known of a block of this path is known of the place
    pub for_place : (goals : Option Goals) → AreGoals program (block_node (reverse p) b) goals
        → AreGoals program (node_of place) goals
    for_place goals h =
        subst (λ (block : Option ℕ). AreGoals program (node_at place.path.items block) goals) (sym some)
        (subst (λ (q : List ℕ). AreGoals program (node_at q (Some b)) goals) same h)

module _ (program : NumberedProgram) (node : Node) where
  -- where a return leads
  pub back_goals : (path : List ℕ) → IsCallPath program path → (goals : Option Goals) → GoesBack program path goals
      → ((goal : Goal) → ReturnLeads program path goal → Leads program node goal) → ((goal : Goal) → Leads program node goal → ReturnLeads program path goal)
      → AreGoals program node goals
  back_goals [] calls goals none from leads =
      subst (λ (goals : Option Goals). AreGoals program node goals) (sym none) (record { each = λ goal h. from goal h; all = λ goal h. leads goal h; ascends = tt })
  back_goals (b ∷ path) calls None goes from leads = absurd goes
  back_goals (b ∷ path) calls (Some goals) goes from leads =
      let call = calls.0 in
      let next_is : next_of (ending_at program (function_at program path) b) ≡ call.next = ap next_of call.ends in
      let node_is : node_at (reverse path) (Some (next_of (ending_at program (function_at program path) b))) ≡ block_node path call.next =
      ap (λ (q : List ℕ). block_node q (next_of (ending_at program (function_at program path) b))) (reverse-reverse path) ∙ ap (λ (n : ℕ). block_node path n) next_is in
      one_goal program node goals (reverse path) (Some (next_of (ending_at program (function_at program path) b))) goes
      (λ goal e. from goal (subst (λ (ending : Option BlockEnding). BackLeads path ending goal) (sym call.ends) (e ∙ ap (λ (n : Node). Some n) node_is)))
      (λ goal h. let back : goal ≡ Some (block_node path call.next) = subst (λ (ending : Option BlockEnding). BackLeads path ending goal) call.ends (leads goal h) in back ∙ ap (λ (n : Node). Some n) (sym node_is))
