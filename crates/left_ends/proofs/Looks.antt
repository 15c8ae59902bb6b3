-- What a look at a place takes in.
--   left_root     what a block of the root leaves is a memory in which the root alone runs
--   looked_at     a memory that stands for what is left stands for all that the node leaves
--   none_left     a node that is none leaves nothing
use Rattle.std.proofs.Common.{◌≡◌, ℕ, List, [], Option, Some, None, refl, sym, ap, subst, ◌∙◌}
use Rattle.std.specs.Prelude.{IfSome}
use Rattle.alf_ops.specs.declared.history.RunEvent.{RunEvent}
use Rattle.alf_check.specs.CheckedPrograms.{CheckedParts, NumberedBlock, seen}
use Rattle.flow_graph.specs.Nodes.{Node}
use Rattle.flow_graph.specs.Numbering.{GraphParts}
use Rattle.memory_model.specs.KeptMemories.{MemoryParts, memory_in, rows_of}
use Rattle.transfer_rules.specs.Machines.{RunsAlong}
use Rattle.transfer_rules.specs.SteppingLaws.{same_along}
use Rattle.left_cells.specs.Ends.{IsAfter, StandsIn, IsLike}
use Rattle.left_ends.specs.Seen.{IsLast, IsOfRoot, AreEnds, FitsAt, StandsForAll, EndsIn}
use Rattle.left_ends.proofs.Lasts.{same_last}

module _ (checked : CheckedParts) (graph : GraphParts) (n : ℕ) (state : MemoryParts) (fits : FitsAt checked graph n state) where
  -- in a memory for a block of the root the root alone runs, and in what it leaves
  like_root : (block : NumberedBlock) → IsLast (seen checked) graph n block → (left : MemoryParts) → IsLike state left
      → IsOfRoot checked left
  like_root block last left like = record {
    own = record { checked = like.checked ∙ fits.own.checked; is = like.is };
    along = same_along (seen checked) [] (memory_in state) (memory_in left) like.runs
        (subst (λ (node : Node). RunsAlong (seen checked) node.path (memory_in state)) last.node fits.fits.along);
  }

  pub left_root : (block : NumberedBlock) → IsLast (seen checked) graph n block → (left : Option MemoryParts)
      → IfSome left (IsLike state) → AreEnds checked left
  left_root block last None like = tt
  left_root block last (Some left) like = like_root block last left like

  -- a memory that stands for what the block leaves
  pub looked_at : (block : NumberedBlock) → IsLast (seen checked) graph n block → (left all : Option MemoryParts)
      → ((later : List RunEvent) → IsAfter checked block.statements state later → StandsIn (rows_of checked) left later)
      → StandsForAll left all → EndsIn checked graph all n state
  looked_at block last left all stands more later is =
      more (rows_of checked) later
      (stands later (subst (λ (b : NumberedBlock). IsAfter checked b.statements state later) (same_last (seen checked) graph n is.block block is.last last) is.after))

-- a node that is none
pub none_left : (checked : CheckedParts) (graph : GraphParts) (n : ℕ) (state : MemoryParts) (all : Option MemoryParts)
    → ((block : NumberedBlock) → IsLast (seen checked) graph n block → ⊥) → EndsIn checked graph all n state
none_left checked graph n state all none later is = absurd (none is.block is.last)
