-- The loop over the entries of costs.
--   CostsSoFar     the table of the first entries, which are right
--   costs_more     that of one entry more
use Rattle.std.proofs.Common.{◌≡◌, ◌≤◌, ◌+◌, ℕ, List, [], ◌∷◌, ◌++◌, length, take, Some, slice_get, sym, subst, arith}
use Rattle.std.proofs.lemmas.Option.{slice_get_within}
use Rattle.toml.specs.Data.{Data}
use Rattle.alf_check.specs.CheckedPrograms.{NumberedProgram}
use Rattle.cost_table.specs.CostTables.{CostTable}
use Rattle.cost_table.specs.Costs.{IsCostTable, IsRightCost, cost_judging}
use Rattle.cost_table.specs.Entries.{RightBelow}
use Rattle.cost_table.proofs.Steps.{more_entries, right_more}

-- the table of the first n entries, which are right
pub record CostsSoFar (program : NumberedProgram) (default : ℕ) (entries : List Data) (n : ℕ)
    (table : CostTable) : Type 0 where
  pub within : n ≤ length entries
  pub is : IsCostTable program default (take n entries) table
  pub below : RightBelow (cost_judging program) entries n

-- the table of one entry more
pub costs_more : (program : NumberedProgram) (default : ℕ) (entries : List Data) (n : ℕ) (table more : CostTable) (datum : Data) → CostsSoFar program default entries n table → slice_get entries n ≡ Some datum → IsRightCost program datum → IsCostTable program default (take n entries ++ datum ∷ []) more → CostsSoFar program default entries (n + 1) more
costs_more program default entries n table more datum so_far at right is = record {
  within = let low = slice_get_within entries n datum at in omega arith;
  is = subst (λ (es : List Data). IsCostTable program default es more) (sym (more_entries entries n datum at)) is;
  below = right_more (cost_judging program) entries n datum so_far.below at right;
}
