-- Entries of costs, and the table after one.
--   entry_some    an entry with its keys
--   not_named, block_is, no_block   a block that an entry names, and one that is not there
--   table_more    the table after one more entry
use Rattle.std.proofs.Common.{◌≡◌, ◌<◌, ◌≤◌, ⊎_elim, ℕ, true, ◌&&◌, nat_eq, List, [], ◌∷◌, ◌++◌, length, Option, Some, None, unwrap_or, refl, ap, sym, ◌∙◌, subst, arith}
use Rattle.std.specs.Prelude.{if◌then◌else◌, codes}
use Rattle.std.proofs.lemmas.Option.{none-some, same_Some, slice_get_past}
use Rattle.toml.specs.Data.{Data, Members}
use Rattle.alf_check.specs.CheckedPrograms.{NumberedProgram, blocks_at}
use Rattle.cost_table.specs.declared.cost_entry.BlockCost.{BlockCost}
use Rattle.cost_table.specs.CostTables.{CostTable, HasRows, cost_at, row_at, with_cost}
use Rattle.cost_table.specs.Costs.{HasBlock, IsBlock, IsCostTable, below, cost_by, cost_entry, cost_members, cost_of, function_named, is_cost_key}
use Rattle.cost_table.specs.Documents.{only_keys, text_at, number_at}
use Rattle.cost_table.proofs.Orders.{below_or_not}
use Rattle.cost_table.proofs.Numbers.{below_is, below_some}
use Rattle.cost_table.proofs.Costing.{cost_with, row_long, rows_with, told_more}

-- an entry with its keys
pub entry_some : (ms : Members) (function : List ℕ) (told : BlockCost) → only_keys is_cost_key ms ≡ true
    → text_at (codes "function") ms ≡ Some function → number_at (codes "block") ms ≡ Some told.block
    → number_at (codes "cost") ms ≡ Some told.cost → cost_members ms ≡ Some (function, told)
entry_some ms function told keys function_is block_is cost_is = rw (keys, function_is, block_is, cost_is) refl

-- an entry of a block gives its cost to this block alone
given : (program : NumberedProgram) (datum : Data) (entry : List ℕ × BlockCost) (f b cost g c : ℕ)
    → cost_entry datum ≡ Some entry → cost_of entry.1.cost ≡ Some cost → IsBlock program entry f b
    → cost_by program g c datum ≡ (if nat_eq g f && nat_eq c b then Some cost else None)
given program datum entry f b cost g c keys costs is = rw (keys, is.named, is.numbered, costs) refl

-- the function of a block is there
pub function_there : (program : NumberedProgram) (table : CostTable) (entry : List ℕ × BlockCost) (f b : ℕ)
    → HasRows program table → IsBlock program entry f b → f < length table.rows
function_there program table entry f b has is = ⊎_elim
    (λ (low : f < length program.funcs). omega (arith, low, has.functions))
    (λ (high : length program.funcs ≤ f).
    let there : b < length (blocks_at program f) = is.there in
    let none : length (blocks_at program f) ≡ 0 = rw (slice_get_past program.funcs f high) refl in
    absurd (omega (arith, there, none)))
    (below_or_not f (length program.funcs))

-- a name that no function has
pub not_named : (program : NumberedProgram) (entry : List ℕ × BlockCost) → function_named program entry.0 ≡ None
    → ¬ HasBlock program entry
not_named program entry none = λ has. none-some has.function (sym none ∙ has.is.named)

-- the block of a function that has the name
pub block_is : (program : NumberedProgram) (entry : List ℕ × BlockCost) (f b : ℕ)
    → function_named program entry.0 ≡ Some f → below (length (blocks_at program f)) entry.1.block ≡ Some b
    → IsBlock program entry f b
block_is program entry f b named is =
    let parts = below_some (length (blocks_at program f)) entry.1.block b is in
    record { named = named; numbered = parts.0; there = parts.1 }

-- a number of none of its blocks
pub no_block : (program : NumberedProgram) (entry : List ℕ × BlockCost) (f : ℕ)
    → function_named program entry.0 ≡ Some f → below (length (blocks_at program f)) entry.1.block ≡ None
    → ¬ HasBlock program entry
no_block program entry f named none = λ has.
    let same : has.function ≡ f = same_Some has.function f (sym has.is.named ∙ named) in
    none-some has.block (sym none ∙ below_is (length (blocks_at program f)) entry.1.block has.block has.is.numbered (subst (λ (k : ℕ). has.block < length (blocks_at program k)) same has.is.there))

-- the table after one more entry
pub table_more : (program : NumberedProgram) (default : ℕ) (before : List Data) (datum : Data) (entry : List ℕ × BlockCost) (f b cost : ℕ) (table : CostTable) → cost_entry datum ≡ Some entry → cost_of entry.1.cost ≡ Some cost → IsBlock program entry f b → IsCostTable program default before table → IsCostTable program default (before ++ datum ∷ []) (with_cost table f b cost)
table_more program default before datum entry f b cost table keys costs is has =
    let low = function_there program table entry f b has.rows is in
    let long = row_long program table f has.rows low in
    let within : b < length (row_at table f) = omega (arith, long, is.there) in
    record {
      rows = rows_with program table f b cost has.rows low;
      others = has.others;
      gives = λ g c.
          cost_with table f b cost g c low within
          ∙ ap (λ (o : Option ℕ). unwrap_or o (cost_at table g c)) (sym (given program datum entry f b cost g c keys costs is))
          ∙ ap (unwrap_or (cost_by program g c datum)) (has.gives g c)
          ∙ sym (told_more program default before datum g c);
    }
