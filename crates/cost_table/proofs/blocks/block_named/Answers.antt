use Rattle.std.proofs.Common.{◌≡◌, Some, None, ℤ, FitsSigned, w64, length, rules, sym, subst}
use Rattle.std.proofs.lemmas.Int.{to_z-of_z}
use Rattle.alf_check.specs.CheckedPrograms.{blocks_at, seen}
use Rattle.cost_table.specs.Costs.{below}
use Rattle.cost_table.proofs.Functions.{named_there}
use Rattle.cost_table.proofs.CostEntries.{block_is, no_block, not_named}
use Rattle.cost_table.proofs.blocks.block_named.Goals as goal

pub block_of-requires : goal.block_of-requires
block_of-requires c = named_there (seen c.args.checked.now) c.args.name.now c.in-Some.func (sym c.in-Some.ensures)

pub returns-in_default-clause-none : goal.returns-in_default-clause-none
returns-in_default-clause-none c = not_named (seen c.args.checked.now) (c.args.name.now, c.args.told) (sym c.in_default.ensures)

pub returns-in-Some-block_of-clause-some : goal.returns-in-Some-block_of-clause-some
returns-in-Some-block_of-clause-some c =
    let number : FitsSigned w64 c.args.told.block = search rules in
    block_is (seen c.args.checked.now) (c.args.name.now, c.args.told) c.in-Some.func c.in-Some-block_of.block (sym c.in-Some.ensures) (subst (λ (z : ℤ). below (length (blocks_at (seen c.args.checked.now) c.in-Some.func)) z ≡ Some c.in-Some-block_of.block) (to_z-of_z w64 c.args.told.block number) (sym c.in-Some-block_of.ensures))

pub returns-in-None-clause-none : goal.returns-in-None-clause-none
returns-in-None-clause-none c =
    let number : FitsSigned w64 c.args.told.block = search rules in
    no_block (seen c.args.checked.now) (c.args.name.now, c.args.told) c.in-Some.func (sym c.in-Some.ensures) (subst (λ (z : ℤ). below (length (blocks_at (seen c.args.checked.now) c.in-Some.func)) z ≡ None) (to_z-of_z w64 c.args.told.block number) (sym c.in-None.ensures))
