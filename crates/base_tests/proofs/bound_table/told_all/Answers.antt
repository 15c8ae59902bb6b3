use Rattle.std.proofs.Common.{◌≡◌, ◌+◌, ℕ, drop, sym, subst}
use Rattle.base_tests.specs.BoundTables.{with_bound, told_of_all}
use Rattle.worst_inputs.specs.declared.bounder.Bounded.TheVariants.{At}
use Rattle.base_tests.proofs.ToldBounds.{with_none, at_more, left_here, all_at}
use Rattle.base_tests.proofs.bound_table.told_all.Goals as goal

pub returns-in-Left : goal.returns-in-Left
returns-in-Left c = left_here c.args.entries.now c.loop-entry.entry-index c.loop-entry.most _ c.loop-entry.invariant c.in-Left.scope c.loop-entry-test.true c.in-Left.is

pub loop-entry-init : goal.loop-entry-init
loop-entry-init c = with_none _

pub loop-entry-preserved : goal.loop-entry-preserved
loop-entry-preserved c =
    subst (λ (n : ℕ). with_bound n (told_of_all (drop (c.loop-entry.entry-index + 1) c.args.entries.now)) ≡ told_of_all c.args.entries.now) (sym c.max-most.ensures)
    (at_more c.args.entries.now c.loop-entry.entry-index c.loop-entry.most _ c.loop-entry.invariant c.in-At.bound c.loop-entry-test.true c.in-At.is)

pub returns : goal.returns
returns c = all_at c.args.entries.now c.loop-entry.entry-index c.loop-entry.most (At 0) c.loop-entry.invariant c.loop-entry-test.false
