use Rattle.std.proofs.Common.{◌≡◌, drop}
use Rattle.base_tests.specs.BoundTables.{with_bound, told_of_all}
use Rattle.base_tests.proofs.bound_table.told_all.Given as goal

abbrev pub invariant-loop-entry : goal.invariant-loop-entry
invariant-loop-entry l = with_bound l.most (told_of_all (drop l.entry-index l.entries)) ≡ told_of_all l.entries
