-- The table has the names from here on.
use Rattle.std.proofs.Common.{◌≡◌, ◌+◌, ℕ, List, drop}
use Rattle.std.specs.Option.{option_map}
use Rattle.c_scopes.specs.Numbers.{number_named}
use Rattle.c_scopes.specs.Table.{found}
use Rattle.c_scopes.proofs.table.table_of.Given as goal

abbrev pub invariant-loop-number : goal.invariant-loop-number
invariant-loop-number l = (name : List ℕ) → found l.table name ≡ option_map (λ k. k + l.number) (number_named l.words (drop l.number l.names) name)
