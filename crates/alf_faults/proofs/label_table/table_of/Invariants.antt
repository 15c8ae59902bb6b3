use Rattle.std.proofs.Common.{◌≡◌, ◌+◌, ℕ, List, map, drop}
use Rattle.std.specs.Option.{option_map}
use Rattle.alf_program.specs.Tree.{item_of}
use Rattle.alf_faults.specs.Places.{label_place}
use Rattle.alf_faults.specs.Table.{found}
use Rattle.alf_faults.proofs.label_table.table_of.Given as goal

abbrev pub invariant-loop-place : goal.invariant-loop-place
invariant-loop-place l = (name : List ℕ) → found l.table name ≡ option_map (λ k. k + l.place) (label_place (drop l.place (map item_of l.items)) name)
