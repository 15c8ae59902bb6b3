-- Tables that have for each node the nodes to which it leads.
--   HasEdge table u v   the row of u has v
--   IsClosed table      each node to which one leads has a row
--   rows_of rows        what the code's table stands for
use Rattle.std.specs.Prelude.{◌<◌, ℕ, List, [], Vec, map, length, Contains, slice_index_or}
use Rattle.std.specs.declared.alloc.Global.{Global}

-- the row of u has v
abbrev pub HasEdge : List (List ℕ) → ℕ → ℕ → Type 0
HasEdge table u v = Contains (slice_index_or table u []) v

-- each node to which one leads has a row
abbrev pub IsClosed : List (List ℕ) → Type 0
IsClosed table = (u v : ℕ) → HasEdge table u v → v < length table

-- what the code's table stands for
abbrev pub rows_of : List (Vec ℕ Global) → List (List ℕ)
rows_of rows = map (λ row. row.items) rows
