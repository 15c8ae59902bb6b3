-- On the way to the laws of table.
--   rows_closed   where each row lies below their count, each node has a row
use Rattle.std.proofs.Common.{◌<◌, ℕ, List, [], Vec, Global, get_or, length, Contains, All, inl, inr, subst, arith}
use Rattle.std.proofs.lemmas.Bool.{cases_lt}
use Rattle.std.proofs.lemmas.List.{get_or_past}
use Rattle.std.proofs.lemmas.List.Elements.{All-contains}
use Rattle.lists.specs.MemberLaws.{no_member}
use Rattle.graph_walks.specs.Tables.{IsClosed, rows_of}
use Rattle.graph_walks.specs.TableLaws.{rows_long}

-- where each of its rows lies below their count, each node has a row
pub rows_closed : (rows : List (Vec ℕ Global))
    → ((u : ℕ) → u < length rows → All (λ n. n < length rows) (get_or (rows_of rows) u [])) → IsClosed (rows_of rows)
rows_closed rows each u v edge = elim (cases_lt u (length rows)) [
  | inl low ↦ let inside = All-contains (λ n. n < length rows) (get_or (rows_of rows) u []) v (each u low) edge in let long = rows_long rows in omega arith
  | inr past ↦ let long = rows_long rows in no_member v (subst (λ (row : List ℕ). Contains row v) (get_or_past (rows_of rows) u [] (omega arith)) edge)
]
