-- On the way to the laws of system.
--   columns_low    each column leads from a node
--   AreLow   each leads from one of the first n nodes
use Rattle.std.proofs.Common.{◌<◌, ◌≤◌, ◌+◌, ℕ, zero, suc, Bool, List, [], ◌∷◌, ◌++◌, map, length, Contains, arith}
use Rattle.std.specs.Prelude.{filter}
use Rattle.std.specs.List.{range_with_len}
use Rattle.lists.specs.TestLaws.{by_test}
use Rattle.lists.specs.MemberLaws.{first_member, further_member}
use Rattle.domain_core.specs.Outlines.{Shape, IsOutline}
use Rattle.flow_facts.specs.declared.fact.Fact.{Fact}
use Rattle.ipet_rows.specs.Columns.{Column, edge_column, fault_column, has_alarm, columns_of}

-- ---- columns

-- each leads from one of the first n nodes
abbrev pub AreLow : ℕ → List Column → Type 0
AreLow n [] = Unit {0}
AreLow n (c ∷ cs) = (c.from < n) × AreLow n cs

low_append : (n : ℕ) (xs ys : List Column) → AreLow n xs → AreLow n ys → AreLow n (xs ++ ys)
low_append n [] ys a b = b
low_append n (x ∷ xs) ys a b = (a.0, low_append n xs ys a.1 b)

low_edges : (n : ℕ) (es : List (ℕ × ℕ)) → ((u v : ℕ) → Contains es (u, v) → u < n) → AreLow n (map edge_column es)
low_edges n [] within = tt
low_edges n (e ∷ es) within = (within e.0 e.1 (first_member e es), low_edges n es (λ u v there. within u v (further_member e es (u, v) there)))

low_faults : (o : Shape) (p : ℕ → Bool) (b k n : ℕ) → b + k ≤ n
    → AreLow n (map (λ m. fault_column o m) (filter p (range_with_len b k)))
low_faults o p b zero n low = tt
low_faults o p b (suc k) n low =
    let later = low_faults o p (b + 1) k n (omega arith) in
    by_test (p b) (λ is. rw is (omega arith, later)) (λ clear. rw clear later)

-- each column leads from a node
pub columns_low : (o : Shape) (facts : List Fact) → IsOutline o → AreLow (length o.own) (columns_of o facts)
columns_low o facts ok =
    low_append (length o.own) (map edge_column o.edges) _ (low_edges (length o.own) o.edges (λ u v there. (ok.edges_within u v there).0)) (low_faults o (λ n. has_alarm facts n) 0 (length o.own) (length o.own) (omega arith))
