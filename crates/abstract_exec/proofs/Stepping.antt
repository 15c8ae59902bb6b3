-- Steps of places.
--   next_are_along   successors go along edges
--   few_after        room for few elements leaves few
use Rattle.std.proofs.Common.{◌≡◌, ◌<◌, ◌≤◌, ◌+◌, ◌-◌, ◌^◌, ◌++◌, ℕ, List, length, length-append, take, drop, inl, inr, ap, ◌∙◌, arith}
use Rattle.std.proofs.lemmas.Bool.{cases_lt}
use Rattle.std.proofs.lemmas.List.{length-map, length-take, length-drop}
use Rattle.domain_core.specs.declared.outline.NodeRow.{NodeRow}
use Rattle.domain_core.specs.Outlines.{Outlined, IsOutline, shape_of}
use Rattle.domain_core.specs.Machines.{Machine, IsAlong}
use Rattle.worklist_rules.specs.Successors.{AreAlong}

-- successors go along edges
pub next_are_along : {T C : Type 0} (o : Outlined) (m : Machine T C) → IsOutline (shape_of o)
    → IsAlong T C (shape_of o) m → (n : ℕ) (t : T) → m.fits n t → AreAlong o n (m.next n t)
next_are_along o m ok along n t fits = λ s has node.
    let edge = along.next_along n s.0 t s.1 fits has in
    let most = (ok.edges_within n s.0 edge).1 in
    let long : length (shape_of o).own ≡ length o.nodes = length-map o.nodes (λ (r : NodeRow). r.scope) in
    (edge, elim (cases_lt s.0 (length o.nodes)) [ inl low ↦ low | inr high ↦ absurd (node (omega arith)) ])

-- room for few elements leaves few
pub few_after : {X : Type 0} (line after made : List X) (at : ℕ) → at ≤ length line
    → after ≡ take at line ++ (made ++ drop at line) → length made ≤ 2 ^ 32 - 1 - length line → length line < 2 ^ 32
    → length after < 2 ^ 32
few_after line after made at low is few room =
    let whole : length after ≡ length (take at line) + length (made ++ drop at line) = ap length is ∙ length-append (take at line) (made ++ drop at line) in
    let back = length-append made (drop at line) in
    let first = length-take at line in
    let second = length-drop at line in
    omega arith
