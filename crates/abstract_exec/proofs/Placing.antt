-- Positions, scope by scope.
--   around_low    the scopes around a node are scopes of the outline
--   begun, one_more, ended   before the first scope, one scope more, and after the last
--   rank_is       the rank of a node
--   same_around   nodes of one scope have the same scopes around them
--   scope_is, own_low   the own scope of a node, which is one of the outline
--   parent_is, header_is   the parent and the header of a scope
use Rattle.std.proofs.Common.{◌≡◌, ◌<◌, ℕ, List, [], ◌∷◌, ◌++◌, length, reverse, get_or, slice_get, Some, Contains, refl, ap, sym, ◌∙◌, arith}
use Rattle.std.proofs.lemmas.List.{append_assoc, append-nil, length-map}
use Rattle.std.proofs.lemmas.Option.{get_or_from_slice_get, slice_get-map}
use Rattle.domain_core.specs.declared.outline.NodeRow.{NodeRow}
use Rattle.domain_core.specs.declared.outline.ScopeRow.{ScopeRow}
use Rattle.domain_core.specs.Outlines.{Outlined, Shape, IsOutline, parent_of, header_of, no_scope, scopes_around, scopes_from, shape_of}
use Rattle.domain_core.specs.OutlineLaws.{around_is, holder_low}
use Rattle.worklist_rules.specs.Positions.{header_rank, ranks_and_turns, position_by}

pub own_long : (o : Outlined) → length (shape_of o).own ≡ length o.nodes
own_long o = length-map o.nodes (λ (r : NodeRow). r.scope)

-- the scopes around a node are scopes of the outline
pub around_low : (o : Outlined) → IsOutline (shape_of o) → (n : ℕ) → n < length o.nodes → (t : ℕ)
    → Contains (scopes_around (shape_of o) n) t → t < length o.scopes
around_low o ok n low t there = let long = own_long o in holder_low (shape_of o) ok t n (omega arith) ((around_is (shape_of o) ok t n).0 there)

-- one scope more
pub one_more : (o : Shape) (turn : ℕ → ℕ) (made ranked after rest others whole : List ℕ) (t rank number : ℕ)
    → rest ≡ t ∷ others → ranked ≡ made ++ rank ∷ [] → after ≡ ranked ++ number ∷ [] → rank ≡ header_rank o t
    → number ≡ turn t
    → made ++ ranks_and_turns o turn rest ≡ whole → after ++ ranks_and_turns o turn others ≡ whole
one_more o turn made ranked after rest others whole t rank number is first second is_rank is_number same =
    ap (λ (xs : List ℕ). xs ++ ranks_and_turns o turn others) (second ∙ ap (λ (xs : List ℕ). xs ++ number ∷ []) first)
    ∙ append_assoc (made ++ rank ∷ []) (number ∷ []) (ranks_and_turns o turn others)
    ∙ append_assoc made (rank ∷ []) (number ∷ ranks_and_turns o turn others)
    ∙ ap (λ (k : ℕ). made ++ k ∷ number ∷ ranks_and_turns o turn others) is_rank
    ∙ ap (λ (k : ℕ). made ++ header_rank o t ∷ k ∷ ranks_and_turns o turn others) is_number
    ∙ ap (λ (xs : List ℕ). made ++ ranks_and_turns o turn xs) (sym is) ∙ same

-- the rank of a node
pub rank_is : (o : Outlined) (n : ℕ) (row : NodeRow) → slice_get o.nodes n ≡ Some row
    → row.rank ≡ get_or (shape_of o).ranks n 0
rank_is o n row at = sym (get_or_from_slice_get (shape_of o).ranks n row.rank 0 (slice_get-map (λ (r : NodeRow). r.rank) o.nodes n ∙ rw at refl))

-- nodes of one scope have the same scopes around them
pub scope_is : (o : Outlined) (n : ℕ) (row : NodeRow) → slice_get o.nodes n ≡ Some row
    → get_or (shape_of o).own n 0 ≡ row.scope
scope_is o n row at = get_or_from_slice_get (shape_of o).own n row.scope 0 (slice_get-map (λ (r : NodeRow). r.scope) o.nodes n ∙ rw at refl)

pub same_around : (o : Outlined) (n m : ℕ) (a b : NodeRow) → slice_get o.nodes n ≡ Some a → slice_get o.nodes m ≡ Some b
    → a.scope ≡ b.scope → scopes_around (shape_of o) n ≡ scopes_around (shape_of o) m
same_around o n m a b at_a at_b same =
    ap (λ (s : ℕ). reverse (scopes_from (shape_of o).scopes (length (shape_of o).scopes) s)) (scope_is o n a at_a ∙ same ∙ sym (scope_is o m b at_b))

-- the own scope of a node is one of the outline
pub own_low : (o : Outlined) → IsOutline (shape_of o) → (n : ℕ) (row : NodeRow) → n < length o.nodes
    → slice_get o.nodes n ≡ Some row → row.scope < length o.scopes
own_low o ok n row low at = let long = own_long o in let same = scope_is o n row at in let within = ok.scopes_within n (omega arith) in omega arith

pub parent_is : (o : Outlined) (t : ℕ) (row : ScopeRow) → slice_get o.scopes t ≡ Some row
    → row.parent ≡ parent_of o.scopes t
parent_is o t row at = ap (λ (s : ScopeRow). s.parent) (sym (get_or_from_slice_get o.scopes t row no_scope at))

pub header_is : (o : Outlined) (t : ℕ) (row : ScopeRow) → slice_get o.scopes t ≡ Some row
    → row.header ≡ header_of o.scopes t
header_is o t row at = ap (λ (s : ScopeRow). s.header) (sym (get_or_from_slice_get o.scopes t row no_scope at))

-- before the first scope
pub begun : (o : Shape) (turn : ℕ → ℕ) (made rest around : List ℕ) → made ≡ [] → rest ≡ around
    → made ++ ranks_and_turns o turn rest ≡ ranks_and_turns o turn around
begun o turn made rest around none is = ap (λ (xs : List ℕ). xs ++ ranks_and_turns o turn rest) none ∙ ap (λ (xs : List ℕ). ranks_and_turns o turn xs) is

is_nil : (xs : List ℕ) → length xs ≡ 0 → xs ≡ []
is_nil [] none = refl
is_nil (x ∷ xs) none = absurd (omega arith)

-- after the last
pub ended : (o : Outlined) (turn : ℕ → ℕ) (made after rest : List ℕ) (n rank : ℕ) → length rest ≡ 0
    → made ++ ranks_and_turns (shape_of o) turn rest ≡ ranks_and_turns (shape_of o) turn (scopes_around (shape_of o) n)
    → after ≡ made ++ rank ∷ [] → rank ≡ get_or (shape_of o).ranks n 0 → after ≡ position_by (shape_of o) turn n
ended o turn made after rest n rank none same put is =
    put
    ∙ ap (λ (xs : List ℕ). xs ++ rank ∷ []) (sym (append-nil made) ∙ ap (λ (xs : List ℕ). made ++ ranks_and_turns (shape_of o) turn xs) (sym (is_nil rest none)) ∙ same)
    ∙ ap (λ (k : ℕ). ranks_and_turns (shape_of o) turn (scopes_around (shape_of o) n) ++ k ∷ []) is
