-- Nodes that some edge reaches from inside a scope that does not hold them.
--   left_by_own, none_left   an edge leads out of a scope exactly where it leads out of the own scope of its source
--   edge_low       the source of an edge is a node
--   more_sound, more_done, over_done   one edge more
--   are_exits      all edges
use Rattle.std.proofs.Common.{◌≡◌, ◌<◌, ◌≤◌, ◌+◌, ◌↔◌, ℕ, zero, suc, List, [], ◌∷◌, Bool, not, true, false, length, get_or, take, drop, ◌++◌, slice_get, slice_set, Some, inl, inr, refl, ap, sym, ◌∙◌, subst, arith}
use Rattle.std.proofs.lemmas.Bool.{false≢true, cases_lt}
use Rattle.std.proofs.lemmas.List.{append-nil, drop_all, length-map, take_all}
use Rattle.std.proofs.lemmas.Option.{get_or_from_slice_get, same_Some, slice_get-map}
use Rattle.lists.specs.MemberLaws.{placed, contained}
use Rattle.domain_core.specs.declared.outline.NodeRow.{NodeRow}
use Rattle.domain_core.specs.Outlines.{Outlined, IsOutline, LeadsTo, here, shape_of}
use Rattle.domain_core.specs.OutlineLaws.{own_smallest}
use Rattle.worklist_rules.specs.declared.policy.Policy.TheVariants.{Exits}
use Rattle.worklist_rules.specs.Policies.{IsExit}
use Rattle.abstract_exec.specs.Points.{IsLeft, AreMergePoints}

-- the own scope of a node
pub own_of : (o : Outlined) (n : ℕ) (row : NodeRow) → slice_get o.nodes n ≡ Some row
    → get_or (shape_of o).own n 0 ≡ row.scope
own_of o n row at = get_or_from_slice_get (shape_of o).own n row.scope 0 (slice_get-map (λ (r : NodeRow). r.scope) o.nodes n ∙ rw at refl)

module _ (o : Outlined) (ok : IsOutline (shape_of o)) (u k : ℕ) (row : NodeRow) (at : slice_get o.nodes u ≡ Some row) where
  -- an edge that leads out of the own scope of its source leads out of a scope
  pub left_by_own : (LeadsTo o.scopes row.scope (get_or (shape_of o).own k 0) → ⊥) → IsLeft (shape_of o) u k
  left_by_own out = (row.scope, subst (λ (s : ℕ). LeadsTo o.scopes row.scope s) (sym (own_of o u row at)) here, out)

  -- and one that does not, of none
  pub none_left : LeadsTo o.scopes row.scope (get_or (shape_of o).own k 0) → IsLeft (shape_of o) u k → ⊥
  none_left held (t, inside, out) =
      out (own_smallest (shape_of o) ok t u k inside (subst (λ (s : ℕ). LeadsTo o.scopes s (get_or (shape_of o).own k 0)) (sym (own_of o u row at)) held))

  -- the test for it is right
  pub is_left : (v : Bool) → k < length o.nodes
      → ((v ≡ true) ↔ LeadsTo o.scopes row.scope (get_or (shape_of o).own k 0))
      → (not v ≡ true) ↔ ((k < length o.nodes) × IsLeft (shape_of o) u k)
  is_left true low (to, from) = ((λ e. absurd (false≢true e)), (λ (within, left). absurd (none_left (to refl) left)))
  is_left false low (to, from) = ((λ e. (low, left_by_own (λ held. absurd (false≢true (from held))))), (λ is. refl))

-- a flag that is set stays, and another is as before
pub still_set : (flags : List Bool) (i n : ℕ) → get_or flags n false ≡ true
    → get_or (slice_set flags i true) n false ≡ true
still_set [] zero n was = was
still_set [] (suc i) n was = was
still_set (flag ∷ flags) zero zero was = refl
still_set (flag ∷ flags) zero (suc n) was = was
still_set (flag ∷ flags) (suc i) zero was = was
still_set (flag ∷ flags) (suc i) (suc n) was = still_set flags i n was

pub now_set : (flags : List Bool) (i : ℕ) → i < length flags → get_or (slice_set flags i true) i false ≡ true
now_set [] i low = absurd (omega arith)
now_set (flag ∷ flags) zero low = refl
now_set (flag ∷ flags) (suc i) low = now_set flags i (omega arith)

pub set_before : {A : Type 0} (flags : List Bool) (i n : ℕ) → get_or (slice_set flags i true) n false ≡ true
    → (get_or flags n false ≡ true → A) → (n ≡ i → A) → A
set_before [] zero n is was new = was is
set_before [] (suc i) n is was new = was is
set_before (flag ∷ flags) zero zero is was new = new refl
set_before (flag ∷ flags) zero (suc n) is was new = was is
set_before (flag ∷ flags) (suc i) zero is was new = was is
set_before (flag ∷ flags) (suc i) (suc n) is was new = set_before flags i n is was (λ e. new (ap suc e))

-- all edges
pub are_exits : (o : Outlined) (flags : List Bool) → length flags ≡ length o.nodes
    → ((n : ℕ) → get_or flags n false ≡ true → IsExit (shape_of o) n)
    → ((k u n : ℕ) → slice_get o.edges k ≡ Some (u, n) → n < length o.nodes → IsLeft (shape_of o) u n → get_or flags n false ≡ true) → AreMergePoints (shape_of o) Exits flags
are_exits o flags long sound done = record {
  one_each = long ∙ sym (length-map o.nodes (λ (r : NodeRow). r.scope));
  told = λ n low. (
    sound n,
    λ exit.
        let (u, t, edge, inside, out) = exit in
        let e : length (shape_of o).own ≡ length o.nodes = length-map o.nodes (λ (r : NodeRow). r.scope) in
        done edge.0 u n (placed o.edges (u, n) edge) (omega arith) (t, inside, out),
  );
}

-- the source of an edge is a node
pub edge_low : (o : Outlined) → IsOutline (shape_of o) → (e : ℕ) (p : ℕ × ℕ) → slice_get o.edges e ≡ Some p
    → p.0 < length o.nodes
edge_low o ok e p at =
    let low = (ok.edges_within p.0 p.1 (contained o.edges e p at)).0 in
    let long : length (shape_of o).own ≡ length o.nodes = length-map o.nodes (λ (r : NodeRow). r.scope) in
    omega arith

-- what a walk along all edges leaves in a list of flags
pub take_is : (flags items : List Bool) (count : ℕ) → length flags ≡ count → length items ≤ length flags
    → take count (flags ++ drop (length flags) items) ≡ flags
take_is flags items count same few = rw (drop_all (length flags) items few, append-nil flags) (take_all count flags (omega arith))

module _ (o : Outlined) (flags : List Bool) (e : ℕ) (p : ℕ × ℕ) (long : length flags ≡ length o.nodes) (sound : (n : ℕ) → get_or flags n false ≡ true → IsExit (shape_of o) n)
    (done : (k u n : ℕ) → k < e → slice_get o.edges k ≡ Some (u, n) → n < length o.nodes → IsLeft (shape_of o) u n → get_or flags n false ≡ true) (at : slice_get o.edges e ≡ Some p) where
  -- an edge that leads out
  pub more_sound : (p.1 < length o.nodes) × IsLeft (shape_of o) p.0 p.1 → (n : ℕ)
      → get_or (slice_set flags p.1 true) n false ≡ true → IsExit (shape_of o) n
  more_sound (low, left) n is = set_before flags p.1 n is (sound n) (λ same. subst (λ (k : ℕ). IsExit (shape_of o) k) (sym same) (p.0, left.0, contained o.edges e p at, left.1, left.2))

  -- an edge so far, or this one
  one_of : {A : Type 0} (k u n : ℕ) → k < e + 1 → slice_get o.edges k ≡ Some (u, n) → (k < e → A) → ((u, n) ≡ p → A) → A
  one_of k u n below at_k before here_now =
      elim (cases_lt k e) [
        | inl less ↦ before less
        | inr most ↦
            let place : k ≡ e = omega arith in
            here_now (same_Some (u, n) p (sym at_k ∙ ap (λ (j : ℕ). slice_get o.edges j) place ∙ at))
      ]

  pub more_done : (p.1 < length o.nodes) × IsLeft (shape_of o) p.0 p.1 → (k u n : ℕ) → k < e + 1
      → slice_get o.edges k ≡ Some (u, n) → n < length o.nodes → IsLeft (shape_of o) u n
      → get_or (slice_set flags p.1 true) n false ≡ true
  more_done (low, left) k u n below at_k node is_left =
      one_of k u n below at_k (λ less. still_set flags p.1 n (done k u n less at_k node is_left))
      (λ same. subst (λ (m : ℕ). get_or (slice_set flags p.1 true) m false ≡ true) (sym (ap (λ (q : ℕ × ℕ). q.1) same)) (now_set flags p.1 (omega arith)))

  -- an edge that does not
  pub over_done : ((p.1 < length o.nodes) × IsLeft (shape_of o) p.0 p.1 → ⊥) → (k u n : ℕ) → k < e + 1
      → slice_get o.edges k ≡ Some (u, n) → n < length o.nodes → IsLeft (shape_of o) u n → get_or flags n false ≡ true
  over_done none k u n below at_k node is_left =
      one_of k u n below at_k (λ less. done k u n less at_k node is_left) (λ same. absurd (none (subst (λ (q : ℕ × ℕ). (q.1 < length o.nodes) × IsLeft (shape_of o) q.0 q.1) same (node, is_left))))
