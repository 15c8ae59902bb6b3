-- In an iteration of its own scope a node that is not the header occurs at most once.
--   no_mutual        of two nodes of a run not each dominates the other
--   header_around    where a scope around another begins at a node of it, both begin there
--   climbs           on the way from a node of the scope, ranks stay above its own
--   once             so it does not come back before the header
use Rattle.std.proofs.Common.{◌≡◌, ◌≢◌, ◌<◌, ◌≤◌, ℕ, List, [], ◌∷◌, ◌++◌, ◌⊎◌, inl, inr, Contains, length, get_or, refl, ap, sym, ◌∙◌, subst, arith}
use Rattle.std.proofs.lemmas.Bool.{cases_eq, cases_lt}
use Rattle.lists.specs.MemberLaws.{no_member, first_member, further_member}
use Rattle.graph_walks.specs.Walks.{Walk, stays}
use Rattle.graph_walks.specs.ListLaws.{contains_cases}
use Rattle.domain_core.specs.Reducible.{IsEdge, Dominates}
use Rattle.domain_core.specs.ReducibleLaws.{dominates_before}
use Rattle.domain_core.specs.Outlines.{Shape, IsOutline, Holds, LeadsTo, header_of}
use Rattle.domain_core.specs.OutlineLaws.{lies_in, header_dominates, holder_low}
use Rattle.domain_core.specs.Traces.{IsTrace}
use Rattle.ipet_rows.specs.ColumnLaws.{newest_low}

module _ (o : Shape) (ok : IsOutline o) where
  -- what dominates node 0 is node 0
  first_alone : (d k : ℕ) → k ≡ 0 → Dominates (IsEdge o.edges) d k → d ≡ k
  first_alone d k first dominates =
      let there : Contains (0 ∷ []) d = dominates (0 ∷ []) (subst (λ (m : ℕ). Walk (IsEdge o.edges) 0 m (0 ∷ [])) (sym first) stays) in
      elim (contains_cases 0 [] d there) [ inl same ↦ same ∙ sym first | inr none ↦ no_member d none ]

  -- of two nodes not each dominates the other
  pub no_mutual : (a b : ℕ) → a ≢ b → Dominates (IsEdge o.edges) a b → Dominates (IsEdge o.edges) b a
      → (k : ℕ) (past : List ℕ) → IsTrace o (k ∷ past)
      → Dominates (IsEdge o.edges) a k ⊎ Dominates (IsEdge o.edges) b k → ⊥
  no_mutual a b apart ab ba k [] first either = elim either [
    | inl of_a ↦
        let e : a ≡ k = first_alone a k first of_a in
        apart (e ∙ sym (first_alone b k first (subst (λ (n : ℕ). Dominates (IsEdge o.edges) b n) e ba)))
    | inr of_b ↦
        let e : b ≡ k = first_alone b k first of_b in
        apart (first_alone a k first (subst (λ (n : ℕ). Dominates (IsEdge o.edges) a n) e ab) ∙ sym e)
  ]
  no_mutual a b apart ab ba k (m ∷ past) trace either = elim (cases_eq a k) [
    | inl e ↦ no_mutual a b apart ab ba m past trace.2 (inr (dominates_before (IsEdge o.edges) b m k trace.0 (λ same. apart (e ∙ sym same)) (subst (λ (n : ℕ). Dominates (IsEdge o.edges) b n) e ba)))
    | inr other ↦ elim either [
      | inl of_a ↦ no_mutual a b apart ab ba m past trace.2 (inl (dominates_before (IsEdge o.edges) a m k trace.0 other of_a))
      | inr of_b ↦ elim (cases_eq b k) [
        | inl e ↦ no_mutual a b apart ab ba m past trace.2 (inl (dominates_before (IsEdge o.edges) a m k trace.0 other (subst (λ (n : ℕ). Dominates (IsEdge o.edges) a n) e ab)))
        | inr differs ↦ no_mutual a b apart ab ba m past trace.2 (inr (dominates_before (IsEdge o.edges) b m k trace.0 differs of_b))
      ]
    ]
  ]

  -- where a scope around another begins at a node of it, both begin there
  pub header_around : (s t k : ℕ) (past : List ℕ) → IsTrace o (k ∷ past) → s < length o.scopes → Holds o s k
      → LeadsTo o.scopes t s
      → header_of o.scopes t ≡ k → header_of o.scopes s ≡ k
  header_around s t k past trace low held around at_header = elim (cases_eq (header_of o.scopes s) k) [
    | inl e ↦ e
    | inr other ↦
        let inner : Holds o t (header_of o.scopes s) = lies_in o ok s t (header_of o.scopes s) around (ok.headers_held s low) in
        let first = header_dominates o ok s k (newest_low o ok k past trace) held in
        let second : Dominates (IsEdge o.edges) k (header_of o.scopes s) = subst (λ (n : ℕ). Dominates (IsEdge o.edges) n (header_of o.scopes s)) at_header (header_dominates o ok t (header_of o.scopes s) (ok.headers_within s low) inner) in
        absurd (no_mutual (header_of o.scopes s) k other first second k past trace (inl first))
  ]

  module _ (s a : ℕ) (older : List ℕ) (low : s < length o.scopes) (own : get_or o.own a 0 ≡ s) where
    -- the rank of the node, and of each scope in s that holds it, is above that of a
    record IsAbove (z : ℕ) : Type 0 where
      pub itself : get_or o.ranks a 0 < get_or o.ranks z 0
      pub scopes : (c : ℕ) → Holds o c z → (LeadsTo o.scopes c s → ⊥)
          → get_or o.ranks a 0 < get_or o.ranks (header_of o.scopes c) 0

    -- the node a itself, or one above it
    data IsFrom (y : ℕ) : Type 0 where
      same : y ≡ a → IsFrom y
      above : IsAbove y → IsFrom y

    no_less : (y : ℕ) → IsFrom y → get_or o.ranks a 0 ≤ get_or o.ranks y 0
    no_less y (same e) = let equal = ap (λ (n : ℕ). get_or o.ranks n 0) e in omega arith
    no_less y (above r) = let more = r.itself in omega arith

    scope_above : (y c : ℕ) → IsFrom y → Holds o c y → (LeadsTo o.scopes c s → ⊥)
        → get_or o.ranks a 0 < get_or o.ranks (header_of o.scopes c) 0
    scope_above y c (same e) held outside = absurd (outside (subst (λ (r : ℕ). LeadsTo o.scopes c r) (ap (λ (n : ℕ). get_or o.own n 0) e ∙ own) held))
    scope_above y c (above r) held outside = r.scopes c held outside

    -- one node further
    step_above : (y z : ℕ) (past : List ℕ) → IsTrace o (z ∷ y ∷ past) → IsFrom y → Holds o s z
        → (z ≡ header_of o.scopes s → ⊥) → IsAbove z
    step_above y z past trace from held other = record { itself = itself; scopes = λ c in_c outside. by_entry c in_c outside }
      where
        z_low : z < length o.own
        z_low = trace.1

        itself : get_or o.ranks a 0 < get_or o.ranks z 0
        itself = elim (cases_lt (get_or o.ranks y 0) (get_or o.ranks z 0)) [
          | inl rising ↦ let least = no_less y from in omega arith
          | inr falling ↦
              let loop = ok.rises y z trace.0 z_low falling in
              let at_header : header_of o.scopes loop.0 ≡ z = loop.2 in
              let outside : LeadsTo o.scopes loop.0 s → ⊥ = λ around. other (sym (header_around s loop.0 z (y ∷ past) trace low held around at_header)) in
              subst (λ (n : ℕ). get_or o.ranks a 0 < get_or o.ranks n 0) at_header (scope_above y loop.0 from loop.4 outside)
        ]

        by_entry : (c : ℕ) → Holds o c z → (LeadsTo o.scopes c s → ⊥)
            → get_or o.ranks a 0 < get_or o.ranks (header_of o.scopes c) 0
        by_entry c in_c outside = elim (ok.entered y z c trace.0 z_low (holder_low o ok c z z_low in_c) in_c) [
          | inl e ↦ subst (λ (n : ℕ). get_or o.ranks a 0 < get_or o.ranks n 0) e itself
          | inr before ↦ scope_above y c from before outside
        ]

    -- on the way from a, without the header, ranks stay above its own
    climbs : (mid : List ℕ) (z : ℕ) → IsTrace o (z ∷ mid ++ a ∷ older)
        → ((n : ℕ) → Contains (z ∷ mid) n → Holds o s n × (n ≡ header_of o.scopes s → ⊥)) → IsAbove z
    climbs [] z trace all = let is = all z (first_member z []) in step_above a z older trace (same refl) is.0 is.1
    climbs (y ∷ mid) z trace all =
        let is = all z (first_member z (y ∷ mid)) in
        step_above y z (mid ++ a ∷ older) trace (above (climbs mid y trace.2 (λ n there. all n (further_member z (y ∷ mid) n there)))) is.0 is.1

    -- so a does not come back before the header
    pub once : (mid : List ℕ) → IsTrace o (a ∷ mid ++ a ∷ older)
        → ((n : ℕ) → Contains (a ∷ mid) n → Holds o s n × (n ≡ header_of o.scopes s → ⊥)) → ⊥
    once mid trace all = let more = (climbs mid a trace all).itself in omega arith
