-- Laws of rankings.
--   one_ranking, one_shape       why
use Rattle.std.specs.Prelude.{slice_index, if◌then◌else◌}
use Rattle.std.proofs.Common.{◌≡◌, ◌≢◌, ◌<◌, ◌≤◌, inl, inr, ℕ, zero, suc, List, length, refl, sym, ap, ◌∙◌, ◌==◌, arith}
use Rattle.std.proofs.lemmas.Bool.{cases_lt, cases_order, cases_eq, eq-eqb, ne_eqb}
use Rattle.std.proofs.lemmas.List.{same_lists, length-map}
use Rattle.graph_walks.specs.ListLaws.{same_default}
use Rattle.domain_core.specs.Reducible.{IsRanking}
use Rattle.domain_core.specs.Outlines.{Shape}
use Rattle.domain_core.specs.Scopes.{leads}
use Rattle.domain_core.specs.declared.outline.ScopeRow.{ScopeRow}
use Rattle.alf_check.specs.CheckedPrograms.{NumberedProgram}
use Rattle.alf_check.specs.Kept.{IsKept}
use Rattle.flow_graph.specs.Numbering.{GraphParts, IsGraph}
use Rattle.flow_graph.specs.Expansions.{IsExpansion}
use Rattle.scope_graph.specs.Placing.{place_of, plan_of}
use Rattle.scope_graph.specs.Laws.{HasOneOutline}
use Rattle.program_machines.specs.Rankings.{HasOneRanking, HasOneShape}

-- ---- as many numbers as there are below a number, no two the same, are all of them

abbrev AreOnce : ℕ → (ℕ → ℕ) → Type 0
AreOnce count f = (m n : ℕ) → m < n → n < count → f m ≢ f n

apart : (count : ℕ) (f : ℕ → ℕ) → AreOnce count f → (m n : ℕ) → m < count → n < count → f m ≡ f n → m ≡ n
apart count f once m n m_low n_low e = elim (cases_order m n) [
  | inl same ↦ same
  | inr (inl before) ↦ absurd (once m n before n_low e)
  | inr (inr after) ↦ absurd (once n m after m_low (sym e))
]

-- where the number would be the last, the last one's stands in its place
abbrev closed_up : (ℕ → ℕ) → ℕ → ℕ → ℕ
closed_up f last i = if f i == last then f last else f i

at_last : (f : ℕ → ℕ) (last i : ℕ) → f i ≡ last → closed_up f last i ≡ f last
at_last f last i e = rw (eq-eqb (f i) last e) refl

elsewhere : (f : ℕ → ℕ) (last i : ℕ) → f i ≢ last → closed_up f last i ≡ f i
elsewhere f last i other = rw (ne_eqb (f i) last other) refl

closed_low : (f : ℕ → ℕ) (last : ℕ) → ((n : ℕ) → n < suc last → f n < suc last) → AreOnce (suc last) f → (i : ℕ)
    → i < last → closed_up f last i < last
closed_low f last within once i low =
    let here : f i < suc last = within i (omega arith) in
    let end : f last < suc last = within last (omega arith) in
    let differ : f i ≢ f last = once i last low (omega arith) in
    elim (cases_eq (f i) last) [
      | inl is ↦ let other : f last ≢ last = (λ e. differ (is ∙ sym e)) in let to : closed_up f last i ≡ f last = at_last f last i is in omega (arith, to, end, other)
      | inr is ↦ let to : closed_up f last i ≡ f i = elsewhere f last i is in omega (arith, to, here, is)
    ]

closed_once : (f : ℕ → ℕ) (last : ℕ) → AreOnce (suc last) f → AreOnce last (closed_up f last)
closed_once f last once m n before low e =
    let m_end : f m ≢ f last = once m last (omega arith) (omega arith) in
    let n_end : f n ≢ f last = once n last low (omega arith) in
    let differ : f m ≢ f n = once m n before (omega arith) in
    elim (cases_eq (f m) last) [
      | inl m_is ↦ elim (cases_eq (f n) last) [
        | inl n_is ↦ differ (m_is ∙ sym n_is)
        | inr n_is ↦ n_end (sym (elsewhere f last n n_is) ∙ sym e ∙ at_last f last m m_is)
      ]
      | inr m_is ↦ elim (cases_eq (f n) last) [
        | inl n_is ↦ m_end (sym (elsewhere f last m m_is) ∙ e ∙ at_last f last n n_is)
        | inr n_is ↦ differ (sym (elsewhere f last m m_is) ∙ e ∙ elsewhere f last n n_is)
      ]
    ]

-- each number is taken
record IsTaken (count : ℕ) (f : ℕ → ℕ) (r : ℕ) : Type 0 where
  by : ℕ
  low : by < count
  is : f by ≡ r

taken : (count : ℕ) (f : ℕ → ℕ) → ((n : ℕ) → n < count → f n < count) → AreOnce count f → (r : ℕ) → r < count
    → IsTaken count f r
taken zero f within once r low = absurd (omega (arith, low))
taken (suc last) f within once r low =
    let end : f last < suc last = within last (omega arith) in
    let rest : (s : ℕ) → s < last → IsTaken last (closed_up f last) s = taken last (closed_up f last) (closed_low f last within once) (closed_once f last once) in
    elim (cases_eq (f last) r) [
      | inl is ↦ record { by = last; low = omega arith; is = is }
      | inr other ↦ elim (cases_lt r last) [
        | inl below ↦ let t = rest r below in elim (cases_eq (f t.by) last) [
          | inl last_is ↦ absurd (other (sym (at_last f last t.by last_is) ∙ t.is))
          | inr not_last ↦ record { by = t.by; low = (let b = t.low in omega (arith, b)); is = sym (elsewhere f last t.by not_last) ∙ t.is }
        ]
        | inr above ↦ let t = rest (f last) (omega (arith, end, other, above, low)) in elim (cases_eq (f t.by) last) [
          | inl last_is ↦ record { by = t.by; low = (let b = t.low in omega (arith, b)); is = (let at : f t.by ≡ last = last_is in omega (arith, at, above, low)) }
          | inr not_last ↦ absurd (once t.by last t.low (omega arith) (sym (elsewhere f last t.by not_last) ∙ t.is))
        ]
      ]
    ]

-- ---- two rankings

module _ (Leads : ℕ → ℕ → Type 0) (count : ℕ) (within : (u v : ℕ) → Leads u v → u < count) (a b : List ℕ) (first : IsRanking Leads count a) (second : IsRanking Leads count b) where
  -- the nodes of ranks below r have the same ranks in both
  abbrev AreSameBelow : ℕ → Type 0
  AreSameBelow r = ((n : ℕ) → n < count → slice_index a n < r → slice_index b n ≡ slice_index a n) × ((n : ℕ) → n < count → slice_index b n < r → slice_index a n ≡ slice_index b n)

  -- the two nodes that have the rank r are one
  no_earlier : (xs ys : List ℕ) → IsRanking Leads count xs → IsRanking Leads count ys → (r m n : ℕ) → m < n → n < count
      → slice_index xs m ≡ r → slice_index ys n ≡ r
      → ((k : ℕ) → k < count → slice_index xs k < r → slice_index ys k ≡ slice_index xs k) → ((k : ℕ) → k < count → slice_index ys k < r → slice_index xs k ≡ slice_index ys k) → ⊥
  no_earlier xs ys x y r m n before low at_m at_n onto back =
      let not_same : slice_index ys m ≢ slice_index ys n = y.once m n before low in
      let not_less : slice_index ys m < r → ⊥ = (λ less. let same = back m (omega arith) less in omega (arith, less, same, at_m)) in
      let later : slice_index ys n < slice_index ys m = elim (cases_lt (slice_index ys n) (slice_index ys m)) [
        | inl is ↦ is
        | inr over ↦ elim (cases_eq (slice_index ys m) r) [
          | inl same ↦ absurd (not_same (same ∙ sym at_n))
          | inr other ↦ absurd (not_less (omega (arith, over, at_n, other)))
        ]
      ] in
      y.least m n before low later (λ u edge.
      let ready : slice_index xs u < slice_index xs m = x.ready m (omega arith) u edge in
      let u_low : u < count = within u m edge.0 in
      let same : slice_index ys u ≡ slice_index xs u = onto u u_low (omega (arith, ready, at_m)) in
      omega (arith, ready, same, at_m, at_n))

  same_at : (r : ℕ) → AreSameBelow r → (m n : ℕ) → m < count → n < count → slice_index a m ≡ r → slice_index b n ≡ r
      → m ≡ n
  same_at r below m n m_low n_low at_m at_n = elim (cases_order m n) [
    | inl same ↦ same
    | inr (inl before) ↦ absurd (no_earlier a b first second r m n before n_low at_m at_n below.0 below.1)
    | inr (inr after) ↦ absurd (no_earlier b a second first r n m after m_low at_n at_m below.1 below.0)
  ]

  same_below : (r : ℕ) → r ≤ count → AreSameBelow r
  same_below zero low = ((λ n n_low less. absurd (omega (arith, less))), (λ n n_low less. absurd (omega (arith, less))))
  same_below (suc r) low =
      let below : AreSameBelow r = same_below r (omega arith) in
      let in_b = taken count (slice_index b) second.within second.once r (omega arith) in
      let in_a = taken count (slice_index a) first.within first.once r (omega arith) in (
        (λ n n_low less. elim (cases_eq (slice_index a n) r) [
          | inl is ↦ let same : n ≡ in_b.by = same_at r below n in_b.by n_low in_b.low is in_b.is in ap (slice_index b) same ∙ in_b.is ∙ sym is
          | inr other ↦ below.0 n n_low (omega (arith, less, other))
        ]),
        (λ n n_low less. elim (cases_eq (slice_index b n) r) [
          | inl is ↦ let same : in_a.by ≡ n = same_at r below in_a.by n in_a.low n_low in_a.is is in ap (slice_index a) (sym same) ∙ in_a.is ∙ sym is
          | inr other ↦ below.1 n n_low (omega (arith, less, other))
        ]),
      )

  pub same_ranks : a ≡ b
  same_ranks =
      let as_long : length a ≡ length b = first.one_each ∙ sym second.one_each in
      same_lists a b as_long (λ k d low.
      let n_low : k < count = (let long = first.one_each in omega (arith, low, long)) in
      let one : slice_index b k ≡ slice_index a k = (same_below count (omega arith)).0 k n_low (first.within k n_low) in
      let b_low : k < length b = omega (arith, low, as_long) in
      same_default a k d 0 low ∙ sym one ∙ sym (same_default b k d 0 b_low))

-- ---- graphs

abbrev GraphsExpand : Type 0
GraphsExpand = (program : NumberedProgram) (graph : GraphParts) → IsKept program → IsGraph program graph → IsExpansion program graph

-- any two outlines of a graph have the same ranks
pub one_ranking : GraphsExpand → HasOneRanking
one_ranking expand graph o other kept is was =
    let expansion = expand kept.program graph kept.keeps kept.is in
    let as_many : length (plan_of graph).places ≡ length graph.nodes = length-map graph.nodes place_of in
    same_ranks (leads (plan_of graph)) (length (plan_of graph).places)
    (λ u v edge. let low : u < length graph.nodes = (expansion.within u v edge).0 in omega (arith, low, as_many))
    o.ranks other.ranks is.ranked was.ranked

-- and are one
pub one_shape : GraphsExpand → HasOneOutline → HasOneShape
one_shape expand alone graph o other kept is was =
    let same = alone graph o other kept is was in
    let ranks : o.ranks ≡ other.ranks = one_ranking expand graph o other kept is was in
    let edges : o.edges ≡ other.edges = is.edges ∙ sym was.edges in
    let made : List (ℕ × ℕ) → List ℕ → List ℕ → List ScopeRow → Shape = λ edges own ranks scopes. record { edges = edges; own = own; ranks = ranks; scopes = scopes } in
    ap (λ (es : List (ℕ × ℕ)). made es o.own o.ranks o.scopes) edges
    ∙ ap (λ (own : List ℕ). made other.edges own o.ranks o.scopes) same.own
    ∙ ap (λ (rs : List ℕ). made other.edges other.own rs o.scopes) ranks
    ∙ ap (made other.edges other.own other.ranks) same.scopes
