-- The columns of an outline and facts, and the steps of a run among them.
--   columns_apart    no column stands twice
--   steps_within     each step of a run that is over is a column
use Rattle.std.proofs.Common.{◌≡◌, ◌≢◌, ◌<◌, ◌≤◌, ◌+◌, ℕ, zero, suc, Bool, true, false, List, [], ◌∷◌, ◌++◌, inl, inr, cond, map, length, Contains, AllPairs, ap, sym, ◌∙◌, subst, arith}
use Rattle.std.specs.Prelude.{filter}
use Rattle.std.specs.List.{range_with_len}
use Rattle.std.proofs.lemmas.List.Elements.{Contains-append_left, Contains-append_right, Contains-append_cases}
use Rattle.std.proofs.lemmas.Bool.{cases_eq}
use Rattle.lists.specs.MemberLaws.{no_member, first_member, further_member}
use Rattle.lists.specs.ImageLaws.{mapped, image}
use Rattle.lists.specs.TestLaws.{by_test}
use Rattle.graph_walks.specs.ListLaws.{contains_cases}
use Rattle.domain_core.specs.Outlines.{Shape, IsOutline}
use Rattle.domain_core.specs.Traces.{IsTrace}
use Rattle.flow_facts.specs.declared.fact.Fact.{Fact}
use Rattle.ipet_rows.specs.Columns.{Column, edge_column, fault_column, has_alarm, nodes_of, columns_of}
use Rattle.ipet_rows.specs.Uses.{edges_used, steps_of, EndsAt, IsEnded}
use Rattle.ipet_rows.specs.UseLaws.{AreApart}

apart_append : (xs ys : List Column) → AreApart xs → AreApart ys → ((c : Column) → Contains xs c → Contains ys c → ⊥)
    → AreApart (xs ++ ys)
apart_append [] ys a b none = b
apart_append (x ∷ xs) ys a b none = (
  λ there. elim (Contains-append_cases xs ys x there) [ inl l ↦ a.0 l | inr r ↦ none x (first_member x xs) r ],
  apart_append xs ys a.1 b (λ c there. none c (further_member x xs c there)),
)

-- ---- edges

one_edge : (e d : ℕ × ℕ) → edge_column e ≡ edge_column d → e ≡ d
one_edge e d same = ap (λ (c : Column). let p : ℕ × ℕ = (c.from, c.into) in p) same

edges_apart : (es : List (ℕ × ℕ)) → AllPairs (λ e f. e ≢ f) es → AreApart (map edge_column es)
edges_apart [] all = tt
edges_apart (e ∷ es) all = (
  λ there.
      let m = mapped edge_column es (edge_column e) there in
      let same : m.0 ≡ e = one_edge m.0 e m.2 in
      let low = m.1.1 in
      all 0 (suc m.1.0) m.0 (omega arith) (omega arith) (sym same ∙ sym m.1.2),
  edges_apart es (λ i j d before within. all (suc i) (suc j) d (omega arith) (omega arith)),
)

-- ---- faults

filtered_above : (p : ℕ → Bool) (b n m : ℕ) → Contains (filter p (range_with_len b n)) m → b ≤ m
filtered_above p b zero m there = no_member m there
filtered_above p b (suc n) m there = by_test (p b)
    (λ is. elim (contains_cases b (filter p (range_with_len (b + 1) n)) m (rw is at there)) [
      | inl e ↦ omega arith
      | inr later ↦ let above = filtered_above p (b + 1) n m later in omega arith
    ])
    (λ clear. let above = filtered_above p (b + 1) n m (rw clear at there) in omega arith)

filtered_in : (p : ℕ → Bool) (b n m : ℕ) → b ≤ m → m < b + n → p m ≡ true → Contains (filter p (range_with_len b n)) m
filtered_in p b zero m above below passes = absurd (omega arith)
filtered_in p b (suc n) m above below passes = elim (cases_eq m b) [
  | inl e ↦ let is : p b ≡ true = ap p (sym e) ∙ passes in rw is (subst (λ (k : ℕ). Contains (b ∷ filter p (range_with_len (b + 1) n)) k) (sym e) (first_member b (filter p (range_with_len (b + 1) n))))
  | inr other ↦
      let later = filtered_in p (b + 1) n m (omega arith) (omega arith) passes in
      by_test (p b) (λ is. rw is (further_member b (filter p (range_with_len (b + 1) n)) m later)) (λ clear. rw clear later)
]

faults_apart : (o : Shape) (p : ℕ → Bool) (b n : ℕ)
    → AreApart (map (λ k. fault_column o k) (filter p (range_with_len b n)))
faults_apart o p b zero = tt
faults_apart o p b (suc n) = by_test (p b)
    (λ is. subst (λ (v : Bool). AreApart (map (λ k. fault_column o k) (cond v (b ∷ filter p (range_with_len (b + 1) n)) (filter p (range_with_len (b + 1) n))))) (sym is) (
      λ there.
          let m = mapped (λ k. fault_column o k) (filter p (range_with_len (b + 1) n)) (fault_column o b) there in
          let same : m.0 ≡ b = ap (λ (c : Column). c.from) m.2 in
          let above = filtered_above p (b + 1) n m.0 m.1 in
          absurd (omega arith),
      faults_apart o p (b + 1) n,
    ))
    (λ clear. subst (λ (v : Bool). AreApart (map (λ k. fault_column o k) (cond v (b ∷ filter p (range_with_len (b + 1) n)) (filter p (range_with_len (b + 1) n))))) (sym clear) (faults_apart o p (b + 1) n))

-- no column stands twice
pub columns_apart : (o : Shape) (facts : List Fact) → IsOutline o → AreApart (columns_of o facts)
columns_apart o facts ok =
    apart_append (map edge_column o.edges) (map (λ n. fault_column o n) (filter (λ n. has_alarm facts n) (nodes_of o))) (edges_apart o.edges ok.edges_once) (faults_apart o (λ n. has_alarm facts n) 0 (length o.own)) clash
  where
    clash : (c : Column) → Contains (map edge_column o.edges) c
        → Contains (map (λ n. fault_column o n) (filter (λ n. has_alarm facts n) (nodes_of o))) c → ⊥
    clash c edge fault =
        let e = mapped edge_column o.edges c edge in
        let f = mapped (λ n. fault_column o n) (filter (λ n. has_alarm facts n) (nodes_of o)) c fault in
        let first : false ≡ c.fault = ap (λ (d : Column). d.fault) e.2 in
        let second : true ≡ c.fault = ap (λ (d : Column). d.fault) f.2 in
        let bad : false ≡ true = first ∙ sym second in
        cc

-- ---- steps

-- the newest node of a trace is a node
pub newest_low : (o : Shape) → IsOutline o → (k : ℕ) (past : List ℕ) → IsTrace o (k ∷ past) → k < length o.own
newest_low o ok k [] first = let some = ok.some in omega arith
newest_low o ok k (m ∷ past) trace = trace.1

edges_within : (o : Shape) (k : ℕ) (past : List ℕ) → IsTrace o (k ∷ past) → (s : Column)
    → Contains (edges_used (k ∷ past)) s → Contains (map edge_column o.edges) s
edges_within o k [] trace s there = no_member s there
edges_within o k (m ∷ past) trace s there = elim (contains_cases (edge_column (m, k)) (edges_used (m ∷ past)) s there) [
  | inl e ↦ subst (λ (c : Column). Contains (map edge_column o.edges) c) (sym e) (image edge_column o.edges (m, k) trace.0)
  | inr later ↦ edges_within o m past trace.2 s later
]

last_within : (o : Shape) (facts : List Fact) (fault : Bool) (k : ℕ) (past : List ℕ) → k < length o.own
    → EndsAt o facts fault (k ∷ past)
    → (let last : Column = record { from = k; into = length o.own; fault = fault } in Contains (columns_of o facts) last)
last_within o facts true k past low ends =
    Contains-append_right (map edge_column o.edges) (map (λ n. fault_column o n) (filter (λ n. has_alarm facts n) (nodes_of o))) (fault_column o k)
    (image (λ n. fault_column o n) (filter (λ n. has_alarm facts n) (nodes_of o)) k (filtered_in (λ n. has_alarm facts n) 0 (length o.own) k (omega arith) (omega arith) ends))
last_within o facts false k past low ends =
    Contains-append_left (map edge_column o.edges) (map (λ n. fault_column o n) (filter (λ n. has_alarm facts n) (nodes_of o))) (edge_column (k, length o.own)) (image edge_column o.edges (k, length o.own) ends)

-- each step of a run that is over is a column
pub steps_within : (o : Shape) (facts : List Fact) → IsOutline o → (fault : Bool) (k : ℕ) (past : List ℕ)
    → IsEnded o facts fault (k ∷ past)
    → (s : Column) → Contains (steps_of o fault (k ∷ past)) s → Contains (columns_of o facts) s
steps_within o facts ok fault k past run s there = elim (contains_cases (record { from = k; into = length o.own; fault = fault }) (edges_used (k ∷ past)) s there) [
  | inl e ↦ subst (λ (c : Column). Contains (columns_of o facts) c) (sym e) (last_within o facts fault k past (newest_low o ok k past run.trace) run.ends)
  | inr later ↦ Contains-append_left (map edge_column o.edges) (map (λ n. fault_column o n) (filter (λ n. has_alarm facts n) (nodes_of o))) s (edges_within o k past run.trace s later)
]
