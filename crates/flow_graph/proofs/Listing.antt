-- Edges, as they are listed one after another.
--   listed_as        what is done, told otherwise
--   listed_push      one edge more
--   number_before    a node before another has the lower number
--   rank_before      of one path the entry comes first, and blocks are in their order
--   row_first, row_more, row_all   the edges to nodes of one instance, block by block
--   end_more         the edge to the end
--   all_listed   no edge, and all
use Rattle.std.proofs.Common.{◌≡◌, ◌<◌, ◌+◌, ◌⊎◌, ℕ, List, [], ◌∷◌, ◌++◌, length, Option, Some, None, slice_get, get_or, take, reverse, Contains, AllPairs, inl, inr, refl, ap, sym, ◌∙◌, subst, arith}
use Rattle.std.specs.declared.cmp.Ordering.{Ordering}
use Rattle.std.specs.declared.cmp.Ordering.TheVariants.{Less}
use Rattle.std.specs.Ordering.{nat_cmp, ordering_then}
use Rattle.std.proofs.lemmas.Cmp.{tied_itself, nat_list_cmp_total}
use Rattle.std.proofs.lemmas.Bool.{cases_lt}
use Rattle.std.proofs.lemmas.Bool.Decides.{nat_tests}
use Rattle.std.proofs.lemmas.Option.{same_Some, slice_get_within, get_or_from_slice_get}
use Rattle.std.proofs.lemmas.List.{length-take-le, get_or-take}
use Rattle.std.proofs.lemmas.List.Elements.{Contains-append_left, Contains-push, Contains-push_cases, Contains-get_or, All-contains}
use Rattle.std.proofs.lemmas.List.Quantifiers.{all_pairs_push}
use Rattle.lists.specs.MemberLaws.{no_member, all_members}
use Rattle.graph_walks.specs.ListLaws.{same_default}
use Rattle.alf_check.specs.CheckedPrograms.{NumberedProgram}
use Rattle.flow_graph.specs.Nodes.{Node, Goal, Leads}
use Rattle.flow_graph.specs.Numbering.{block_rank, IsBefore, IsNumberOf, IsStep, IsEdgeBefore, IsEdges}
use Rattle.flow_graph.specs.Places.{node_at}
use Rattle.flow_graph.specs.Goals.{AreGoals}
use Rattle.flow_graph.specs.Listing.{IsListed, IsDoneBefore}
use Rattle.flow_graph.specs.declared.goals.Goals.{Goals}
use Rattle.flow_graph.proofs.Order.{not_before_itself, before_before}
use Rattle.flow_graph.proofs.Searching.{IsUpTo, up_to_left, up_to_right, up_to_cases}

-- what is done, told otherwise
pub listed_as : (Done Other : ℕ → ℕ → Type 0) (edges : List (ℕ × ℕ)) → ((u v : ℕ) → Done u v → Other u v)
    → ((u v : ℕ) → Other u v → Done u v) → IsListed Done edges → IsListed Other edges
listed_as Done Other edges to back listed = record {
  ascends = listed.ascends;
  each = all_members (λ (edge : ℕ × ℕ). Other edge.0 edge.1) edges (λ edge h. to edge.0 edge.1 (All-contains (λ (edge : ℕ × ℕ). Done edge.0 edge.1) edges edge listed.each h));
  all = λ u v h. listed.all u v (back u v h);
}

abbrev pair : ℕ → ℕ → ℕ × ℕ
pair a b = (a, b)

pair_is : (a b u v : ℕ) → a ≡ u → b ≡ v → pair a b ≡ pair u v
pair_is a b u v e f = ap (λ (n : ℕ). pair n b) e ∙ ap (λ (n : ℕ). pair u n) f

-- one edge more
pub listed_push : (Done : ℕ → ℕ → Type 0) (edges : List (ℕ × ℕ)) (a b : ℕ) → IsListed Done edges
    → ((u v : ℕ) → Done u v → IsEdgeBefore (u, v) (a, b))
    → IsListed (λ (u v : ℕ). Done u v ⊎ ((u ≡ a) × (v ≡ b))) (edges ++ (a, b) ∷ [])
listed_push Done edges a b listed before = record {
  ascends = all_pairs_push IsEdgeBefore edges (a, b) listed.ascends (λ k d inside.
      let edge : ℕ × ℕ = get_or edges k d in before edge.0 edge.1 (All-contains (λ (edge : ℕ × ℕ). Done edge.0 edge.1) edges edge listed.each (Contains-get_or edges k d inside)));
  each = all_members (λ (edge : ℕ × ℕ). Done edge.0 edge.1 ⊎ ((edge.0 ≡ a) × (edge.1 ≡ b))) (edges ++ (a, b) ∷ []) (λ edge h. elim (Contains-push_cases edges (a, b) edge h) [
    | inl old ↦ inl (All-contains (λ (edge : ℕ × ℕ). Done edge.0 edge.1) edges edge listed.each old)
    | inr e ↦ inr (sym (ap (λ (p : ℕ × ℕ). p.0) e), sym (ap (λ (p : ℕ × ℕ). p.1) e))
  ]);
  all = λ u v h. elim h [
    | inl old ↦ Contains-append_left edges ((a, b) ∷ []) (u, v) (listed.all u v old)
    | inr e ↦ subst (λ (p : ℕ × ℕ). Contains (edges ++ (a, b) ∷ []) p) (pair_is a b u v (sym e.0) (sym e.1)) (Contains-push edges (a, b))
  ];
}

-- a node before another has the lower number
pub number_before : (nodes : List Node) → AllPairs IsBefore nodes → (m n : Node) (v w : ℕ) → slice_get nodes v ≡ Some m
    → slice_get nodes w ≡ Some n → IsBefore m n → v < w
number_before nodes ascends m n v w at_m at_n before = elim (cases_lt v w) [
  | inl low ↦ low
  | inr high ↦
      let m_is : get_or nodes v m ≡ m = get_or_from_slice_get nodes v m m at_m in
      let n_is : get_or nodes w m ≡ n = get_or_from_slice_get nodes w n m at_n in
      let low : v < length nodes = slice_get_within nodes v m at_m in
      elim (cases_lt w v) [
        | inl over ↦ absurd (not_before_itself m (before_before m n m before (subst (λ (x : Node). IsBefore n x) m_is (subst (λ (x : Node). IsBefore x (get_or nodes v m)) n_is (ascends w v m over low)))))
        | inr same ↦
            let e : v ≡ w = omega arith in
            let same_node : m ≡ n = sym m_is ∙ ap (λ (k : ℕ). get_or nodes k m) e ∙ n_is in
            absurd (not_before_itself n (subst (λ (x : Node). IsBefore x n) same_node before))
      ]
]

-- a node stands at one place
one_place : (nodes : List Node) → AllPairs IsBefore nodes → (n : Node) (v w : ℕ) → slice_get nodes v ≡ Some n
    → slice_get nodes w ≡ Some n → v ≡ w
one_place nodes ascends n v w at_v at_w =
    let v_is : get_or nodes v n ≡ n = get_or_from_slice_get nodes v n n at_v in
    let w_is : get_or nodes w n ≡ n = get_or_from_slice_get nodes w n n at_w in
    let v_low : v < length nodes = slice_get_within nodes v n at_v in
    let w_low : w < length nodes = slice_get_within nodes w n at_w in
    elim (cases_lt v w) [
      | inl low ↦ absurd (not_before_itself n (subst (λ (x : Node). IsBefore n x) w_is (subst (λ (x : Node). IsBefore x (get_or nodes w n)) v_is (ascends v w n low w_low))))
      | inr high ↦ elim (cases_lt w v) [
        | inl low ↦ absurd (not_before_itself n (subst (λ (x : Node). IsBefore n x) v_is (subst (λ (x : Node). IsBefore x (get_or nodes v n)) w_is (ascends w v n low v_low))))
        | inr same ↦ omega arith
      ]
    ]

less_is : (m n : ℕ) → m < n → nat_cmp m n ≡ Less
less_is m n low = grind (arith, nat_tests)

-- of one path the entry comes first, and blocks are in their order
pub rank_before : (path : List ℕ) (a b : Option ℕ) → block_rank a < block_rank b
    → IsBefore (node_at path a) (node_at path b)
rank_before path a b low =
    ap (λ (o : Ordering). ordering_then o (nat_cmp (block_rank a) (block_rank b))) (tied_itself nat_list_cmp_total (reverse (reverse path))) ∙ less_is (block_rank a) (block_rank b) low

-- a node of one of the first j blocks has this number
abbrev pub IsInRow : List Node → List ℕ → List (Option ℕ) → ℕ → ℕ → Type 0
IsInRow nodes path blocks j v = (n : Node) × IsUpTo path blocks j n × (slice_get nodes v ≡ Some n)

-- edges from nodes before k are done, and those from k to nodes of the first j blocks
abbrev pub IsDoneInRow : NumberedProgram → List Node → ℕ → List ℕ → List (Option ℕ) → ℕ → ℕ → ℕ → Type 0
IsDoneInRow program nodes k path blocks j u v = IsDoneBefore program nodes k u v ⊎ ((u ≡ k) × IsInRow nodes path blocks j v)

module _ (program : NumberedProgram) (nodes : List Node) (k : ℕ) (path : List ℕ) (blocks : List (Option ℕ)) where
  -- the edges to nodes of one instance, block by block
  pub row_first : (edges : List (ℕ × ℕ)) → IsListed (IsDoneBefore program nodes k) edges
      → IsListed (IsDoneInRow program nodes k path blocks 0) edges
  row_first edges listed =
      listed_as (IsDoneBefore program nodes k) (IsDoneInRow program nodes k path blocks 0) edges (λ u v h. inl h) (λ u v h. elim h [ inl old ↦ old | inr (same, (n, (block, within, is), at)) ↦ no_member block within ]) listed

  module _ (ascends : AllPairs IsBefore nodes) (up : AllPairs (λ (a b : Option ℕ). block_rank a < block_rank b) blocks) (j : ℕ) (x : Option ℕ) (low : j < length blocks) (is : x ≡ get_or blocks j x)
      (to : ℕ) (at : slice_get nodes to ≡ Some (node_at path x)) where
    -- an edge that is done comes before
    done_before : (u v : ℕ) → IsDoneInRow program nodes k path blocks j u v → IsEdgeBefore (u, v) (k, to)
    done_before u v h = elim h [
      | inl old ↦ inl old.0
      | inr row ↦
          let up_to = row.1.1 in
          let place = up_to.1 in
          let inside : place.0 < length (take j blocks) = place.1 in
          let short = length-take-le j blocks (omega arith) in
          let block_is : get_or blocks place.0 up_to.0 ≡ up_to.0 = sym (get_or-take j blocks place.0 up_to.0 (omega arith)) ∙ place.2 in
          let x_is : get_or blocks j up_to.0 ≡ x = same_default blocks j up_to.0 x low ∙ sym is in
          let pair = up place.0 j up_to.0 (omega arith) low in
          let first = ap block_rank block_is in
          let second = ap block_rank x_is in
          let rank : block_rank up_to.0 < block_rank x = omega arith in
          inr (row.0, number_before nodes ascends (node_at path up_to.0) (node_at path x) v to (row.1.2 ∙ up_to.2) at (rank_before path up_to.0 x rank))
    ]

    pub row_more : (edges : List (ℕ × ℕ)) → IsListed (IsDoneInRow program nodes k path blocks j) edges
        → IsListed (IsDoneInRow program nodes k path blocks (j + 1)) (edges ++ (k, to) ∷ [])
    row_more edges listed =
        listed_as (λ (u v : ℕ). IsDoneInRow program nodes k path blocks j u v ⊎ ((u ≡ k) × (v ≡ to))) (IsDoneInRow program nodes k path blocks (j + 1)) (edges ++ (k, to) ∷ [])
        (λ u v h. elim h [
          | inl done ↦ elim done [ inl old ↦ inl old | inr row ↦ inr (row.0, (row.1.0, up_to_left path blocks j x low is row.1.0 row.1.1, row.1.2)) ]
          | inr e ↦ inr (e.0, (node_at path x, up_to_right path blocks j x low is (node_at path x) refl, ap (λ (n : ℕ). slice_get nodes n) e.1 ∙ at))
        ])
        (λ u v h. elim h [
          | inl old ↦ inl (inl old)
          | inr row ↦ elim (up_to_cases path blocks j x low is row.1.0 row.1.1) [
            | inl early ↦ inl (inr (row.0, (row.1.0, early, row.1.2)))
            | inr e ↦ inr (row.0, one_place nodes ascends (node_at path x) v to (row.1.2 ∙ ap (λ (n : Node). Some n) e) at)
          ]
        ])
        (listed_push (IsDoneInRow program nodes k path blocks j) edges k to listed done_before)

  -- all edges from a node
  pub row_all : (node : Node) (goals : Goals) → slice_get nodes k ≡ Some node → AreGoals program node (Some goals)
      → goals.path.items ≡ path → goals.blocks.items ≡ take (length blocks) blocks
      → (edges : List (ℕ × ℕ)) → IsListed (IsDoneInRow program nodes k path blocks (length blocks)) edges → IsListed (IsDoneBefore program nodes (k + 1)) edges
  row_all node goals at are path_is blocks_are edges listed =
      listed_as (IsDoneInRow program nodes k path blocks (length blocks)) (IsDoneBefore program nodes (k + 1)) edges
      (λ u v h. elim h [
        | inl old ↦ let low = old.0 in (omega arith, old.1)
        | inr row ↦
            let e = row.0 in
            let n = row.1.0 in
            let up_to = row.1.1 in
            let among : Contains goals.blocks.items up_to.0 = subst (λ (bs : List (Option ℕ)). Contains bs up_to.0) (sym blocks_are) up_to.1 in
            let leads : Leads program node (Some n) = are.each (Some n) (up_to.0, among, up_to.2 ∙ ap (λ (p : List ℕ). Some (node_at p up_to.0)) (sym path_is)) in
            (omega arith, record { node = node; goal = Some n; from = ap (λ (w : ℕ). slice_get nodes w) e ∙ at; leads = leads; to = row.1.2 })
      ])
      (λ u v h. elim (cases_lt u k) [
        | inl low ↦ inl (low, h.1)
        | inr high ↦
            let below = h.0 in
            let e : u ≡ k = omega arith in
            let step = h.1 in
            let same : step.node ≡ node = same_Some step.node node (sym step.from ∙ ap (λ (w : ℕ). slice_get nodes w) e ∙ at) in
            let leads : Leads program node step.goal = subst (λ (n : Node). Leads program n step.goal) same step.leads in
            let found = are.all step.goal leads in
            let goal_is : step.goal ≡ Some (node_at path found.0) = found.2 ∙ ap (λ (p : List ℕ). Some (node_at p found.0)) path_is in
            let number : IsNumberOf nodes (Some (node_at path found.0)) v = subst (λ (goal : Goal). IsNumberOf nodes goal v) goal_is step.to in
            inr (e, (node_at path found.0, (found.0, subst (λ (bs : List (Option ℕ)). Contains bs found.0) blocks_are found.1, refl), number))
      ])
      listed

module _ (program : NumberedProgram) (nodes : List Node) (k : ℕ) where
  -- the edge to the end
  pub end_more : (node : Node) → slice_get nodes k ≡ Some node → AreGoals program node None → (edges : List (ℕ × ℕ))
      → IsListed (IsDoneBefore program nodes k) edges
      → IsListed (IsDoneBefore program nodes (k + 1)) (edges ++ (k, length nodes) ∷ [])
  end_more node at are edges listed =
      listed_as (λ (u v : ℕ). IsDoneBefore program nodes k u v ⊎ ((u ≡ k) × (v ≡ length nodes))) (IsDoneBefore program nodes (k + 1)) (edges ++ (k, length nodes) ∷ [])
      (λ u v h. elim h [
        | inl old ↦ let low = old.0 in (omega arith, old.1)
        | inr e ↦ let same = e.0 in (omega arith, record { node = node; goal = None; from = ap (λ (w : ℕ). slice_get nodes w) e.0 ∙ at; leads = are.each None refl; to = e.1 })
      ])
      (λ u v h. elim (cases_lt u k) [
        | inl low ↦ inl (low, h.1)
        | inr high ↦
            let below = h.0 in
            let e : u ≡ k = omega arith in
            let step = h.1 in
            let same : step.node ≡ node = same_Some step.node node (sym step.from ∙ ap (λ (w : ℕ). slice_get nodes w) e ∙ at) in
            let leads : Leads program node step.goal = subst (λ (n : Node). Leads program n step.goal) same step.leads in
            let ends : step.goal ≡ None = are.all step.goal leads in
            inr (e, subst (λ (goal : Goal). IsNumberOf nodes goal v) ends step.to)
      ])
      (listed_push (IsDoneBefore program nodes k) edges k (length nodes) listed (λ u v h. inl h.0))

-- all edges
pub all_listed : (program : NumberedProgram) (nodes : List Node) (edges : List (ℕ × ℕ))
    → IsListed (IsDoneBefore program nodes (length nodes)) edges → IsEdges program nodes edges
all_listed program nodes edges listed = record {
  ascends = listed.ascends;
  steps = all_members (λ (edge : ℕ × ℕ). IsStep program nodes edge.0 edge.1) edges (λ edge h. (All-contains (λ (edge : ℕ × ℕ). IsDoneBefore program nodes (length nodes) edge.0 edge.1) edges edge listed.each h).1);
  all = λ u v h. listed.all u v (slice_get_within nodes u h.node h.from, h);
}
