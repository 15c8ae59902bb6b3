-- The search for nodes.
--   IsUpTo path blocks k node      the node is that of one of the first k blocks
--   up_to_left, up_to_right, up_to_cases, up_to_in, up_to_all   what they are as k grows
--   fault_of       what a fault tells, told otherwise
--   more_nodes     too many nodes that are kept
--   searched_first, searched_on    the search begins, and goes on
--   searched_all   when it ends, the nodes are those that are kept
use Rattle.std.proofs.Common.{◌≡◌, ◌<◌, ◌≤◌, ◌+◌, ◌⊎◌, ℕ, List, [], ◌∷◌, ◌++◌, length, Option, Some, get_or, take, drop, Contains, All, inl, inr, refl, ap, sym, ◌∙◌, subst, arith}
use Rattle.std.proofs.lemmas.List.{take_more, take-append-drop}
use Rattle.std.proofs.lemmas.Option.{same_Some}
use Rattle.std.proofs.Math.Seq.{take-length}
use Rattle.std.proofs.lemmas.List.Elements.{Contains-append_left, Contains-push, Contains-push_cases, All-contains}
use Rattle.lists.specs.MemberLaws.{no_member, all_members}
use Rattle.alf_check.specs.CheckedPrograms.{NumberedProgram}
use Rattle.flow_base.specs.declared.place.Which.{Which}
use Rattle.flow_base.specs.declared.place.Which.TheVariants as which
use Rattle.flow_graph.specs.Nodes.{Node, Leads, IsKeptNode, first, goes_on, first_node}
use Rattle.flow_graph.specs.Numbering.{IsNumbering, HasMoreNodes, most_nodes}
use Rattle.flow_graph.specs.Places.{node_at}
use Rattle.flow_graph.specs.Growing.{IsGrown, Overflows, IsSearched}
use Rattle.flow_graph.specs.Faults.{FaultTells, LimitTells}
use Rattle.flow_graph.specs.declared.fault.GraphFault.{GraphFault}
use Rattle.flow_graph.specs.declared.fault.GraphFault.TheVariants as faults

-- the node is that of one of the first k blocks
abbrev pub IsUpTo : List ℕ → List (Option ℕ) → ℕ → Node → Type 0
IsUpTo path blocks k node = (block : Option ℕ) × Contains (take k blocks) block × (Some node ≡ Some (node_at path block))

module _ (path : List ℕ) (blocks : List (Option ℕ)) (k : ℕ) where
  module _ (x : Option ℕ) (low : k < length blocks) (is : x ≡ get_or blocks k x) where
    longer : take (k + 1) blocks ≡ take k blocks ++ x ∷ []
    longer = take_more blocks k x low ∙ ap (λ (y : Option ℕ). take k blocks ++ y ∷ []) (sym is)

    pub up_to_left : (n : Node) → IsUpTo path blocks k n → IsUpTo path blocks (k + 1) n
    up_to_left n h = (h.0, subst (λ (xs : List (Option ℕ)). Contains xs h.0) (sym longer) (Contains-append_left (take k blocks) (x ∷ []) h.0 h.1), h.2)

    pub up_to_right : (n : Node) → n ≡ node_at path x → IsUpTo path blocks (k + 1) n
    up_to_right n e = (x, subst (λ (xs : List (Option ℕ)). Contains xs x) (sym longer) (Contains-push (take k blocks) x), ap (λ (m : Node). Some m) e)

    pub up_to_cases : (n : Node) → IsUpTo path blocks (k + 1) n → IsUpTo path blocks k n ⊎ (n ≡ node_at path x)
    up_to_cases n h = elim (Contains-push_cases (take k blocks) x h.0 (subst (λ (xs : List (Option ℕ)). Contains xs h.0) longer h.1)) [
      | inl early ↦ inl (h.0, early, h.2)
      | inr e ↦ inr (same_Some n (node_at path h.0) h.2 ∙ ap (λ (b : Option ℕ). node_at path b) (sym e))
    ]

  -- they are among all
  pub up_to_in : (all : List (Option ℕ)) → blocks ≡ all → (n : Node) → IsUpTo path blocks k n
      → (block : Option ℕ) × Contains all block × (Some n ≡ Some (node_at path block))
  up_to_in all same n h =
      let there : Contains blocks h.0 = subst (λ (bs : List (Option ℕ)). Contains bs h.0) (take-append-drop k blocks) (Contains-append_left (take k blocks) (drop k blocks) h.0 h.1) in
      (h.0, subst (λ (bs : List (Option ℕ)). Contains bs h.0) same there, h.2)

  -- all of them
  pub up_to_all : length blocks ≤ k → k ≤ length blocks → take k blocks ≡ blocks
  up_to_all past within = let e : k ≡ length blocks = omega arith in ap (λ (j : ℕ). take j blocks) e ∙ take-length blocks

-- what a fault tells, told otherwise
limit_of : (w : Which) (count : ℕ) (P Q : Type 0) → (P → Q) → LimitTells w count P ⊥ → LimitTells w count Q ⊥
limit_of which.Bytes count P Q f h = h
limit_of which.Depth count P Q f h = h
limit_of which.Functions count P Q f h = h
limit_of which.Frames count P Q f h = h
limit_of which.FrameBytes count P Q f h = h
limit_of which.AllBytes count P Q f h = h
limit_of which.Nodes count P Q f h = (h.0, f h.1)
limit_of which.Edges count P Q f h = h
limit_of which.Parens count P Q f h = h
limit_of which.Nesting count P Q f h = h
limit_of which.Elements count P Q f h = h
limit_of which.Statements count P Q f h = h
limit_of which.Tasks count P Q f h = h

pub fault_of : (fault : GraphFault) (P Q : Type 0) → (P → Q) → FaultTells fault P ⊥ → FaultTells fault Q ⊥
fault_of (faults.Limit w count) P Q f h = limit_of w count P Q f h
fault_of faults.Memory P Q f h = tt

module _ (program : NumberedProgram) where
  -- too many nodes that are kept
  pub more_nodes : (nodes : List Node) (New : Node → Type 0) → All (IsKeptNode program) nodes
      → ((n : Node) → New n → IsKeptNode program n) → Overflows nodes New → HasMoreNodes program most_nodes
  more_nodes nodes New kept new over = record {
    nodes = over.all;
    apart = over.apart;
    kept = all_members (IsKeptNode program) over.all (λ n h. elim (All-contains (λ (n : Node). Contains nodes n ⊎ New n) over.all n over.each h) [
      | inl old ↦ All-contains (IsKeptNode program) nodes n kept old
      | inr fresh ↦ new n fresh
    ]);
    more = over.many;
  }

  -- the search begins
  pub searched_first : (nodes pending : List Node) → IsGrown [] [] (λ (n : Node). n ≡ first_node) nodes pending
      → IsSearched program nodes pending
  searched_first nodes pending grown = record {
    ascends = grown.ascends;
    few = grown.few;
    kept = all_members (IsKeptNode program) nodes (λ n h. elim (grown.only n h) [ inl old ↦ no_member n old | inr e ↦ subst (λ (m : Node). IsKeptNode program m) (sym e) first ]);
    waiting = all_members (IsKeptNode program) pending (λ n h. elim (grown.waits_only n h) [ inl old ↦ no_member n old | inr e ↦ subst (λ (m : Node). IsKeptNode program m) (sym e) first ]);
    first = grown.new first_node refl;
    closed = λ n h. elim (grown.waits n h) [ inl old ↦ no_member n old | inr waits ↦ inl waits ];
  }

  module _ (nodes front : List Node) (node : Node) (searched : IsSearched program nodes (front ++ node ∷ [])) where
    -- the node from which it goes on is kept
    pub node_kept : IsKeptNode program node
    node_kept = All-contains (IsKeptNode program) (front ++ node ∷ []) node searched.waiting (Contains-push front node)

    -- so is each to which it leads
    pub next_kept : (n : Node) → Leads program node (Some n) → IsKeptNode program n
    next_kept n leads = goes_on node n node_kept leads

    -- the search goes on
    pub searched_on : (more waiting : List Node)
        → IsGrown nodes front (λ (n : Node). Leads program node (Some n)) more waiting → IsSearched program more waiting
    searched_on more waiting grown = record {
      ascends = grown.ascends;
      few = grown.few;
      kept = all_members (IsKeptNode program) more (λ n h. elim (grown.only n h) [ inl old ↦ All-contains (IsKeptNode program) nodes n searched.kept old | inr leads ↦ next_kept n leads ]);
      waiting = all_members (IsKeptNode program) waiting (λ n h. elim (grown.waits_only n h) [
        | inl old ↦ All-contains (IsKeptNode program) (front ++ node ∷ []) n searched.waiting (Contains-append_left front (node ∷ []) n old)
        | inr leads ↦ next_kept n leads
      ]);
      first = grown.still first_node searched.first;
      closed = λ n h. elim (grown.waits n h) [
        | inl old ↦ elim (searched.closed n old) [
          | inl waits ↦ elim (Contains-push_cases front node n waits) [
            | inl early ↦ inl (grown.still_waits n early)
            | inr e ↦ inr (λ next leads. grown.new next (subst (λ (m : Node). Leads program m (Some next)) (sym e) leads))
          ]
          | inr done ↦ inr (λ next leads. grown.still next (done next leads))
        ]
        | inr waits ↦ inl waits
      ];
    }

  -- when it ends, the nodes are those that are kept
  module _ (nodes : List Node) (searched : IsSearched program nodes []) where
    all_kept : (n : Node) → IsKeptNode program n → Contains nodes n
    all_kept _ first = searched.first
    all_kept _ (goes_on node next kept leads) = elim (searched.closed node (all_kept node kept)) [ inl waits ↦ no_member node waits | inr done ↦ done next leads ]

    pub searched_all : IsNumbering program nodes
    searched_all = record { ascends = searched.ascends; kept = searched.kept; all = all_kept }
