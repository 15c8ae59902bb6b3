-- How the nodes that a search has found grow.
--   map_insert      what an insert makes of images
--   inserted        nodes with one more at its gap are in their order
--   put_grown       a node that was put into its gap
--   put_overflows   a node that has a gap among as many nodes as there may be
--   grown_more   nodes grow by none, and by one more
--   grown_as        new nodes told otherwise
--   overflow_more   so with too many
use Rattle.std.proofs.Common.{◌≡◌, ◌≢◌, ◌<◌, ◌≤◌, ◌+◌, ◌-◌, ◌⊎◌, ℕ, List, [], ◌∷◌, ◌++◌, map, length, length-append, get_or, take, drop, Contains, AllPairs, inl, inr, refl, ap, sym, ◌∙◌, subst, arith}
use Rattle.std.specs.List.{insert}
use Rattle.std.proofs.lemmas.Bool.{cases_lt}
use Rattle.std.proofs.lemmas.List.{take-append-drop, take-map, drop-map, map-append}
use Rattle.std.proofs.lemmas.List.Edits.{length-insert, get_or-insert_below, get_or-insert_at, get_or-insert_above}
use Rattle.std.proofs.lemmas.List.Elements.{Contains-append_left, Contains-append_right, Contains-append_cases, Contains-push, Contains-push_cases, All-cons, All-contains}
use Rattle.std.proofs.lemmas.List.Kept.{AllPairs-cons}
use Rattle.lists.specs.MemberLaws.{first_member, further_member, first_or_further, all_members}
use Rattle.graph_walks.specs.ListLaws.{same_default}
use Rattle.flow_graph.specs.Nodes.{Node}
use Rattle.flow_graph.specs.Numbering.{IsBefore, most_nodes}
use Rattle.flow_graph.specs.Places.{IsGap}
use Rattle.flow_graph.specs.Growing.{IsGrown, Overflows}
use Rattle.flow_graph.proofs.Order.{not_before_itself}

-- what an insert makes of images
pub map_insert : {X Y : Type 0} (f : X → Y) (xs : List X) (at : ℕ) (y : X)
    → map f (insert xs at y) ≡ insert (map f xs) at (f y)
map_insert f xs at y =
    map-append f (take at xs) (y ∷ drop at xs) ∙ ap (λ ys. ys ++ (f y ∷ map f (drop at xs))) (sym (take-map f at xs)) ∙ ap (λ ys. take at (map f xs) ++ (f y ∷ ys)) (sym (drop-map f at xs))

module _ (nodes : List Node) (node : Node) (at : ℕ) where
  -- a node that was there is there
  kept_member : (n : Node) → Contains nodes n → Contains (insert nodes at node) n
  kept_member n h = elim (Contains-append_cases (take at nodes) (drop at nodes) n (subst (λ (xs : List Node). Contains xs n) (sym (take-append-drop at nodes)) h)) [
    | inl early ↦ Contains-append_left (take at nodes) (node ∷ drop at nodes) n early
    | inr late ↦ Contains-append_right (take at nodes) (node ∷ drop at nodes) n (further_member node (drop at nodes) n late)
  ]

  -- so is the new one
  new_member : Contains (insert nodes at node) node
  new_member = Contains-append_right (take at nodes) (node ∷ drop at nodes) node (first_member node (drop at nodes))

  -- and no other
  member_cases : (n : Node) → Contains (insert nodes at node) n → Contains nodes n ⊎ (n ≡ node)
  member_cases n h = elim (Contains-append_cases (take at nodes) (node ∷ drop at nodes) n h) [
    | inl early ↦ inl (subst (λ (xs : List Node). Contains xs n) (take-append-drop at nodes) (Contains-append_left (take at nodes) (drop at nodes) n early))
    | inr late ↦ first_or_further node (drop at nodes) n late (λ e. inr (sym e)) (λ more. inl (subst (λ (xs : List Node). Contains xs n) (take-append-drop at nodes) (Contains-append_right (take at nodes) (drop at nodes) n more)))
  ]

  module _ (gap : IsGap nodes node at) where
    gap_before : (k : ℕ) (d : Node) → k < at → IsBefore (get_or nodes k d) node
    gap_before k d low = let within = gap.within in subst (λ (n : Node). IsBefore n node) (same_default nodes k node d (omega arith)) (gap.before k low)

    gap_after : (k : ℕ) (d : Node) → at ≤ k → k < length nodes → IsBefore node (get_or nodes k d)
    gap_after k d high inside = subst (λ (n : Node). IsBefore node n) (same_default nodes k node d inside) (gap.after k high inside)

    -- the node is not among them
    pub not_member : Contains nodes node → ⊥
    not_member h = elim (cases_lt h.0 at) [
      | inl low ↦ not_before_itself node (subst (λ (n : Node). IsBefore n node) h.2 (gap_before h.0 node low))
      | inr high ↦ not_before_itself node (subst (λ (n : Node). IsBefore node n) h.2 (gap_after h.0 node high h.1))
    ]

    module _ (ascends : AllPairs IsBefore nodes) where
      at_pair : (i j : ℕ) (d : Node) → i < j → j < length nodes + 1
          → IsBefore (get_or (insert nodes at node) i d) (get_or (insert nodes at node) j d)
      at_pair i j d before inside =
          let within = gap.within in
          elim (cases_lt j at) [
            | inl low ↦
                subst (λ (n : Node). IsBefore n (get_or (insert nodes at node) j d)) (sym (get_or-insert_below nodes at node d i (omega arith) within))
                (subst (λ (n : Node). IsBefore (get_or nodes i d) n) (sym (get_or-insert_below nodes at node d j low within)) (ascends i j d before (omega arith)))
            | inr high ↦ elim (cases_lt at j) [
              | inl over ↦
                  let later : get_or (insert nodes at node) j d ≡ get_or nodes (j - 1) d =
                  ap (λ (k : ℕ). get_or (insert nodes at node) k d) (let e : j ≡ j - 1 + 1 = omega arith in e) ∙ get_or-insert_above nodes at node d (j - 1) (omega arith) within in
                  subst (λ (n : Node). IsBefore (get_or (insert nodes at node) i d) n) (sym later) (elim (cases_lt i at) [
                    | inl under ↦ subst (λ (n : Node). IsBefore n (get_or nodes (j - 1) d)) (sym (get_or-insert_below nodes at node d i under within)) (ascends i (j - 1) d (omega arith) (omega arith))
                    | inr above ↦ elim (cases_lt at i) [
                      | inl past ↦
                          let earlier : get_or (insert nodes at node) i d ≡ get_or nodes (i - 1) d =
                          ap (λ (k : ℕ). get_or (insert nodes at node) k d) (let e : i ≡ i - 1 + 1 = omega arith in e) ∙ get_or-insert_above nodes at node d (i - 1) (omega arith) within in
                          subst (λ (n : Node). IsBefore n (get_or nodes (j - 1) d)) (sym earlier) (ascends (i - 1) (j - 1) d (omega arith) (omega arith))
                      | inr same ↦
                          let e : i ≡ at = omega arith in
                          subst (λ (n : Node). IsBefore n (get_or nodes (j - 1) d)) (sym (ap (λ (k : ℕ). get_or (insert nodes at node) k d) e ∙ get_or-insert_at nodes at node d within)) (gap_after (j - 1) d (omega arith) (omega arith))
                    ]
                  ])
              | inr same ↦
                  let e : j ≡ at = omega arith in
                  subst (λ (n : Node). IsBefore (get_or (insert nodes at node) i d) n) (sym (ap (λ (k : ℕ). get_or (insert nodes at node) k d) e ∙ get_or-insert_at nodes at node d within))
                  (subst (λ (n : Node). IsBefore n node) (sym (get_or-insert_below nodes at node d i (omega arith) within)) (gap_before i d (omega arith)))
            ]
          ]

      -- nodes with one more at its gap are in their order
      pub inserted : AllPairs IsBefore (insert nodes at node)
      inserted i j d before inside = let long = length-insert nodes at node gap.within in at_pair i j d before (omega arith)

      -- a node that was put into its gap
      pub put_grown : (pending : List Node) → length nodes < most_nodes
          → IsGrown nodes pending (λ (n : Node). n ≡ node) (insert nodes at node) (pending ++ node ∷ [])
      put_grown pending low =
          let long = length-insert nodes at node gap.within in
          let longer = length-append pending (node ∷ []) in
          record {
            ascends = inserted;
            few = omega arith;
            still = λ n h. kept_member n h;
            new = λ n e. subst (λ (m : Node). Contains (insert nodes at node) m) (sym e) new_member;
            only = λ n h. member_cases n h;
            waits = λ n h. elim (member_cases n h) [ inl old ↦ inl old | inr e ↦ inr (subst (λ (m : Node). Contains (pending ++ node ∷ []) m) (sym e) (Contains-push pending node)) ];
            still_waits = λ n h. Contains-append_left pending (node ∷ []) n h;
            waits_only = λ n h. elim (Contains-push_cases pending node n h) [ inl old ↦ inl old | inr e ↦ inr (sym e) ];
            longer = omega arith;
            balance = omega arith;
          }

      -- nodes in their order are apart
      apart : AllPairs (λ (a b : Node). a ≢ b) nodes
      apart i j d before inside e = not_before_itself (get_or nodes j d) (subst (λ (n : Node). IsBefore n (get_or nodes j d)) e (ascends i j d before inside))

      -- a node that has a gap among as many nodes as there may be
      pub put_overflows : length nodes ≡ most_nodes → Overflows nodes (λ (n : Node). n ≡ node)
      put_overflows full = record {
        all = node ∷ nodes;
        apart = AllPairs-cons (λ (a b : Node). a ≢ b) node nodes (all_members (λ (n : Node). node ≢ n) nodes (λ n h e. not_member (subst (λ (m : Node). Contains nodes m) (sym e) h))) apart;
        each = All-cons (λ (n : Node). Contains nodes n ⊎ (n ≡ node)) node nodes (inr refl) (all_members (λ (n : Node). Contains nodes n ⊎ (n ≡ node)) nodes (λ n h. inl h));
        many = omega arith;
      }

-- nodes that grow by some, and then by more
module _ (a p : List Node) (New : Node → Type 0) (b q : List Node) (Next : Node → Type 0) (Both : Node → Type 0)
    (left : (n : Node) → New n → Both n) (right : (n : Node) → Next n → Both n) (grown : IsGrown a p New b q) where
  pub grown_more : ((n : Node) → Both n → New n ⊎ Next n) → (c r : List Node) → IsGrown b q Next c r
      → IsGrown a p Both c r
  grown_more cases c r more =
      let first_balance = grown.balance in
      let second_balance = more.balance in
      let first_longer = grown.longer in
      let second_longer = more.longer in
      record {
        ascends = more.ascends;
        few = more.few;
        still = λ n h. more.still n (grown.still n h);
        new = λ n h. elim (cases n h) [ inl new ↦ more.still n (grown.new n new) | inr next ↦ more.new n next ];
        only = λ n h. elim (more.only n h) [ inl old ↦ elim (grown.only n old) [ inl first ↦ inl first | inr new ↦ inr (left n new) ] | inr next ↦ inr (right n next) ];
        waits = λ n h. elim (more.waits n h) [ inl old ↦ elim (grown.waits n old) [ inl first ↦ inl first | inr waiting ↦ inr (more.still_waits n waiting) ] | inr waiting ↦ inr waiting ];
        still_waits = λ n h. more.still_waits n (grown.still_waits n h);
        waits_only = λ n h. elim (more.waits_only n h) [ inl old ↦ elim (grown.waits_only n old) [ inl first ↦ inl first | inr new ↦ inr (left n new) ] | inr next ↦ inr (right n next) ];
        longer = omega arith;
        balance = omega arith;
      }

  -- so with too many
  pub overflow_more : Overflows b Next → Overflows a Both
  overflow_more over = record {
    all = over.all;
    apart = over.apart;
    each = all_members (λ (n : Node). Contains a n ⊎ Both n) over.all (λ n h. elim (All-contains (λ (n : Node). Contains b n ⊎ Next n) over.all n over.each h) [
      | inl old ↦ elim (grown.only n old) [ inl first ↦ inl first | inr new ↦ inr (left n new) ]
      | inr next ↦ inr (right n next)
    ]);
    many = over.many;
  }

-- new nodes told otherwise
pub grown_as : (a p b q : List Node) (New Other : Node → Type 0) → ((n : Node) → New n → Other n)
    → ((n : Node) → Other n → New n) → IsGrown a p New b q → IsGrown a p Other b q
grown_as a p b q New Other to back grown = record {
  ascends = grown.ascends;
  few = grown.few;
  still = grown.still;
  new = λ n h. grown.new n (back n h);
  only = λ n h. elim (grown.only n h) [ inl old ↦ inl old | inr new ↦ inr (to n new) ];
  waits = grown.waits;
  still_waits = grown.still_waits;
  waits_only = λ n h. elim (grown.waits_only n h) [ inl old ↦ inl old | inr new ↦ inr (to n new) ];
  longer = grown.longer;
  balance = grown.balance;
}

pub overflow_as : (a : List Node) (New Other : Node → Type 0) → ((n : Node) → New n → Other n) → Overflows a New
    → Overflows a Other
overflow_as a New Other to over = record {
  all = over.all;
  apart = over.apart;
  each = all_members (λ (n : Node). Contains a n ⊎ Other n) over.all (λ n h. elim (All-contains (λ (n : Node). Contains a n ⊎ New n) over.all n over.each h) [
    | inl old ↦ inl old
    | inr new ↦ inr (to n new)
  ]);
  many = over.many;
}
