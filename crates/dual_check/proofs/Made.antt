-- What the lists of the code are, as they are made.
--   range_more            one node more
--   columns_made          the edges and then the faults are the columns
--   columns_from_nodes    each leads from a node
--   weighings_made        the constraints weigh what the rows weigh
--   system_made           so the program is that of the facts
use Rattle.std.proofs.Common.{◌≡◌, ◌<◌, ◌≤◌, ◌+◌, ℕ, zero, suc, Bool, List, [], ◌∷◌, ◌++◌, map, take, length, Contains, Some, refl, ap, sym, ◌∙◌, subst, arith, add-one}
use Rattle.std.specs.Prelude.{filter, slice_get, slice_index}
use Rattle.std.specs.List.{flat_map, range_with_len}
use Rattle.std.proofs.lemmas.List.{append-nil, append_assoc, map-append, length-map}
use Rattle.std.proofs.lemmas.List.FromFn.{map-range_with_len_more}
use Rattle.lists.specs.TestLaws.{by_test}
use Rattle.lists.specs.MemberLaws.{first_member, further_member}
use Rattle.domain_core.specs.declared.outline.NodeRow.{NodeRow}
use Rattle.domain_core.specs.Outlines.{Shape, Outlined, shape_of, IsOutline}
use Rattle.flow_facts.specs.declared.fact.Fact.{Fact}
use Rattle.flow_facts.specs.declared.fact.Fact.TheVariants.{Loop, Count, Dead, Total, Pair, Alarm}
use Rattle.ipet_rows.specs.Columns.{Column, edge_column, fault_column, has_alarm, nodes_of, columns_of}
use Rattle.ipet_rows.specs.Weights.{Weighing, flow_row, loop_rows, dead_rows, total_rows, pair_rows, count_rows, most_pairs, weighings}
use Rattle.ipet_rows.specs.Rows.{row_of, cost_of}
use Rattle.dual_check.specs.declared.constraint.Constraint.{Constraint}
use Rattle.dual_check.specs.declared.constraint.Constraint.TheVariants.{Flow}
use Rattle.dual_check.specs.declared.group.Group.TheVariants.{Loops, Deads, Totals, Pairs, Counts}
use Rattle.dual_check.specs.Systems.{System}
use Rattle.dual_check.specs.Constraints.{weighing_of, group_of, constraints_of}
use Rattle.dual_check.specs.Terms.{fault_if, AreFrom}
use Rattle.dual_check.specs.Openings.{opening_of, openings_of, costs_of, system_from, system_of}

-- ---- one more

flat_range : {A : Type 0} (g : ℕ → List A) (b n : ℕ)
    → flat_map g (range_with_len b (suc n)) ≡ flat_map g (range_with_len b n) ++ g (b + n)
flat_range g b zero =
    let same : b ≡ b + 0 = omega arith in
    append-nil (g b) ∙ ap g same
flat_range g b (suc n) =
    let same : (b + 1) + n ≡ b + suc n = omega arith in
    ap (λ xs. g b ++ xs) (flat_range g (b + 1) n ∙ ap (λ (k : ℕ). flat_map g (range_with_len (b + 1) n) ++ g k) same)
    ∙ sym (append_assoc (g b) (flat_map g (range_with_len (b + 1) n)) (g (b + suc n)))

range_more : {A : Type 0} (g : ℕ → List A) (n : ℕ)
    → flat_map g (range_with_len 0 (n + 1)) ≡ flat_map g (range_with_len 0 n) ++ g n
range_more g n =
    let same : 0 + n ≡ n = omega arith in
    let more : flat_map g (range_with_len 0 (suc n)) ≡ flat_map g (range_with_len 0 n) ++ g n = flat_range g 0 n ∙ ap (λ (k : ℕ). flat_map g (range_with_len 0 n) ++ g k) same in
    rw add-one more

pub fault_more : (old out more : List Column) (end n : ℕ) (p : ℕ → Bool) (is : Bool) → is ≡ p n
    → out ≡ old ++ flat_map (λ m. fault_if end m (p m)) (range_with_len 0 n) → more ≡ out ++ fault_if end n is
    → more ≡ old ++ flat_map (λ m. fault_if end m (p m)) (range_with_len 0 (n + 1))
fault_more old out more end n p is told so_far next =
    next ∙ ap (λ (b : Bool). out ++ fault_if end n b) told ∙ ap (λ xs. xs ++ fault_if end n (p n)) so_far
    ∙ append_assoc old (flat_map (λ m. fault_if end m (p m)) (range_with_len 0 n)) (fault_if end n (p n))
    ∙ ap (λ xs. old ++ xs) (sym (range_more (λ m. fault_if end m (p m)) n))

pub opening_more : (out more : List (ℕ × ℕ)) (columns : List Column) (ks : List Constraint) (n : ℕ)
    → out ≡ openings_of columns ks n → more ≡ out ++ opening_of columns ks n → more ≡ openings_of columns ks (n + 1)
opening_more out more columns ks n is next = next ∙ ap (λ xs. xs ++ opening_of columns ks n) is ∙ sym (range_more (λ m. opening_of columns ks m) n)

pub flows_more : (n : ℕ)
    → map (λ m. Flow m) (range_with_len 0 (n + 1)) ≡ map (λ m. Flow m) (range_with_len 0 n) ++ Flow n ∷ []
flows_more n = map-range_with_len_more (λ m. Flow m) 0 n n (omega arith)

-- one column more
pub edges_more : (es : List (ℕ × ℕ)) (k : ℕ) (e : ℕ × ℕ) → slice_get es k ≡ Some e
    → map edge_column (take (k + 1) es) ≡ map edge_column (take k es) ++ edge_column e ∷ []
edges_more es k e there = rw add-one (next_edge es k e there)
  where
    next_edge : (es : List (ℕ × ℕ)) (k : ℕ) (e : ℕ × ℕ) → slice_get es k ≡ Some e
        → map edge_column (take (suc k) es) ≡ map edge_column (take k es) ++ edge_column e ∷ []
    next_edge [] k e there = absurd cc
    next_edge (d ∷ es) zero e there = let same : d ≡ e = cc in rw same refl
    next_edge (d ∷ es) (suc k) e there = ap (λ xs. edge_column d ∷ xs) (next_edge es k e there)

-- ---- columns

faults_flat : (o : Shape) (p : ℕ → Bool) (xs : List ℕ)
    → flat_map (λ n. fault_if (length o.own) n (p n)) xs ≡ map (λ n. fault_column o n) (filter p xs)
faults_flat o p [] = refl
faults_flat o p (x ∷ xs) =
    let later = faults_flat o p xs in
    by_test (p x) (λ is. rw is (ap (λ ys. fault_column o x ∷ ys) later)) (λ clear. rw clear later)

-- the edges and then the faults are the columns
pub columns_made : (o : Outlined) (facts : List Fact) (out : List Column)
    → out ≡ map edge_column o.edges ++ flat_map (λ n. fault_if (length o.nodes) n (has_alarm facts n)) (range_with_len 0 (length o.nodes)) → out ≡ columns_of (shape_of o) facts
columns_made o facts out is =
    let long : length (shape_of o).own ≡ length o.nodes = length-map o.nodes (λ (row : NodeRow). row.scope) in
    is ∙ subst (λ (n : ℕ). map edge_column o.edges ++ flat_map (λ m. fault_if n m (has_alarm facts m)) (range_with_len 0 n) ≡ columns_of (shape_of o) facts) long
    (ap (λ xs. map edge_column o.edges ++ xs) (faults_flat (shape_of o) (λ n. has_alarm facts n) (nodes_of (shape_of o))))

from_append : (n : ℕ) (xs ys : List Column) → AreFrom n xs → AreFrom n ys → AreFrom n (xs ++ ys)
from_append n [] ys a b = b
from_append n (x ∷ xs) ys a b = (a.0, a.1, from_append n xs ys a.2 b)

from_edges : (n : ℕ) (es : List (ℕ × ℕ)) → ((u v : ℕ) → Contains es (u, v) → (u < n) × (v ≤ n))
    → AreFrom n (map edge_column es)
from_edges n [] within = tt
from_edges n (e ∷ es) within = ((within e.0 e.1 (first_member e es)).0, (within e.0 e.1 (first_member e es)).1, from_edges n es (λ u v there. within u v (further_member e es (u, v) there)))

from_faults : (o : Shape) (p : ℕ → Bool) (b k n : ℕ) → b + k ≤ n → length o.own ≤ n
    → AreFrom n (map (λ m. fault_column o m) (filter p (range_with_len b k)))
from_faults o p b zero n low end = tt
from_faults o p b (suc k) n low end =
    let later = from_faults o p (b + 1) k n (omega arith) end in
    by_test (p b) (λ is. rw is (omega arith, end, later)) (λ clear. rw clear later)

-- each leads from a node
pub columns_from_nodes : (o : Outlined) (facts : List Fact) (columns : List Column) → IsOutline (shape_of o)
    → columns ≡ columns_of (shape_of o) facts → AreFrom (length o.nodes) columns
columns_from_nodes o facts columns ok is =
    let long : length (shape_of o).own ≡ length o.nodes = length-map o.nodes (λ (row : NodeRow). row.scope) in
    subst (λ (cs : List Column). AreFrom (length o.nodes) cs) (sym is)
    (subst (λ (n : ℕ). AreFrom n (columns_of (shape_of o) facts)) long
    (from_append (length (shape_of o).own) (map edge_column o.edges) _ (from_edges (length (shape_of o).own) o.edges (λ u v there. ok.edges_within u v there))
    (from_faults (shape_of o) (λ n. has_alarm facts n) 0 (length (shape_of o).own) (length (shape_of o).own) (omega arith) (omega arith))))

-- ---- constraints

map_flat : {A B C : Type 0} (f : B → C) (g : A → List B) (h : A → List C) (xs : List A) → ((x : A) → map f (g x) ≡ h x)
    → map f (flat_map g xs) ≡ flat_map h xs
map_flat f g h [] same = refl
map_flat f g h (x ∷ xs) same = map-append f (g x) (flat_map g xs) ∙ ap (λ ys. ys ++ map f (flat_map g xs)) (same x) ∙ ap (λ ys. h x ++ ys) (map_flat f g h xs same)

map_take : {B C : Type 0} (f : B → C) (n : ℕ) (xs : List B) → map f (take n xs) ≡ take n (map f xs)
map_take f zero xs = refl
map_take f (suc n) [] = refl
map_take f (suc n) (x ∷ xs) = ap (λ ys. f x ∷ ys) (map_take f n xs)

map_twice : {A B C : Type 0} (f : B → C) (g : A → B) (xs : List A) → map f (map g xs) ≡ map (λ x. f (g x)) xs
map_twice f g [] = refl
map_twice f g (x ∷ xs) = ap (λ ys. f (g x) ∷ ys) (map_twice f g xs)

module _ (o : Shape) where
  loops_weigh : (f : Fact) → map (weighing_of o) (group_of o Loops f) ≡ loop_rows o f
  loops_weigh (Loop s low high) = refl
  loops_weigh (Count s n low high) = refl
  loops_weigh (Dead n) = refl
  loops_weigh (Total n low high) = refl
  loops_weigh (Pair s a b) = refl
  loops_weigh (Alarm n why) = refl

  deads_weigh : (f : Fact) → map (weighing_of o) (group_of o Deads f) ≡ dead_rows f
  deads_weigh (Loop s low high) = refl
  deads_weigh (Count s n low high) = refl
  deads_weigh (Dead n) = refl
  deads_weigh (Total n low high) = refl
  deads_weigh (Pair s a b) = refl
  deads_weigh (Alarm n why) = refl

  totals_weigh : (f : Fact) → map (weighing_of o) (group_of o Totals f) ≡ total_rows f
  totals_weigh (Loop s low high) = refl
  totals_weigh (Count s n low high) = refl
  totals_weigh (Dead n) = refl
  totals_weigh (Total n low high) = refl
  totals_weigh (Pair s a b) = refl
  totals_weigh (Alarm n why) = refl

  pairs_weigh : (f : Fact) → map (weighing_of o) (group_of o Pairs f) ≡ pair_rows o f
  pairs_weigh (Loop s low high) = refl
  pairs_weigh (Count s n low high) = refl
  pairs_weigh (Dead n) = refl
  pairs_weigh (Total n low high) = refl
  pairs_weigh (Pair s a b) = refl
  pairs_weigh (Alarm n why) = refl

  counts_weigh : (f : Fact) → map (weighing_of o) (group_of o Counts f) ≡ count_rows o f
  counts_weigh (Loop s low high) = refl
  counts_weigh (Count s n low high) = refl
  counts_weigh (Dead n) = refl
  counts_weigh (Total n low high) = refl
  counts_weigh (Pair s a b) = refl
  counts_weigh (Alarm n why) = refl

  joined : (a b : List Constraint) (u v : List Weighing) → map (weighing_of o) a ≡ u → map (weighing_of o) b ≡ v
      → map (weighing_of o) (a ++ b) ≡ u ++ v
  joined a b u v p q = map-append (weighing_of o) a b ∙ ap (λ ys. ys ++ map (weighing_of o) b) p ∙ ap (λ ys. u ++ ys) q

  -- the constraints weigh what the rows weigh
  pub weighings_made : (facts : List Fact) → map (weighing_of o) (constraints_of o facts) ≡ weighings o facts
  weighings_made facts =
      joined (map (λ n. Flow n) (nodes_of o)) _ (map (λ n. flow_row n) (nodes_of o)) _ (map_twice (weighing_of o) (λ n. Flow n) (nodes_of o))
      (joined (flat_map (λ f. group_of o Loops f) facts) _ (flat_map (λ f. loop_rows o f) facts) _ (map_flat (weighing_of o) (λ f. group_of o Loops f) (λ f. loop_rows o f) facts loops_weigh)
      (joined (flat_map (λ f. group_of o Deads f) facts) _ (flat_map (λ f. dead_rows f) facts) _ (map_flat (weighing_of o) (λ f. group_of o Deads f) (λ f. dead_rows f) facts deads_weigh)
      (joined (flat_map (λ f. group_of o Totals f) facts) _ (flat_map (λ f. total_rows f) facts) _ (map_flat (weighing_of o) (λ f. group_of o Totals f) (λ f. total_rows f) facts totals_weigh)
      (joined (take most_pairs (flat_map (λ f. group_of o Pairs f) facts)) (flat_map (λ f. group_of o Counts f) facts) (take most_pairs (flat_map (λ f. pair_rows o f) facts)) (flat_map (λ f. count_rows o f) facts)
      (map_take (weighing_of o) most_pairs (flat_map (λ f. group_of o Pairs f) facts) ∙ ap (λ ys. take most_pairs ys) (map_flat (weighing_of o) (λ f. group_of o Pairs f) (λ f. pair_rows o f) facts pairs_weigh))
      (map_flat (weighing_of o) (λ f. group_of o Counts f) (λ f. count_rows o f) facts counts_weigh)))))

-- so the program is that of the facts
same_rows : (o : Shape) (columns : List Column) (facts : List Fact) → map (λ k. row_of columns (weighing_of o k)) (constraints_of o facts) ≡ map (λ w. row_of columns w) (weighings o facts)
same_rows o columns facts = sym (map_twice (λ w. row_of columns w) (weighing_of o) (constraints_of o facts)) ∙ ap (λ ws. map (λ w. row_of columns w) ws) (weighings_made o facts)

system_same : (o : Outlined) (facts : List Fact)
    → system_from o (columns_of (shape_of o) facts) (constraints_of (shape_of o) facts) ≡ system_of o facts
system_same o facts =
    ap (λ rows. let s : System = record {
      program = record { costs = map (λ c. cost_of (costs_of o) c) (columns_of (shape_of o) facts); rows = rows };
      openings = openings_of (columns_of (shape_of o) facts) (constraints_of (shape_of o) facts) (length o.nodes);
    } in s) (same_rows (shape_of o) (columns_of (shape_of o) facts) facts)

pub system_made : (o : Outlined) (facts : List Fact) (columns : List Column) (ks : List Constraint)
    → columns ≡ columns_of (shape_of o) facts → ks ≡ constraints_of (shape_of o) facts
    → system_from o columns ks ≡ system_of o facts
system_made o facts columns ks is are = ap (λ (cs : List Column). system_from o cs ks) is ∙ ap (λ (js : List Constraint). system_from o (columns_of (shape_of o) facts) js) are ∙ system_same o facts

-- what a node costs
pub cost_made : (nodes : List NodeRow) (n : ℕ) (row : NodeRow) → slice_get nodes n ≡ Some row
    → row.cost ≡ slice_index (map (λ (r : NodeRow). r.cost) nodes) n
cost_made [] n row there = absurd cc
cost_made (r ∷ nodes) zero row there = let same : r ≡ row = cc in ap (λ (q : NodeRow). q.cost) (sym same)
cost_made (r ∷ nodes) (suc n) row there = cost_made nodes n row there

-- the flows are of the nodes
pub nodes_are : (o : Outlined) → nodes_of (shape_of o) ≡ range_with_len 0 (length o.nodes)
nodes_are o = ap (λ (n : ℕ). range_with_len 0 n) (length-map o.nodes (λ (row : NodeRow). row.scope))

-- the groups in their order are the constraints
pub constraints_made : (o : Outlined) (facts : List Fact) (a b c d e f pairs : List Constraint)
    → a ≡ map (λ n. Flow n) (range_with_len 0 (length o.nodes))
    → b ≡ a ++ flat_map (λ f. group_of (shape_of o) Loops f) facts → c ≡ b ++ flat_map (λ f. group_of (shape_of o) Deads f) facts
    → d ≡ c ++ flat_map (λ f. group_of (shape_of o) Totals f) facts → pairs ≡ take 128 (flat_map (λ f. group_of (shape_of o) Pairs f) facts)
    → e ≡ d ++ pairs → f ≡ e ++ flat_map (λ f. group_of (shape_of o) Counts f) facts → f ≡ constraints_of (shape_of o) facts
constraints_made o facts a b c d e f pairs ia ib ic id ip ie if_ =
    let ls = flat_map (λ f. group_of (shape_of o) Loops f) facts in
    let ds = flat_map (λ f. group_of (shape_of o) Deads f) facts in
    let ts = flat_map (λ f. group_of (shape_of o) Totals f) facts in
    let ps = take 128 (flat_map (λ f. group_of (shape_of o) Pairs f) facts) in
    let cs = flat_map (λ f. group_of (shape_of o) Counts f) facts in
    let first = map (λ n. Flow n) (nodes_of (shape_of o)) in
    let flows : a ≡ first = ia ∙ sym (ap (λ ns. map (λ n. Flow n) ns) (nodes_are o)) in
    if_ ∙ ap (λ xs. xs ++ cs) (ie ∙ ap (λ xs. d ++ xs) ip ∙ ap (λ xs. xs ++ ps) (id ∙ ap (λ xs. xs ++ ts) (ic ∙ ap (λ xs. xs ++ ds) (ib ∙ ap (λ xs. xs ++ ls) flows))))
    ∙ append_assoc (((first ++ ls) ++ ds) ++ ts) ps cs ∙ append_assoc ((first ++ ls) ++ ds) ts (ps ++ cs) ∙ append_assoc (first ++ ls) ds (ts ++ (ps ++ cs)) ∙ append_assoc first ls (ds ++ (ts ++ (ps ++ cs)))
