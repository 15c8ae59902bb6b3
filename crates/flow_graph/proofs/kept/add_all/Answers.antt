use Rattle.std.proofs.Common.{◌≡◌, ◌∙◌, ◌<◌, ◌+◌, ℕ, List, Contains, Option, Some, None, get_or, ap, sym, subst, inl, inr, length, take}
use Rattle.std.proofs.lemmas.Result.{err_from_is_err_and}
use Rattle.graph_walks.specs.ListLaws.{same_default}
use Rattle.flow_graph.specs.Nodes.{Node}
use Rattle.flow_graph.specs.Places.{node_at, nodes_of}
use Rattle.flow_graph.specs.Goals.{IsGoalIn}
use Rattle.flow_graph.specs.Growing.{Overflows}
use Rattle.flow_graph.proofs.Growing.{grown_more, grown_as, overflow_more}
use Rattle.flow_graph.proofs.Searching.{IsUpTo, up_to_left, up_to_right, up_to_cases, up_to_all, up_to_in, fault_of}
use Rattle.flow_graph.proofs.kept.add_all.Goals as goal

pub loop-block-preserved : goal.loop-block-preserved
loop-block-preserved c =
    let path : List ℕ = c.args.goals.now.path.items in
    let items : List (Option ℕ) = c.deref-block-items.result.now in
    let k : ℕ = c.loop-block.block-index in
    let x : Option ℕ = get_or items k None in
    let low : k < length items = c.loop-block-test.true in
    let is : x ≡ get_or items k x = same_default items k None x low in
    let same : node_at c.deref.result.now x ≡ node_at path x = ap (λ (p : List ℕ). node_at p x) c.deref.ensures.value in
    grown_more (nodes_of c.args.places.now.items) (nodes_of c.args.pending.now.items) (λ (n : Node). IsUpTo path items k n) (nodes_of c.loop-block.places.items) (nodes_of c.loop-block.pending.items)
    (λ (n : Node). n ≡ node_at c.deref.result.now x) (λ (n : Node). IsUpTo path items (k + 1) n)
    (λ n h. up_to_left path items k x low is n h) (λ n e. up_to_right path items k x low is n (e ∙ same)) c.loop-block.invariant
    (λ n h. elim (up_to_cases path items k x low is n h) [ inl early ↦ inl early | inr e ↦ inr (e ∙ sym same) ])
    (nodes_of c.add.new.places.items) (nodes_of c.add.new.pending.items) c.in_ok-add.ensures.grown

pub returns-in_err-add-clause-fault : goal.returns-in_err-add-clause-fault
returns-in_err-add-clause-fault c =
    let p = err_from_is_err_and c.from_residual.result c.from_residual.ensures.1 in
    let path : List ℕ = c.args.goals.now.path.items in
    let items : List (Option ℕ) = c.deref-block-items.result.now in
    let blocks : List (Option ℕ) = c.args.goals.now.blocks.items in
    let items_are : items ≡ blocks = c.deref-block-items.ensures.value in
    let k : ℕ = c.loop-block.block-index in
    let x : Option ℕ = get_or items k None in
    let low : k < length items = c.loop-block-test.true in
    let is : x ≡ get_or items k x = same_default items k None x low in
    let same : node_at c.deref.result.now x ≡ node_at path x = ap (λ (p : List ℕ). node_at p x) c.deref.ensures.value in
    rw (p.1, p.2) (fault_of c.in_err-add.field-0.0
    (Overflows (nodes_of c.loop-block.places.items) (λ (n : Node). n ≡ node_at c.deref.result.now x))
    (Overflows (nodes_of c.args.places.now.items) (λ (n : Node). IsGoalIn (Some c.args.goals.now) (Some n)))
    (λ over. overflow_more (nodes_of c.args.places.now.items) (nodes_of c.args.pending.now.items) (λ (n : Node). IsUpTo path items k n) (nodes_of c.loop-block.places.items) (nodes_of c.loop-block.pending.items)
    (λ (n : Node). n ≡ node_at c.deref.result.now x) (λ (n : Node). IsGoalIn (Some c.args.goals.now) (Some n))
    (λ n h. up_to_in path items k blocks items_are n h) (λ n e. up_to_in path items (k + 1) blocks items_are n (up_to_right path items k x low is n (e ∙ same))) c.loop-block.invariant over)
    c.in_err-add.ensures.fault)

pub returns-clause-grown : goal.returns-clause-grown
returns-clause-grown c =
    let path : List ℕ = c.args.goals.now.path.items in
    let items : List (Option ℕ) = c.deref-block-items.result.now in
    let blocks : List (Option ℕ) = c.args.goals.now.blocks.items in
    let items_are : items ≡ blocks = c.deref-block-items.ensures.value in
    let k : ℕ = c.loop-block.block-index in
    let all : take k items ≡ blocks = up_to_all path items k c.loop-block-test.false c.loop-block.auto.block-index-end ∙ items_are in
    grown_as (nodes_of c.args.places.now.items) (nodes_of c.args.pending.now.items) (nodes_of c.loop-block.places.items) (nodes_of c.loop-block.pending.items)
    (λ (n : Node). IsUpTo path items k n) (λ (n : Node). IsGoalIn (Some c.args.goals.now) (Some n))
    (λ n h. up_to_in path items k blocks items_are n h)
    (λ n h. (h.0, subst (λ (bs : List (Option ℕ)). Contains bs h.0) (sym all) h.1, h.2))
    c.loop-block.invariant
