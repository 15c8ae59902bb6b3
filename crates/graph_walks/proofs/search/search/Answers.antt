-- What is left to show of `search`.
use Rattle.std.proofs.Common.{◌≡◌, ◌<◌, ℕ, List, [], ◌∷◌, inl, inr, ◌-◌, Bor, Option, get_or, true, length, replicate, slice_get, Some, None, set, subst, sym, ◌∙◌, ap, arith}
use Rattle.std.proofs.lemmas.Grind.{common_steps}
use Rattle.std.proofs.lemmas.List.Elements.{Contains-get_or}
use Rattle.std.specs.Option.{option_copied}
use Rattle.graph_walks.specs.Tables.{rows_of}
use Rattle.graph_walks.proofs.ListLemmas.{last_is, last_none}
use Rattle.graph_walks.specs.Searching.{IsSearch}
use Rattle.graph_walks.specs.TableLaws.{rows_long}
use Rattle.graph_walks.proofs.Spreading.{search_first, stands_low, search_on, search_back, search_over, on_falls, back_falls}
use Rattle.graph_walks.proofs.search.search.Goals as goal

-- what the last node is read from
last_read : (now path : List ℕ) → now ≡ path → (last : Option (Bor ℕ))
    → option_copied last ≡ slice_get now (length now - 1) → (wanted : Option ℕ) → wanted ≡ option_copied last
    → slice_get path (length path - 1) ≡ wanted
last_read now path same last is wanted e = ap (λ (xs : List ℕ). slice_get xs (length xs - 1)) (sym same) ∙ sym is ∙ sym e

pub loop-node-init : goal.loop-node-init
loop-node-init c =
    let rows = rows_of c.args.table.now in
    let long = rows_long c.args.table.now in
    let looked : c.as_mut_slice-looked.result.now ≡ replicate (length rows) 0 = rw long (grind (arith, common_steps)) in
    let path : c.push.new.self.items ≡ c.args.from ∷ [] = grind (arith, common_steps) in
    let inside : c.args.from < length rows = (let low = c.requires.inside in omega arith) in
    subst (λ (xs : List ℕ). IsSearch rows c.args.marks.now c.args.from c.args.goal (set c.args.marks.now c.args.from true) c.as_mut_slice-looked.result.now xs) (sym path)
    (search_first rows c.args.marks.now c.args.from c.args.goal inside (c.requires.long ∙ sym long) c.requires.clear c.as_mut_slice-looked.result.now looked)

-- the node is the last of the path
pub step-requires-clause-inside : goal.step-requires-clause-inside
step-requires-clause-inside c =
    let path = c.loop-node.path.items in
    let last = last_is path c.in-Some.node (last_read c.deref.result.now path c.deref.ensures.value c.last.result c.last.ensures.value (Some c.in-Some.node) c.in-Some.ensures) in
    let low = stands_low (rows_of c.args.table.now) c.args.marks.now c.args.from c.args.goal c.loop-node.marks c.loop-node.looked path last.0 c.in-Some.node c.loop-node.invariant last.1 in
    let long = rows_long c.args.table.now in
    omega arith

pub loop-node-smaller : goal.loop-node-smaller
loop-node-smaller c =
    let rows = rows_of c.args.table.now in
    let path = c.loop-node.path.items in
    let node = c.in-Some.node in
    let last = last_is path node (last_read c.deref.result.now path c.deref.ensures.value c.last.result c.last.ensures.value (Some node) c.in-Some.ensures) in
    let long = c.loop-node.invariant.long in
    elim (c.in_ok-step.ensures.ok) [
      | inl on ↦ on_falls (get_or rows node []) node c.loop-node.marks c.loop-node.looked path c.step.new.marks c.step.new.looked c.step.new.path.items on
          (λ k inside. let low = c.requires.closed node (get_or (get_or rows node []) k 0) (Contains-get_or (get_or rows node []) k 0 inside) in omega arith)
      | inr back ↦ back_falls (get_or rows node []) node c.loop-node.marks c.loop-node.looked path last.0 last.1 c.step.new.marks c.step.new.looked c.step.new.path.items back
    ]

pub loop-node-preserved : goal.loop-node-preserved
loop-node-preserved c =
    let rows = rows_of c.args.table.now in
    let path = c.loop-node.path.items in
    let node = c.in-Some.node in
    let last = last_is path node (last_read c.deref.result.now path c.deref.ensures.value c.last.result c.last.ensures.value (Some node) c.in-Some.ensures) in
    let other = c.is_goal.ensures.other c.if-is_goal.false in
    elim (c.in_ok-step.ensures.ok) [
      | inl on ↦ search_on rows c.args.marks.now c.args.from c.args.goal c.loop-node.marks c.loop-node.looked path last.0 node c.loop-node.invariant last.1 other c.requires.closed
          c.step.new.marks c.step.new.looked c.step.new.path.items on
      | inr back ↦ search_back rows c.args.marks.now c.args.from c.args.goal c.loop-node.marks c.loop-node.looked path last.0 node c.loop-node.invariant last.1 other
          c.step.new.marks c.step.new.looked c.step.new.path.items back
    ]

pub returns-clause-found : goal.returns-clause-found
returns-clause-found c =
    let path = c.loop-node.path.items in
    let read = last_read c.deref.result.now path c.deref.ensures.value c.last.result c.last.ensures.value None c.in_default.ensures in
    let empty = last_none path read in
    search_over (rows_of c.args.table.now) c.args.marks.now c.args.from c.args.goal c.loop-node.marks c.loop-node.looked
    (subst (λ (xs : List ℕ). IsSearch (rows_of c.args.table.now) c.args.marks.now c.args.from c.args.goal c.loop-node.marks c.loop-node.looked xs) empty c.loop-node.invariant)
