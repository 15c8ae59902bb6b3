-- What is left to show of `visit`.
use Rattle.std.proofs.Common.{rules, ◌≡◌, ◌<◌, ℕ, Bool, true, length, get_or, List, [], ◌∷◌, ◌++◌, subst, sym, ◌∙◌, take, length-set, arith}
use Rattle.std.proofs.lemmas.Grind.{common_steps}
use Rattle.std.proofs.lemmas.List.{take_more, take_all}
use Rattle.std.proofs.lemmas.List.Elements.{Contains-push}
use Rattle.graph_walks.specs.Walks.{Walk, goes_on}
use Rattle.graph_walks.specs.Tables.{HasEdge, rows_of}
use Rattle.scope_graph.specs.Descending.{IsDescent, IsVisited, IsChecked}
use Rattle.std.proofs.lemmas.List.Sums.{count_by-le-length}
use Rattle.graph_walks.specs.MarkedNodeLaws.{marked_more}
use Rattle.graph_walks.specs.TableLaws.{row_is, row_edge, row_low}
use Rattle.scope_graph.proofs.Descents.{IsDescending, descend_first, descend_on, descend_over, descend_all}
use Rattle.scope_graph.proofs.descend.+visit.Goals as goal
use Rattle.scope_graph.proofs.descend.+visit.Goals.{then-not-seen-next+in_ok-visit+in-None, else-not-seen-next+in_ok-look_back+in-None-2}

pub loop-next-init : goal.loop-next-init
loop-next-init t c =
    let pushed : c.push.new.self.items ≡ c.args.path.now.items ++ c.args.node ∷ [] = grind (arith, common_steps) in
    let inside : c.args.node < length c.args.seen.now = (let long = c.requires.long in let low = c.requires.inside in omega arith) in
    rw pushed (descend_first (rows_of c.args.table.now) c.args.node c.args.seen.now c.args.path.now.items c.args.back.now.items c.requires.descent.0 c.requires.descent.1 c.requires.fresh inside)

pub bounds-seen-next : goal.bounds-seen-next
bounds-seen-next t c =
    let low =
    row_low c.args.table.now c.args.node c.index-table-node.result c.deref-next-items.result.now c.requires.inside c.index-table-node.is c.deref-next-items.ensures.value c.requires.closed
    c.loop-next.next-index 0 c.loop-next-test.true
    in
    let long = c.requires.long in
    omega (arith, length-set c.args.seen.now c.args.node true)

pub visit-requires : goal.visit-requires
visit-requires t c =
    let row = c.deref-next-items.result.now in
    let next = get_or row c.loop-next.next-index 0 in
    let low =
    row_low c.args.table.now c.args.node c.index-table-node.result row c.requires.inside c.index-table-node.is c.deref-next-items.ensures.value c.requires.closed
    c.loop-next.next-index 0 c.loop-next-test.true
    in
    let edge = row_edge c.args.table.now c.args.node c.index-table-node.result row c.requires.inside c.index-table-node.is c.deref-next-items.ensures.value c.loop-next.next-index 0 c.loop-next-test.true in
    let long : length c.loop-next.seen ≡ length c.args.table.now = (let same = c.requires.long in omega (arith, length-set c.args.seen.now c.args.node true)) in
    let d = c.loop-next.invariant in
    let here = d.descent.on_path c.args.node (Contains-push c.args.path.now.items c.args.node) in
    let more = marked_more c.args.seen.now c.loop-next.seen c.args.node (long ∙ sym c.requires.long) d.kept c.requires.fresh here in
    let most = count_by-le-length (λ (mark : Bool). mark) c.loop-next.seen in
    let on : Walk (HasEdge (rows_of c.args.table.now)) 0 next ((c.args.path.now.items ++ c.args.node ∷ []) ++ next ∷ []) = goes_on c.requires.walk edge in
    let walk : Walk (HasEdge (rows_of c.args.table.now)) 0 next (c.loop-next.path.items ++ next ∷ []) = rw d.path_is on in
    let descent : IsDescent (rows_of c.args.table.now) c.loop-next.seen c.loop-next.path.items c.loop-next.back.items d.order = rw d.path_is d.descent in
    (search rules, (c.requires.closed, (long, (low, (c.if-not-seen-next.true, (walk, (d.order, descent)))))))

pub loop-next-preserved : goal.loop-next-preserved
loop-next-preserved t c =
    let rows = rows_of c.args.table.now in
    let row = c.deref-next-items.result.now in
    let next = get_or row c.loop-next.next-index 0 in
    let edge = row_edge c.args.table.now c.args.node c.index-table-node.result row c.requires.inside c.index-table-node.is c.deref-next-items.ensures.value c.loop-next.next-index 0 c.loop-next-test.true in
    let more = take_more row c.loop-next.next-index 0 c.loop-next-test.true in
    let d = c.loop-next.invariant in
    let looked = take c.loop-next.next-index row in
    rw more (elim c.if-not-seen-next.branch [
      | then-not-seen-next+in_ok-visit+in-None w ↦
          let v : IsVisited rows next c.loop-next.seen w.visit.new.seen c.loop-next.path.items w.visit.new.path.items c.loop-next.back.items w.visit.new.back.items = rw w.in-None.is at w.in_ok-visit.ensures in
          rw (w.seen-is, w.path-is, w.back-is)
          (descend_on rows c.args.node c.args.seen.now c.args.path.now.items c.args.back.now.items c.loop-next.seen c.loop-next.path.items c.loop-next.back.items looked d next w.visit.new.seen
          w.visit.new.path.items w.visit.new.back.items w.if-not-seen-next.true c.requires.walk v)
      | else-not-seen-next+in_ok-look_back+in-None-2 w ↦
          let checked : IsChecked rows w.deref.result.now c.args.node next c.loop-next.back.items w.look_back.new.back.items = rw w.in-None-2.is at w.in_ok-look_back.ensures in
          let on_path : IsChecked rows c.loop-next.path.items c.args.node next c.loop-next.back.items w.look_back.new.back.items = rw w.deref.ensures.value at checked in
          let walk : Walk (HasEdge rows) 0 c.args.node c.loop-next.path.items = rw d.path_is c.requires.walk in
          rw (w.seen-is, w.path-is, w.back-is)
          (descend_over rows c.args.node c.args.seen.now c.args.path.now.items c.args.back.now.items c.loop-next.seen c.loop-next.path.items c.loop-next.back.items looked d next
          w.look_back.new.back.items w.if-not-seen-next.false edge walk on_path)
    ])

pub returns : goal.returns
returns t c =
    let rows = rows_of c.args.table.now in
    let row = c.deref-next-items.result.now in
    let all : take c.loop-next.next-index row ≡ row = take_all c.loop-next.next-index row c.loop-next-test.false in
    let is = row_is c.args.table.now c.args.node c.index-table-node.result row c.requires.inside c.index-table-node.is c.deref-next-items.ensures.value in
    let d = c.loop-next.invariant in
    let path = d.path_is in
    let popped : c.pop.new.self.items ≡ c.args.path.now.items = grind (arith, common_steps) in
    let whole = subst (λ (xs : List ℕ). IsDescending rows c.args.node c.args.seen.now c.loop-next.seen c.args.path.now.items c.loop-next.path.items c.args.back.now.items c.loop-next.back.items xs) (all ∙ sym is) d in
    descend_all rows c.args.node c.args.seen.now c.args.path.now.items c.args.back.now.items c.loop-next.seen c.loop-next.path.items c.pop.new.self.items c.loop-next.back.items whole popped
