-- What is left to show of `has_same_path`.
use Rattle.std.proofs.Common.{ℕ, List, reverse, ap, sym, ◌∙◌}
use Rattle.std.proofs.lemmas.Bool.{false≢true}
use Rattle.std.proofs.lemmas.List.{reverse-reverse}
use Rattle.std.proofs.lemmas.Bool.Decides.{Decides-eqb}
use Rattle.std.proofs.lemmas.Slice.Eq.{slice_eq-Decides}
use Rattle.scope_graph.proofs.Placed.{read_path}
use Rattle.scope_graph.proofs.place.has_same_path.Goals as goal

pub returns-clause-yes : goal.returns-clause-yes
returns-clause-yes c = λ e.
    let first = c.node.result in
    let second = c.node-2.result in
    let same = (slice_eq-Decides Decides-eqb first.path.now second.path.now c.eq.result c.eq.ensures).0 e in
    read_path c.args.graph.now c.args.m first.path.now first.block c.node.ensures.node
    ∙ ap (λ (xs : List ℕ). reverse xs) same
    ∙ sym (read_path c.args.graph.now c.args.n second.path.now second.block c.node-2.ensures.node)

pub returns-clause-no : goal.returns-clause-no
returns-clause-no c = λ e same.
    let first = c.node.result in
    let second = c.node-2.result in
    let turned = sym (read_path c.args.graph.now c.args.m first.path.now first.block c.node.ensures.node) ∙ same
    ∙ read_path c.args.graph.now c.args.n second.path.now second.block c.node-2.ensures.node in
    let paths = sym (reverse-reverse first.path.now) ∙ ap (λ (xs : List ℕ). reverse xs) turned ∙ reverse-reverse second.path.now in
    false≢true (sym e ∙ (slice_eq-Decides Decides-eqb first.path.now second.path.now c.eq.result c.eq.ensures).1 paths)
