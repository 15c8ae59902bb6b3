-- What is left to show of `is_called_from`.
use Rattle.std.proofs.Common.{◌≡◌, ℕ, List, ◌∷◌, reverse, sym, ◌∙◌, subst}
use Rattle.std.proofs.lemmas.Option.{none-some, same_Some}
use Rattle.domain_core.specs.Scopes.{path_at, Extends}
use Rattle.scope_graph.specs.Placing.{plan_of}
use Rattle.scope_graph.proofs.Placed.{read_path, read_block}
use Rattle.scope_graph.proofs.place.is_called_from.Goals as goal

pub returns-in-None-clause-no : goal.returns-in-None-clause-no
returns-in-None-clause-no c = λ e called.
    let block = read_block c.args.graph.now c.args.m c.node-caller.result.path.now c.node-caller.result.block c.node-caller.ensures.node in
    none-some called.0 (sym c.in-None.is ∙ sym block ∙ called.1)

pub returns-in-Some-clause-yes : goal.returns-in-Some-clause-yes
returns-in-Some-clause-yes c = λ e.
    let caller = c.node-caller.result in
    let path = c.node.result.path.now in
    let graph = c.args.graph.now in
    let block = read_block graph c.args.m caller.path.now caller.block c.node-caller.ensures.node in (
      c.in-Some.call,
      block ∙ c.in-Some.is,
      rw (read_path graph c.args.n path c.node.result.block c.node.ensures.node, read_path graph c.args.m caller.path.now caller.block c.node-caller.ensures.node) (c.goes_on_by.ensures.yes e),
    )

pub returns-in-Some-clause-no : goal.returns-in-Some-clause-no
returns-in-Some-clause-no c = λ e called.
    let caller = c.node-caller.result in
    let path = c.node.result.path.now in
    let graph = c.args.graph.now in
    let block = read_block graph c.args.m caller.path.now caller.block c.node-caller.ensures.node in
    let same : called.0 ≡ c.in-Some.call = same_Some called.0 c.in-Some.call (sym called.1 ∙ block ∙ c.in-Some.is) in
    let from : Extends (path_at (plan_of graph) c.args.n) (c.in-Some.call ∷ path_at (plan_of graph) c.args.m) =
    subst (λ (b : ℕ). Extends (path_at (plan_of graph) c.args.n) (b ∷ path_at (plan_of graph) c.args.m)) same called.2 in
    let there : Extends (reverse path) (c.in-Some.call ∷ path_at (plan_of graph) c.args.m) =
    subst (λ (xs : List ℕ). Extends xs (c.in-Some.call ∷ path_at (plan_of graph) c.args.m)) (read_path graph c.args.n path c.node.result.block c.node.ensures.node) from in
    c.goes_on_by.ensures.no e (subst (λ (xs : List ℕ). Extends (reverse path) (c.in-Some.call ∷ xs)) (read_path graph c.args.m caller.path.now caller.block c.node-caller.ensures.node) there)
