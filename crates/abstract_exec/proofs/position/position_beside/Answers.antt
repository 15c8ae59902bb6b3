-- What is left to show of `position_beside`.
use Rattle.std.proofs.Common.{◌≡◌, ◌<◌, ◌+◌, ◌++◌, ◌∷◌, [], ℕ, List, length, slice_index, ap, sym, ◌∙◌, subst, arith}
use Rattle.std.proofs.lemmas.List.{append_assoc}
use Rattle.std.proofs.lemmas.Result.{IfOk-weaker}
use Rattle.domain_core.specs.Outlines.{shape_of, header_of, scopes_around}
use Rattle.worklist_rules.specs.Positions.{ranks_and_turns, header_rank, turn_in, moved_position}
use Rattle.abstract_exec.proofs.Placing.{own_long, rank_is, scope_is, header_is}
use Rattle.abstract_exec.proofs.Beside.{last, begins_with, ends_with, number_low, last_two, entered_once, entered_not}
use Rattle.abstract_exec.proofs.position.position_beside.Goals as goal

pub with_next-requires : goal.with_next-requires
with_next-requires c =
    let o = shape_of c.args.outline.now in
    let turn = c.requires.is.0 in
    let to = c.args.to in
    let low : to < length o.own = (let long = own_long c.args.outline.now in let within = c.requires.to in omega arith) in
    let before : List ℕ = ranks_and_turns o turn (last o c.kept.ensures c.args.from to turn low c.requires.same c.requires.outer).0 ++ header_rank o (slice_index o.own to) ∷ [] in
    let begins = begins_with o c.kept.ensures c.args.from to turn low c.requires.same c.requires.outer in
    λ front number two is.
    let same = (last_two front before number two (turn (slice_index o.own to)) (slice_index o.ranks c.args.from) (sym is ∙ c.requires.is.1 ∙ begins)).1 in
    let below = number_low o c.kept.ensures c.args.from to turn low c.requires.same c.requires.outer 4294967295 (λ t. subst (λ (xs : List ℕ). turn_in (scopes_around o c.args.from) xs t < 4294967295) c.requires.is.1 (c.requires.room t)) in
    omega arith

pub returns-then-scope-to : goal.returns-then-scope-to
returns-then-scope-to c =
    let o = shape_of c.args.outline.now in
    let turn = c.requires.is.0 in
    let to = c.args.to in
    let row = c.node-node.result.now in
    let s = slice_index o.own to in
    let low : to < length o.own = (let long = own_long c.args.outline.now in let within = c.requires.to in omega arith) in
    let before : List ℕ = ranks_and_turns o turn (last o c.kept.ensures c.args.from to turn low c.requires.same c.requires.outer).0 ++ header_rank o s ∷ [] in
    let heads : header_of o.scopes s ≡ to = ap (λ (t : ℕ). header_of o.scopes t) (scope_is c.args.outline.now to row c.node-node.ensures) ∙ sym (header_is c.args.outline.now row.scope c.scope.result.now c.scope.ensures) ∙ c.if-scope-to.true in
    IfOk-weaker c.with_next.result
    (λ made. (front : List ℕ) (number two : ℕ) → c.args.position.items ≡ front ++ number ∷ two ∷ [] → made.items ≡ front ++ (number + 1) ∷ row.rank ∷ [])
    (λ made. made.items ≡ moved_position o c.args.from c.args.position.items to)
    (λ made all.
    all before (turn s) (slice_index o.ranks c.args.from) (c.requires.is.1 ∙ begins_with o c.kept.ensures c.args.from to turn low c.requires.same c.requires.outer)
    ∙ ap (λ (k : ℕ). before ++ (turn s + 1) ∷ k ∷ []) (rank_is c.args.outline.now to row c.node-node.ensures)
    ∙ sym (ends_with o c.kept.ensures c.args.from to turn low c.requires.same c.requires.outer (turn s + 1) (entered_once o to s (turn s) heads))
    ∙ ap (λ (xs : List ℕ). moved_position o c.args.from xs to) (sym c.requires.is.1))
    c.with_next.ensures

pub returns-else-scope-to : goal.returns-else-scope-to
returns-else-scope-to c =
    let o = shape_of c.args.outline.now in
    let turn = c.requires.is.0 in
    let to = c.args.to in
    let row = c.node-node.result.now in
    let s = slice_index o.own to in
    let low : to < length o.own = (let long = own_long c.args.outline.now in let within = c.requires.to in omega arith) in
    let before : List ℕ = ranks_and_turns o turn (last o c.kept.ensures c.args.from to turn low c.requires.same c.requires.outer).0 ++ header_rank o s ∷ [] in
    let heads_not = λ (e : header_of o.scopes s ≡ to). c.if-scope-to.false (header_is c.args.outline.now row.scope c.scope.result.now c.scope.ensures ∙ ap (λ (t : ℕ). header_of o.scopes t) (sym (scope_is c.args.outline.now to row c.node-node.ensures)) ∙ e) in
    IfOk-weaker c.with_rank.result
    (λ made. (front : List ℕ) (two : ℕ) → c.args.position.items ≡ front ++ two ∷ [] → made.items ≡ front ++ row.rank ∷ [])
    (λ made. made.items ≡ moved_position o c.args.from c.args.position.items to)
    (λ made all.
    all (before ++ turn s ∷ []) (slice_index o.ranks c.args.from) (c.requires.is.1 ∙ begins_with o c.kept.ensures c.args.from to turn low c.requires.same c.requires.outer ∙ sym (append_assoc before (turn s ∷ []) (slice_index o.ranks c.args.from ∷ [])))
    ∙ append_assoc before (turn s ∷ []) (row.rank ∷ [])
    ∙ ap (λ (k : ℕ). before ++ turn s ∷ k ∷ []) (rank_is c.args.outline.now to row c.node-node.ensures)
    ∙ sym (ends_with o c.kept.ensures c.args.from to turn low c.requires.same c.requires.outer (turn s) (entered_not o to s (turn s) heads_not))
    ∙ ap (λ (xs : List ℕ). moved_position o c.args.from xs to) (sym c.requires.is.1))
    c.with_rank.ensures
