-- What is left to show of `add_all_owned`.
use Rattle.std.proofs.Common.{◌≡◌, ◌*◌, ℕ, List, [], drop, length, arith, ap, sym, ◌∙◌}
use Rattle.std.proofs.lemmas.List.{drop_all}
use Rattle.recorder_rules.specs.BitWords.{is_marked}
use Rattle.recorder_rules.specs.EndedNodes.{after_each}
use Rattle.recorder_rules.specs.EndedNodeLaws.{each_after}
use Rattle.pair_recorder.proofs.ending.add_all_owned.Goals as goal

pub returns : goal.returns
returns c b low =
    let l = c.loop-scope in
    let none : drop l.scope-index c.args.scopes.now ≡ [] = (let over = c.loop-scope-test.false in drop_all l.scope-index c.args.scopes.now (omega arith)) in
    ap (λ (ss : List ℕ). after_each (λ s. is_marked c.args.owned.now (s * length c.args.marks.now) b) (is_marked l.marks 0 b) ss) (sym none)
    ∙ l.invariant b low
    ∙ each_after (λ s. is_marked c.args.owned.now (s * length c.args.marks.now) b) (is_marked c.args.marks.now 0 b) c.args.scopes.now
