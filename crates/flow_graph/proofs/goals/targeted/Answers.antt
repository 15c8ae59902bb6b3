use Rattle.std.proofs.Common.{◌≡◌, ◌≤◌, ℕ, List, Option, Some, ◌++◌, map, drop, length, append-nil, ap, sym, ◌∙◌, rules}
use Rattle.std.proofs.Math.ListN.{drop_of_length-le}
use Rattle.flow_graph.proofs.Targets.{switch_goes}
use Rattle.flow_graph.proofs.goals.targeted.Goals as goal

-- all has been read
all_read : (xs : List (Option ℕ)) (ns : List ℕ) (k : ℕ) → length ns ≤ k
    → xs ++ map (λ (n : ℕ). Some n) (drop k ns) ≡ map (λ (n : ℕ). Some n) ns → xs ≡ map (λ (n : ℕ). Some n) ns
all_read xs ns k past e = sym (append-nil xs) ∙ sym (ap (λ (rest : List ℕ). xs ++ map (λ (n : ℕ). Some n) rest) (drop_of_length-le ns past)) ∙ e

pub returns : goal.returns
returns c =
    let numbers : List ℕ = c.in_ok-numbers.numbers.items in
    let read = all_read c.loop-number.blocks.items c.deref-number-items.result.now c.loop-number.number-index c.loop-number-test.false c.loop-number.invariant in
    let path_is : c.in_ok-path.path.items ≡ c.args.path.now = search rules in
    switch_goes _ c.args.path.now c.args.targets.now c.args.others numbers path_is
    (read ∙ ap (λ (ns : List ℕ). map (λ (n : ℕ). Some n) ns) c.deref-number-items.ensures.value)
    c.in_ok-numbers.ensures.each c.in_ok-numbers.ensures.ascends
