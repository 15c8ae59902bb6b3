-- What is left to show of `are_zeros`.
use Rattle.std.proofs.Common.{◌≡◌, ◌<◌, ◌+◌, ◌++◌, ◌∷◌, [], ℕ, List, take, length, get_or, replicate, ap, sym, refl, ◌∙◌, arith}
use Rattle.std.proofs.lemmas.List.{take_all, take_more, replicate_more}
use Rattle.flow_recorders.proofs.small.are_zeros.Goals as goal

-- one zero more
zero_more : (xs : List ℕ) (i : ℕ) → i < length xs → get_or xs i 0 ≡ 0 → take i xs ≡ replicate i 0
    → take (i + 1) xs ≡ replicate (i + 1) 0
zero_more xs i low is zeros =
    take_more xs i 0 low ∙ ap (λ (n : ℕ). take i xs ++ n ∷ []) is ∙ ap (λ (ys : List ℕ). ys ++ 0 ∷ []) zeros ∙ replicate_more i 0

pub loop-count-preserved : goal.loop-count-preserved
loop-count-preserved c = zero_more c.args.counts.now c.loop-count.count-index (omega (arith, c.loop-count-test.true)) (omega (arith, c.if-count-gt0.false)) c.loop-count.invariant

pub returns : goal.returns
returns c =
    let all : c.loop-count.count-index ≡ length c.args.counts.now = omega (arith, c.loop-count-test.false) in
    (λ _. sym (take_all c.loop-count.count-index c.args.counts.now (omega arith)) ∙ c.loop-count.invariant ∙ ap (λ (n : ℕ). replicate n 0) all, λ _. refl)
