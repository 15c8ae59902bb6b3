use Rattle.std.proofs.Common.{◌≡◌, ◌<◌, ◌+◌, ℕ, List, Some, inl, inr, get_or, slice_get, refl, sym, subst, arith}
use Rattle.std.proofs.lemmas.Option.{slice_get_within, get_or_from_slice_get}
use Rattle.std.proofs.lemmas.Bool.{cases_lt}
use Rattle.exec_toys.specs.declared.fork.Fork.{Fork}
use Rattle.exec_toys.specs.Charts.{IsWayAlong}
use Rattle.exec_toys.proofs.edges.are_forks_along.Goals as goal

-- what holds of the forks before one, and of this one, holds of those up to it
up_to : (P : ℕ → Fork → Type 0) (forks : List Fork) (n : ℕ) (default : Fork)
    → ((m : ℕ) (fork : Fork) → m < n → slice_get forks m ≡ Some fork → P m fork) → P n (get_or forks n default)
    → (m : ℕ) (fork : Fork) → m < n + 1 → slice_get forks m ≡ Some fork → P m fork
up_to P forks n default before here m fork low found =
    elim (cases_lt m n) [
      | inl less ↦ before m fork less found
      | inr over ↦
          let same : m ≡ n = omega arith in
          let found_here : slice_get forks n ≡ Some fork = subst (λ (k : ℕ). slice_get forks k ≡ Some fork) same found in
          subst (λ (k : ℕ). P k fork) (sym same) (subst (λ (f : Fork). P n f) (get_or_from_slice_get forks n fork default found_here) here)
    ]

pub returns : goal.returns
returns c = λ _ n fork found. c.loop-n.invariant n fork (let low = slice_get_within c.args.forks.now n fork found in omega (arith, c.loop-n-test.false)) found

pub loop-n-preserved : goal.loop-n-preserved
loop-n-preserved c =
    up_to (λ (m : ℕ) (fork : Fork). IsWayAlong c.args.outline.now.edges m fork.below × IsWayAlong c.args.outline.now.edges m fork.above) c.args.forks.now c.loop-n.n _ c.loop-n.invariant
    (c.if-not-is_way_along.ensures refl, c.if-not-is_way_along-2.ensures refl)
