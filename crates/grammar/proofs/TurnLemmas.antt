-- Laws of turns.
use Rattle.std.proofs.Common.{◌≡◌, ℕ, zero, suc, ◌<◌, Bool, true, false, Ok, refl, sym, arith}
use Rattle.grammar.specs.Form.{At, left}
use Rattle.grammar.specs.Rule.{Rule}
use Rattle.grammar.specs.Chain.{in_turn, grow}
use Rattle.grammar.specs.Turns.{ChainSoFar}

module _ {T R F A : Type 0} (goes_on : A → At T R → Bool) (p : A → Rule T R F true A) where
  pub chain_starts : (x : A) (start : At T R) → ChainSoFar {T = T} {R = R} {F = F} {A = A} goes_on p x x start start
  chain_starts x start = record { turns = suc (left start); enough = omega arith; goes = refl }

  pub chain_ends : (x y : A) (rest start : At T R) → goes_on y rest ≡ false
      → ChainSoFar {T = T} {R = R} {F = F} {A = A} goes_on p x y rest start
      → (grow goes_on p x).form.reading start ≡ Ok (y, rest)
  chain_ends x y rest start o so = at_turns so.turns so.enough so.goes
    where
      at_turns : (turns : ℕ) → left rest < turns
          → in_turn goes_on (λ y. (p y).form) turns y rest ≡ (grow goes_on p x).form.reading start
          → (grow goes_on p x).form.reading start ≡ Ok (y, rest)
      at_turns zero enough goes = absurd (omega arith)
      at_turns (suc n) enough goes = sym (rw o at goes)
