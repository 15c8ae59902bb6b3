-- Laws of turns.
--   chain_fails   so too where memory may have run out
use Rattle.std.proofs.Common.{◌≡◌, ℕ, zero, suc, ◌<◌, Bool, true, Ok, Err, Option, Some, None, sym, arith}
use Rattle.grammar.specs.Form.{At, left, Fails}
use Rattle.grammar.specs.Rule.{Rule}
use Rattle.grammar.specs.Chain.{in_turn, grow}
use Rattle.grammar.specs.Turns.{ChainSoFar}

module _ {T R F A : Type 0} (goes_on : A → At T R → Bool) (p : A → Rule T R F true A) where
  pub chain_goes_on : (x y : A) (rest start : At T R) (z : A) (next : At T R) → goes_on y rest ≡ true
      → (p y).form.reading rest ≡ Ok (z, next) → ChainSoFar {T = T} {R = R} {F = F} {A = A} goes_on p x y rest start
      → ChainSoFar {T = T} {R = R} {F = F} {A = A} goes_on p x z next start
  chain_goes_on x y rest start z next o e so = at_turns so.turns so.enough so.goes
    where
      at_turns : (turns : ℕ) → left rest < turns
          → in_turn goes_on (λ y. (p y).form) turns y rest ≡ (grow goes_on p x).form.reading start
          → ChainSoFar {T = T} {R = R} {F = F} {A = A} goes_on p x z next start
      at_turns zero enough goes = absurd (omega arith)
      at_turns (suc n) enough goes =
          let less : left next < left rest = (p y).exact.shrinks rest (z, next) e in
          record { turns = n; enough = omega arith; goes = rw (o, e) at goes }

  chain_errs : (x y : A) (rest start : At T R) (f : F) → goes_on y rest ≡ true → (p y).form.reading rest ≡ Err f
      → ChainSoFar {T = T} {R = R} {F = F} {A = A} goes_on p x y rest start
      → (grow goes_on p x).form.reading start ≡ Err f
  chain_errs x y rest start f o e so = at_turns so.turns so.enough so.goes
    where
      at_turns : (turns : ℕ) → left rest < turns
          → in_turn goes_on (λ y. (p y).form) turns y rest ≡ (grow goes_on p x).form.reading start
          → (grow goes_on p x).form.reading start ≡ Err f
      at_turns zero enough goes = absurd (omega arith)
      at_turns (suc n) enough goes = sym (rw (o, e) at goes)

  -- so too where memory may have run out
  pub chain_fails : (x y : A) (rest start : At T R) (fault : Option F) → goes_on y rest ≡ true
      → Fails fault ((p y).form.reading rest) → ChainSoFar {T = T} {R = R} {F = F} {A = A} goes_on p x y rest start
      → Fails fault ((grow goes_on p x).form.reading start)
  chain_fails x y rest start None o e so = tt
  chain_fails x y rest start (Some f) o e so = chain_errs x y rest start f o e so
