-- Parts of a chain, read one after the other as a loop does.
--   ChainSoFar goes_on p x y rest start   from start on, where the chain begins with x, y was made, and the rest is to come
use Rattle.std.proofs.Common.{◌≡◌, ℕ, ◌<◌, Bool, true}
use Rattle.grammar.specs.Form.{At, left}
use Rattle.grammar.specs.Rule.{Rule}
use Rattle.grammar.specs.Chain.{in_turn, grow}

module _ {T R F A : Type 0} (goes_on : A → At T R → Bool) (p : A → Rule T R F true A) where
  pub record ChainSoFar (x y : A) (rest start : At T R) : Type 0 where
    pub turns : ℕ
    pub enough : left rest < turns
    pub goes : in_turn goes_on (λ y. (p y).form) turns y rest ≡ (grow goes_on p x).form.reading start
