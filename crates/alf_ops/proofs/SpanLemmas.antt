-- Laws of spans.
--   one_fails                     where not all pass, there is one that fails
use Rattle.std.proofs.Common.{◌≡◌, sym, ℕ, suc, zero, Bool, false, map, arith, ◌+◌, ◌<◌, ◌≤◌}
use Rattle.std.specs.List.{list_all}
use Rattle.std.proofs.lemmas.Bool.{false≢true}
use Rattle.lists.specs.TestLaws.{by_test}
use Rattle.alf_ops.specs.Histories.{offsets}

module _ {A : Type 0} (test : A → Bool) (f : ℕ → A) where
  -- where not all pass, there is a byte that does not
  pub one_fails : (offset count : ℕ) → list_all test (map f (offsets offset count)) ≡ false
      → (byte : ℕ) × (offset ≤ byte) × (byte < offset + count) × (test (f byte) ≡ false)
  one_fails offset zero some = absurd (false≢true (sym some))
  one_fails offset (suc count) some = by_test (test (f offset))
      (λ here.
      let rest : list_all test (map f (offsets (suc offset) count)) ≡ false = rw here at some in
      let found = one_fails (suc offset) count rest in
      (found.0, omega (arith, found.1), omega (arith, found.2), found.3))
      (λ there. (offset, omega arith, omega arith, there))
