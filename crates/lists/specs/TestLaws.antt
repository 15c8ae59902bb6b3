-- Cases by the result of a test.
--   by_test v f g   f where the test passes, and g where it does not
use Rattle.std.proofs.Common.{◌≡◌, Bool, true, false, refl}

-- what holds where a test passes and where it does not
pub by_test : {A : Type 0} (v : Bool) → (v ≡ true → A) → (v ≡ false → A) → A
by_test true passes fails = passes refl
by_test false passes fails = fails refl
