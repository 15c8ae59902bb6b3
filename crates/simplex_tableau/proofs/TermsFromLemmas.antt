-- Laws of terms from.
--   dropped_within   they ascend, begin there, and keep the width
use Rattle.std.proofs.Common.{ℕ, ℤ, List, [], ◌∷◌}
use Rattle.std.specs.Prelude.{nat_lt}
use Rattle.lists.specs.TestLaws.{by_test}
use Rattle.ipet_rows.specs.Programs.{IsWithin}
use Rattle.simplex_tableau.specs.Choosing.{dropped}

pub dropped_within : (w p : ℕ) (ts : List (ℕ × ℤ)) → IsWithin w ts → IsWithin w (dropped p ts)
dropped_within w p [] within = tt
dropped_within w p (t ∷ ts) within = by_test (nat_lt t.0 p) (λ e. rw e (dropped_within w p ts within.1)) (λ e. rw e within)
