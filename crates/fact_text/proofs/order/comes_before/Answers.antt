-- What tests whether an order is less is that test.
use Rattle.std.proofs.Common.{◌≡◌, Bool, true, false, refl}
use Rattle.std.specs.Ordering.{is_lt}
use Rattle.std.specs.declared.cmp.Ordering.{Ordering}
use Rattle.std.specs.declared.cmp.Ordering.TheVariants.{Less, Equal, Greater}
use Rattle.std.specs.Prelude.{◌↔◌}
use Rattle.fact_text.specs.Grammar.{stands_before}
use Rattle.fact_text.proofs.order.comes_before.Goals as goal

tests_less : (b : Bool) (o : Ordering) → ((b ≡ true) ↔ (o ≡ Less)) → b ≡ is_lt o
tests_less true Less h = refl
tests_less true Equal h = absurd (let k : Equal ≡ Less = h.0 refl in cc)
tests_less true Greater h = absurd (let k : Greater ≡ Less = h.0 refl in cc)
tests_less false Less h = h.1 refl
tests_less false Equal h = refl
tests_less false Greater h = refl

pub returns : goal.returns
unfolding stands_before
returns c = tests_less _ _ c.stands_before.ensures
