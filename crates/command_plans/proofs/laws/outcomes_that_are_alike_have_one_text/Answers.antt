-- What is left to show of `outcomes_that_are_alike_have_one_text`.
use Rattle.std.proofs.Common.{◌≡◌, ◌≢◌, ℕ, List, refl}
use Rattle.command_plans.specs.Outcome.{Cause, Usage, Source, Example, Unbounded, No, Unread, LinesAgree}
use Rattle.command_plans.proofs.laws.outcomes_that_are_alike_have_one_text.Goals as goal

one_text : (cause : Cause) (a b : List ℕ) → cause ≢ Example → LinesAgree cause a b → a ≡ b
one_text Usage a b other agree = agree
one_text Source a b other agree = agree
one_text Example a b other agree = absurd (other refl)
one_text Unbounded a b other agree = agree
one_text No a b other agree = agree
one_text (Unread name) a b other agree = agree

pub returns : goal.returns
returns c = λ x y other alike. one_text x.cause x.text y.text other alike.lines
