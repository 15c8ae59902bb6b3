-- Work over files, in its order.
--   Work A     steps with the proofs that told files have one answer, and that it is made of what was read alone: a
--              command that is written in these has both by its type
--   reads, judged, done, stop, ◌>>=◌    how work is put together
--   EndsSo w told before ending after   how work ends
--   HasOneEnding w files                told files have one ending
--   EndsByReadings w                    each ending is made of what was read
use Rattle.std.specs.Prelude.{◌≡◌, ℕ, List, Result, Option, None, Some}
use Rattle.flow_base.specs.Outside.{Files}
use Rattle.command_plans.specs.declared.reading.Role.{Role}
use Rattle.command_plans.specs.Outcome.{Outcome, AreAlikeEndings, Ending, Finished, Stopped, ending_unread}
use Rattle.command_plans.specs.Log.{Log, GrewAlike}
pub use Rattle.command_plans.specs.Steps.{Steps, IsOnly, read_steps, judged_steps, done_steps, stop_steps, then_steps}
pub use Rattle.command_plans.specs.OneAnswer.{IsOne, alike, read_one, judged_one, done_one, stop_one, then_one}
pub use Rattle.command_plans.specs.Readings.{Reading, HoldRead, IsMadeOf, IsOfNames, IsReadAlone, read_alone, judged_alone, done_alone, stop_alone, then_alone}

pub record Work (A : Type 0) : Type 1 where
  pub steps : Steps A
  pub one : IsOne steps
  pub alone : IsReadAlone steps

-- ---- work

-- the bytes of a file
abbrev pub reads : Role → List ℕ → ℕ → List ℕ → Work (List ℕ)
reads role file limit line = record { steps = read_steps role file limit line; one = read_one role file limit line; alone = read_alone role file limit line }

-- the value or the outcome that something means
abbrev pub judged : {A : Type 0} → (Result A Outcome → Type 0) → Work A
judged Means = record { steps = judged_steps Means; one = judged_one Means; alone = judged_alone Means }

abbrev pub done : {A : Type 0} → A → Work A
done a = record { steps = done_steps a; one = done_one a; alone = done_alone a }

abbrev pub stop : {A : Type 0} → Outcome → Work A
stop outcome = record { steps = stop_steps outcome; one = stop_one outcome; alone = stop_alone outcome }

infixl 10 ◌>>=◌
abbrev pub ◌>>=◌ : {A B : Type 0} → Work A → (A → Work B) → Work B
w >>= k = record { steps = then_steps w.steps (λ a. (k a).steps); one = then_one w.one (λ a. (k a).one); alone = then_alone w.alone (λ a. (k a).alone) }

-- ---- answers

-- how work ends over these files, where they are told
abbrev pub EndsSo : Work (List ℕ) → Option Files → Log → Ending → Log → Type 0
EndsSo w told before (Finished text) after = w.steps.Gives told before text after
EndsSo w told before (Stopped outcome) after = w.steps.Stops told before outcome after

-- whatever was read before, told files have endings that are alike, and the same names are read, but for failed reads
abbrev pub HasOneEnding : Work (List ℕ) → Files → Type 0
HasOneEnding w files = (p q : Log) (x y : Ending) (m n : Log) → ending_unread x ≡ None → ending_unread y ≡ None
    → EndsSo w (Some files) p x m → EndsSo w (Some files) q y n → AreAlikeEndings x y × GrewAlike p m q n

-- each ending but a failed read is made of what was read
abbrev pub EndsByReadings : Work (List ℕ) → Type 0
EndsByReadings w = (told : Option Files) (before : Log) (ending : Ending) (after : Log) → ending_unread ending ≡ None
    → EndsSo w told before ending after → IsOfNames told before after (λ files log later. EndsSo w files log ending later)
