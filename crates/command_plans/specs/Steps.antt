-- Steps over files, in their order.
--   Steps A    gives a value or stops with an outcome, and reads files on the way
--   IsOnly Means x   this is meant, and all that is meant is alike
--   read_steps, judged_steps, done_steps, stop_steps, then_steps   how steps are put together
use Rattle.std.specs.Prelude.{◌≡◌, ◌≤◌, ◌<◌, ℕ, List, length, Result, Ok, Err, Option, ◌⊎◌, Some, IfSome, IsSomeAnd}
use Rattle.flow_base.specs.Outside.{Files}
use Rattle.command_plans.specs.declared.reading.Role.{Role}
use Rattle.command_plans.specs.Outcome.{Outcome, AreAlikeResults, refused}
use Rattle.command_plans.specs.Log.{Log, log_with}
use Rattle.command_plans.specs.Roles.{unread}

-- `Gives told before a after`: over these files, where they are told, the value is a, and the log goes from `before` to
-- `after`. `Stops told before outcome after`: the work stops with this outcome.
pub record Steps (A : Type 0) : Type 1 where
  pub Gives : Option Files → Log → A → Log → Type 0
  pub Stops : Option Files → Log → Outcome → Log → Type 0

-- the bytes of a file of at most so many; the read may fail, or the file be too long, which this line tells
abbrev pub read_steps : Role → List ℕ → ℕ → List ℕ → Steps (List ℕ)
read_steps role file limit line = record {
  Gives = λ told before bytes after. (after ≡ log_with before file) × (length bytes ≤ limit) × IfSome told (λ files. files file ≡ Some bytes);
  Stops = λ told before outcome after. (after ≡ log_with before file) × ((outcome ≡ unread role file)
      ⊎ ((outcome ≡ refused line) × IfSome told (λ files. IsSomeAnd (files file) (λ bytes. limit < length bytes))));
}

-- this is meant, and all that is meant is alike
pub record IsOnly {A : Type 0} (Means : Result A Outcome → Type 0) (x : Result A Outcome) : Type 0 where
  pub means : Means x
  pub only : (y : Result A Outcome) → Means y → AreAlikeResults x y

-- the value or the outcome that something means
abbrev pub judged_steps : {A : Type 0} → (Result A Outcome → Type 0) → Steps A
judged_steps Means = record {
  Gives = λ told before a after. IsOnly Means (Ok a) × (after ≡ before);
  Stops = λ told before outcome after. IsOnly Means (Err outcome) × (after ≡ before);
}

abbrev pub done_steps : {A : Type 0} → A → Steps A
done_steps a = record { Gives = λ told before b after. (b ≡ a) × (after ≡ before); Stops = λ told before outcome after. ⊥ }

abbrev pub stop_steps : {A : Type 0} → Outcome → Steps A
stop_steps o = record { Gives = λ told before b after. ⊥; Stops = λ told before outcome after. (outcome ≡ o) × (after ≡ before) }

-- the first, and then the next with what it gave; it stops where the first stops, or after it where the next does
abbrev pub then_steps : {A B : Type 0} → Steps A → (A → Steps B) → Steps B
then_steps {A = A} w k = record {
  Gives = λ told before b after. (a : A) × (mid : Log) × w.Gives told before a mid × (k a).Gives told mid b after;
  Stops = λ told before outcome after. w.Stops told before outcome after ⊎ ((a : A) × (mid : Log) × w.Gives told before a mid × (k a).Stops told mid outcome after);
}
