-- What calls, values, effects and declarations count.
use Rattle.std.proofs.Common.{◌≡◌, ℕ, List}
use Rattle.c_unit.specs.Tree.{Statement}
use Rattle.c_unit.specs.Units.{Word}
use Rattle.c_rules.specs.Recursion.{calls_in}
use Rattle.c_rules.specs.SpelledExpressions.{InStatement}
use Rattle.c_rules.specs.Counts.{tokens_in, elements_in}
use Rattle.c_limits.specs.Spending.{Shallow}

module _ (words : List Word) where
  abbrev pub Is : {A : Type 0} → (A → List ℕ) → (A → List ℕ) → (A → ℕ) → (A → Type 0) → A → List ℕ → List ℕ → ℕ → Type 0
  Is D C E Q x ds calls el = (ds ≡ D x) × (calls ≡ C x) × (el ≡ E x) × Q x

  -- ---- locals

  abbrev pub IsStatement : Statement → List ℕ → List ℕ → ℕ → Type 0
  IsStatement = Is tokens_in calls_in (elements_in words) (InStatement Shallow Shallow)
