-- Units that some text spells.
--   SpelledUnitsArePlain     in each function of a unit that some text spells && and || stand in conditions alone
--   SpelledUnitsAreShallow   and at most ten operators are nested in each value and each condition
use Rattle.std.specs.Prelude.{◌≡◌, ◌≤◌, ℕ, Some, slice_get}
use Rattle.c_unit.specs.Tree.{Expression}
use Rattle.c_unit.specs.Measures.{depth_of}
use Rattle.c_unit.specs.Units.{UnitTree}
use Rattle.c_text.specs.Language.{IsSpelled}
use Rattle.c_meaning.specs.Objects.{Function, functions_of}
use Rattle.c_rules.specs.SpelledExpressions.{InStatements}
use Rattle.lowering_simulation.specs.Plain.{StatementsArePlain}

abbrev pub SpelledUnitsArePlain : Type 0
SpelledUnitsArePlain = (unit : UnitTree) → IsSpelled unit → (f : ℕ) (function : Function) → slice_get (functions_of unit) f ≡ Some function → StatementsArePlain function.body

-- at most ten operators are nested in the expression
abbrev pub IsShallow : Expression → Type 0
IsShallow e = depth_of e ≤ 10

abbrev pub SpelledUnitsAreShallow : Type 0
SpelledUnitsAreShallow = (unit : UnitTree) → IsSpelled unit → (f : ℕ) (function : Function) → slice_get (functions_of unit) f ≡ Some function → InStatements IsShallow IsShallow function.body
