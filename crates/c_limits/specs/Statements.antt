-- What statements count.
use Rattle.std.proofs.Common.{◌≡◌, ℕ, List}
use Rattle.std.specs.Prelude.{⊤}
use Rattle.c_unit.specs.Tree.{Statement, Block, Case, Default, While, Do, Switch, Statements}
use Rattle.c_unit.specs.Units.{Word}
use Rattle.c_grammar.specs.declared.standing.Standing.{Standing}
use Rattle.c_grammar.specs.declared.standing.Standing.TheVariants as standings
use Rattle.c_limits.specs.Effects.{IsStatement}

module _ (words : List Word) where
  -- ---- sums

  -- at the place of a switch's body a block stands
  abbrev pub IsBlock : Standing → Statement → Type 0
  IsBlock standings.SwitchBlock s = (ss : Statements) × (s ≡ Block ss)
  IsBlock standings.Part s = ⊤
  IsBlock standings.Item s = ⊤
  IsBlock standings.SwitchItem s = ⊤

  abbrev pub IsStanding : Standing → Statement → List ℕ → List ℕ → ℕ → Type 0
  IsStanding place s ds calls el = IsStatement words s ds calls el × IsBlock place s
