-- Locals that are checked one after the other.
--   IsUnderWay defined kind all rest before now   the rest has the faults of all, and leads to the same scopes
use Rattle.std.proofs.Common.{◌≡◌, ℕ, List}
use Rattle.c_unit.specs.declared.types.Integer.{Integer}
use Rattle.c_unit.specs.Tree.{LocalTree}
use Rattle.c_rules.specs.Statements.{locals_faults}
use Rattle.c_scopes.specs.Views.{Known}
use Rattle.c_faults.specs.Known.{with_declared}

pub record IsUnderWay (defined : List ℕ) (kind : Integer) (all rest : List LocalTree)
    (before now : Known) : Type 0 where
  pub words : now.words ≡ before.words
  pub faults : locals_faults before.words defined kind before.scopes all ≡ locals_faults before.words defined kind now.scopes rest
  pub known : with_declared kind before all ≡ with_declared kind now rest
