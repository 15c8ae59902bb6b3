-- Parts that are checked one after the other.
--   IsUnderWay all rest before now        of parameters: the rest has the faults of all, and leads to the same scopes
--   AreUnderWay first o all rest before now   so of declarators, where the file has one scope
use Rattle.std.proofs.Common.{◌≡◌, ℕ, List}
use Rattle.c_unit.specs.declared.types.Outcome.{Outcome}
use Rattle.c_unit.specs.declared.external.Parameter.{Parameter}
use Rattle.c_unit.specs.Tree.{DeclaratorTree}
use Rattle.c_rules.specs.Names.{innermost}
use Rattle.c_rules.specs.Units.{params_faults}
use Rattle.c_scopes.specs.Views.{Known}
use Rattle.c_faults.specs.Files.{IsFile, with_params, declarators_faults, with_declarators}

pub record IsUnderWay (all rest : List Parameter) (before now : Known) : Type 0 where
  pub words : now.words ≡ before.words
  pub faults : params_faults before.words (innermost before.scopes) all ≡ params_faults before.words (innermost now.scopes) rest
  pub known : with_params all before ≡ with_params rest now

pub record AreUnderWay (first : ℕ) (o : Outcome) (all rest : List DeclaratorTree) (before now : Known) : Type 0 where
  pub file : IsFile now
  pub faults : declarators_faults before first o all ≡ declarators_faults now first o rest
  pub known : with_declarators o all before ≡ with_declarators o rest now
