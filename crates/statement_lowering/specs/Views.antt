-- What the code's values stand for.
--   target within k         the label of this number; none where there is no number
--   around_of code around   where `break` and `continue` lead
--   known_after known s     the words, and the scopes after a statement
--   with_declared kind known locals   the words, and the scopes after declared locals
use Rattle.std.specs.Prelude.{ℕ, List, [], Option, None, Some}
use Rattle.c_unit.specs.declared.types.Integer.{Integer}
use Rattle.c_unit.specs.Tree.{LocalTree, Statement}
use Rattle.c_rules.specs.Statements.{scopes_after, with_locals}
use Rattle.c_scopes.specs.Views.{Known}
use Rattle.c_lowered.specs.Conditions.{Within, label}
use Rattle.c_lowered.specs.Statements.{Around}
use Rattle.condition_lowering.specs.declared.code.Code.{Code}
use Rattle.condition_lowering.specs.Views.{within_of}
use Rattle.statement_lowering.specs.declared.context.Targets.{Targets}

abbrev pub target : Within → Option ℕ → List ℕ
target within None = []
target within (Some k) = label within k

abbrev pub around_of : Code → Targets → Around
around_of code targets = record { break = target (within_of code) targets.leave; continue = target (within_of code) targets.again }

abbrev pub known_after : Known → Statement → Known
known_after known s = record known { scopes = scopes_after known.scopes s }

abbrev pub with_declared : Integer → Known → List LocalTree → Known
with_declared kind known locals = record known { scopes = with_locals kind known.scopes locals }
