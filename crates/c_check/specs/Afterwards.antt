-- What is known after statements.
--   known_after known s   the words, and the scopes after the statement
--   Stays before after    the words, and all scopes but the innermost
use Rattle.std.specs.Prelude.{◌≡◌}
use Rattle.c_unit.specs.Tree.{Statement}
use Rattle.c_rules.specs.Statements.{scopes_after}
use Rattle.c_scopes.specs.Views.{Known, others}

abbrev pub known_after : Known → Statement → Known
known_after known s = record known { scopes = scopes_after known.scopes s }

pub record Stays (before after : Known) : Type 0 where
  pub words : after.words ≡ before.words
  pub outer : others after.scopes ≡ others before.scopes
