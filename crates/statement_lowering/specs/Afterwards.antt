-- What is known after statements in a row.
--   Stays before after    the words, and all scopes but the innermost
use Rattle.std.specs.Prelude.{◌≡◌}
use Rattle.c_scopes.specs.Views.{Known, others}

pub record Stays (before after : Known) : Type 0 where
  pub words : after.words ≡ before.words
  pub outer : others after.scopes ≡ others before.scopes
