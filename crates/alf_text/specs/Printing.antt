-- Printing, token by token.
--   put text mark        the text with the mark after it
--   all_put text marks   the text with the marks after it
use Rattle.std.specs.Prelude.{ℕ, List, ◌++◌}
use Rattle.std.specs.List.{fold}
use Rattle.alf_tokens.specs.Printed.{Mark, printed}

unfoldable pub put : List ℕ → Mark → List ℕ
put text mark = text ++ printed mark

abbrev pub all_put : List ℕ → List Mark → List ℕ
all_put text marks = fold put text marks
