-- How often labels stand among items.
--   one b                 1 where it holds, else 0
--   count name items      how often the label of this name stands among the items
--   below n k             1 where k is below n, else 0
use Rattle.std.specs.Prelude.{ℕ, ◌+◌, ltb, Bool, true, false, List, [], ◌∷◌}
use Rattle.std.specs.Str.{bytes_eq}
use Rattle.alf_program.specs.Tree.{BodyItem, Label, Do}

abbrev pub one : Bool → ℕ
one true = 1
one false = 0

abbrev pub count : List ℕ → List BodyItem → ℕ
count name [] = 0
count name (Label label ∷ items) = one (bytes_eq label name) + count name items
count name (Do act ∷ items) = count name items

unfoldable pub below : ℕ → ℕ → ℕ
below n k = one (ltb k n)
