-- Numbers of functions, by the order of their definitions.
--   Made                       the words of a unit, and the names of definitions in order, as tokens
--   made_by x                  what stands at file level defines a function of this name
--   number_named words names text   the number of the function of this name
use Rattle.std.specs.Prelude.{ℕ, ◌+◌, List, [], ◌∷◌, Option, Some, None, if◌then◌else◌}
use Rattle.std.specs.Option.{option_map}
use Rattle.std.specs.Str.{bytes_eq}
use Rattle.c_unit.specs.Tree.{ExternalTree, Declaration, Definition}
use Rattle.c_unit.specs.Units.{Word}
use Rattle.c_rules.specs.Names.{text_at}

pub record Made : Type 0 where
  pub words : List Word
  pub names : List ℕ

-- the name of the function that is defined here, if one is
abbrev pub made_by : ExternalTree → List ℕ
made_by (Declaration first o ds) = []
made_by (Definition first o name params body) = name ∷ []

-- the number of the first function of this name
abbrev pub number_named : List Word → List ℕ → List ℕ → Option ℕ
number_named words [] text = None
number_named words (name ∷ names) text = if bytes_eq (text_at words name) text then Some 0 else option_map (λ n. n + 1) (number_named words names text)
