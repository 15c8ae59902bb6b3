-- Who calls whom in a unit.
--   calls_in s              the names of calls in a statement, as tokens, in the order of the text; so called_in of statements in a row
--   number_at words names token   the number of the function of this name, by the order of definitions
--   calls_of unit           for each function that is defined the numbers of those that it calls
--   names_of unit path      the names of functions by their numbers
use Rattle.std.specs.Prelude.{ℕ, ◌+◌, List, [], ◌∷◌, ◌++◌, map, Option, Some, None, slice_index_or, if◌then◌else◌}
use Rattle.std.specs.Option.{option_map}
use Rattle.std.specs.Str.{bytes_eq}
use Rattle.c_unit.specs.Tree.{ValueTree, OfExpression, OfCall, EffectTree, Assigns, Updates, Steps, Calls, LocalShapeTree, LocalInteger, LocalPointer, LocalArray, LocalTree, Statement, Empty, Declares, Block, If, IfElse, While, Do, For, ForAfter, Switch, Case, Default, Break, Continue, Returns, Does, Statements, Nothing, Then, ExternalTree, Declaration, Definition, statements_of}
use Rattle.c_unit.specs.Units.{Word, UnitTree}
use Rattle.c_rules.specs.Names.{text_at}
use Rattle.c_rules.specs.Units.{definitions}

abbrev pub calls_in_value : ValueTree → List ℕ
calls_in_value (OfExpression e) = []
calls_in_value (OfCall call) = call.name ∷ []

abbrev pub calls_if_valued : Option ValueTree → List ℕ
calls_if_valued None = []
calls_if_valued (Some value) = calls_in_value value

abbrev pub calls_in_effect : EffectTree → List ℕ
calls_in_effect (Assigns to token value) = calls_in_value value
calls_in_effect (Updates to op token e) = []
calls_in_effect (Steps operand up token) = []
calls_in_effect (Calls call) = call.name ∷ []

abbrev pub calls_if_done : Option EffectTree → List ℕ
calls_if_done None = []
calls_if_done (Some effect) = calls_in_effect effect

abbrev pub calls_in_shape : LocalShapeTree → List ℕ
calls_in_shape (LocalInteger first) = calls_if_valued first
calls_in_shape (LocalPointer first) = calls_if_valued first
calls_in_shape (LocalArray size firsts) = []

abbrev pub calls_in_locals : List LocalTree → List ℕ
calls_in_locals [] = []
calls_in_locals (local ∷ locals) = calls_in_shape local.shape ++ calls_in_locals locals

abbrev mutual
  pub calls_in : Statement → List ℕ
  calls_in (Empty token) = []
  calls_in (Declares first kind locals) = calls_in_locals locals
  calls_in (Block body) = called_in body
  calls_in (If condition body) = calls_in body
  calls_in (IfElse condition body otherwise) = calls_in body ++ calls_in otherwise
  calls_in (While condition body) = calls_in body
  calls_in (Do body condition) = calls_in body
  calls_in (For condition after body) = calls_if_done after ++ calls_in body
  calls_in (ForAfter first condition after body) = calls_in first ++ (calls_if_done after ++ calls_in body)
  calls_in (Switch value body) = called_in body
  calls_in (Case token c) = []
  calls_in (Default token) = []
  calls_in (Break token) = []
  calls_in (Continue token) = []
  calls_in (Returns token value) = calls_if_valued value
  calls_in (Does effect) = calls_in_effect effect

  pub called_in : Statements → List ℕ
  called_in Nothing = []
  called_in (Then s rest) = calls_in s ++ called_in rest

-- the number of the function of this name
abbrev pub number_at : List Word → List ℕ → ℕ → Option ℕ
number_at words [] token = None
number_at words (name ∷ names) token = if bytes_eq (text_at words name) (text_at words token) then Some 0 else option_map (λ n. n + 1) (number_at words names token)

abbrev pub with_number : Option ℕ → List ℕ → List ℕ
with_number None numbers = numbers
with_number (Some n) numbers = n ∷ numbers

abbrev pub numbers_at : List Word → List ℕ → List ℕ → List ℕ
numbers_at words names [] = []
numbers_at words names (token ∷ tokens) = with_number (number_at words names token) (numbers_at words names tokens)

abbrev pub rows_of : List Word → List ℕ → List ExternalTree → List (List ℕ)
rows_of words names [] = []
rows_of words names (Declaration first o ds ∷ xs) = rows_of words names xs
rows_of words names (Definition first o name params body ∷ xs) = numbers_at words names (called_in (statements_of body)) ∷ rows_of words names xs

abbrev pub calls_of : UnitTree → List (List ℕ)
calls_of unit = rows_of unit.words (definitions unit.externals) unit.externals

abbrev pub names_of : UnitTree → List ℕ → List (List ℕ)
names_of unit path = map (λ n. text_at unit.words (slice_index_or (definitions unit.externals) n 0)) path
