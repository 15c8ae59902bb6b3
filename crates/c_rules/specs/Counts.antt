-- What stands in statements, in the order of the text.
--   tokens_in s          the tokens of the locals that a statement declares
--   elements_in words s  how many elements its arrays have in all
use Rattle.std.specs.Prelude.{ℕ, ◌+◌, List, [], ◌∷◌, ◌++◌}
use Rattle.c_unit.specs.Tree.{LocalShapeTree, LocalInteger, LocalPointer, LocalArray, LocalTree, Statement, Empty, Declares, Block, If, IfElse, While, Do, For, ForAfter, Switch, Case, Default, Break, Continue, Returns, Does, Statements, Nothing, Then}
use Rattle.c_unit.specs.Units.{Word}
use Rattle.c_rules.specs.Names.{worth_at, number_of}

abbrev pub tokens_of : List LocalTree → List ℕ
tokens_of [] = []
tokens_of (local ∷ locals) = local.name ∷ tokens_of locals

abbrev pub elements_of : List Word → LocalShapeTree → ℕ
elements_of words (LocalInteger first) = 0
elements_of words (LocalPointer first) = 0
elements_of words (LocalArray size firsts) = number_of (worth_at words size)

abbrev pub elements_of_all : List Word → List LocalTree → ℕ
elements_of_all words [] = 0
elements_of_all words (local ∷ locals) = elements_of words local.shape + elements_of_all words locals

abbrev mutual
  pub tokens_in : Statement → List ℕ
  tokens_in (Empty token) = []
  tokens_in (Declares first kind locals) = tokens_of locals
  tokens_in (Block body) = all_tokens_in body
  tokens_in (If condition body) = tokens_in body
  tokens_in (IfElse condition body otherwise) = tokens_in body ++ tokens_in otherwise
  tokens_in (While condition body) = tokens_in body
  tokens_in (Do body condition) = tokens_in body
  tokens_in (For condition last body) = tokens_in body
  tokens_in (ForAfter first condition last body) = tokens_in first ++ tokens_in body
  tokens_in (Switch value body) = all_tokens_in body
  tokens_in (Case token c) = []
  tokens_in (Default token) = []
  tokens_in (Break token) = []
  tokens_in (Continue token) = []
  tokens_in (Returns token value) = []
  tokens_in (Does effect) = []

  pub all_tokens_in : Statements → List ℕ
  all_tokens_in Nothing = []
  all_tokens_in (Then s rest) = tokens_in s ++ all_tokens_in rest

abbrev mutual
  pub elements_in : List Word → Statement → ℕ
  elements_in words (Empty token) = 0
  elements_in words (Declares first kind locals) = elements_of_all words locals
  elements_in words (Block body) = all_elements_in words body
  elements_in words (If condition body) = elements_in words body
  elements_in words (IfElse condition body otherwise) = elements_in words body + elements_in words otherwise
  elements_in words (While condition body) = elements_in words body
  elements_in words (Do body condition) = elements_in words body
  elements_in words (For condition last body) = elements_in words body
  elements_in words (ForAfter first condition last body) = elements_in words first + elements_in words body
  elements_in words (Switch value body) = all_elements_in words body
  elements_in words (Case token c) = 0
  elements_in words (Default token) = 0
  elements_in words (Break token) = 0
  elements_in words (Continue token) = 0
  elements_in words (Returns token value) = 0
  elements_in words (Does effect) = 0

  pub all_elements_in : List Word → Statements → ℕ
  all_elements_in words Nothing = 0
  all_elements_in words (Then s rest) = elements_in words s + all_elements_in words rest
