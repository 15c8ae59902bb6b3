-- What stands at file level, and units.
--   declarator o   a name that is declared, after the type
--   external       a declaration or a function
--   unit           a whole text
use Rattle.std.specs.Prelude.{ℕ, ◌-◌, List, [], ◌∷◌, length, Bool, true, false, ◌&&◌, Ok, Option, Some, None, if◌then◌else◌, codes}
use Rattle.std.specs.Option.{is_some}
use Rattle.std.specs.List.{list_all}
use Rattle.grammar.specs.Form.{first}
use Rattle.grammar.specs.Rule.{judge, value, weaken, ◌>>=◌, ◌>>◌, many, maybe}
use Rattle.c_unit.specs.declared.types.Outcome.{Outcome}
use Rattle.c_unit.specs.declared.types.Outcome.TheVariants as outcomes
use Rattle.c_unit.specs.declared.types.Constant.{Constant}
use Rattle.c_unit.specs.declared.external.Parameter.{Parameter}
use Rattle.c_unit.specs.Tree.{Statement, ShapeTree, GlobalInteger, GlobalArray, FunctionOf, DeclaratorTree, ExternalTree, Declaration, Definition}
use Rattle.c_grammar.specs.declared.others.Others.{Others}
use Rattle.c_grammar.specs.declared.others.Others.TheVariants as others
use Rattle.c_grammar.specs.declared.specifiers.Setting.TheVariants as settings
use Rattle.c_grammar.specs.declared.standing.Standing.TheVariants as standings
use Rattle.c_grammar.specs.Tokens.{Seen, Place, Rule, mark, name, at_text, next_number, sees, before_either, either, one_function, some_frames, declares, most_nesting}
use Rattle.c_grammar.specs.Types.{type_of, integer_told, signed_constant, at_assign, assign_mark, comma_mark, at_list_comma, after_constant, array, close_brace, parameters}
use Rattle.c_grammar.specs.Expressions.{open_paren}
use Rattle.c_grammar.specs.Statements.{semicolon, in_block, standing}

-- ---- objects

-- = constant
unfoldable pub global_initial : Rule true Constant
global_initial = do
  assign_mark
  c ← signed_constant others.ExpressionsAndBraces
  value c

abbrev pub after_global : Option Constant → Others
after_global None = others.Nothing
after_global (Some c) = after_constant

unfoldable pub global_integer : Rule false ShapeTree
global_integer = do
  c ← maybe at_assign global_initial
  before_either (codes ",") (codes ";") (after_global c)
  value (GlobalInteger c)

unfoldable pub global_array : Rule true ShapeTree
global_array = do
  a ← array
  value (GlobalArray a.0 a.1)

-- an object, after its name
unfoldable pub object : Outcome → ℕ → Rule false DeclaratorTree
object o n = do
  integer_told others.Object o
  some_frames 1
  b ← sees (codes "[")
  s ← either b (weaken global_array) global_integer
  value (record { name = n; shape = s })

-- ---- functions

abbrev pub gives : Outcome → Bool
gives outcomes.Nothing = false
gives (outcomes.Integer i) = true

-- a function, after its name
unfoldable pub prototype : Outcome → Seen → Rule true DeclaratorTree
prototype o t = do
  open_paren
  ps ← parameters
  declares t.text (gives o)
  value (record { name = t.number; shape = FunctionOf ps })

unfoldable pub declarator : Outcome → Rule true DeclaratorTree
declarator o = do
  t ← name others.Stars
  f ← sees (codes "(")
  d ← either f (weaken (prototype o t)) (object o t.number)
  value d

unfoldable pub further_declarator : Outcome → Rule true DeclaratorTree
further_declarator o = do
  comma_mark
  d ← declarator o
  value d

-- each parameter has a name
abbrev pub all_named : List Parameter → Bool
all_named ps = list_all (λ p. is_some p.name) ps

-- the shape of a function whose parameters have names
abbrev pub may_be_defined : ShapeTree → Bool
may_be_defined (GlobalInteger c) = false
may_be_defined (GlobalArray n cs) = false
may_be_defined (FunctionOf ps) = all_named ps

-- the shape of a function some of whose parameters have none
abbrev pub lacks_names : ShapeTree → Bool
lacks_names (GlobalInteger c) = false
lacks_names (GlobalArray n cs) = false
lacks_names (FunctionOf ps) = if all_named ps then false else true

-- what might stand after a sole declarator
abbrev pub after_sole : DeclaratorTree → List DeclaratorTree → Others
after_sole d [] = if lacks_names d.shape then others.Braces else others.Nothing
after_sole d (e ∷ es) = others.Nothing

unfoldable pub declaration_after : ℕ → Outcome → DeclaratorTree → Rule true ExternalTree
declaration_after n o d = do
  ds ← many at_list_comma (further_declarator o)
  semicolon (after_sole d ds)
  value (Declaration n o (d ∷ ds))

abbrev pub parameters_of : ShapeTree → List Parameter
parameters_of (GlobalInteger c) = []
parameters_of (GlobalArray n cs) = []
parameters_of (FunctionOf ps) = ps

-- what stands in the block of a function
unfoldable pub body : Rule true (List Statement)
body = do
  ss ← many in_block (standing (most_nesting - 1) standings.Item)
  close_brace
  value ss

-- { .. }, where one more function is defined, which has a frame for each parameter
unfoldable pub open_body : ℕ → Rule true (Unit {0})
open_body count = do
  mark (codes "{") others.Nothing
  one_function
  some_frames count
  value tt

unfoldable pub definition_after : ℕ → Outcome → DeclaratorTree → Rule true ExternalTree
definition_after n o d = do
  open_body (length (parameters_of d.shape))
  ss ← body
  value (Definition n o d.name (parameters_of d.shape) ss)

-- the block of this function comes next
unfoldable pub sees_body : DeclaratorTree → Rule false Bool
sees_body d = judge (λ at. Ok (may_be_defined d.shape && at_text (codes "{") at))

unfoldable pub external_after : ℕ → Outcome → DeclaratorTree → Rule true ExternalTree
external_after n o d = do
  b ← sees_body d
  e ← either b (definition_after n o d) (declaration_after n o d)
  value e

-- a declaration or a function
unfoldable pub external : Rule true ExternalTree
external = do
  n ← next_number
  o ← type_of settings.File
  d ← declarator o
  e ← external_after n o d
  value e

-- something is left of the text
abbrev pub is_left : Place → Bool
is_left at = is_some (first at)

-- a whole text
unfoldable pub unit : Rule false (List ExternalTree)
unit = many is_left external
