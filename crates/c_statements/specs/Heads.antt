-- A statement by its head, which is read first, and what follows the head. `HeadsLaws` of proofs/ shows that
-- this reads what the rules of `c_grammar` read.
--   ControlTree       the word of a statement in which another stands, and what is read between them
--   HeadTree          a statement, as far as it was read before any that stands in it
--   placed_head s     the head of what stands at a place of kind s
--   after_head inner h   what follows the head, where `inner` is what stands in statements
use Rattle.std.specs.Prelude.{◌&&◌, Bool, true, false, Option, Some, None, codes}
use Rattle.grammar.specs.Rule.{value, weaken, ◌>>=◌, ◌>>◌, many, maybe}
use Rattle.c_unit.specs.Tree.{Expression, EffectTree, Statement, Block, While, Do, Switch, expression_of, effect_of, statement_of, statements_of, if_of, for_of}
use Rattle.std.specs.Option.{option_map}
use Rattle.c_grammar.specs.declared.others.Others.{Others}
use Rattle.c_grammar.specs.declared.others.Others.TheVariants as others
use Rattle.c_grammar.specs.declared.standing.Standing.{Standing}
use Rattle.c_grammar.specs.declared.standing.Standing.TheVariants as standings
use Rattle.c_grammar.specs.Symbols.{is_specifier, is_label}
use Rattle.c_grammar.specs.Tokens.{Seen, Rule, mark, sees, sees_symbol, either}
use Rattle.c_grammar.specs.Types.{close_brace}
use Rattle.c_grammar.specs.Expressions.{open_paren, some_token}
use Rattle.c_grammar.specs.Statements.{Inside, after_word, at_else, controlling, declaration, effect_statement, else_part, empty_statement, for_condition, for_first, for_last, in_block, is_statement, items_of, label, leaving_after, semicolon, switch_value, while_word}
use Rattle.c_statements.specs.declared.heads.Control.{Control}
use Rattle.c_statements.specs.declared.heads.Control.TheVariants as controls
use Rattle.c_statements.specs.declared.heads.Head.{Head}
use Rattle.c_statements.specs.declared.heads.Head.TheVariants as heads

pub data ControlTree : Type 0 where
  OfIf : Expression → ControlTree
  OfWhile : Expression → ControlTree
  OfDo : ControlTree
  OfFor : Option Statement → Option Expression → Option EffectTree → ControlTree

pub data HeadTree : Type 0 where
  -- no statement stands in it
  Whole : Statement → HeadTree
  -- a brace is open, and what stands in the block is of this kind
  InBraces : Standing → HeadTree
  -- a switch, after its value
  AtSwitch : Expression → HeadTree
  Controls : ControlTree → HeadTree

abbrev pub control_of : Control → ControlTree
control_of (controls.If condition) = OfIf (expression_of condition)
control_of (controls.While condition) = OfWhile (expression_of condition)
control_of controls.Do = OfDo
control_of (controls.For first condition after) = OfFor (option_map (λ s. statement_of s.value) first) (option_map expression_of condition) (option_map effect_of after)

abbrev pub head_of : Head → HeadTree
head_of (heads.Whole stmt) = Whole (statement_of stmt)
head_of (heads.InBraces place) = InBraces place
head_of (heads.AtSwitch e) = AtSwitch (expression_of e)
head_of (heads.Controls control) = Controls (control_of control)

-- ---- heads

unfoldable pub if_head : Rule true HeadTree
if_head = do
  c ← controlling
  value (Controls (OfIf c))

unfoldable pub while_head : Rule true HeadTree
while_head = do
  c ← controlling
  value (Controls (OfWhile c))

unfoldable pub for_head : Rule true HeadTree
for_head = do
  open_paren
  f ← for_first
  c ← for_condition
  e ← for_last
  value (Controls (OfFor f c e))

unfoldable pub switch_head : Rule true HeadTree
switch_head = do
  e ← switch_value
  value (AtSwitch e)

unfoldable pub leaving_head : Seen → Rule true HeadTree
leaving_head t = do
  s ← leaving_after t
  value (Whole s)

-- after the first word
unfoldable pub worded_head_after : Seen → Rule false HeadTree
worded_head_after t =
    after_word (codes "if") t (weaken if_head)
    (after_word (codes "while") t (weaken while_head)
    (after_word (codes "do") t (value (Controls OfDo))
    (after_word (codes "for") t (weaken for_head)
    (after_word (codes "switch") t (weaken switch_head)
    (weaken (leaving_head t))))))

unfoldable pub worded_head : Rule true HeadTree
worded_head = do
  t ← some_token
  worded_head_after t

unfoldable pub empty_head : Rule true HeadTree
empty_head = do
  s ← empty_statement
  value (Whole s)

unfoldable pub block_head : Others → Standing → Rule true HeadTree
block_head o place = do
  mark (codes "{") o
  value (InBraces place)

unfoldable pub effect_head : Others → Rule true HeadTree
effect_head o = do
  s ← effect_statement o
  value (Whole s)

unfoldable pub unworded_long_head : Others → Rule true HeadTree
unworded_long_head o = do
  b ← sees (codes "{")
  either b (block_head others.Nothing standings.Item) (effect_head o)

unfoldable pub unworded_head : Others → Rule true HeadTree
unworded_head o = do
  e ← sees (codes ";")
  either e empty_head (unworded_long_head o)

unfoldable pub statement_head : Others → Rule true HeadTree
statement_head o = do
  w ← sees_symbol is_statement
  either w worded_head (unworded_head o)

unfoldable pub declared_head : Rule true HeadTree
declared_head = do
  s ← declaration
  value (Whole s)

unfoldable pub item_head : Others → Rule true HeadTree
item_head o = do
  d ← sees_symbol is_specifier
  either d declared_head (statement_head o)

unfoldable pub label_head : Rule true HeadTree
label_head = do
  s ← label
  value (Whole s)

unfoldable pub switch_item_head : Rule true HeadTree
switch_item_head = do
  l ← sees_symbol is_label
  either l label_head (item_head others.Nothing)

unfoldable pub placed_head : Standing → Rule true HeadTree
placed_head standings.Part = statement_head others.Labels
placed_head standings.Item = item_head others.Labels
placed_head standings.SwitchItem = switch_item_head
placed_head standings.SwitchBlock = block_head others.Statements standings.SwitchItem

-- ---- what follows a head

abbrev pub is_if : ControlTree → Bool
is_if (OfIf c) = true
is_if _ = false

-- the rest of a `do`, after its body
unfoldable pub do_tail : Rule true (Option Expression)
do_tail = do
  while_word
  c ← controlling
  semicolon others.Nothing
  value (Some c)

-- what is read after the body and what is done otherwise
unfoldable pub control_tail : ControlTree → Rule false (Option Expression)
control_tail OfDo = weaken do_tail
control_tail _ = value None

-- of a `do` with the condition in its tail
abbrev pub do_of : Statement → Option Expression → Statement
do_of s None = s
do_of s (Some c) = Do s c

-- the statement, from its parts
abbrev pub control_tree : ControlTree → Statement → Option Statement → Option Expression → Statement
control_tree (OfIf c) s e t = if_of c s e
control_tree (OfWhile c) s e t = While c s
control_tree OfDo s e t = do_of s t
control_tree (OfFor f c a) s e t = for_of f c a s

unfoldable pub controlled : Inside → ControlTree → Rule true Statement
controlled inner c = do
  s ← inner standings.Part
  e ← maybe (λ at. is_if c && at_else at) (else_part inner)
  t ← control_tail c
  value (control_tree c s e t)

unfoldable pub switched : Inside → Expression → Rule true Statement
switched inner v = do
  b ← inner standings.SwitchBlock
  value (Switch v (items_of b))

unfoldable pub braced : Rule true Statement → Rule true Statement
braced item = do
  ss ← many in_block item
  close_brace
  value (Block (statements_of ss))

unfoldable pub after_head : Inside → HeadTree → Rule false Statement
after_head inner (Whole s) = value s
after_head inner (InBraces place) = weaken (braced (inner place))
after_head inner (AtSwitch v) = weaken (switched inner v)
after_head inner (Controls c) = weaken (controlled inner c)

-- what stands at a place of this kind, by its head
unfoldable pub headed : Inside → Standing → Rule true Statement
headed inner place = do
  h ← placed_head place
  after_head inner h
