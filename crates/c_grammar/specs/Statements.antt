-- Statements and local declarations.
--   effect p o last     what a statement or a part of a `for` does, where o might stand besides and `)` or `;` ends it
--   declaration         a declaration in a block
--   standing n s        what stands at a place of kind s, where statements may be nested so many times
use Rattle.std.specs.Prelude.{ℕ, zero, suc, ◌-◌, List, ◌∷◌, Bool, true, false, not, ◌||◌, Result, Ok, Err, Option, Some, None, if◌then◌else◌, codes}
use Rattle.std.specs.Str.{bytes_eq}
use Rattle.flow_base.specs.declared.place.Which.TheVariants as which
use Rattle.grammar.specs.Form.{first}
use Rattle.grammar.specs.Rule.{judge, value, weaken, ◌>>=◌, ◌>>◌, many, maybe}
use Rattle.c_unit.specs.declared.expression.Binary.{Binary}
use Rattle.c_unit.specs.Tree.{Expression, ValueTree, EffectTree, Assigns, Updates, Steps, Calls, LocalTree, LocalInteger, LocalPointer, LocalArray, Statement, Statements, Empty, Declares, Block, While, Do, Switch, Case, Default, Break, Continue, Returns, Does, Nothing, statements_of, if_of, for_of}
use Rattle.c_grammar.specs.declared.symbol.Symbol.{Symbol}
use Rattle.c_grammar.specs.declared.symbol.Symbol.TheVariants as symbols
use Rattle.c_grammar.specs.declared.others.Others.{Others}
use Rattle.c_grammar.specs.declared.others.Others.TheVariants as others
use Rattle.c_grammar.specs.declared.others.Casts.TheVariants as casts
use Rattle.c_grammar.specs.declared.standing.Assigning.{Assigning}
use Rattle.c_grammar.specs.declared.standing.Assigning.TheVariants as assigning
use Rattle.c_grammar.specs.declared.standing.Standing.{Standing}
use Rattle.c_grammar.specs.declared.standing.Standing.TheVariants as standings
use Rattle.c_grammar.specs.declared.specifiers.Setting.TheVariants as settings
use Rattle.c_grammar.specs.Symbols.{is_specifier, is_step, is_label, is_brace, starts_statement}
use Rattle.c_grammar.specs.Tokens.{Fault, Limit, Seen, Place, Rule, misfit, misfit_next, one, mark, name, at_text, at_symbol, next_number, sees, sees_symbol, before, before_either, either, some_frames, most_parens}
use Rattle.c_grammar.specs.Types.{integer_type, star, signed_constant, at_assign, assign_mark, comma_mark, at_list_comma, array, close_brace}
use Rattle.c_grammar.specs.Expressions.{rest_of, rest_after_postfix, rest_of_value, is_postfix, close_paren, open_paren, whole_expr, condition, target, some_token, call, sees_call, assigned}

-- ---- what a statement does

-- what ends an effect
abbrev pub effect_end : Bool → List ℕ
effect_end last = if last then codes ")" else codes ";"

unfoldable pub call_effect : ℕ → Bool → Rule true EffectTree
call_effect p last = do
  c ← call p
  before (effect_end last) (rest_after_postfix true)
  value (Calls c)

abbrev pub fits_step_of : Symbol → Seen → Result (Bool × ℕ) Fault
fits_step_of (symbols.Step up) t = Ok (up, t.number)
fits_step_of _ t = Err (misfit others.Nothing t)

unfoldable pub step : Rule true (Bool × ℕ)
step = one (λ t. fits_step_of t.symbol t)

-- ++x and --x
unfoldable pub prefix_step : ℕ → Bool → Rule true EffectTree
prefix_step p last = do
  s ← step
  e ← target p casts.Refused others.Steps
  before (effect_end last) (rest_of true e)
  value (Steps e s.0 s.1)

abbrev pub fits_assigning_of : Symbol → Bool → Others → Seen → Result (Assigning × ℕ) Fault
fits_assigning_of symbols.Assign postfix o t = Ok (assigning.Assign, t.number)
fits_assigning_of (symbols.Update op) postfix o t = Ok (assigning.Update op, t.number)
fits_assigning_of (symbols.Step up) true o t = Ok (assigning.Step up, t.number)
fits_assigning_of _ postfix o t = Err (misfit o t)

-- =, an operator with =, or a step after a postfix expression
unfoldable pub assigning_mark : Expression → Bool → Rule true (Assigning × ℕ)
assigning_mark to last = one (λ t. fits_assigning_of t.symbol (is_postfix to) (others.RestOrEnd last) t)

unfoldable pub assign : ℕ → Bool → Expression → ℕ → Rule true EffectTree
assign p last to n = do
  v ← assigned p others.Steps
  before (effect_end last) (rest_of_value true v)
  value (Assigns to n v)

unfoldable pub update : ℕ → Bool → Expression → Binary → ℕ → Rule true EffectTree
update p last to op n = do
  e ← whole_expr p others.Steps
  before (effect_end last) (rest_of true e)
  value (Updates to op n e)

unfoldable pub postfix_step : Bool → Expression → Bool → ℕ → Rule false EffectTree
postfix_step last to up n = do
  before (effect_end last) (rest_after_postfix true)
  value (Steps to up n)

unfoldable pub effect_after : ℕ → Bool → Expression → Assigning → ℕ → Rule false EffectTree
effect_after p last to assigning.Assign n = weaken (assign p last to n)
effect_after p last to (assigning.Update op) n = weaken (update p last to op n)
effect_after p last to (assigning.Step up) n = postfix_step last to up n

-- what begins with what is assigned to or stepped
unfoldable pub target_effect : ℕ → Others → Bool → Rule true EffectTree
target_effect p o last = do
  to ← target p casts.Outside o
  a ← assigning_mark to last
  e ← effect_after p last to a.0 a.1
  value e

unfoldable pub other_effect : ℕ → Others → Bool → Rule true EffectTree
other_effect p o last = do
  s ← sees_symbol is_step
  e ← either s (prefix_step p last) (target_effect p o last)
  value e

-- an assignment, a step or a call; so many parentheses may be open
unfoldable pub effect : ℕ → Others → Bool → Rule true EffectTree
effect p o last = do
  c ← sees_call
  e ← either c (call_effect (p - 1) last) (other_effect p o last)
  value e

-- ---- locals

-- = value
unfoldable pub initial : Rule true ValueTree
initial = do
  assign_mark
  v ← assigned most_parens others.StepsAndBraces
  value v

-- what might stand after a local without brackets
abbrev pub after_local : Others → Option ValueTree → Others
after_local o None = o
after_local o (Some v) = rest_of_value false v

-- after a local a comma or a semicolon stands
unfoldable pub local_end : Others → Rule false (Unit {0})
local_end o = before_either (codes ",") (codes ";") o

unfoldable pub pointer_local : Rule true LocalTree
pointer_local = do
  star
  t ← name others.Stars
  some_frames 1
  v ← maybe at_assign initial
  local_end (after_local others.BracketsAndParens v)
  value (record { name = t.number; shape = LocalPointer v })

unfoldable pub array_local : ℕ → Rule true LocalTree
array_local n = do
  a ← array
  value (record { name = n; shape = LocalArray a.0 a.1 })

unfoldable pub integer_local : ℕ → Rule false LocalTree
integer_local n = do
  v ← maybe at_assign initial
  local_end (after_local others.Parens v)
  value (record { name = n; shape = LocalInteger v })

unfoldable pub plain_local : Rule true LocalTree
plain_local = do
  t ← name others.Nothing
  some_frames 1
  b ← sees (codes "[")
  l ← either b (weaken (array_local t.number)) (integer_local t.number)
  value l

-- a local, after its type
unfoldable pub local : Rule true LocalTree
local = do
  p ← sees (codes "*")
  l ← either p pointer_local plain_local
  value l

unfoldable pub further_local : Rule true LocalTree
further_local = do
  comma_mark
  l ← local
  value l

unfoldable pub semicolon : Others → Rule true (Unit {0})
semicolon o = do
  mark (codes ";") o
  value tt

-- a declaration in a block
unfoldable pub declaration : Rule true Statement
declaration = do
  n ← next_number
  i ← integer_type settings.Block
  l ← local
  ls ← many at_list_comma further_local
  semicolon others.Nothing
  value (Declares n i (l ∷ ls))

-- ---- labels

-- a label is followed by a label or a statement
unfoldable pub label_end : Rule false (Unit {0})
label_end = judge (λ at. if at_symbol is_label at || at_symbol starts_statement at then Ok tt else Err (misfit_next others.Nothing (first at)))

unfoldable pub colon : Others → Rule true (Unit {0})
colon o = do
  mark (codes ":") o
  label_end
  value tt

unfoldable pub case_label : Rule true Statement
case_label = do
  n ← mark (codes "case") others.Nothing
  c ← signed_constant others.Expressions
  colon (others.Rest false false)
  value (Case n c)

unfoldable pub default_label : Rule true Statement
default_label = do
  n ← mark (codes "default") others.Nothing
  colon others.Nothing
  value (Default n)

-- a label of a switch
unfoldable pub label : Rule true Statement
label = do
  c ← sees (codes "case")
  l ← either c case_label default_label
  value l

-- ---- statements, where `inner` is what stands in them

abbrev pub Inside : Type 1
Inside = Standing → Rule true Statement

-- ( condition )
unfoldable pub controlling : Rule true Expression
controlling = do
  open_paren
  c ← condition (most_parens - 1)
  close_paren (rest_of true c)
  value c

abbrev pub at_else : Place → Bool
at_else at = at_text (codes "else") at

unfoldable pub else_part : Inside → Rule true Statement
else_part inner = do
  mark (codes "else") others.Nothing
  s ← inner standings.Part
  value s

-- if, after its word; an `else` belongs to the nearest `if`
unfoldable pub if_after : Inside → Rule true Statement
if_after inner = do
  c ← controlling
  s ← inner standings.Part
  e ← maybe at_else (else_part inner)
  value (if_of c s e)

unfoldable pub while_after : Inside → Rule true Statement
while_after inner = do
  c ← controlling
  s ← inner standings.Part
  value (While c s)

unfoldable pub while_word : Rule true ℕ
while_word = mark (codes "while") others.Nothing

unfoldable pub do_after : Inside → Rule true Statement
do_after inner = do
  s ← inner standings.Part
  while_word
  c ← controlling
  semicolon others.Nothing
  value (Do s c)

-- the first part of a `for`, with its semicolon
unfoldable pub empty_first : Rule true (Option Statement)
empty_first = do
  semicolon others.Nothing
  value None

unfoldable pub declared_first : Rule true (Option Statement)
declared_first = do
  d ← declaration
  value (Some d)

unfoldable pub effect_first : Rule true (Option Statement)
effect_first = do
  e ← effect (most_parens - 1) others.Nothing false
  semicolon others.Nothing
  value (Some (Does e))

unfoldable pub some_first : Rule true (Option Statement)
some_first = do
  d ← sees_symbol is_specifier
  f ← either d declared_first effect_first
  value f

unfoldable pub for_first : Rule true (Option Statement)
for_first = do
  none ← sees (codes ";")
  f ← either none empty_first some_first
  value f

-- the condition of a `for`, with its semicolon
unfoldable pub empty_condition : Rule true (Option Expression)
empty_condition = do
  semicolon others.Nothing
  value None

unfoldable pub some_condition : Rule true (Option Expression)
some_condition = do
  c ← condition (most_parens - 1)
  semicolon (rest_of true c)
  value (Some c)

unfoldable pub for_condition : Rule true (Option Expression)
for_condition = do
  none ← sees (codes ";")
  c ← either none empty_condition some_condition
  value c

-- the last part of a `for`, with its parenthesis
unfoldable pub empty_last : Rule true (Option EffectTree)
empty_last = do
  close_paren others.Nothing
  value None

unfoldable pub some_last : Rule true (Option EffectTree)
some_last = do
  e ← effect (most_parens - 1) others.Nothing true
  close_paren others.Nothing
  value (Some e)

unfoldable pub for_last : Rule true (Option EffectTree)
for_last = do
  none ← sees (codes ")")
  e ← either none empty_last some_last
  value e

unfoldable pub for_after : Inside → Rule true Statement
for_after inner = do
  open_paren
  f ← for_first
  c ← for_condition
  e ← for_last
  s ← inner standings.Part
  value (for_of f c e s)

-- what stands in a block
abbrev pub items_of : Statement → Statements
items_of (Block ss) = ss
items_of _ = Nothing

unfoldable pub switch_value : Rule true Expression
switch_value = do
  open_paren
  e ← whole_expr (most_parens - 1) others.Steps
  close_paren (rest_of true e)
  value e

unfoldable pub switch_after : Inside → Rule true Statement
switch_after inner = do
  e ← switch_value
  b ← inner standings.SwitchBlock
  value (Switch e (items_of b))

unfoldable pub break_after : ℕ → Rule true Statement
break_after n = do
  semicolon others.Nothing
  value (Break n)

unfoldable pub continue_after : ℕ → Rule true Statement
continue_after n = do
  semicolon others.Nothing
  value (Continue n)

unfoldable pub return_nothing : ℕ → Rule true Statement
return_nothing n = do
  semicolon others.Nothing
  value (Returns n None)

unfoldable pub return_value : ℕ → Rule true Statement
return_value n = do
  v ← assigned most_parens others.Steps
  semicolon (rest_of_value true v)
  value (Returns n (Some v))

unfoldable pub return_after : ℕ → Rule true Statement
return_after n = do
  none ← sees (codes ";")
  s ← either none (return_nothing n) (return_value n)
  value s

-- the one rule after this word, the other after any other
abbrev pub after_word : {some : Bool} {A : Type 0} → List ℕ → Seen → Rule some A → Rule some A → Rule some A
after_word w t p q = either (bytes_eq t.text w) p q

unfoldable pub leaving_after : Seen → Rule true Statement
leaving_after t =
    after_word (codes "break") t (break_after t.number)
    (after_word (codes "continue") t (continue_after t.number)
    (return_after t.number))

-- a statement, after its word
unfoldable pub worded_after : Inside → Seen → Rule true Statement
worded_after inner t =
    after_word (codes "if") t (if_after inner)
    (after_word (codes "while") t (while_after inner)
    (after_word (codes "do") t (do_after inner)
    (after_word (codes "for") t (for_after inner)
    (after_word (codes "switch") t (switch_after inner)
    (leaving_after t)))))

unfoldable pub worded : Inside → Rule true Statement
worded inner = do
  t ← some_token
  s ← worded_after inner t
  value s

unfoldable pub empty_statement : Rule true Statement
empty_statement = do
  n ← mark (codes ";") others.Nothing
  value (Empty n)

-- more stands in a block
abbrev pub in_block : Place → Bool
in_block at = not (at_text (codes "}") at)

-- { .. }, of which what stands in it is of this kind
unfoldable pub block : Others → Rule true Statement → Rule true Statement
block o item = do
  mark (codes "{") o
  ss ← many in_block item
  close_brace
  value (Block (statements_of ss))

unfoldable pub effect_statement : Others → Rule true Statement
effect_statement o = do
  e ← effect most_parens o false
  semicolon others.Nothing
  value (Does e)

unfoldable pub unworded_long : Inside → Others → Rule true Statement
unworded_long inner o = do
  b ← sees (codes "{")
  s ← either b (block others.Nothing (inner standings.Item)) (effect_statement o)
  value s

unfoldable pub unworded : Inside → Others → Rule true Statement
unworded inner o = do
  e ← sees (codes ";")
  s ← either e empty_statement (unworded_long inner o)
  value s

abbrev pub is_statement : Symbol → Bool
is_statement symbols.Statement = true
is_statement _ = false

-- a statement
unfoldable pub statement : Inside → Others → Rule true Statement
statement inner o = do
  w ← sees_symbol is_statement
  s ← either w (worded inner) (unworded inner o)
  value s

-- a statement or a declaration
unfoldable pub item : Inside → Others → Rule true Statement
item inner o = do
  d ← sees_symbol is_specifier
  s ← either d declaration (statement inner o)
  value s

-- or a label
unfoldable pub switch_item : Inside → Rule true Statement
switch_item inner = do
  l ← sees_symbol is_label
  s ← either l label (item inner others.Nothing)
  value s

-- what stands at a place of this kind
unfoldable pub placed_statement : Inside → Standing → Rule true Statement
placed_statement inner standings.Part = statement inner others.Labels
placed_statement inner standings.Item = item inner others.Labels
placed_statement inner standings.SwitchItem = switch_item inner
placed_statement inner standings.SwitchBlock = block others.Statements (inner standings.SwitchItem)

-- a statement or a label begins that may stand there
abbrev pub may_begin : Standing → Symbol → Bool
may_begin standings.Part s = starts_statement s
may_begin standings.Item s = starts_statement s
may_begin standings.SwitchItem s = is_label s || starts_statement s
may_begin standings.SwitchBlock s = is_brace s

abbrev pub others_at : Standing → Others
others_at standings.Part = others.Labels
others_at standings.Item = others.Labels
others_at standings.SwitchItem = others.Nothing
others_at standings.SwitchBlock = others.Statements

abbrev pub fits_too_nested : Standing → Seen → Result Statement Fault
fits_too_nested s t = if may_begin s t.symbol then Err (Limit which.Nesting 33) else Err (misfit (others_at s) t)

unfoldable pub innermost_item : Standing → Rule true Statement
innermost_item s = do
  d ← sees_symbol is_specifier
  x ← either d declaration (one (fits_too_nested s))
  value x

-- what stands there, where statements may not be nested: a declaration, which is none
unfoldable pub innermost : Standing → Rule true Statement
innermost standings.Part = one (fits_too_nested standings.Part)
innermost standings.Item = innermost_item standings.Item
innermost standings.SwitchItem = innermost_item standings.SwitchItem
innermost standings.SwitchBlock = one (fits_too_nested standings.SwitchBlock)

-- what stands there, where statements may be nested so many times
unfoldable pub standing : ℕ → Standing → Rule true Statement
standing zero s = innermost s
standing (suc n) s = placed_statement (standing n) s
