-- The grammar of items, functions and programs, rule by rule, over that of expressions of `alf_reader`. Each rule is
-- exact by its type.
use Rattle.std.specs.Prelude.{ℕ, List, Bool, true, Result, Err, if◌then◌else◌, codes}
use Rattle.grammar.specs.Rule.{value, ◌>>=◌, ◌>>◌, many, maybe}
use Rattle.alf_tokens.specs.declared.token.Kind.TheVariants as kinds
use Rattle.alf_tokens.specs.Tokens.{Lexeme, is_kind}
use Rattle.alf_program.specs.declared.program.Num.{Num}
use Rattle.alf_program.specs.Tree.{Null, Store, Jump, Switch, Call, Return, BodyItem, Label, Do, Allocation, InitialValue, Function, WholeProgram}
use Rattle.alf_program.specs.Writable.{ends_well}
use Rattle.alf_reader.specs.Grammar.{Fault, Place, Rule, OutOfProfile, misfit, one, fits, opening, closing, end, some_word, word, fixed, begin, after_word, unknown, opens, opens_word, one_function, references, label_tail, label, address, allocs, num, inits, whole_expr}

-- ---- items

-- a target begins
abbrev pub opens_target : Place → Bool
opens_target = opens_word (codes "target")

-- TARGET = { target NUM LABEL }
unfoldable pub target : Rule true (Num × List ℕ)
target = do
  begin (codes "target")
  n ← num
  l ← label
  closing
  value (n, l)

-- { default LABEL }
unfoldable pub default_arm : Rule true (List ℕ)
default_arm = do
  begin (codes "default")
  l ← label
  closing
  value l

-- { switch EXPR TARGET* { default LABEL } }, after its word
unfoldable pub switch : Rule true BodyItem
switch = do
  e ← whole_expr
  targets ← many opens_target target
  others ← default_arm
  closing
  value (Do (Switch e targets others))

unfoldable pub with_word : Rule true (Unit {0})
with_word = word (codes "with")

-- { store EXPR with EXPR }, after its word
unfoldable pub store : Rule true BodyItem
store = do
  at ← whole_expr
  with_word
  e ← whole_expr
  closing
  value (Do (Store at e))

-- LABEL, after its word
unfoldable pub label_item : Rule true BodyItem
label_item = do
  n ← label_tail
  value (Label n)

-- { null }, after its word
unfoldable pub null : Rule true BodyItem
null = do
  closing
  value (Do Null)

unfoldable pub leaving : Rule true (Unit {0})
leaving = word (codes "leaving")

-- { jump LABEL leaving 0 }, after its word
unfoldable pub jump : Rule true BodyItem
jump = do
  n ← label
  leaving
  fixed 0
  closing
  value (Do (Jump n))

unfoldable pub result_word : Rule true (Unit {0})
result_word = word (codes "result")

-- { call LABEL EXPR* result ADDR? }, after its word
unfoldable pub call : Rule true BodyItem
call = do
  n ← label
  args ← many opens whole_expr
  result_word
  to ← maybe opens address
  closing
  value (Do (Call n args to))

-- { return EXPR? }, after its word
unfoldable pub returns : Rule true BodyItem
returns = do
  e ← maybe opens whole_expr
  closing
  value (Do (Return e))

unfoldable pub item_tail : Lexeme → Rule true BodyItem
item_tail w =
    after_word (codes "label") w label_item
    (after_word (codes "null") w null
    (after_word (codes "store") w store
    (after_word (codes "jump") w jump
    (after_word (codes "switch") w switch
    (after_word (codes "call") w call
    (after_word (codes "return") w returns
    (unknown w)))))))

-- ITEM = LABEL | STMT
unfoldable pub item : Rule true BodyItem
item = do
  opening
  w ← some_word
  item_tail w

-- ---- functions

-- the brace after the last item
abbrev pub fits_close_after : List BodyItem → Lexeme → Result (Unit {0}) Fault
fits_close_after items t = if ends_well items then fits kinds.Close t else Err (misfit t)

unfoldable pub closing_after : List BodyItem → Rule true (Unit {0})
closing_after items = one (fits_close_after items)

-- { stmts ITEM* }, of which the last is a jump, a switch or a return
unfoldable pub stmts : Rule true (List BodyItem)
stmts = do
  begin (codes "stmts")
  items ← many opens item
  closing_after items
  value items

-- { scope { decls ALLOC* } { inits INIT* } { stmts ITEM* } }
unfoldable pub scope : Rule true (List Allocation × List InitialValue × List BodyItem)
scope = do
  begin (codes "scope")
  frames ← allocs (codes "decls")
  starts ← inits
  items ← stmts
  closing
  value (frames, starts, items)

unfoldable pub arg_decls : Rule true (List Allocation)
arg_decls = allocs (codes "arg_decls")

-- LABEL { arg_decls ALLOC* } { scope .. }, after the word of a function
unfoldable pub function_tail : Rule true Function
function_tail = do
  n ← label
  frames ← arg_decls
  s ← scope
  closing
  value (record { name = n; args = frames; decls = s.0; inits = s.1; items = s.2 })

-- FUNC = { func LABEL { arg_decls ALLOC* } { scope .. } }
unfoldable pub function : Rule true Function
function = do
  opening
  one_function
  word (codes "func")
  f ← function_tail
  value f

-- { funcs FUNC* }
unfoldable pub functions : Rule true (List Function)
functions = do
  begin (codes "funcs")
  fs ← many opens function
  closing
  value fs

-- ---- programs

-- the brace after a list that the profile keeps empty; an item in it is outside the profile, and the word of the list
-- stands for it
abbrev pub fits_empty : List ℕ → Lexeme → Result (Unit {0}) Fault
fits_empty list t = if is_kind kinds.Open t.kind then Err (OutOfProfile t.left list) else fits kinds.Close t

unfoldable pub closing_empty : List ℕ → Rule true (Unit {0})
closing_empty list = one (fits_empty list)

-- { WORD }
unfoldable pub empty : List ℕ → List ℕ → Rule true (Unit {0})
empty w list = do
  begin w
  closing_empty list
  value tt

-- { least_addr_unit 8 }
unfoldable pub addr_unit : Rule true (Unit {0})
addr_unit = do
  begin (codes "least_addr_unit")
  fixed 8
  closing
  value tt

unfoldable pub macro_defs : Rule true (Unit {0})
macro_defs = empty (codes "macro_defs") (codes "macro_defs")

unfoldable pub little_endian : Rule true (Unit {0})
little_endian = word (codes "little_endian")

-- { macro_defs } { least_addr_unit 8 } little_endian
unfoldable pub heading : Rule true (Unit {0})
heading = do
  macro_defs
  addr_unit
  little_endian
  value tt

-- { exports { frefs FREF* } { lrefs LREF* } }
unfoldable pub exports : Rule true (List (List ℕ) × List (List ℕ))
exports = do
  begin (codes "exports")
  frames ← references (codes "frefs") (codes "fref")
  labels ← references (codes "lrefs") (codes "lref")
  closing
  value (frames, labels)

-- { imports { frefs } { lrefs } }
unfoldable pub imports : Rule true (Unit {0})
imports = do
  begin (codes "imports")
  empty (codes "frefs") (codes "imports")
  empty (codes "lrefs") (codes "imports")
  closing
  value tt

-- PROGRAM = { alf { macro_defs } { least_addr_unit 8 } little_endian { exports .. } { imports .. } { decls ALLOC* } {
-- inits INIT* } { funcs FUNC* } }
unfoldable pub program : Rule true WholeProgram
program = do
  begin (codes "alf")
  heading
  names ← exports
  imports
  frames ← allocs (codes "decls")
  starts ← inits
  fs ← functions
  closing
  end
  value (record { exports = names.0; labels = names.1; decls = frames; inits = starts; funcs = fs })
