-- The canonical text of a program.
--   frame_marks, start_marks, entry_marks, function_marks, ..   the tokens of a part, each after its blank
--   program_marks whole      the tokens of a program
--   canonical_text whole     its text
-- One space stands between two tokens, but in its place a line feed before each member of the lists
-- `decls`, `arg_decls`, `inits`, `funcs` and `stmts`. A line feed ends the text.
use Rattle.std.specs.Prelude.{ℕ, List, [], ◌∷◌, ◌++◌, map, Option, Some, None, if◌then◌else◌, codes}
use Rattle.std.specs.List.{flat_map}
use Rattle.std.specs.Fmt.{decimal}
use Rattle.alf_ops.specs.Names.{spelling}
use Rattle.alf_ops.specs.TwosComplement.{is_negative, distance}
use Rattle.alf_tokens.specs.declared.token.Kind.TheVariants as kinds
use Rattle.alf_tokens.specs.Printed.{Mark, text_of_marks}
use Rattle.alf_program.specs.declared.program.Num.{Num}
use Rattle.alf_program.specs.Tree.{NamedExpression, NamedExpressions, Number, Address, Load, Apply, Empty, With, Statement, Null, Store, Jump, Switch, Call, Return, BodyItem, Label, Do, Allocation, InitialValue, Function, WholeProgram}

-- ---- one token

abbrev pub space : ℕ
space = 32

abbrev pub line_feed : ℕ
line_feed = 10

abbrev pub opens : ℕ → Mark
opens blank = record { blank = blank; kind = kinds.Open; text = codes "{" }

abbrev pub closes : Mark
closes = record { blank = space; kind = kinds.Close; text = codes "}" }

abbrev pub a_word : List ℕ → Mark
a_word w = record { blank = space; kind = kinds.Word; text = w }

-- a number has no zeros before its digits
abbrev pub a_number : ℕ → Mark
a_number n = record { blank = space; kind = kinds.Number; text = decimal n }

abbrev pub a_name : List ℕ → Mark
a_name n = record { blank = space; kind = kinds.Quoted; text = n }

-- ---- what stands in braces

-- in braces, after a word
abbrev pub braced : ℕ → List ℕ → List Mark → List Mark
braced blank w inner = opens blank ∷ a_word w ∷ (inner ++ closes ∷ [])

-- a list with its word
abbrev pub listed : {A : Type 0} → List ℕ → (A → List Mark) → List A → List Mark
listed w marks xs = braced space w (flat_map marks xs)

-- nothing where there is none
abbrev pub if_any : {A : Type 0} → (A → List Mark) → Option A → List Mark
if_any marks None = []
if_any marks (Some x) = marks x

-- ---- names and numbers

-- { fref 32 NAME } or { lref 32 NAME }
abbrev pub ref_marks : List ℕ → List ℕ → List Mark
ref_marks w n = braced space w (a_number 32 ∷ a_name n ∷ [])

-- the signed reading of a word: { minus N } where it is N below 0, else the word itself
unfoldable pub signed_marks : ℕ → ℕ → List Mark
signed_marks size bits = if is_negative size bits then braced space (codes "minus") (a_number (distance size bits) ∷ []) else a_number bits ∷ []

abbrev pub dec_signed_marks : ℕ → ℕ → List Mark
dec_signed_marks size bits = braced space (codes "dec_signed") (a_number size ∷ signed_marks size bits)

abbrev pub dec_unsigned_marks : ℕ → ℕ → List Mark
dec_unsigned_marks size bits = braced space (codes "dec_unsigned") (a_number size ∷ a_number bits ∷ [])

unfoldable pub num_marks : Num → List Mark
num_marks n = if n.signed then dec_signed_marks n.size n.bits else dec_unsigned_marks n.size n.bits

abbrev pub label_marks : ℕ → List ℕ → List Mark
label_marks blank n = braced blank (codes "label") (a_number 32 ∷ ref_marks (codes "lref") n ++ dec_unsigned_marks 32 0)

-- the address of a frame's byte: the frame and the offset
abbrev pub address_marks : List ℕ × ℕ → List Mark
address_marks at = braced space (codes "addr") (a_number 32 ∷ ref_marks (codes "fref") at.0 ++ dec_unsigned_marks 32 at.1)

-- ---- expressions

abbrev mutual
  pub term_marks : NamedExpression → List Mark
  term_marks (Number n) = num_marks n
  term_marks (Address n offset) = address_marks (n, offset)
  term_marks (Load size at) = braced space (codes "load") (a_number size ∷ term_marks at)
  term_marks (Apply op sizes operands) = braced space (spelling op) (map a_number sizes ++ terms_marks operands)

  pub terms_marks : NamedExpressions → List Mark
  terms_marks Empty = []
  terms_marks (With t ts) = term_marks t ++ terms_marks ts

-- ---- statements

abbrev pub target_marks : Num × List ℕ → List Mark
target_marks t = braced space (codes "target") (num_marks t.0 ++ label_marks space t.1)

abbrev pub default_marks : List ℕ → List Mark
default_marks label = braced space (codes "default") (label_marks space label)

abbrev pub act_marks : Statement → List Mark
act_marks Null = braced line_feed (codes "null") []
act_marks (Store at value) = braced line_feed (codes "store") (term_marks at ++ a_word (codes "with") ∷ [] ++ term_marks value)
act_marks (Jump label) = braced line_feed (codes "jump") (label_marks space label ++ a_word (codes "leaving") ∷ a_number 0 ∷ [])
act_marks (Switch value targets others) = braced line_feed (codes "switch") (term_marks value ++ flat_map target_marks targets ++ default_marks others)
act_marks (Call label args result) = braced line_feed (codes "call") (label_marks space label ++ flat_map term_marks args ++ a_word (codes "result") ∷ [] ++ if_any address_marks result)
act_marks (Return value) = braced line_feed (codes "return") (if_any term_marks value)

abbrev pub entry_marks : BodyItem → List Mark
entry_marks (Label n) = label_marks line_feed n
entry_marks (Do act) = act_marks act

-- ---- programs

abbrev pub frame_marks : Allocation → List Mark
frame_marks f = braced line_feed (codes "alloc") (a_number 32 ∷ a_name f.name ∷ a_number f.bits ∷ [])

abbrev pub place_marks : List ℕ → ℕ → List Mark
place_marks n offset = braced space (codes "ref") (a_name n ∷ dec_unsigned_marks 32 offset)

abbrev pub start_marks : InitialValue → List Mark
start_marks s = braced line_feed (codes "init") (place_marks s.name s.offset ++ num_marks s.num)

abbrev pub decls_marks : List Allocation → List Mark
decls_marks frames = listed (codes "decls") frame_marks frames

abbrev pub starts_marks : List InitialValue → List Mark
starts_marks starts = listed (codes "inits") start_marks starts

abbrev pub scope_marks : List Allocation → List InitialValue → List BodyItem → List Mark
scope_marks frames starts items = braced space (codes "scope") (decls_marks frames ++ starts_marks starts ++ listed (codes "stmts") entry_marks items)

abbrev pub function_marks : Function → List Mark
function_marks f = braced line_feed (codes "func") (label_marks space f.name ++ listed (codes "arg_decls") frame_marks f.args ++ scope_marks f.decls f.inits f.items)

-- names in a row
abbrev pub refs_marks : List ℕ → List ℕ → List (List ℕ) → List Mark
refs_marks list w names = listed list (ref_marks w) names

-- the frames and the labels that are exported, or imported
abbrev pub names_marks : List ℕ → List (List ℕ) → List (List ℕ) → List Mark
names_marks w frames labels = braced space w (refs_marks (codes "frefs") (codes "fref") frames ++ refs_marks (codes "lrefs") (codes "lref") labels)

abbrev pub unit_marks : List Mark
unit_marks = braced space (codes "least_addr_unit") (a_number 8 ∷ [])

-- what each program begins with
abbrev pub head_marks : List Mark
head_marks = braced space (codes "macro_defs") [] ++ unit_marks ++ a_word (codes "little_endian") ∷ []

abbrev pub globals_marks : WholeProgram → List Mark
globals_marks p = decls_marks p.decls ++ starts_marks p.inits ++ listed (codes "funcs") function_marks p.funcs

-- what follows
abbrev pub parts_marks : WholeProgram → List Mark
parts_marks p = names_marks (codes "exports") p.exports p.labels ++ names_marks (codes "imports") [] [] ++ globals_marks p

-- what stands after the first brace
abbrev pub body_marks : WholeProgram → List Mark
body_marks p = a_word (codes "alf") ∷ (head_marks ++ parts_marks p ++ closes ∷ [])

abbrev pub program_marks : WholeProgram → List Mark
program_marks p = opens space ∷ body_marks p

abbrev pub canonical_text : WholeProgram → List ℕ
canonical_text whole = text_of_marks (program_marks whole)
