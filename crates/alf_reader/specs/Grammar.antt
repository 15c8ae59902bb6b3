-- The grammar up to expressions, rule by rule. Each rule is exact by its type.
--   DepartureAt P, Fault   how a text departs from the grammar; a fault tells its place by how many bytes of the text are left there
--   Place            where a text is read from: the tokens ahead, and what there may still be of what is counted
--   Rule some A      a part of the grammar that spells values of type A, and takes some of the text where some is true
--   fits, fits_word, fits_number, fits_name   one token, which fits its place or is the departure
use Rattle.std.specs.Prelude.{ℕ, pos, neg_ℤ, zero, suc, ◌+◌, ◌-◌, ◌/◌, ◌%◌, ◌^◌, ◌&&◌, ◌==◌, List, [], ◌∷◌, Bool, true, false, Result, Ok, Err, Option, Some, None, nat_le, if◌then◌else◌, codes, find}
use Rattle.std.specs.Str.{bytes_eq}
use Rattle.flow_base.specs.Digits.{prefix_digits, number_of}
use Rattle.flow_base.specs.declared.place.Which.{Which}
use Rattle.flow_base.specs.declared.place.Which.TheVariants.{Depth, Functions, Frames, FrameBytes, AllBytes}
use Rattle.grammar.specs.Form.{At, first, after}
use Rattle.grammar.specs.Rule.{token, judge, refuse, value, spend, weaken, ◌>>=◌, ◌>>◌, many, maybe, exactly}
use Rattle.grammar.specs.Rule as rules
use Rattle.alf_ops.specs.declared.operator.Op.{Op}
use Rattle.alf_ops.specs.declared.operator.Op.TheVariants.{Select}
use Rattle.alf_ops.specs.Layouts.{size_count}
use Rattle.alf_ops.specs.Table.{layout_of}
use Rattle.alf_ops.specs.Names.{spelling, operators}
use Rattle.alf_ops.specs.TwosComplement.{word as word_of}
use Rattle.alf_tokens.specs.declared.token.Kind.{Kind}
use Rattle.alf_tokens.specs.declared.token.Kind.TheVariants as kinds
use Rattle.alf_tokens.specs.Tokens.{Lexeme, is_kind}
use Rattle.alf_program.specs.declared.program.Num.{Num}
use Rattle.alf_program.specs.Tree.{NamedExpression, Address, Load, Apply, Allocation, InitialValue, expressions_of}
use Rattle.alf_program.specs.Tree as tree
pub use Rattle.alf_program.specs.Writable.{most_depth, most_functions, most_frames, most_frame_bytes, most_bytes_of_frames, operand_count}

-- how a text departs from the grammar, where places are of type P
pub data DepartureAt (P : Type 0) : Type 0 where
  -- the token that begins here does not fit
  Syntax : P → DepartureAt P
  -- the number that begins here is outside its range
  Number : P → DepartureAt P
  -- this word or number is none of those that the profile has here
  OutOfProfile : P → List ℕ → DepartureAt P
  -- this quantity comes to this number, which is above its limit
  Limit : Which → ℕ → DepartureAt P

-- a departure whose place is told by how many bytes of the text are left there
abbrev pub Fault : Type 0
Fault = DepartureAt ℕ

-- how many functions, frames and bytes of frames there may still be
pub record Room : Type 0 where
  pub functions : ℕ
  pub frames : ℕ
  pub bytes : ℕ

abbrev pub Place : Type 0
Place = At Lexeme Room

abbrev pub Rule : Bool → Type 0 → Type 1
Rule some A = rules.Rule Lexeme Room Fault some A

-- ---- what fits at one place, and what it is otherwise

-- a token of another kind
abbrev pub misfit_of : Kind → ℕ → Fault
misfit_of kinds.Long left = Number left
misfit_of _ left = Syntax left

abbrev pub misfit : Lexeme → Fault
misfit t = misfit_of t.kind t.left

-- a word or a number that the grammar has not here
abbrev pub outside : Lexeme → Fault
outside t = OutOfProfile t.left t.text

-- one token; at the end of the text none fits
abbrev pub one : {A : Type 0} → (Lexeme → Result A Fault) → Rule true A
one fit = token (λ at. Syntax 0) (λ t at. fit t)

abbrev pub fits : Kind → Lexeme → Result (Unit {0}) Fault
fits kind t = if is_kind kind t.kind then Ok tt else Err (misfit t)

-- any word
abbrev pub fits_some_word : Lexeme → Result Lexeme Fault
fits_some_word t = if is_kind kinds.Word t.kind then Ok t else Err (misfit t)

-- this word
abbrev pub fits_word : List ℕ → Lexeme → Result (Unit {0}) Fault
fits_word w t = if is_kind kinds.Word t.kind then (if bytes_eq t.text w then Ok tt else Err (outside t)) else Err (misfit t)

abbrev pub or_fault : {A : Type 0} → Fault → Option A → Result A Fault
or_fault fault (Some x) = Ok x
or_fault fault None = Err fault

-- a number of a table, and what any other number is
abbrev pub fits_number : {A : Type 0} → (Lexeme → Fault) → (List ℕ → Option A) → Lexeme → Result A Fault
fits_number other table t = if is_kind kinds.Number t.kind then or_fault (other t) (table t.text) else Err (misfit t)

abbrev pub fits_name : Lexeme → Result (List ℕ) Fault
fits_name t = if is_kind kinds.Quoted t.kind then Ok t.text else Err (misfit t)

-- the number that digits write, if there are any and it is at most so much
abbrev pub number_within : ℕ → List ℕ → Option ℕ
number_within most [] = None
number_within most (d ∷ ds) = if nat_le (number_of (d ∷ ds)) most then Some (number_of (d ∷ ds)) else None

-- a number of at most so much, or it is outside its range
abbrev pub fits_below : ℕ → Lexeme → Result ℕ Fault
fits_below most t = fits_number (λ t. Number t.left) (λ text. number_within most (prefix_digits text)) t

-- nothing is left
abbrev pub is_over : Option Lexeme → Result (Unit {0}) Fault
is_over None = Ok tt
is_over (Some t) = Err (misfit t)

-- ---- single tokens

unfoldable pub opening : Rule true (Unit {0})
opening = one (fits kinds.Open)

unfoldable pub closing : Rule true (Unit {0})
closing = one (fits kinds.Close)

-- the text ends
unfoldable pub end : Rule false (Unit {0})
end = judge (λ at. is_over (first at))

-- any word
unfoldable pub some_word : Rule true Lexeme
some_word = one fits_some_word

-- this word
unfoldable pub word : List ℕ → Rule true (Unit {0})
word w = one (fits_word w)

-- the number is from the least on, and a multiple of the step
abbrev pub from_least : ℕ → ℕ → Option ℕ → Option ℕ
from_least least step None = None
from_least least step (Some n) = if nat_le least n && (n % step == 0) then Some n else None

abbrev pub number_between : ℕ → ℕ → ℕ → List ℕ → Option ℕ
number_between least most step text = from_least least step (number_within most (prefix_digits text))

-- a number from the least to the most, a multiple of the step, however it is written
unfoldable pub between : ℕ → ℕ → ℕ → Rule true ℕ
between least most step = one (fits_number outside (number_between least most step))

-- the number n
unfoldable pub fixed : ℕ → Rule true (Unit {0})
fixed n = do
  between n n 1
  value tt

-- SIZE
unfoldable pub size : Rule true ℕ
size = between 1 64 1

-- N, at most so much
unfoldable pub at_most : ℕ → Rule true ℕ
at_most most = one (fits_below most)

-- NAME
unfoldable pub name : Rule true (List ℕ)
name = one fits_name

-- a brace and its word
unfoldable pub begin : List ℕ → Rule true (Unit {0})
begin w = do
  opening
  word w
  value tt

-- ---- choices

abbrev pub either : {some : Bool} {A : Type 0} → Bool → Rule some A → Rule some A → Rule some A
either true p q = p
either false p q = q

-- the one rule after this word, the other after any other
abbrev pub after_word : {some : Bool} {A : Type 0} → List ℕ → Lexeme → Rule some A → Rule some A → Rule some A
after_word w t p q = either (bytes_eq t.text w) p q

-- a word that was read and is none of those that may stand there
unfoldable pub unknown : {A : Type 0} → Lexeme → Rule true A
unknown t = refuse (λ at. outside t)

-- ---- where lists go on

abbrev pub is_first : (Lexeme → Bool) → Option Lexeme → Bool
is_first is None = false
is_first is (Some t) = is t

-- a brace opens
abbrev pub opens : Place → Bool
opens at = is_first (λ t. is_kind kinds.Open t.kind) (first at)

-- a brace opens, and this word comes next
abbrev pub opens_word : List ℕ → Place → Bool
opens_word w at = opens at && is_first (λ t. is_kind kinds.Word t.kind && bytes_eq t.text w) (first (after at))

-- ---- what is counted

-- one more function
unfoldable pub one_function : Rule false (Unit {0})
one_function = spend (λ room. room.functions) (λ room n. record { functions = n; frames = room.frames; bytes = room.bytes }) (Limit Functions (most_functions + 1)) 1

-- one more frame
unfoldable pub one_frame : Rule false (Unit {0})
one_frame = spend (λ room. room.frames) (λ room n. record { functions = room.functions; frames = n; bytes = room.bytes }) (Limit Frames (most_frames + 1)) 1

-- the bytes of one frame are not too many
unfoldable pub fits_frame : ℕ → Rule false (Unit {0})
fits_frame bytes = judge (λ at. if nat_le bytes most_frame_bytes then Ok tt else Err (Limit FrameBytes (most_frame_bytes + 1)))

-- nor are those of all frames
unfoldable pub more_bytes : ℕ → Rule false (Unit {0})
more_bytes bytes = spend (λ room. room.bytes) (λ room n. record { functions = room.functions; frames = room.frames; bytes = n }) (Limit AllBytes (most_bytes_of_frames + 1)) bytes

-- BITS, a positive multiple of 8
unfoldable pub bits : Rule true ℕ
bits = do
  b ← between 1 (2 ^ 128 - 1) 8
  fits_frame (b / 8)
  more_bytes (b / 8)
  value b

-- ---- names, frames and labels

-- { WORD 32 NAME }: FREF = { fref 32 NAME }, LREF = { lref 32 NAME }
unfoldable pub reference : List ℕ → Rule true (List ℕ)
reference w = do
  begin w
  fixed 32
  n ← name
  closing
  value n

-- { LIST { WORD 32 NAME }* }
unfoldable pub references : List ℕ → List ℕ → Rule true (List (List ℕ))
references list w = do
  begin list
  names ← many opens (reference w)
  closing
  value names

-- OFFSET = { dec_unsigned 32 N }
unfoldable pub offset : Rule true ℕ
offset = do
  begin (codes "dec_unsigned")
  fixed 32
  n ← at_most (2 ^ 32 - 1)
  closing
  value n

-- { dec_unsigned 32 0 }
unfoldable pub zero_offset : Rule true (Unit {0})
zero_offset = do
  begin (codes "dec_unsigned")
  fixed 32
  fixed 0
  closing
  value tt

-- LABEL = { label 32 LREF { dec_unsigned 32 0 } }, after its word
unfoldable pub label_tail : Rule true (List ℕ)
label_tail = do
  fixed 32
  n ← reference (codes "lref")
  zero_offset
  closing
  value n

unfoldable pub label : Rule true (List ℕ)
label = do
  begin (codes "label")
  n ← label_tail
  value n

-- ALLOC = { alloc 32 NAME BITS }
unfoldable pub alloc : Rule true Allocation
alloc = do
  opening
  one_frame
  word (codes "alloc")
  fixed 32
  n ← name
  b ← bits
  closing
  value (record { name = n; bits = b })

-- { LIST ALLOC* }
unfoldable pub allocs : List ℕ → Rule true (List Allocation)
allocs list = do
  begin list
  frames ← many opens alloc
  closing
  value frames

-- ADDR = { addr 32 FREF OFFSET }, after its word
unfoldable pub address_tail : Rule true (List ℕ × ℕ)
address_tail = do
  fixed 32
  n ← reference (codes "fref")
  o ← offset
  closing
  value (n, o)

unfoldable pub address : Rule true (List ℕ × ℕ)
address = do
  begin (codes "addr")
  a ← address_tail
  value a

-- ---- numbers

-- { dec_unsigned SIZE N }, after its word
unfoldable pub unsigned : Rule true Num
unsigned = do
  s ← size
  n ← at_most (2 ^ s - 1)
  closing
  value (record { signed = false; size = s; bits = n })

-- { minus N }
unfoldable pub minus : ℕ → Rule true ℕ
minus s = do
  begin (codes "minus")
  n ← at_most (2 ^ (s - 1))
  closing
  value n

-- the word of a number with its sign
unfoldable pub signed_bits : ℕ → Option ℕ → Rule false ℕ
signed_bits s None = weaken (at_most (2 ^ (s - 1) - 1))
signed_bits s (Some n) = value (word_of s (neg_ℤ (pos n)))

-- { dec_signed SIZE N } or { dec_signed SIZE { minus N } }, after its word
unfoldable pub signed : Rule true Num
signed = do
  s ← size
  m ← maybe opens (minus s)
  b ← signed_bits s m
  closing
  value (record { signed = true; size = s; bits = b })

unfoldable pub num_tail : Lexeme → Rule true Num
num_tail w = after_word (codes "dec_unsigned") w unsigned (after_word (codes "dec_signed") w signed (unknown w))

-- NUM
unfoldable pub num : Rule true Num
num = do
  opening
  w ← some_word
  num_tail w

-- ---- initial values

-- { ref NAME OFFSET }
unfoldable pub ref_place : Rule true (List ℕ × ℕ)
ref_place = do
  begin (codes "ref")
  n ← name
  o ← offset
  closing
  value (n, o)

-- INIT = { init { ref NAME OFFSET } NUM }
unfoldable pub init : Rule true InitialValue
init = do
  begin (codes "init")
  p ← ref_place
  n ← num
  closing
  value (record { name = p.0; offset = p.1; num = n })

-- { inits INIT* }
unfoldable pub inits : Rule true (List InitialValue)
inits = do
  begin (codes "inits")
  starts ← many opens init
  closing
  value starts

-- ---- expressions

-- the operator that a word spells
unfoldable pub operator_named : List ℕ → Option Op
operator_named w = find (λ op. bytes_eq (spelling op) w) operators

unfoldable pub unsigned_term : Rule true NamedExpression
unsigned_term = do
  n ← unsigned
  value (tree.Number n)

unfoldable pub signed_term : Rule true NamedExpression
signed_term = do
  n ← signed
  value (tree.Number n)

unfoldable pub address_term : Rule true NamedExpression
address_term = do
  a ← address_tail
  value (Address a.0 a.1)

-- { load SIZE EXPR }, after its word; inner is what stands in it as an expression
unfoldable pub load : Rule true NamedExpression → Rule true NamedExpression
load inner = do
  s ← between 8 64 8
  at ← inner
  closing
  value (Load s at)

abbrev pub least_further : Op → ℕ
least_further Select = 0
least_further _ = 1

abbrev pub most_further : Op → ℕ
most_further Select = 63
most_further _ = 64

-- a size after the first, or a place in it where the operator is `select`
unfoldable pub further : Op → Rule true ℕ
further op = between (least_further op) (most_further op) 1

-- SIZE.., as many as the operator has
unfoldable pub sizes : Op → Rule true (List ℕ)
sizes op = do
  s ← size
  ss ← exactly (size_count (layout_of op) - 1) (further op)
  value (s ∷ ss)

-- { OP SIZE.. EXPR.. }, after its word
unfoldable pub apply : Rule true NamedExpression → Op → Rule true NamedExpression
apply inner op = do
  ss ← sizes op
  es ← exactly (operand_count op) inner
  closing
  value (Apply op ss (expressions_of es))

unfoldable pub operator : Rule true NamedExpression → Lexeme → Option Op → Rule true NamedExpression
operator inner w None = unknown w
operator inner w (Some op) = apply inner op

unfoldable pub expr_tail : Rule true NamedExpression → Lexeme → Rule true NamedExpression
expr_tail inner w =
    after_word (codes "dec_unsigned") w unsigned_term
    (after_word (codes "dec_signed") w signed_term
    (after_word (codes "addr") w address_term
    (after_word (codes "load") w (load inner)
    (operator inner w (operator_named w.text)))))

abbrev pub fits_too_deep : Lexeme → Result NamedExpression Fault
fits_too_deep t = if is_kind kinds.Open t.kind then Err (Limit Depth (most_depth + 1)) else Err (misfit t)

-- { .. }, where inner is what stands in it as an expression
unfoldable pub nested : Rule true NamedExpression → Rule true NamedExpression
nested inner = do
  opening
  w ← some_word
  expr_tail inner w

-- EXPR = NUM | ADDR | { load SIZE EXPR } | { OP SIZE.. EXPR.. }, in which at most so many expressions stand in one
-- another
unfoldable pub expr : ℕ → Rule true NamedExpression
expr zero = one fits_too_deep
expr (suc depth) = nested (expr depth)

-- an expression that stands in no other
unfoldable pub whole_expr : Rule true NamedExpression
whole_expr = expr most_depth
