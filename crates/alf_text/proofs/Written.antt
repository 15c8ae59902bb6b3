-- The canonical tokens of a writable tree can be printed, and are read as that tree: a line a rule.
--   Writes goes_on end p marks before after x   the marks can be printed, and p reads x of them and of the end, where it does not go on after them; the room before it and after it
--   Plain room p marks x                        the same where the rule takes nothing else, and nothing is counted
use Rattle.std.proofs.Common.{◌≡◌, ◌<◌, ◌≤◌, ◌+◌, ◌-◌, ◌*◌, ◌/◌, ◌%◌, ◌^◌, ℕ, zero, suc, pos, neg_ℤ, Bool, true, false, List, [], ◌∷◌, ◌++◌, map, length, All, Ok, Option, Some, None, refl, ap, subst, arith, codes, leb, eqb, eq-eqb}
use Rattle.std.specs.Prelude.{nat_le, decimal, IfSome}
use Rattle.std.specs.List.{flat_map}
use Rattle.std.specs.Str.{bytes_eq}
use Rattle.std.proofs.lemmas.Bool.{le-leb}
use Rattle.std.proofs.lemmas.Slice.Eq.{bytes_eq-Decides}
use Rattle.std.proofs.lemmas.List.Elements.{All-head, All-tail}
use Rattle.grammar.specs.Form.{Form, first, bound, made, exactly_form}
use Rattle.lists.specs.TestLaws.{by_test}
use Rattle.grammar.specs.Rule.{many, maybe}
use Rattle.grammar.specs.Writing.{place, Printing, tokens, row_room, never}
use Rattle.grammar.specs.WritingLaws.{value_writes, until, ◌then◌, ends, as_value, ended, grouped, row_writes, same_row}
use Rattle.grammar.specs.Writing as writing
use Rattle.alf_ops.specs.declared.operator.Op.{Op}
use Rattle.alf_ops.specs.declared.operator.Op.TheVariants.{Neg, Select}
use Rattle.alf_ops.specs.Table.{layout_of, size_count}
use Rattle.alf_ops.specs.Names.{spelling}
use Rattle.alf_ops.specs.TwosComplement.{word as word_of, is_negative}
use Rattle.alf_tokens.specs.declared.token.Kind.TheVariants as kinds
use Rattle.alf_tokens.specs.Tokens.{Lexeme}
use Rattle.alf_tokens.specs.Printed.{Mark, is_separator, is_word_text, is_mark, token_before}
use Rattle.alf_program.specs.declared.program.Num.{Num}
use Rattle.alf_program.specs.Tree.{NamedExpression, NamedExpressions, Number, Address, Load, Apply, Empty, With, Statement, Null, Store, Jump, Switch, Call, Return, BodyItem, Label, Do, Allocation, InitialValue, Function, WholeProgram, expressions_of}
use Rattle.alf_program.specs.Writable.{most_depth, most_frame_bytes, IsName, IsSize, IsFurther, AreSizesOf, NumIsWritable, AddressIsWritable, count, operand_count, PartsAreWritable, AllPartsAreWritable, depth_of, most_deep, ExpressionIsWritable, TargetIsWritable, StatementIsWritable, ItemIsWritable, AllocationIsWritable, InitialIsWritable, ends_well, FunctionIsWritable, IsWritable}
use Rattle.alf_reader.specs.Grammar.{Fault, Room, Place, Rule, is_first, number_between, opening, closing, end, some_word, word, between, fixed, size, at_most, name, begin, opens, one_function, one_frame, fits_frame, more_bytes, bits, reference, references, offset, zero_offset, label_tail, label, alloc, allocs, address_tail, address, unsigned, minus, signed_bits, signed, num_tail, num, ref_place, init, inits, operator_named, unsigned_term, signed_term, address_term, load, further, sizes, apply, operator, expr_tail, nested, expr, whole_expr}
use Rattle.alf_text.specs.Grammar.{opens_target, target, default_arm, switch, with_word, store, label_item, null, leaving, jump, result_word, call, returns, item_tail, item, closing_after, stmts, scope, arg_decls, function_tail, function, functions, closing_empty, empty, addr_unit, macro_defs, little_endian, heading, exports, imports, program}
use Rattle.alf_text.specs.Canonical.{space, line_feed, closes, a_word, a_number, a_name, listed, if_any, ref_marks, refs_marks, signed_marks, dec_unsigned_marks, num_marks, label_marks, address_marks, frame_marks, decls_marks, start_marks, starts_marks, term_marks, terms_marks, target_marks, default_marks, act_marks, entry_marks, scope_marks, function_marks, names_marks, head_marks, globals_marks, program_marks}
use Rattle.alf_text.specs.Canonical as canonical
use Rattle.alf_text.proofs.Decimals.{decimal_within, decimal_text}
use Rattle.alf_text.proofs.Named.{name_text}
use Rattle.alf_reader.specs.SignedLaws.{low_power, some_power, half_power, below, not_below, word_back}

-- how the marks of a program are printed
abbrev pub printing : Printing Lexeme Mark
printing = record { fits = is_mark; before = token_before }

abbrev Writes : {A : Type 0} → (Place → Bool) → List Mark → Form Lexeme Room Fault A → List Mark → Room → Room → A
    → Type 0
Writes goes_on end p marks before after x = writing.Writes printing goes_on end p marks before after x

-- nothing is counted
abbrev Plain : {some : Bool} {A : Type 0} → Room → Rule some A → List Mark → A → Type 0
Plain room p marks x = Writes never [] p.form marks room room x

-- in braces after their word, to the brace that closes
abbrev Inside : {some : Bool} {A : Type 0} → Room → Rule some A → List Mark → A → Type 0
Inside room p marks x = Writes never (closes ∷ []) p.form marks room room x

-- the last part before the brace that closes, where a list does not go on
last_row : {A B : Type 0} {goes_on : Place → Bool} {xs : List Mark} {p : Form Lexeme Room Fault A} {f : A → B} {a b : Room} {x : A}
    → ((more : List Lexeme) → goes_on (place (tokens printing more (closes ∷ [])) b) ≡ false)
    → Writes goes_on [] p xs a b x
    → Writes never (closes ∷ []) (bound p (λ x. bound closing.form (λ _. made (f x)))) xs a b (f x)
unfolding closing
last_row {f = f} stops h = ends (λ x. bound closing.form (λ _. made (f x))) h stops (λ z more e free. refl)

last : {A B : Type 0} {xs : List Mark} {p : Form Lexeme Room Fault A} {f : A → B} {a b : Room} {x : A}
    → Writes never [] p xs a b x
    → Writes never (closes ∷ []) (bound p (λ x. bound closing.form (λ _. made (f x)))) xs a b (f x)
last h = last_row (λ more. refl) h

-- with the brace that closes
closed : {A : Type 0} {goes : Place → Bool} {xs : List Mark} {p : Form Lexeme Room Fault A} {a b : Room} {x : A}
    → Writes goes (closes ∷ []) p xs a b x → Writes goes [] p (xs ++ closes ∷ []) a b x
closed h = ended refl h

any_writes : {A : Type 0} (Fine : A → Type 0) (p : Rule true A) (marks : A → List Mark)
    → ((x : A) → Fine x → (more : List Lexeme) (room : Room)
    → opens (place (tokens printing more (marks x)) room) ≡ true)
    → ((x : A) → Fine x → (room : Room) → Plain room p (marks x) x) → (o : Option A) → IfSome o Fine → {room : Room} → Writes opens [] (maybe opens p).form (if_any marks o) room room o
any_writes Fine p marks begins each None w = record { prints = refl; reads = λ more stops. rw stops refl }
any_writes Fine p marks begins each (Some x) w {room = room} = let h = each x w room in record { prints = h.prints; reads = λ more stops. rw (begins x w more room, h.reads more refl) refl }

-- ---- single tokens

-- a number is read from its own digits
own_digits : (least most step n : ℕ) → n < 2 ^ 64 → least ≤ n → n ≤ most → n % step ≡ 0
    → number_between least most step (decimal n) ≡ Some n
own_digits least most step n lt low high whole = let l : leb least n ≡ true = le-leb _ _ low in let z : eqb (n % step) 0 ≡ true = eq-eqb _ _ whole in rw (decimal_within most n lt high, l, z) refl

opening_writes : (blank : ℕ) → is_separator blank ≡ true → {room : Room}
    → Plain room opening (canonical.opens blank ∷ []) tt
unfolding opening
opening_writes blank b = record { prints = rw b refl; reads = λ more free. refl }

word_writes : (w : List ℕ) → is_word_text w ≡ true → {room : Room} → Plain room (word w) (a_word w ∷ []) tt
unfolding word
word_writes w h = record { prints = rw h refl; reads = λ more free. let same : bytes_eq w w ≡ true = (bytes_eq-Decides w w).1 refl in rw same refl }

begin_writes : (blank : ℕ) (w : List ℕ) → is_separator blank ≡ true → is_word_text w ≡ true → {room : Room}
    → Plain room (begin w) (canonical.opens blank ∷ a_word w ∷ []) tt
unfolding begin
begin_writes blank w b h = opening_writes blank b then λ _. as_value (word_writes w h)

-- a brace and any word, which decides on the rule for what follows
worded : {A : Type 0} {goes : Place → Bool} {end inner : List Mark} {a b : Room} {x : A} (rule : Lexeme → Rule true A) (blank : ℕ) (w : List ℕ) → is_separator blank ≡ true → is_word_text w ≡ true
    → ((left : ℕ) → Writes goes end (rule (record { kind = kinds.Word; text = w; left = left })).form inner a b x)
    → Writes goes end (bound opening.form (λ _. bound some_word.form (λ w. (rule w).form)))
    (canonical.opens blank ∷ a_word w ∷ inner) a b x
unfolding opening some_word
worded rule blank w b h i = record { prints = rw (b, h) (i 0).prints; reads = λ more free. (i _).reads more free }

name_writes : (n : List ℕ) → IsName n → {room : Room} → Plain room name (a_name n ∷ []) n
unfolding name
name_writes n w = record { prints = rw (name_text n w) refl; reads = λ more free. refl }

number_writes : (least most step n : ℕ) → n < 2 ^ 64 → least ≤ n → n ≤ most → n % step ≡ 0 → {room : Room}
    → Plain room (between least most step) (a_number n ∷ []) n
unfolding between
number_writes least most step n lt low high whole = record { prints = rw (decimal_text n lt) refl; reads = λ more free. rw (own_digits least most step n lt low high whole) refl }

fixed_writes : (n : ℕ) → n < 2 ^ 64 → {room : Room} → Plain room (fixed n) (a_number n ∷ []) tt
unfolding fixed
fixed_writes n lt = as_value (number_writes n n 1 n lt (omega arith) (omega arith) (omega arith))

at_most_writes : (most n : ℕ) → n < 2 ^ 64 → n ≤ most → {room : Room} → Plain room (at_most most) (a_number n ∷ []) n
unfolding at_most
at_most_writes most n lt le = record { prints = rw (decimal_text n lt) refl; reads = λ more free. rw (decimal_within most n lt le) refl }

-- ---- names and labels

reference_writes : (w n : List ℕ) → is_word_text w ≡ true → IsName n → {room : Room}
    → Plain room (reference w) (ref_marks w n) n
unfolding reference
reference_writes w n h is = closed (begin_writes space w refl h then λ _. fixed_writes 32 (omega arith) then λ _. last (name_writes n is))

-- a list of what begins with a brace
list_writes : {A : Type 0} {marks : List Mark} {a b : Room} {xs : List A} (p : Rule true A) (list : List ℕ)
    → is_word_text list ≡ true → Writes opens [] (many opens p).form marks a b xs
    → Writes never [] (bound (begin list).form (λ _. bound (many opens p).form (λ xs. bound closing.form (λ _. made xs)))) (canonical.braced space list marks) a b xs
list_writes p list h row = closed (begin_writes space list refl h then λ _. last_row (λ more. refl) row)

references_write : (list w : List ℕ) (names : List (List ℕ)) → is_word_text list ≡ true → is_word_text w ≡ true
    → All IsName names → {room : Room} → Plain room (references list w) (refs_marks list w names) names
unfolding references
references_write list w names h i all = list_writes (reference w) list h (same_row opens (reference w) (ref_marks w) (λ n is more room. refl) (λ n is room. reference_writes w n i is) names all)

offset_writes : (o : ℕ) → o < 2 ^ 32 → {room : Room} → Plain room offset (dec_unsigned_marks 32 o) o
unfolding offset
offset_writes o lt =
    closed
    (begin_writes space (codes "dec_unsigned") refl refl then λ _. fixed_writes 32 (omega arith)
    then λ _. last (at_most_writes (2 ^ 32 - 1) o (omega (arith, lt)) (omega (arith, lt))))

label_tail_writes : (n : List ℕ) → IsName n → {room : Room}
    → Inside room label_tail (a_number 32 ∷ ref_marks (codes "lref") n ++ dec_unsigned_marks 32 0) n
unfolding label_tail zero_offset
label_tail_writes n w = fixed_writes 32 (omega arith) then λ _. reference_writes (codes "lref") n refl w
    then λ _. last (closed (begin_writes space (codes "dec_unsigned") refl refl then λ _. fixed_writes 32 (omega arith) then λ _. last (fixed_writes 0 (omega arith))))

label_writes : (blank : ℕ) (n : List ℕ) → is_separator blank ≡ true → IsName n → {room : Room}
    → Plain room label (label_marks blank n) n
unfolding label
label_writes blank n b w = closed (begin_writes blank (codes "label") b refl then λ _. as_value (label_tail_writes n w))

address_tail_writes : (a : List ℕ × ℕ) → AddressIsWritable a → {room : Room}
    → Inside room address_tail (a_number 32 ∷ ref_marks (codes "fref") a.0 ++ dec_unsigned_marks 32 a.1) a
unfolding address_tail
address_tail_writes a w = fixed_writes 32 (omega arith) then λ _. reference_writes (codes "fref") a.0 refl w.name then λ _. last (offset_writes a.1 w.offset)

address_writes : (a : List ℕ × ℕ) → AddressIsWritable a → {room : Room} → Plain room address (address_marks a) a
unfolding address
address_writes a w = closed (begin_writes space (codes "addr") refl refl then λ _. as_value (address_tail_writes a w))

-- ---- frames

-- what is spent is there, and the rest is left
there : (amount room : ℕ) → nat_le amount (room + amount) ≡ true
there amount room = le-leb amount (room + amount) (omega arith)

rest : (amount room : ℕ) → (room + amount) - amount ≡ room
rest amount room = omega arith

-- room for one more function, one more frame, and so many more bytes
abbrev pub with_function : Room → Room
with_function room = record { functions = room.functions + 1; frames = room.frames; bytes = room.bytes }

abbrev pub with_frame : Room → Room
with_frame room = record { functions = room.functions; frames = room.frames + 1; bytes = room.bytes }

abbrev pub with_bytes : ℕ → Room → Room
with_bytes bytes room = record { functions = room.functions; frames = room.frames; bytes = room.bytes + bytes }

one_function_writes : {room : Room} → Writes never [] one_function.form [] (with_function room) room tt
unfolding one_function
one_function_writes {room = room} = record { prints = refl; reads = λ more free. rw (there 1 room.functions, rest 1 room.functions) refl }

one_frame_writes : {room : Room} → Writes never [] one_frame.form [] (with_frame room) room tt
unfolding one_frame
one_frame_writes {room = room} = record { prints = refl; reads = λ more free. rw (there 1 room.frames, rest 1 room.frames) refl }

bits_writes : (b : ℕ) → 1 ≤ b → b % 8 ≡ 0 → b ≤ 8 * most_frame_bytes → {room : Room}
    → Writes never [] bits.form (a_number b ∷ []) (with_bytes (b / 8) room) room b
unfolding bits between fits_frame more_bytes
bits_writes b some whole small {room = room} =
    let fits : nat_le (b / 8) most_frame_bytes ≡ true = le-leb (b / 8) most_frame_bytes (omega (arith, small, whole)) in
    record {
      prints = rw (decimal_text b (omega (arith, small))) refl;
      reads = λ more free. rw (own_digits 1 (2 ^ 128 - 1) 8 b (omega (arith, small)) some (omega (arith, small)) whole, fits, there (b / 8) room.bytes, rest (b / 8) room.bytes) refl;
    }

-- the room that a frame needs, where this room is left after it
abbrev pub need : Allocation → Room → Room
need f room = with_frame (with_bytes (f.bits / 8) room)

abbrev pub needs : List Allocation → Room → Room
needs fs room = row_room need fs room

frame_writes : (f : Allocation) → AllocationIsWritable f → (room : Room)
    → Writes never [] alloc.form (frame_marks f) (need f room) room f
unfolding alloc
frame_writes f w room =
    closed
    (opening_writes line_feed refl then λ _. one_frame_writes then λ _. word_writes (codes "alloc") refl
    then λ _. fixed_writes 32 (omega arith) then λ _. name_writes f.name w.name
    then λ _. last (bits_writes f.bits w.some w.bytes w.small))

frames_write : (list : List ℕ) (fs : List Allocation) → is_word_text list ≡ true → All AllocationIsWritable fs
    → {room : Room} → Writes never [] (allocs list).form (listed list frame_marks fs) (needs fs room) room fs
unfolding allocs
frames_write list fs h all {room = room} = list_writes alloc list h (row_writes opens alloc frame_marks need (λ f w more room. refl) frame_writes fs all room)

-- ---- numbers with their sizes

size_writes : (s : ℕ) → IsSize s → {room : Room} → Plain room size (a_number s ∷ []) s
unfolding size
size_writes s w = number_writes 1 64 1 s (omega (arith, w.1)) w.0 w.1 (omega arith)

unsigned_writes : (s b : ℕ) → IsSize s → b < 2 ^ s → {room : Room}
    → Inside room unsigned (a_number s ∷ a_number b ∷ []) (record { signed = false; size = s; bits = b })
unfolding unsigned size between at_most closing
unsigned_writes s b w lt =
    let small : b < 2 ^ 64 = omega (arith, lt, low_power s w.1) in
    record {
      prints = rw (decimal_text s (omega (arith, w.1)), decimal_text b small) refl;
      reads = λ more free. rw (own_digits 1 64 1 s (omega (arith, w.1)) w.0 w.1 (omega arith), decimal_within (2 ^ s - 1) b small (omega (arith, lt))) refl;
    }

signed_writes : (s b : ℕ) → IsSize s → b < 2 ^ s → {room : Room}
    → Inside room signed (a_number s ∷ signed_marks s b) (record { signed = true; size = s; bits = b })
unfolding signed size between minus begin opening word at_most signed_bits closing signed_marks
signed_writes s b w lt {room = room} = by_sign (is_negative s b) refl
  where
    by_sign : (negative : Bool) → is_negative s b ≡ negative
        → Inside room signed (a_number s ∷ signed_marks s b) (record { signed = true; size = s; bits = b })
    by_sign true e =
        let is = below s b lt e in
        let half = half_power s w.0 in
        let low : 2 ^ s - b ≤ 2 ^ (s - 1) = omega (arith, half, is.near) in
        let small : 2 ^ s - b < 2 ^ 64 = omega (arith, low, half, low_power s w.1, some_power (s - 1)) in
        let back : word_of s (neg_ℤ (pos (2 ^ s - b))) ≡ b = word_back s b (omega (arith, is.near, some_power (s - 1))) lt in
        record {
          prints = rw (e, is.far, decimal_text s (omega (arith, w.1)), decimal_text (2 ^ s - b) small) refl;
          reads = λ more free. rw (e, is.far, own_digits 1 64 1 s (omega (arith, w.1)) w.0 w.1 (omega arith), decimal_within (2 ^ (s - 1)) (2 ^ s - b) small low, back) refl;
        }
    by_sign false e =
        let small : b < 2 ^ 64 = omega (arith, lt, low_power s w.1) in
        let low : b ≤ 2 ^ (s - 1) - 1 = omega (arith, not_below s b lt e) in
        record {
          prints = rw (e, decimal_text s (omega (arith, w.1)), decimal_text b small) refl;
          reads = λ more free. rw (e, own_digits 1 64 1 s (omega (arith, w.1)) w.0 w.1 (omega arith), decimal_within (2 ^ (s - 1) - 1) b small low) refl;
        }

num_writes : (n : Num) → NumIsWritable n → {room : Room} → Plain room num (num_marks n) n
unfolding num num_tail num_marks
num_writes n w {room = room} = by_sign n.signed
  where
    by_sign : (signed : Bool) → Plain room num (num_marks (record { signed = signed; size = n.size; bits = n.bits })) (record { signed = signed; size = n.size; bits = n.bits })
    by_sign true = closed (worded num_tail space (codes "dec_signed") refl refl (λ left. signed_writes n.size n.bits (w.some, w.small) w.fits))
    by_sign false = closed (worded num_tail space (codes "dec_unsigned") refl refl (λ left. unsigned_writes n.size n.bits (w.some, w.small) w.fits))

-- ---- initial values

start_writes : (s : InitialValue) → InitialIsWritable s → {room : Room} → Plain room init (start_marks s) s
unfolding init ref_place
start_writes s w = closed (begin_writes line_feed (codes "init") refl refl
    then λ _. closed (begin_writes space (codes "ref") refl refl then λ _. name_writes s.name w.name then λ _. last (offset_writes s.offset w.offset)) then λ _. last (num_writes s.num w.num))

starts_write : (ss : List InitialValue) → All InitialIsWritable ss → {room : Room}
    → Plain room inits (starts_marks ss) ss
unfolding inits
starts_write ss all = list_writes init (codes "inits") refl (same_row opens init start_marks (λ s w more room. refl) (λ s w room. start_writes s w) ss all)

-- ---- expressions

-- an operator's word can be printed, and begins no other expression
own_word : (op : Op) → is_word_text (spelling op) ≡ true
own_word Neg = refl
own_word _ = refl

operator_writes : {end marks : List Mark} {a b : Room} {t : NamedExpression} (inner : Rule true NamedExpression) (op : Op) (left : ℕ) → Writes never end (apply inner op).form marks a b t
    → Writes never end (expr_tail inner (record { kind = kinds.Word; text = spelling op; left = left })).form marks a b t
unfolding expr_tail operator operator_named
operator_writes inner Neg left h = h
operator_writes inner _ left h = h

further_writes : (op : Op) (n : ℕ) → IsFurther op n → {room : Room} → Plain room (further op) (a_number n ∷ []) n
unfolding further
further_writes Select n w = number_writes 0 63 1 n (omega (arith, w)) (omega arith) w (omega arith)
further_writes _ n w = number_writes 1 64 1 n (omega (arith, w.1)) w.0 w.1 (omega arith)

furthers_write : (op : Op) (ns : List ℕ) (count : ℕ) → length ns ≡ count → All (IsFurther op) ns → {room : Room}
    → Writes never [] (exactly_form count (further op).form) (map a_number ns) room room ns
unfolding exactly_form
furthers_write op [] zero e w = value_writes
furthers_write op (n ∷ ns) (suc count) e w = further_writes op n (All-head (IsFurther op) n ns w) then λ _. as_value (furthers_write op ns count (omega arith) (All-tail (IsFurther op) n ns w))
furthers_write op _ _ e w = absurd (omega arith)

pub some_sizes : (op : Op) → 1 ≤ size_count (layout_of op)
some_sizes Neg = omega arith
some_sizes _ = omega arith

sizes_write : (op : Op) (ss : List ℕ) → AreSizesOf op ss → {room : Room} → Plain room (sizes op) (map a_number ss) ss
unfolding sizes
sizes_write op [] w = absurd (omega (arith, w.first.0))
sizes_write op (s ∷ ss) w = size_writes s w.first then λ _. as_value (furthers_write op ss (size_count (layout_of op) - 1) (omega (arith, w.count)) w.others)

abbrev list_of : NamedExpressions → List NamedExpression
list_of Empty = []
list_of (With t ts) = t ∷ list_of ts

same_terms : (ts : NamedExpressions) → expressions_of (list_of ts) ≡ ts
same_terms Empty = refl
same_terms (With t ts) = ap (With t) (same_terms ts)

number_term_writes : (n : Num) (inner : Rule true NamedExpression) → NumIsWritable n → {room : Room}
    → Plain room (nested inner) (num_marks n) (Number n)
unfolding nested expr_tail unsigned_term signed_term num_marks
number_term_writes n inner w {room = room} = by_sign n.signed
  where
    by_sign : (signed : Bool) → Plain room (nested inner) (num_marks (record { signed = signed; size = n.size; bits = n.bits })) (Number (record { signed = signed; size = n.size; bits = n.bits }))
    by_sign true = closed (worded (expr_tail inner) space (codes "dec_signed") refl refl (λ left. as_value (signed_writes n.size n.bits (w.some, w.small) w.fits)))
    by_sign false = closed (worded (expr_tail inner) space (codes "dec_unsigned") refl refl (λ left. as_value (unsigned_writes n.size n.bits (w.some, w.small) w.fits)))

mutual
  unfolding expr nested expr_tail address_term load apply exactly_form

  term_writes : (t : NamedExpression) (depth : ℕ) → depth_of t ≤ depth → PartsAreWritable t → {room : Room}
      → Plain room (expr depth) (term_marks t) t
  term_writes (Number n) zero d w = absurd (omega arith)
  term_writes _ zero d w = absurd (omega arith)
  term_writes (Number n) (suc depth) d w = number_term_writes n (expr depth) w
  term_writes (Address n o) (suc depth) d w = closed (worded (expr_tail (expr depth)) space (codes "addr") refl refl (λ left. as_value (address_tail_writes (n, o) w)))
  term_writes (Load s e) (suc depth) d w = closed (worded (expr_tail (expr depth)) space (codes "load") refl refl
      (λ left. number_writes 8 64 8 s (omega (arith, w.0.small)) (omega (arith, w.0.some, w.0.bytes)) w.0.small w.0.bytes then λ _. last (term_writes e depth (omega arith) w.1)))
  term_writes (Apply op ss es) (suc depth) d w {room = room} = subst (λ (ts : NamedExpressions). Plain room (expr (suc depth)) (term_marks (Apply op ss es)) (Apply op ss ts)) (same_terms es)
      (closed
      (worded (expr_tail (expr depth)) space (spelling op) refl (own_word op) (λ left.
      operator_writes (expr depth) op left
      (sizes_write op ss w.0 then λ _. last (terms_write es depth (operand_count op) w.1 (omega arith) w.2)))))

  terms_write : (ts : NamedExpressions) (depth n : ℕ) → count ts ≡ n → most_deep ts ≤ depth → AllPartsAreWritable ts
      → {room : Room} → Writes never [] (exactly_form n (expr depth).form) (terms_marks ts) room room (list_of ts)
  terms_write Empty depth zero e d w = value_writes
  terms_write (With t ts) depth (suc n) e d w = term_writes t depth (omega arith) w.0 then λ _. as_value (terms_write ts depth n (omega arith) (omega arith) w.1)
  terms_write _ depth _ e d w = absurd (omega arith)

whole_writes : (t : NamedExpression) → ExpressionIsWritable t → {room : Room} → Plain room whole_expr (term_marks t) t
unfolding whole_expr
whole_writes t w = term_writes t most_depth w.depth w.parts

term_opens : (t : NamedExpression) (more : List Lexeme) (room : Room)
    → opens (place (tokens printing more (term_marks t)) room) ≡ true
unfolding num_marks
term_opens (Number n) more room = by_test n.signed (λ e. rw e refl) (λ e. rw e refl)
term_opens _ more room = refl

-- ---- items

target_writes : (t : Num × List ℕ) → TargetIsWritable t → {room : Room} → Plain room target (target_marks t) t
unfolding target
target_writes t w = closed (begin_writes space (codes "target") refl refl then λ _. num_writes t.0 w.num then λ _. last (label_writes space t.1 refl w.label))

act_writes : (a : Statement) → StatementIsWritable a → {room : Room} → Plain room item (act_marks a) (Do a)
unfolding item item_tail null store with_word jump leaving switch default_arm call result_word returns closing
act_writes Null w = closed (worded {inner = []} item_tail line_feed (codes "null") refl refl (λ left. record { prints = refl; reads = λ more free. refl }))
act_writes (Store at value) w = closed (worded item_tail line_feed (codes "store") refl refl (λ left. grouped (term_marks at) (a_word (codes "with") ∷ []) (term_marks value)
    (whole_writes at w.0 then λ _. word_writes (codes "with") refl then λ _. last (whole_writes value w.1))))
act_writes (Jump n) w =
    closed
    (worded item_tail line_feed (codes "jump") refl refl (λ left. label_writes space n refl w
    then λ _. word_writes (codes "leaving") refl then λ _. last (fixed_writes 0 (omega arith))))
act_writes (Switch value targets others) w = closed (worded item_tail line_feed (codes "switch") refl refl (λ left. grouped (term_marks value) (flat_map target_marks targets) (default_marks others)
    (whole_writes value w.0
    then λ _. until
    (same_row opens_target target target_marks (λ t w more room. refl) (λ t w room. target_writes t w) targets w.1)
    (λ more. refl)
    (λ _. last
    (closed (begin_writes space (codes "default") refl refl then λ _. last (label_writes space others refl w.2)))))))
act_writes (Call n args to) w = closed (worded item_tail line_feed (codes "call") refl refl (λ left. label_writes space n refl w.0
    then λ _. grouped (flat_map term_marks args) (a_word (codes "result") ∷ []) (if_any address_marks to)
    (until (same_row opens whole_expr term_marks (λ t w more room. term_opens t more room) (λ t w room. whole_writes t w) args w.1) (λ more. refl)
    (λ _. word_writes (codes "result") refl then λ _. last_row (λ more. refl) (any_writes AddressIsWritable address address_marks (λ a w more room. refl) (λ a w room. address_writes a w) to w.2)))))
act_writes (Return value) w =
    closed
    (worded item_tail line_feed (codes "return") refl refl (λ left.
    last_row (λ more. refl)
    (any_writes ExpressionIsWritable whole_expr term_marks (λ t w more room. term_opens t more room)
    (λ t w room. whole_writes t w) value w)))

item_writes : (x : BodyItem) → ItemIsWritable x → {room : Room} → Plain room item (entry_marks x) x
unfolding item item_tail label_item
item_writes (Label n) w = closed (worded item_tail line_feed (codes "label") refl refl (λ left. as_value (label_tail_writes n w)))
item_writes (Do a) w = act_writes a w

item_opens : (x : BodyItem) (more : List Lexeme) (room : Room)
    → opens (place (tokens printing more (entry_marks x)) room) ≡ true
item_opens (Label n) more room = refl
item_opens (Do Null) more room = refl
item_opens (Do _) more room = refl

-- ---- functions

stmts_write : (xs : List BodyItem) → All ItemIsWritable xs → ends_well xs ≡ true → {room : Room}
    → Plain room stmts (listed (codes "stmts") entry_marks xs) xs
unfolding stmts closing_after
stmts_write xs all good = closed (begin_writes space (codes "stmts") refl refl
    then λ _. ends {f = λ xs. xs} (λ xs. bound (closing_after xs).form (λ _. made xs))
    (same_row opens item entry_marks (λ x w more room. item_opens x more room) (λ x w room. item_writes x w) xs all)
    (λ more. refl) (λ z more e free. rw (e, good) refl))

scope_writes : (f : Function) → FunctionIsWritable f → {room : Room} → Writes never [] scope.form (scope_marks f.decls f.inits f.items) (needs f.decls room) room (f.decls, f.inits, f.items)
unfolding scope
scope_writes f w = closed (begin_writes space (codes "scope") refl refl then λ _. grouped (decls_marks f.decls) (starts_marks f.inits) (listed (codes "stmts") entry_marks f.items)
    (frames_write (codes "decls") f.decls refl w.decls then λ _. starts_write f.inits w.inits then λ _. last (stmts_write f.items w.items w.ends)))

-- the room that a function needs
abbrev pub func_needs : Function → Room → Room
func_needs f room = with_function (needs f.args (needs f.decls room))

abbrev pub all_need : List Function → Room → Room
all_need fs room = row_room func_needs fs room

function_writes : (f : Function) → FunctionIsWritable f → (room : Room)
    → Writes never [] function.form (function_marks f) (func_needs f room) room f
unfolding function function_tail arg_decls
function_writes f w room = closed (opening_writes line_feed refl then λ _. one_function_writes {room = needs f.args (needs f.decls room)} then λ _. word_writes (codes "func") refl
    then λ _. as_value (label_writes space f.name refl w.name then λ _. frames_write (codes "arg_decls") f.args refl w.args then λ _. last (scope_writes f w)))

functions_write : (fs : List Function) → All FunctionIsWritable fs → {room : Room}
    → Writes never [] functions.form (listed (codes "funcs") function_marks fs) (all_need fs room) room fs
unfolding functions
functions_write fs all {room = room} = list_writes function (codes "funcs") refl (row_writes opens function function_marks func_needs (λ f w more room. refl) function_writes fs all room)

-- ---- programs

heading_writes : {room : Room} → Plain room heading head_marks tt
unfolding heading macro_defs empty closing_empty addr_unit little_endian begin opening word fixed between closing
heading_writes = record {
  prints = rw (decimal_text 8 (omega arith)) refl;
  reads = λ more free. rw (own_digits 8 8 1 8 (omega arith) (omega arith) (omega arith) (omega arith)) refl;
}

exports_write : (frames labels : List (List ℕ)) → All IsName frames → All IsName labels → {room : Room}
    → Plain room exports (names_marks (codes "exports") frames labels) (frames, labels)
unfolding exports
exports_write frames labels f l = closed (begin_writes space (codes "exports") refl refl then λ _. references_write (codes "frefs") (codes "fref") frames refl refl f
    then λ _. last (references_write (codes "lrefs") (codes "lref") labels refl refl l))

imports_write : {room : Room} → Plain room imports (names_marks (codes "imports") [] []) tt
unfolding imports empty closing_empty begin opening word closing
imports_write = record { prints = refl; reads = λ more free. refl }

-- something is left
abbrev pub is_more : Place → Bool
is_more at = is_first (λ t. true) (first at)

-- the last part of a text
last_of_all : {A B : Type 0} {xs : List Mark} {p : Form Lexeme Room Fault A} {f : A → B} {a b : Room} {x : A}
    → Writes never [] p xs a b x → Writes is_more (closes ∷ []) (bound p (λ x. bound closing.form (λ _. bound end.form (λ _. made (f x))))) xs a b (f x)
unfolding closing end
last_of_all {A = A} {f = f} {b = b} h = ends (λ x. bound closing.form (λ _. bound end.form (λ _. made (f x)))) h (λ more. refl) (λ z more e free. over more z free)
  where
    over : (more : List Lexeme) (z : A) → is_more (place more b) ≡ false
        → (bound closing.form (λ _. bound end.form (λ _. made (f z)))).reading
        (place (tokens printing more (closes ∷ [])) b) ≡ Ok (f z, place more b)
    over [] z free = refl
    over (t ∷ ts) z free = absurd cc

pub program_writes : (whole : WholeProgram) → IsWritable whole → (room : Room)
    → writing.Writes printing is_more [] program.form (program_marks whole)
    (needs whole.decls (all_need whole.funcs room)) room whole
unfolding program
program_writes whole w room = closed (begin_writes space (codes "alf") refl refl then λ _. heading_writes
    then λ _. grouped (names_marks (codes "exports") whole.exports whole.labels) (names_marks (codes "imports") [] []) (globals_marks whole)
    (exports_write whole.exports whole.labels w.exports w.labels then λ _. imports_write
    then λ _. grouped (decls_marks whole.decls) (starts_marks whole.inits) (listed (codes "funcs") function_marks whole.funcs)
    (frames_write (codes "decls") whole.decls refl w.decls then λ _. starts_write whole.inits w.inits then λ _. last_of_all (functions_write whole.funcs w.funcs))))
