-- What a rule spells is writable: a line a rule.
use Rattle.std.proofs.Common.{◌≡◌, ◌<◌, ◌≤◌, ◌+◌, ◌-◌, ◌*◌, ◌/◌, ◌%◌, ◌^◌, ◌&&◌, ◌==◌, ℕ, zero, suc, Bool, true, false, cond, List, [], ◌∷◌, length, All, Ok, Err, Option, Some, None, Result, refl, ap, subst, ◌∙◌, arith, codes}
use Rattle.std.specs.Prelude.{nat_le}
use Rattle.std.specs.List.{list_all}
use Rattle.std.specs.Str.{bytes_eq}
use Rattle.std.proofs.lemmas.Bool.{leb-true}
use Rattle.std.proofs.lemmas.Bool.Decides.{nat_tests}
use Rattle.std.proofs.lemmas.List.Elements.{All-head, All-tail}
use Rattle.lists.specs.TestLaws.{by_test}
use Rattle.flow_base.specs.Digits.{prefix_digits, number_of}
use Rattle.flow_base.specs.declared.place.Which.TheVariants.{Depth, Functions, Frames, FrameBytes, AllBytes}
use Rattle.grammar.specs.Form.{bound, made}
use Rattle.grammar.specs.Exact.{ok_no_err}
use Rattle.grammar.specs.ExactLaws.{ok_is}
use Rattle.grammar.specs.Each.{Each}
use Rattle.grammar.specs.Keeping.{Keeps, Any}
use Rattle.grammar.specs.KeepingLaws.{◌>>>◌, ◌>>-◌, done, stays, passes, keeps, weakened, one_stays, one_passes, judged_passes, judged_stays, refused_stays, row_stays, row_keeps, spent_keeps, maybe_stays, exactly_stays}
use Rattle.grammar.specs.Keeping
use Rattle.alf_ops.specs.declared.operator.Op.{Op}
use Rattle.alf_ops.specs.declared.operator.Op.TheVariants.{Select}
use Rattle.alf_ops.specs.Table.{layout_of, size_count}
use Rattle.alf_tokens.specs.declared.token.Kind.TheVariants as kinds
use Rattle.alf_tokens.specs.Tokens.{Lexeme, is_kind, tokens_of}
use Rattle.alf_tokens.specs.Printed.{is_name_text, is_named_well}
use Rattle.alf_tokens.specs.Laws.{EachNameIsNamedWell}
use Rattle.alf_program.specs.Tree.{NamedExpression, BodyItem, Allocation, InitialValue, WholeProgram, expressions_of}
use Rattle.alf_program.specs.Writable.{most_depth, most_frame_bytes, IsName, IsSize, IsFurther, AreSizesOf, NumIsWritable, AddressIsWritable, count, PartsAreWritable, AllPartsAreWritable, depth_of, most_deep, ExpressionIsWritable, TargetIsWritable, ItemIsWritable, ends_well, AllocationIsWritable, InitialIsWritable, FunctionIsWritable, IsWritable}
use Rattle.alf_reader.specs.Grammar.{Fault, Limit, most_functions, most_frames, most_bytes_of_frames, Room, Rule, Number, misfit, outside, or_fault, fits, fits_number, number_within, from_least, number_between, either, opening, closing, end, some_word, word, between, fixed, size, at_most, name, begin, unknown, opens, one_function, one_frame, fits_frame, more_bytes, bits, reference, references, offset, zero_offset, label_tail, label, alloc, allocs, address_tail, address, unsigned, minus, signed_bits, signed, num_tail, num, ref_place, init, inits, operator_named, operand_count, unsigned_term, signed_term, address_term, load, further, sizes, apply, operator, expr_tail, nested, expr, whole_expr}
use Rattle.alf_text.specs.Grammar.{opens_target, target, default_arm, switch, with_word, store, label_item, null, leaving, jump, result_word, call, returns, item_tail, item, closing_after, stmts, scope, arg_decls, function_tail, function, functions, closing_empty, empty, addr_unit, macro_defs, little_endian, heading, exports, imports, program}
use Rattle.alf_text.specs.Language.{start, IsSpelled}
use Rattle.alf_text.proofs.Named.{text_name}
use Rattle.alf_reader.specs.SignedLaws.{half_power, some_power, word_fits}
use Rattle.alf_text.proofs.Written.{with_function, with_frame, with_bytes, need, needs, func_needs, all_need, some_sizes}
use Rattle.alf_text.proofs.Needs.{full, whole_needs, whole_counted}

-- a token that is named well
abbrev Good : Lexeme → Type 0
Good t = is_named_well t ≡ true

-- each value that the rule spells is so, and nothing is counted
abbrev Stays : {some : Bool} {A : Type 0} → Rule some A → (A → Type 0) → Type 0
Stays p Q = Keeping.Stays Good p.form Q

-- where a test decides between a reading and a departure, or a value and none
passed : {A : Type 0} (b : Bool) (r : Result A Fault) (f : Fault) (x : A) → cond b r (Err f) ≡ Ok x
    → (b ≡ true) × (r ≡ Ok x)
passed true r f x e = (refl, e)
passed false r f x e = ok_no_err x f e

chosen : {A : Type 0} (b : Bool) (a x : A) → cond b (Some a) None ≡ Some x → (b ≡ true) × (a ≡ x)
chosen true a x e = (refl, cc)
chosen false a x e = absurd cc

-- ---- tokens

opening_passes : Stays opening Any
unfolding opening
opening_passes = one_passes

closing_passes : Stays closing Any
unfolding closing
closing_passes = one_passes

some_word_passes : Stays some_word Any
unfolding some_word
some_word_passes = one_passes

word_passes : (w : List ℕ) → Stays (word w) Any
unfolding word
word_passes w = one_passes

begin_passes : (w : List ℕ) → Stays (begin w) Any
unfolding begin
begin_passes w = passes (λ room. opening_passes >>- λ _ _. word_passes w >>- λ _ _. done refl)

-- the brace that closes, and then a value
ending : {A : Type 0} {a : A} {room : Room} {Q : A → Room → Type 0} → Q a room
    → Keeps Good (bound closing.form (λ _. made a)) room Q
ending h = closing_passes >>- λ _ _. done h

unknown_stays : {A : Type 0} {Q : A → Type 0} (t : Lexeme) → Stays (unknown {A = A} t) Q
unfolding unknown
unknown_stays t = refused_stays

either_stays : {A : Type 0} {Q : A → Type 0} (b : Bool) (p q : Rule true A) → Stays p Q → Stays q Q
    → Stays (either b p q) Q
either_stays true p q hp hq = hp
either_stays false p q hp hq = hq

-- ---- names

name_keeps : Stays name IsName
unfolding name
name_keeps = one_stays (λ t at x good e.
    let quoted = passed (is_kind kinds.Quoted t.kind) (Ok t.text) (misfit t) x e in
    let well : is_name_text t.text ≡ true = rw quoted.0 at good in
    subst IsName (ok_is {F = Fault} t.text x quoted.1) (text_name t.text well))

-- ---- numbers

-- from the least to the most, and a multiple of the step
abbrev IsBetween : ℕ → ℕ → ℕ → ℕ → Type 0
IsBetween least most step n = (least ≤ n) × (n ≤ most) × (n % step ≡ 0)

within : (most : ℕ) (ds : List ℕ) (n : ℕ) → number_within most ds ≡ Some n → n ≤ most
within most [] n e = absurd cc
within most (d ∷ ds) n e = let low = chosen (nat_le (number_of (d ∷ ds)) most) (number_of (d ∷ ds)) n e in omega (arith, leb-true _ _ low.0, low.1)

from_bounds : (least step : ℕ) (o : Option ℕ) (n : ℕ) → from_least least step o ≡ Some n
    → (o ≡ Some n) × (least ≤ n) × (n % step ≡ 0)
from_bounds least step None n e = absurd cc
from_bounds least step (Some m) n e =
    let c = chosen (nat_le least m && (m % step == 0)) m n e in
    let test : nat_le least m && (m % step == 0) ≡ true = c.0 in
    subst (λ k. (Some m ≡ Some k) × (least ≤ k) × (k % step ≡ 0)) c.1 (refl, grind (arith, nat_tests), grind (arith, nat_tests))

some_of : {A : Type 0} (f : Fault) (o : Option A) (x : A) → or_fault f o ≡ Ok x → o ≡ Some x
some_of f None x e = ok_no_err x f e
some_of f (Some y) x e = ap (λ z. Some z) (ok_is {F = Fault} y x e)

fits_some : {A : Type 0} (other : Lexeme → Fault) (table : List ℕ → Option A) (t : Lexeme) (x : A)
    → fits_number other table t ≡ Ok x → table t.text ≡ Some x
fits_some other table t x e = some_of (other t) (table t.text) x (passed (is_kind kinds.Number t.kind) (or_fault (other t) (table t.text)) (misfit t) x e).1

between_keeps : (least most step : ℕ) → Stays (between least most step) (IsBetween least most step)
unfolding between
between_keeps least most step = one_stays (λ t at n good e.
    let b = from_bounds least step (number_within most (prefix_digits t.text)) n (fits_some outside (number_between least most step) t n e) in
    (b.1, within most (prefix_digits t.text) n b.0, b.2))

fixed_passes : (n : ℕ) → Stays (fixed n) Any
unfolding fixed
fixed_passes n = passes (λ room. between_keeps n n 1 >>- λ _ _. done refl)

size_keeps : Stays size IsSize
unfolding size
size_keeps = weakened (between_keeps 1 64 1) (λ n h. (h.0, h.1))

at_most_keeps : (most : ℕ) → Stays (at_most most) (λ n. n ≤ most)
unfolding at_most
at_most_keeps most = one_stays (λ t at n good e. within most (prefix_digits t.text) n (fits_some (λ t. Number t.left) (λ text. number_within most (prefix_digits text)) t n e))

-- ---- names and labels

reference_keeps : (w : List ℕ) → Stays (reference w) IsName
unfolding reference
reference_keeps w = stays (λ room. begin_passes w >>- λ _ _. fixed_passes 32 >>- λ _ _. name_keeps >>- λ n h. ending (h, refl))

references_keep : (list w : List ℕ) → Stays (references list w) (All IsName)
unfolding references
references_keep list w = stays (λ room. begin_passes list >>- λ _ _. row_stays opens (reference w).form (reference_keeps w) >>- λ names h. ending (h, refl))

offset_keeps : Stays offset (λ o. o < 2 ^ 32)
unfolding offset
offset_keeps = stays (λ room. begin_passes (codes "dec_unsigned") >>- λ _ _. fixed_passes 32 >>- λ _ _. at_most_keeps (2 ^ 32 - 1) >>- λ o h. ending (omega (arith, h), refl))

label_tail_keeps : Stays label_tail IsName
unfolding label_tail zero_offset
label_tail_keeps = stays (λ room. fixed_passes 32 >>- λ _ _. reference_keeps (codes "lref") >>- λ n h.
    passes (λ room. begin_passes (codes "dec_unsigned") >>- λ _ _. fixed_passes 32 >>- λ _ _. fixed_passes 0 >>- λ _ _. ending refl) >>- λ _ _. ending (h, refl))

label_keeps : Stays label IsName
unfolding label
label_keeps = stays (λ room. begin_passes (codes "label") >>- λ _ _. label_tail_keeps >>- λ n h. done (h, refl))

address_tail_keeps : Stays address_tail AddressIsWritable
unfolding address_tail
address_tail_keeps = stays (λ room. fixed_passes 32 >>- λ _ _. reference_keeps (codes "fref") >>- λ n h. offset_keeps >>- λ o i. ending (record { name = h; offset = i }, refl))

address_keeps : Stays address AddressIsWritable
unfolding address
address_keeps = stays (λ room. begin_passes (codes "addr") >>- λ _ _. address_tail_keeps >>- λ a h. done (h, refl))

-- ---- frames

one_function_keeps : (room : Room) → Keeps Good one_function.form room (λ x after. room ≡ with_function after)
unfolding one_function
one_function_keeps = spent_keeps (λ room. room.functions) (λ room n. record { functions = n; frames = room.frames; bytes = room.bytes }) (Limit Functions (most_functions + 1)) 1 with_function
    (λ room le. let e : room.functions - 1 + 1 ≡ room.functions = omega arith in rw e refl)

one_frame_keeps : (room : Room) → Keeps Good one_frame.form room (λ x after. room ≡ with_frame after)
unfolding one_frame
one_frame_keeps = spent_keeps (λ room. room.frames) (λ room n. record { functions = room.functions; frames = n; bytes = room.bytes }) (Limit Frames (most_frames + 1)) 1 with_frame
    (λ room le. let e : room.frames - 1 + 1 ≡ room.frames = omega arith in rw e refl)

more_bytes_keeps : (bytes : ℕ) (room : Room)
    → Keeps Good (more_bytes bytes).form room (λ x after. room ≡ with_bytes bytes after)
unfolding more_bytes
more_bytes_keeps bytes = spent_keeps (λ room. room.bytes) (λ room n. record { functions = room.functions; frames = room.frames; bytes = n }) (Limit AllBytes (most_bytes_of_frames + 1)) bytes (with_bytes bytes)
    (λ room le. let e : room.bytes - bytes + bytes ≡ room.bytes = omega arith in rw e refl)

fits_frame_keeps : (bytes : ℕ) → Stays (fits_frame bytes) (λ x. bytes ≤ most_frame_bytes)
unfolding fits_frame
fits_frame_keeps bytes = judged_stays (λ at x e. leb-true _ _ (passed (nat_le bytes most_frame_bytes) (Ok tt) (Limit FrameBytes (most_frame_bytes + 1)) x e).0)

-- a frame's size in bits
record IsFrameSize (b : ℕ) : Type 0 where
  some : 1 ≤ b
  bytes : b % 8 ≡ 0
  small : b ≤ 8 * most_frame_bytes

bits_keep : (room : Room) → Keeps Good bits.form room (λ b after. IsFrameSize b × (room ≡ with_bytes (b / 8) after))
unfolding bits
bits_keep room = between_keeps 1 (2 ^ 128 - 1) 8 >>- λ b w. fits_frame_keeps (b / 8) >>- λ _ v. more_bytes_keeps (b / 8) room >>> λ _ mid h. done (record { some = w.0; bytes = w.2; small = omega (arith, w.2, v) }, h)

frame_keeps : (room : Room) → Keeps Good alloc.form room (λ f after. AllocationIsWritable f × (room ≡ need f after))
unfolding alloc
frame_keeps room = opening_passes >>- λ _ _. one_frame_keeps room >>> λ _ mid h. word_passes (codes "alloc") >>- λ _ _. fixed_passes 32 >>- λ _ _. name_keeps >>- λ n i. bits_keep mid >>> λ b last k. ending (record { name = i; some = k.0.some; bytes = k.0.bytes; small = k.0.small }, h ∙ ap with_frame k.1)

frames_keep : (list : List ℕ) (room : Room)
    → Keeps Good (allocs list).form room (λ fs after. All AllocationIsWritable fs × (room ≡ needs fs after))
unfolding allocs
frames_keep list room = begin_passes list >>- λ _ _. row_keeps opens alloc.form need frame_keeps room >>> λ fs mid h. ending (h.0, h.1)

-- ---- numbers with their sizes

unsigned_keeps : Stays unsigned NumIsWritable
unfolding unsigned
unsigned_keeps = stays (λ room. size_keeps >>- λ s w. at_most_keeps (2 ^ s - 1) >>- λ b h. ending (record { some = w.0; small = w.1; fits = omega (arith, h, some_power s) }, refl))

signed_bits_keep : (s : ℕ) (m : Option ℕ) → IsSize s → Stays (signed_bits s m) (λ b. b < 2 ^ s)
unfolding signed_bits
signed_bits_keep s None w = weakened (at_most_keeps (2 ^ (s - 1) - 1)) (λ b h. omega (arith, h, half_power s w.0, some_power (s - 1)))
signed_bits_keep s (Some d) w = stays (λ room. done (word_fits s d, refl))

signed_keeps : Stays signed NumIsWritable
unfolding signed minus
signed_keeps = stays (λ room. size_keeps >>- λ s w. maybe_stays opens (minus s).form (passes (λ room. begin_passes (codes "minus") >>- λ _ _. at_most_keeps (2 ^ (s - 1)) >>- λ n h. ending refl)) >>- λ m _. signed_bits_keep s m w >>- λ b h. ending (record { some = w.0; small = w.1; fits = h }, refl))

num_keeps : Stays num NumIsWritable
unfolding num num_tail
num_keeps = stays (λ room. opening_passes >>- λ _ _. some_word_passes >>- λ w _.
    keeps (either_stays (bytes_eq w.text (codes "dec_unsigned")) _ _ unsigned_keeps (either_stays (bytes_eq w.text (codes "dec_signed")) _ _ signed_keeps (unknown_stays w))) room)

-- ---- initial values

start_keeps : Stays init InitialIsWritable
unfolding init ref_place
start_keeps = stays (λ room. begin_passes (codes "init") >>- λ _ _.
    stays {Q = AddressIsWritable} (λ room. begin_passes (codes "ref") >>- λ _ _. name_keeps >>- λ n h. offset_keeps >>- λ o i. ending (record { name = h; offset = i }, refl)) >>- λ p h.
    num_keeps >>- λ n i. ending (record { name = h.name; offset = h.offset; num = i }, refl))

starts_keep : Stays inits (All InitialIsWritable)
unfolding inits
starts_keep = stays (λ room. begin_passes (codes "inits") >>- λ _ _. row_stays opens init.form start_keeps >>- λ ss h. ending (h, refl))

-- ---- expressions

further_keeps : (op : Op) → Stays (further op) (IsFurther op)
unfolding further
further_keeps Select = weakened (between_keeps 0 63 1) (λ n h. h.1)
further_keeps _ = weakened (between_keeps 1 64 1) (λ n h. (h.0, h.1))

sizes_keep : (op : Op) → Stays (sizes op) (AreSizesOf op)
unfolding sizes
sizes_keep op = stays (λ room. size_keeps >>- λ s w. exactly_stays (size_count (layout_of op) - 1) (further_keeps op) >>- λ ss h.
    done (record { count = omega (arith, h.1, some_sizes op); first = w; others = h.0 }, refl))

-- an expression that is writable, and in which no more than so many stand in one another
abbrev Fits : ℕ → NamedExpression → Type 0
Fits depth t = PartsAreWritable t × (depth_of t ≤ depth)

terms_fit : (depth : ℕ) (ts : List NamedExpression) → All (Fits depth) ts
    → AllPartsAreWritable (expressions_of ts) × (most_deep (expressions_of ts) ≤ depth)
terms_fit depth [] h = (tt, omega arith)
terms_fit depth (t ∷ ts) h =
    let fits = All-head (Fits depth) t ts h in
    let more = terms_fit depth ts (All-tail (Fits depth) t ts h) in
    ((fits.0, more.0), omega (arith, fits.1, more.1))

count_of : (ts : List NamedExpression) → count (expressions_of ts) ≡ length ts
count_of [] = refl
count_of (t ∷ ts) = ap suc (count_of ts)

module _ (inner : Rule true NamedExpression) (depth : ℕ) (deep : Stays inner (Fits depth)) where
  apply_keeps : (op : Op) → Stays (apply inner op) (Fits (suc depth))
  unfolding apply
  apply_keeps op = stays (λ room. sizes_keep op >>- λ ss w. exactly_stays (operand_count op) deep >>- λ es h. closing_passes >>- λ _ _.
      done (let k = terms_fit depth es h.0 in ((w, count_of es ∙ h.1, k.0), omega (arith, k.1)), refl))

  operator_keeps : (w : Lexeme) (o : Option Op) → Stays (operator inner w o) (Fits (suc depth))
  unfolding operator
  operator_keeps w None = unknown_stays w
  operator_keeps w (Some op) = apply_keeps op

  tail_keeps : (w : Lexeme) → Stays (expr_tail inner w) (Fits (suc depth))
  unfolding expr_tail load unsigned_term signed_term address_term
  tail_keeps w =
      either_stays (bytes_eq w.text (codes "dec_unsigned")) _ _ (stays (λ room. unsigned_keeps >>- λ n h. done ((h, omega arith), refl)))
      (either_stays (bytes_eq w.text (codes "dec_signed")) _ _ (stays (λ room. signed_keeps >>- λ n h. done ((h, omega arith), refl)))
      (either_stays (bytes_eq w.text (codes "addr")) _ _ (stays (λ room. address_tail_keeps >>- λ a h. done ((h, omega arith), refl)))
      (either_stays (bytes_eq w.text (codes "load")) _ _
      (stays (λ room. between_keeps 8 64 8 >>- λ s w. deep >>- λ at h. ending (((record { some = omega (arith, w.0); small = w.1; bytes = w.2 }, h.0), omega (arith, h.1)), refl)))
      (operator_keeps w (operator_named w.text)))))

  nested_keeps : Stays (nested inner) (Fits (suc depth))
  unfolding nested
  nested_keeps = stays (λ room. opening_passes >>- λ _ _. some_word_passes >>- λ w _. keeps (tail_keeps w) room)

-- where expressions stand too deep, none is spelled
expr_keeps : (depth : ℕ) → Stays (expr depth) (Fits depth)
unfolding expr
expr_keeps zero = one_stays (λ p at t good e. ok_no_err t (Limit Depth (most_depth + 1)) (passed (is_kind kinds.Open p.kind) (Err (Limit Depth (most_depth + 1))) (misfit p) t e).1)
expr_keeps (suc depth) = nested_keeps (expr depth) depth (expr_keeps depth)

whole_keeps : Stays whole_expr ExpressionIsWritable
unfolding whole_expr
whole_keeps = weakened (expr_keeps most_depth) (λ t h. record { parts = h.0; depth = h.1 })

-- ---- items

target_keeps : Stays target TargetIsWritable
unfolding target
target_keeps = stays (λ room. begin_passes (codes "target") >>- λ _ _. num_keeps >>- λ n h. label_keeps >>- λ l i. ending (record { num = h; label = i }, refl))

item_keeps : Stays item ItemIsWritable
unfolding item item_tail label_item null store with_word jump leaving switch default_arm call result_word returns
item_keeps = stays (λ room. opening_passes >>- λ _ _. some_word_passes >>- λ w _. keeps
    (either_stays (bytes_eq w.text (codes "label")) _ _ (stays (λ room. label_tail_keeps >>- λ n h. done (h, refl)))
    (either_stays (bytes_eq w.text (codes "null")) _ _ (stays (λ room. ending (tt, refl)))
    (either_stays (bytes_eq w.text (codes "store")) _ _ (stays (λ room. whole_keeps >>- λ at h. word_passes (codes "with") >>- λ _ _. whole_keeps >>- λ e i. ending ((h, i), refl)))
    (either_stays (bytes_eq w.text (codes "jump")) _ _ (stays (λ room. label_keeps >>- λ n h. word_passes (codes "leaving") >>- λ _ _. fixed_passes 0 >>- λ _ _. ending (h, refl)))
    (either_stays (bytes_eq w.text (codes "switch")) _ _
    (stays (λ room. whole_keeps >>- λ e h. row_stays opens_target target.form target_keeps >>- λ ts i.
    stays {Q = IsName} (λ room. begin_passes (codes "default") >>- λ _ _. label_keeps >>- λ l k. ending (k, refl)) >>- λ others k. ending ((h, i, k), refl)))
    (either_stays (bytes_eq w.text (codes "call")) _ _
    (stays (λ room. label_keeps >>- λ n h. row_stays opens whole_expr.form whole_keeps >>- λ args i. word_passes (codes "result") >>- λ _ _. maybe_stays opens address.form address_keeps >>- λ to k. ending ((h, i, k), refl)))
    (either_stays (bytes_eq w.text (codes "return")) _ _ (stays (λ room. maybe_stays opens whole_expr.form whole_keeps >>- λ e h. ending (h, refl)))
    (unknown_stays w)))))))) room)

-- ---- functions

stmts_keep : Stays stmts (λ xs. All ItemIsWritable xs × (ends_well xs ≡ true))
unfolding stmts closing_after
stmts_keep = stays (λ room. begin_passes (codes "stmts") >>- λ _ _. row_stays opens item.form item_keeps >>- λ xs h.
    one_stays {Q = λ _. ends_well xs ≡ true} (λ t at x good e. (passed (ends_well xs) (fits kinds.Close t) (misfit t) x e).0) >>- λ _ ends. done ((h, ends), refl))

-- what stands in a function, under any name and arguments
abbrev InScope : List Allocation × List InitialValue × List BodyItem → Type 0
InScope (frames, starts, xs) = (n : List ℕ) (args : List Allocation) → IsName n → All AllocationIsWritable args → FunctionIsWritable (record { name = n; args = args; decls = frames; inits = starts; items = xs })

scope_keeps : (room : Room) → Keeps Good scope.form room (λ s after. InScope s × (room ≡ needs s.0 after))
unfolding scope
scope_keeps room = begin_passes (codes "scope") >>- λ _ _. frames_keep (codes "decls") room >>> λ fs mid h. starts_keep >>- λ ss i. stmts_keep >>- λ xs k. ending (λ n args w v. record { name = w; args = v; decls = h.0; inits = i; items = k.0; ends = k.1 }, h.1)

function_tail_keeps : (room : Room)
    → Keeps Good function_tail.form room (λ f after. FunctionIsWritable f × (room ≡ needs f.args (needs f.decls after)))
unfolding function_tail arg_decls
function_tail_keeps room = label_keeps >>- λ n w. frames_keep (codes "arg_decls") room >>> λ fs mid h. scope_keeps mid >>> λ s last k. ending (k.0 n fs w h.0, h.1 ∙ ap (needs fs) k.1)

function_keeps : (room : Room)
    → Keeps Good function.form room (λ f after. FunctionIsWritable f × (room ≡ func_needs f after))
unfolding function
function_keeps room = opening_passes >>- λ _ _. one_function_keeps room >>> λ _ mid h. word_passes (codes "func") >>- λ _ _. function_tail_keeps mid >>> λ f last k.
    done (k.0, h ∙ ap with_function k.1)

functions_keep : (room : Room)
    → Keeps Good functions.form room (λ fs after. All FunctionIsWritable fs × (room ≡ all_need fs after))
unfolding functions
functions_keep room = begin_passes (codes "funcs") >>- λ _ _. row_keeps opens function.form func_needs function_keeps room >>> λ fs mid h. ending (h.0, h.1)

-- ---- programs

empty_passes : (w list : List ℕ) → Stays (empty w list) Any
unfolding empty closing_empty
empty_passes w list = passes (λ room. begin_passes w >>- λ _ _. one_passes >>- λ _ _. done refl)

program_keeps : Keeps Good program.form full (λ whole after. IsWritable whole)
unfolding program heading macro_defs addr_unit little_endian exports imports end
program_keeps = begin_passes (codes "alf") >>- λ _ _. passes (λ room. empty_passes (codes "macro_defs") (codes "macro_defs")
    >>- λ _ _. passes (λ room. begin_passes (codes "least_addr_unit") >>- λ _ _. fixed_passes 8 >>- λ _ _. ending refl) >>- λ _ _. word_passes (codes "little_endian") >>- λ _ _. done refl)
    >>- λ _ _. stays {Q = λ names. All IsName names.0 × All IsName names.1} (λ room. begin_passes (codes "exports") >>- λ _ _. references_keep (codes "frefs") (codes "fref")
    >>- λ frames h. references_keep (codes "lrefs") (codes "lref") >>- λ labels i. ending ((h, i), refl))
    >>- λ names w. passes (λ room. begin_passes (codes "imports") >>- λ _ _. empty_passes (codes "frefs") (codes "imports") >>- λ _ _. empty_passes (codes "lrefs") (codes "imports") >>- λ _ _. ending refl)
    >>- λ _ _. frames_keep (codes "decls") full >>> λ fs mid h. starts_keep >>- λ ss i. functions_keep mid >>> λ gs last k. closing_passes >>- λ _ _. judged_passes >>- λ _ _. done (
    let whole : WholeProgram = record { exports = names.0; labels = names.1; decls = fs; inits = ss; funcs = gs } in
    let spent : full ≡ whole_needs whole last = h.1 ∙ ap (needs fs) k.1 in
    let c = whole_counted whole last in
    record {
      exports = w.0;
      labels = w.1;
      decls = h.0;
      inits = i;
      funcs = k.0;
      few_functions = omega (arith, ap (λ (r : Room). r.functions) spent, c.functions_due);
      few_frames = omega (arith, ap (λ (r : Room). r.frames) spent, c.frames_due);
      few_bytes = omega (arith, ap (λ (r : Room). r.bytes) spent, c.bytes_due);
    }
    )

good_each : (ts : List Lexeme) → list_all is_named_well ts ≡ true → Each Good ts
good_each [] h = tt
good_each (t ∷ ts) h = by_test (is_named_well t) (λ g. (g, good_each ts (rw g at h))) (λ g. absurd (let k : false ≡ true = rw g at h in cc))

pub spelled_writable : EachNameIsNamedWell → (whole : WholeProgram) → IsSpelled whole → IsWritable whole
spelled_writable names whole s = (program_keeps.each (start s.0) whole s.1.0 refl (good_each (tokens_of s.0) (names s.0)) s.1.1).0
