-- Programs that pass the checks keep the rules.
--   IsFirst items n found              the first return is that of an item, where the first item has number n
--   IsReturned whole k func j value    this return has the size of the function's first one, and where it is that one, no call before it disagrees
--   GivesFirstSize value   a return of the function gives this, and it has the size of the first one
use Rattle.std.proofs.Common.{◌≡◌, ◌<◌, ◌+◌, ℕ, Bool, true, false, cond, ◌&&◌, nat_le, nat_lt, List, length, drop, slice_index, ◌==◌, Option, Some, None, IsSome, is_some, is_none, refl, ap, subst, leb-true, arith, zero, suc, not, ◌||◌, [], ◌∷◌, slice_get, zero-add, add-zero, sym, ◌∙◌, eq-eqb, map, get_or, unwrap_or, IfSome, Contains, ◌≢◌, ◌-◌, ◌%◌, ◌^◌, flat_map, slice_index_or, All, AllPairs, option_map, eqb-true}
use Rattle.std.proofs.lemmas.Bool.{false≢true, and_parts, or_parts, not-true, not-false}
use Rattle.std.proofs.lemmas.Bool.Decides.{nat_tests}
use Rattle.std.proofs.lemmas.Option.{same_Some, cond_some, none-some, slice_get_within, slice_get-get_or, slice_get-map, get_or_from_slice_get}
use Rattle.alf_ops.specs.declared.operator.Op.{Op}
use Rattle.alf_ops.specs.declared.layout.Layout.{Layout}
use Rattle.alf_ops.specs.declared.layout.Layout.TheVariants.{Carry, Joined, First, Second, Comparison, Extension, Truncation, Field}
use Rattle.alf_ops.specs.Table.{result_size, operand_size, operand_sizes, layout_of, size_count, is_size, is_typed, is_written_so, result_by_layout}
use Rattle.alf_ops.specs.OperandLaws.{operands_end, operands_go_on}
use Rattle.alf_program.specs.Tree.{NamedExpression, NamedExpressions, Number, Address, Load, Apply, Empty, With, Function, WholeProgram, with_frames, all_with_frames, BodyItem, Do, Allocation, Label, NumberedExpression, expressions_of}
use Rattle.alf_faults.specs.Fault.{is_exactly, any_from}
use Rattle.alf_faults.specs.TermSizes.{term_size, operands_fit, same_size, return_size, is_bytes}
use Rattle.alf_faults.specs.NoFault.{IsSeen, SeesFrames, SeesAllFrames, HasNoFault}
use Rattle.alf_check.specs.declared.rows.FrameRow.{FrameRow}
use Rattle.alf_check.specs.Kept.{IsSize, IsWordOf, SeesFrame, HasSize, HaveSizes, IsCellSize, IsFrameOf, InitFits, KeepsExport, KeepsStatement, ArgumentKeeps, GoesOn, TargetKeeps, CallKeeps, GivesSize, Gives, EachReturn, KeepsEnding, KeepsBlock, KeepsResult, IsBlockOf, HasOneReturnSize, KeepsFunction, HasFrame, called_at, called_in, block_calls, IsBounded, IsWithinLimits, IsKept}
use Rattle.alf_check.proofs.KeptLemmas.{cell_from, size_within}
use Rattle.alf_program.specs.Writable.{PartsAreWritable, AllPartsAreWritable, ExpressionIsWritable, TargetIsWritable, AddressIsWritable, ItemIsWritable, AllocationIsWritable, InitialIsWritable, FunctionIsWritable, IsWritable, own_frames, frame_bytes, is_ending}
use Rattle.std.specs.Str.{bytes_eq}
use Rattle.lists.specs.MemberLaws.{contained, no_member, first_or_further, placed, first_member}
use Rattle.lists.specs.TestLaws.{by_test}
use Rattle.alf_faults.specs.Places.{function_place}
use Rattle.alf_faults.specs.declared.returns.FirstReturn.{FirstReturn}
use Rattle.alf_faults.specs.Returns.{return_at, first_return, first_return_from, agrees, is_before, is_breach, function_has_breach, is_breached}
use Rattle.alf_faults.specs.Sizes.{agrees_behind, breaks_calls, fits_return}
use Rattle.std.specs.List.{flat_map, AllZip, range_with_len, sum_by}
use Rattle.std.proofs.lemmas.List.{length-map, length-append}
use Rattle.std.proofs.lemmas.List.Elements.{Contains-get_or, All-nil, All-cons, All-head, All-tail, All-contains}
use Rattle.lists.specs.ImageLaws.{mapped, from_joined, mapped_at, some_image, all_images, all_joined, joined}
use Rattle.alf_faults.specs.PlaceLaws.{place_within}
use Rattle.graph_walks.specs.Calls.{Calls, CallsWithin}
use Rattle.graph_walks.specs.CallLaws.{caller_low}
use Rattle.alf_check.specs.Numbers.{func_number, Numbers, row_for, frame_rows, frames_before, first_frame, block_number, numbers_in}
use Rattle.alf_check.specs.Checking.{called_by, calls_among, calls_in, HasRanks, Passes}
use Rattle.std.specs.Option.{option_map_or}
use Rattle.alf_program.specs.declared.program.Num.{Num}
use Rattle.alf_program.specs.Tree as text
use Rattle.alf_check.specs.CheckedPrograms.{NumberedBlock, NumberedFunction, NumberedProgram, Null, Store, Fall, Return, blocks_at}
use Rattle.alf_check.specs.Blocks.{blocks_of}
use Rattle.alf_check.specs.Numbered.{numbered_init, numbered_targets, statements_by, end_by, numbered_block, numbered_blocks, numbered_function, functions_from, export_number, numbered}
use Rattle.alf_check.proofs.Acyclic.{has_ranks as acyclic_ranks}
use Rattle.alf_check.proofs.Blocks.{in_items, some_block, block_within, last_of, goes_on}
use Rattle.alf_check.proofs.Places.{exactly, by_option, same_name, its_name, first_place, stands, one_place, of_each, range_parts, range_has, all_in_range, range_apart, word_of, frame_of, StandAt, count_rows, same_bytes, frames_are, keeps_rows, is_frame, own_stand, args_stand, decls_stand, own_decls_stand, names_apart, sees, init_fits, export_keeps}

-- ---- sizes of results

size_from : (m : ℕ) → is_size m ≡ true → IsSize m
size_from m e = let parts = and_parts (nat_le 1 m) (nat_le m 64) e in record { some = leb-true 1 m parts.0; most = leb-true m 64 parts.1 }

-- where sizes may stand in a row, its result has one
result_sized : (layout : Layout) (m n h : ℕ) → is_typed layout m n h ≡ true → IsSize (result_by_layout layout m n h)
result_sized Carry m n h e = record { some = omega arith; most = omega arith }
result_sized Joined m n h e = size_from (m + n) (and_parts (is_size m && is_size n) (is_size (m + n)) e).1
result_sized First m n h e = size_from m (and_parts (is_size m) (is_size n) e).0
result_sized Second m n h e = size_from n (and_parts (is_size m) (is_size n) e).1
result_sized Comparison m n h e = record { some = omega arith; most = omega arith }
result_sized Extension m n h e = size_from n (and_parts (is_size m) (is_size n) (and_parts (is_size m && is_size n) (nat_le m n) e).0).1
result_sized Truncation m n h e = size_from n (and_parts (is_size m) (is_size n) (and_parts (is_size m && is_size n) (nat_le n m) e).0).1
result_sized Field m n h e =
    let parts = and_parts (is_size m && nat_le n h) (nat_lt h m) e in
    let size = size_from m (and_parts (is_size m) (nat_le n h) parts.0).0 in
    let below : h < m = grind (arith, nat_tests) in
    record { some = omega arith; most = omega arith }
result_sized layout m n h e = size_from m e

operator_sized : (op : Op) (sizes : List ℕ) (size : ℕ) → result_size op sizes ≡ Some size → IsSize size
operator_sized op sizes size is =
    let layout = layout_of op in
    let c = cond_some (is_written_so layout sizes) (result_by_layout layout (slice_index sizes 0) (slice_index sizes 1) (slice_index sizes 2)) size is in
    subst IsSize c.1 (result_sized layout _ _ _ (and_parts (length sizes == size_count layout) _ c.0).1)

-- ---- sizes that are the same

pub both_sizes : (a b : Option ℕ) → same_size a b ≡ true → (size : ℕ) × (a ≡ Some size) × (b ≡ Some size)
both_sizes None b e = absurd (false≢true e)
both_sizes (Some size) b e = (size, refl, exactly size b e)

chosen : (b : Bool) (o : Option ℕ) (size : ℕ) → cond b o None ≡ Some size → (b ≡ true) × (o ≡ Some size)
chosen true o size e = (refl, e)
chosen false o size e = cc

no_size : (o : Option ℕ) → is_none o ≡ true → o ≡ None
no_size None e = refl
no_size (Some size) e = absurd (false≢true e)

-- ---- expressions

module _ (whole : WholeProgram) (func : Function) (rows : List FrameRow) (k : ℕ) (frame : List ℕ → ℕ) (known : (name : List ℕ) → IsSeen whole func name → SeesFrame rows k (frame name)) where
  mutual
    -- an expression that names what stands somewhere has its size
    pub sized : (t : NamedExpression) (size : ℕ) → PartsAreWritable t → SeesFrames whole func t
        → term_size t ≡ Some size → HasSize rows k size (with_frames frame t)
    sized (Number n) size written none is = subst (λ (z : ℕ). IsWordOf z n) (same_Some n.size size is) (word_of n written)
    sized (Address name offset) size written none is = record { same = same_Some 32 size is; offset_fits = written.offset; sees = known name none }
    sized (Load bits at) size written none is =
        let c = cond_some (is_exactly 32 (term_size at)) bits size is in
        record { same = c.1; cell = cell_from bits (record { some = written.0.some; most = written.0.small }) written.0.bytes; address = sized at 32 written.1 none (exactly 32 (term_size at) c.0) }
    sized (Apply op sizes operands) size written none is =
        let c = chosen (operands_fit op sizes 0 operands) (result_size op sizes) size is in
        record { result_is = c.1; sized = operator_sized op sizes size c.1; operands = each_sized operands op sizes 0 written.2 (ap is_some c.1) none c.0 }

    each_sized : (ts : NamedExpressions) (op : Op) (sizes : List ℕ) (i : ℕ) → AllPartsAreWritable ts
        → IsSome (result_size op sizes) → SeesAllFrames whole func ts → operands_fit op sizes i ts ≡ true
        → HaveSizes rows k (drop i (operand_sizes op sizes)) (all_with_frames frame ts)
    each_sized Empty op sizes i written typed none fits = rw (operands_end op sizes i typed (no_size (operand_size op sizes i) fits)) tt
    each_sized (With t ts) op sizes i written typed none fits =
        let tests = and_parts (same_size (operand_size op sizes i) (term_size t)) (operands_fit op sizes (i + 1) ts) fits in
        let same = both_sizes (operand_size op sizes i) (term_size t) tests.0 in
        rw (operands_go_on op sizes i same.0 same.1) (sized t same.0 written.0 none.0 same.2, each_sized ts op sizes (i + 1) written.1 typed none.1 tests.1)

-- ---- functions that are called

number_low : (all : List Function) (name : List ℕ) → 0 < length all → func_number all name < length all
number_low all name some =
    by_option (λ o. IfSome o (λ k. k < length all) → unwrap_or o 0 < length all) (function_place all name) (λ e low. some) (λ k e low. low) (place_within _ all)

called_low : (all : List Function) (item : BodyItem) (g : ℕ) → 0 < length all → Contains (called_by all item) g
    → g < length all
called_low all (Do (text.Call label args result)) g some c =
    first_or_further (func_number all label) [] g c (λ e. omega (arith, number_low all label some)) (no_member g)
called_low all item g some c = no_member g c

pub calls_within : (all : List Function) → CallsWithin (calls_among all all)
calls_within all f g c =
    let calls = calls_among all all in
    let called = λ (func : Function). flat_map (called_by all) func.items in
    let low = caller_low calls f g c in
    let row = mapped called all (get_or calls f []) (Contains-get_or calls f [] low) in
    let item = from_joined (called_by all) row.0.items g (subst (λ (xs : List ℕ). Contains xs g) (sym row.2) c) in
    omega (arith, length-map all called, called_low all item.0 g (omega (arith, length-map all called)) item.2)

-- ---- the first return

pub record IsFirst (items : List BodyItem) (n : ℕ) (found : FirstReturn) : Type 0 where
  pub place : ℕ
  pub value : Option NamedExpression
  pub at : slice_get items place ≡ Some (Do (text.Return value))
  pub is : found ≡ return_at (n + place) value

pub first_from : (n : ℕ) (items : List BodyItem) (found : FirstReturn) → first_return_from n items ≡ Some found
    → IsFirst items n found
first_from n [] found e = absurd (none-some found e)
first_from n (Do (text.Return value) ∷ items) found e =
    record {
      place = 0;
      value = value;
      at = refl;
      is = sym (same_Some (return_at n value) found e) ∙ ap (λ (i : ℕ). return_at i value) (sym (add-zero n));
    }
first_from n (item ∷ items) found e =
    let f = first_from (n + 1) items found e in
    record { place = suc f.place; value = f.value; at = f.at; is = f.is ∙ ap (λ (i : ℕ). return_at i f.value) (omega arith) }

-- ---- returns and calls

-- a member passes no test that none passes
none_any : {A : Type 0} (test : ℕ → A → Bool) (n : ℕ) (xs : List A) (k m : ℕ) (x : A) → m ≡ n + k
    → any_from test n xs ≡ false → slice_get xs k ≡ Some x → test m x ≡ false
none_any test n [] k m x is none at = absurd (none-some x at)
none_any test n (y ∷ xs) zero m x is none at =
    let here = (or_parts (test n y) (any_from test (n + 1) xs) none).0 in let same = same_Some y x at in let e : m ≡ n = omega arith in cc
none_any test n (y ∷ xs) (suc k) m x is none at = none_any test (n + 1) xs k m x (omega arith) (or_parts (test n y) (any_from test (n + 1) xs) none).1 at

-- an item that comes first in the text, or another one
before_other : (p m k i : ℕ) → is_before p m k i ≡ false → (p ≡ k → m ≡ i → ⊥) → is_before k i p m ≡ true
before_other p m k i later other = grind (arith, nat_tests)

pub record IsReturned (whole : WholeProgram) (k : ℕ) (func : Function) (j : ℕ)
    (value : Option NamedExpression) : Type 0 where
  pub found : FirstReturn
  pub first : first_return func.items ≡ Some found
  pub size : ℕ
  pub found_size : found.size ≡ Some size
  pub value_size : return_size value ≡ Some size
  pub unbroken : breaks_calls whole k func.name j found ≡ false

module _ (whole : WholeProgram) (none : HasNoFault whole) (p : ℕ) (called : Function) (called_at : slice_get whole.funcs p ≡ Some called) where
  -- the function is the first of its name
  first_of_name : function_place whole.funcs called.name ≡ Some p
  first_of_name =
      let named = λ (f : Function). bytes_eq f.name called.name in
      let place = first_place named whole.funcs called (contained whole.funcs p called called_at) (its_name called.name called.name refl) in
      let found = stands named whole.funcs place.0 place.1 in
      place.1 ∙ ap Some (one_place (λ (f : Function). f.name) whole.funcs none.funcs_differ place.0 p found.member called found.at called_at (same_name found.member.name called.name found.passed))

  pub is_returned : (j : ℕ) (value : Option NamedExpression) → slice_get called.items j ≡ Some (Do (text.Return value))
      → IsReturned whole p called j value
  is_returned j value is =
      by_option (λ o. fits_return whole p called.name j o (return_size value) ≡ true → IsReturned whole p called j value) (first_return called.items) (λ first e. absurd (false≢true e))
      (λ found first e.
      let parts = and_parts (same_size found.size (return_size value)) (not (breaks_calls whole p called.name j found)) e in
      let sizes = both_sizes found.size (return_size value) parts.0 in
      record { found = found; first = first; size = sizes.0; found_size = sizes.1; value_size = sizes.2; unbroken = not-true (breaks_calls whole p called.name j found) parts.1 })
      ((none.funcs p called called_at).items j (Do (text.Return value)) is).fits

  -- a call of it agrees with its first return, which stands before the call or, as another item, after it
  pub agreed : (k : ℕ) (func : Function) (i : ℕ) (label : List ℕ) (args : List NamedExpression)
      (result : Option (List ℕ × ℕ)) → slice_get whole.funcs k ≡ Some func
      → slice_get func.items i ≡ Some (Do (text.Call label args result))
      → label ≡ called.name → agrees_behind p (first_return called.items) k i (is_some result) ≡ true
      → (found : FirstReturn) → first_return called.items ≡ Some found → agrees (is_some result) found ≡ true
  agreed k func i label args result at is same fits found first =
      let agrees_if : (not (is_before p found.item k i) || agrees (is_some result) found) ≡ true = ap (λ (o : Option FirstReturn). agrees_behind p o k i (is_some result)) (sym first) ∙ fits in
      let f = first_from 0 called.items found first in
      let number : found.item ≡ f.place = ap (λ (r : FirstReturn). r.item) f.is ∙ zero-add f.place in
      let r = is_returned f.place f.value f.at in
      let unbroken = ap (breaks_calls whole p called.name f.place) (same_Some found r.found (sym first ∙ r.first)) ∙ r.unbroken in
      let breached : is_breached whole.funcs called.name found p ≡ false = rw (eq-eqb found.item f.place number, first_of_name, eq-eqb p p refl) at unbroken in
      let clear = none_any (function_has_breach called.name found p) 0 whole.funcs k k func (sym (zero-add k)) breached at in
      let here = none_any (is_breach called.name found p k) 0 func.items i i (Do (text.Call label args result)) (sym (zero-add i)) clear is in
      let other : p ≡ k → found.item ≡ i → ⊥ = λ e g. cc in
      by_test (is_before p found.item k i) (λ before. rw before at agrees_if)
      (λ later. not-false (agrees (is_some result) found) (rw (before_other p found.item k i later other, its_name label called.name same) at here))

-- ---- what tests say

bytes_size : (o : Option ℕ) → is_bytes o ≡ true → (size : ℕ) × (o ≡ Some size) × (size % 8 ≡ 0)
bytes_size None e = absurd (false≢true e)
bytes_size (Some size) e = (size, refl, eqb-true (size % 8) 0 e)

-- an item calls function g
pub record IsCalled (whole : WholeProgram) (item : BodyItem) (g : ℕ) : Type 0 where
  pub label : List ℕ
  pub args : List NamedExpression
  pub result : Option (List ℕ × ℕ)
  pub is : item ≡ Do (text.Call label args result)
  pub number : func_number whole.funcs label ≡ g

-- ---- functions and blocks by their places

function_at : (whole : WholeProgram) (first : ℕ) (funcs : List Function) (k n : ℕ) → n ≡ first + frames_before funcs k
    → slice_get (functions_from whole first funcs) k ≡ option_map (numbered_function whole n) (slice_get funcs k)
function_at whole first [] k n is = refl
function_at whole first (func ∷ funcs) zero n is = ap (λ (z : ℕ). Some (numbered_function whole z func)) (let e : first ≡ n = omega arith in e)
function_at whole first (func ∷ funcs) (suc k) n is = function_at whole (first + (length func.args + length func.decls)) funcs k n (omega arith)

pub count_functions : (whole : WholeProgram) (first : ℕ) (funcs : List Function)
    → length (functions_from whole first funcs) ≡ length funcs
count_functions whole first [] = refl
count_functions whole first (func ∷ funcs) = ap suc (count_functions whole (first + (length func.args + length func.decls)) funcs)

block_in : (numbers : Numbers) (n : ℕ) (parts : List (List BodyItem)) (b m : ℕ) → m ≡ n + b
    → slice_get (numbered_blocks numbers n parts) b ≡ option_map (numbered_block numbers (suc m)) (slice_get parts b)
block_in numbers n [] b m is = refl
block_in numbers n (part ∷ parts) zero m is = ap (λ (z : ℕ). Some (numbered_block numbers (suc z) part)) (let e : n ≡ m = omega arith in e)
block_in numbers n (part ∷ parts) (suc b) m is = block_in numbers (suc n) parts b m (omega arith)

count_blocks : (numbers : Numbers) (n : ℕ) (parts : List (List BodyItem))
    → length (numbered_blocks numbers n parts) ≡ length parts
count_blocks numbers n [] = refl
count_blocks numbers n (part ∷ parts) = ap suc (count_blocks numbers (suc n) parts)

-- a block that returns ends with a return
return_end : (numbers : Numbers) (next : ℕ) (last : BodyItem) (value : Option NumberedExpression)
    → end_by numbers next last ≡ Return value
    → (v : Option NamedExpression) × (last ≡ Do (text.Return v)) × (option_map (with_frames numbers.frame) v ≡ value)
return_end numbers next (Do (text.Return v)) value e = (v, refl, cc)
return_end numbers next last value e = cc

-- targets with numbers of their own
targets_apart : (block : List ℕ → ℕ) (targets : List (Num × List ℕ)) → AllPairs (λ t u. t.0.bits ≢ u.0.bits) targets
    → AllPairs (λ s t. s.0 ≢ t.0) (numbered_targets block targets)
targets_apart block targets differ i j d low high same =
    let number : Num × List ℕ → ℕ × ℕ = λ target. (target.0.bits, block target.1) in
    let x = mapped_at number targets i (get_or (map number targets) i d) (slice_get-get_or (map number targets) i d (omega arith)) in
    let y = mapped_at number targets j (get_or (map number targets) j d) (slice_get-get_or (map number targets) j d high) in
    let equal = one_place (λ (t : Num × List ℕ). t.0.bits) targets differ i j x.0 y.0 x.1 y.1 (ap (λ (z : ℕ × ℕ). z.0) x.2 ∙ same ∙ ap (λ (z : ℕ × ℕ). z.0) (sym y.2)) in
    absurd (omega arith)

module _ (whole : WholeProgram) (root : List ℕ) (none : HasNoFault whole) (written : IsWritable whole) (passes : Passes whole root) where
  abbrev program : NumberedProgram
  program = numbered whole root

  has : HasRanks (calls_in whole)
  has = acyclic_ranks (calls_in whole) (calls_within whole.funcs) passes.falls

  abbrev ranks : List ℕ
  ranks = has.ranks

  abbrev rows : List FrameRow
  rows = frame_rows whole

  abbrev function : ℕ → Function → NumberedFunction
  function k func = numbered_function whole (first_frame whole k) func

  -- function k of the program
  there : (k : ℕ) (func : Function) → slice_get whole.funcs k ≡ Some func
      → slice_get program.funcs k ≡ Some (function k func)
  there k func at = function_at whole (length whole.decls) whole.funcs k (first_frame whole k) refl ∙ ap (option_map (function k)) at

  of_function : (k : ℕ) (f : NumberedFunction) → slice_get program.funcs k ≡ Some f
      → (func : Function) × (slice_get whole.funcs k ≡ Some func) × (function k func ≡ f)
  of_function k f at = some_image (function k) (slice_get whole.funcs k) f (sym (function_at whole (length whole.decls) whole.funcs k (first_frame whole k) refl) ∙ at)

  module _ (k : ℕ) (func : Function) (at : slice_get whole.funcs k ≡ Some func) where
    abbrev numbers : Numbers
    numbers = numbers_in whole (first_frame whole k) func

    abbrev term : NamedExpression → NumberedExpression
    term = with_frames numbers.frame

    is_written : FunctionIsWritable func
    is_written = of_each FunctionIsWritable whole.funcs k func written.funcs at

    item_is_written : (i : ℕ) (item : BodyItem) → slice_get func.items i ≡ Some item → ItemIsWritable item
    item_is_written i item is = of_each ItemIsWritable func.items i item is_written.items is

    -- there are as many blocks as of items
    count_at : length (blocks_at program k) ≡ length (blocks_of func.items)
    count_at = ap (λ (o : Option NumberedFunction). length (option_map_or (λ (x : NumberedFunction). x.blocks) o [])) (there k func at) ∙ count_blocks numbers 0 (blocks_of func.items)

    -- ---- expressions

    has_size : (t : NamedExpression) (size : ℕ) → PartsAreWritable t → SeesFrames whole func t → term_size t ≡ Some size
        → HasSize rows k size (term t)
    has_size t size = sized whole func rows k numbers.frame (sees whole k func at) t size

    -- an expression of whole bytes gives a cell
    is_cell : (e : NumberedExpression) (size : ℕ) → HasSize rows k size e → size % 8 ≡ 0 → IsCellSize size
    is_cell e size has bytes = cell_from size (size_within rows k size e has) bytes

    arguments_fit : (owner : Option ℕ) (start : ℕ) (frames : List Allocation) (args : List NamedExpression)
        → AllZip (λ arg frame. term_size arg ≡ Some frame.bits) args frames
        → SeesAllFrames whole func (expressions_of args)
        → All ExpressionIsWritable args → All AllocationIsWritable frames → StandAt rows owner start frames → AllZip (ArgumentKeeps rows k) (range_with_len start (length frames)) (map term args)
    arguments_fit owner start [] [] sizes seen w v standing = tt
    arguments_fit owner start (f ∷ frames) (arg ∷ args) sizes seen w v standing =
        let has = has_size arg f.bits (All-head ExpressionIsWritable arg args w).parts seen.0 sizes.0 in (
          record {
            row = row_for owner f;
            at = ap (slice_get rows) (sym (add-zero start)) ∙ standing 0 f refl;
            cell = is_cell (term arg) f.bits has (All-head AllocationIsWritable f frames v).bytes;
            value_has = has;
          },
          arguments_fit owner (start + 1) frames args sizes.1 seen.1 (All-tail ExpressionIsWritable arg args w) (All-tail AllocationIsWritable f frames v)
              (λ i g is. ap (slice_get rows) (let e : (start + 1) + i ≡ start + suc i = omega arith in e) ∙ standing (suc i) g is),
        )
    arguments_fit owner start frames args sizes seen w v standing = absurd sizes

    -- ---- blocks

    -- what holds of each block holds that is made of a part of the items, which has a last one
    by_part : (Holds : ℕ → NumberedBlock → Type 0)
        → ((b : ℕ) (part : List BodyItem) (last : BodyItem) → slice_get (blocks_of func.items) b ≡ Some part → slice_get part (length part - 1) ≡ Some last → Contains func.items last
        → Holds b (record { statements = flat_map (statements_by numbers.frame) part; ending = end_by numbers (suc b) last }))
        → (b : ℕ) (block : NumberedBlock) → slice_get (function k func).blocks b ≡ Some block → Holds b block
    by_part Holds each b block is =
        let found = some_image (numbered_block numbers (suc b)) (slice_get (blocks_of func.items) b) block (sym (block_in numbers 0 (blocks_of func.items) b b (sym (zero-add b))) ∙ is) in
        let part = found.0 in
        let last = last_of func.items b part found.1 in
        let made =
        ap (λ (o : Option BodyItem). record {
          statements = flat_map (statements_by numbers.frame) part;
          ending = option_map_or (end_by numbers (suc b)) o (Fall (suc b));
        }) (sym last.1) ∙ found.2 in
        subst (Holds b) made
        (each b part last.0 found.1 last.1 (in_items func.items part (contained (blocks_of func.items) b part found.1) last.0 (contained part (length part - 1) last.0 last.1)))

    -- ---- returns

    return_gives : (j : ℕ) (v : Option NamedExpression) (size : ℕ) → slice_get func.items j ≡ Some (Do (text.Return v))
        → return_size v ≡ Some size → GivesSize rows k size (option_map term v)
    return_gives j v size is =
        by_option (λ o. IfSome o ExpressionIsWritable → ((e : NamedExpression) → o ≡ Some e → SeesFrames whole func e) → return_size o ≡ Some size → GivesSize rows k size (option_map term o)) v
        (λ none w seen has. sym (same_Some 0 size has)) (λ t some w seen has. has_size t size w.parts (seen t refl) has)
        (item_is_written j (Do (text.Return v)) is) ((none.funcs k func at).items j (Do (text.Return v)) is).sees

    record GivesFirstSize (value : Option NumberedExpression) : Type 0 where
      found : FirstReturn
      first : first_return func.items ≡ Some found
      size : ℕ
      found_size : found.size ≡ Some size
      gives : GivesSize rows k size value

    block_return : (b : ℕ) (block : NumberedBlock) (value : Option NumberedExpression)
        → slice_get (function k func).blocks b ≡ Some block → block.ending ≡ Return value → GivesFirstSize value
    block_return b block value is end = by_part (λ b block. (value : Option NumberedExpression) → block.ending ≡ Return value → GivesFirstSize value) (λ b part last part_at last_at among value end.
        let v = return_end numbers (suc b) last value end in
        let item = placed func.items last among ∙ ap Some v.1 in
        let g = is_returned whole none k func at among.0 v.0 item in
        record { found = g.found; first = g.first; size = g.size; found_size = g.found_size; gives = subst (GivesSize rows k g.size) v.2 (return_gives among.0 v.0 g.size item g.value_size) })
        b block is value end

    one_size : HasOneReturnSize rows k (function k func).blocks
    one_size =
        let size_of : Option FirstReturn → ℕ = λ o. option_map_or (λ (found : FirstReturn). unwrap_or found.size 0) o 0 in
        record {
          size = size_of (first_return func.items);
          each = λ b block value is end.
              let r = block_return b block value is end in
              subst (λ (size : ℕ). GivesSize rows k size value) (sym (ap size_of r.first ∙ ap (λ (o : Option ℕ). unwrap_or o 0) r.found_size)) r.gives;
        }

    -- what a call takes that agrees with the first return, another return of its size gives
    gives_to : (number : List ℕ × ℕ → ℕ × ℕ) (size i : ℕ) (to : Option (List ℕ × ℕ)) (first : Option NamedExpression) (value : Option NumberedExpression) → return_size first ≡ Some size
        → GivesSize rows k size (option_map term first) → GivesSize rows k size value → agrees (is_some to) (return_at i first) ≡ true → Gives rows k (option_map number to) value
    gives_to number size i None None None has first gives ok = tt
    gives_to number size i None None (Some e) has first gives ok = absurd (omega (arith, same_Some 0 size has, (size_within rows k size e gives).some))
    gives_to number size i (Some to) (Some t) None has first gives ok = absurd (omega (arith, (size_within rows k size (term t) first).some))
    gives_to number size i (Some to) (Some t) (Some e) has first gives ok =
        record { size = size; cell = is_cell e size gives (eqb-true (size % 8) 0 (ap is_bytes (sym has) ∙ ok)); value_has = gives }
    gives_to number size i to first value has first_gives gives ok = absurd (false≢true ok)

    result_fits : (to : Option (List ℕ × ℕ)) (number : List ℕ × ℕ → ℕ × ℕ)
        → ((found : FirstReturn) → first_return func.items ≡ Some found → agrees (is_some to) found ≡ true)
        → EachReturn (Gives rows k (option_map number to)) (function k func).blocks
    result_fits to number agree b block value is end =
        let r = block_return b block value is end in
        let f = first_from 0 func.items r.found r.first in
        let has : return_size f.value ≡ Some r.size = ap (λ (x : FirstReturn). x.size) (sym f.is) ∙ r.found_size in
        gives_to number r.size (0 + f.place) to f.value value has (return_gives f.place f.value r.size f.at has) r.gives (ap (agrees (is_some to)) (sym f.is) ∙ agree r.found r.first)

  module _ (k : ℕ) (func : Function) (at : slice_get whole.funcs k ≡ Some func) where
    -- ---- statements

    keeps_statements : (i : ℕ) (item : BodyItem) → slice_get func.items i ≡ Some item
        → All (KeepsStatement rows k) (statements_by (numbers k func at).frame item)
    keeps_statements i (Do text.Null) is = All-cons (KeepsStatement rows k) Null [] tt (All-nil (KeepsStatement rows k))
    keeps_statements i (Do (text.Store to value)) is =
        let item = (none.funcs k func at).items i (Do (text.Store to value)) is in
        let w = item_is_written k func at i (Do (text.Store to value)) is in
        let cell = bytes_size (term_size value) item.value_bytes in
        let has = has_size k func at value cell.0 w.1.parts item.value_sees cell.1 in
        All-cons (KeepsStatement rows k) (Store (term k func at to) (term k func at value)) []
        (record {
          address = has_size k func at to 32 w.0.parts item.at_sees item.at_size;
          stored = record { size = cell.0; cell = is_cell k func at (term k func at value) cell.0 has cell.2; value_has = has };
        })
        (All-nil (KeepsStatement rows k))
    keeps_statements i item is = All-nil (KeepsStatement rows k)

    -- ---- ends

    -- a label that stands leads to a block
    leads : (label : List ℕ) → Contains func.items (Label label) → IsBlockOf program k (block_number func.items label)
    leads label among = omega (arith, block_within func.items label among, count_at k func at)

    -- a call is one of its function's calls, and leads to a lower rank
    lower : (i : ℕ) (label : List ℕ) (args : List NamedExpression) (result : Option (List ℕ × ℕ))
        → slice_get func.items i ≡ Some (Do (text.Call label args result))
        → slice_index_or ranks (func_number whole.funcs label) 0 < slice_index_or ranks k 0
    lower i label args result is =
        let calls = λ (g : Function). flat_map (called_by whole.funcs) g.items in
        let row = get_or_from_slice_get (calls_in whole) k (calls func) [] (slice_get-map calls whole.funcs k ∙ ap (option_map calls) at) in
        let number = func_number whole.funcs label in
        has.ranked.falls k number (subst (λ (xs : List ℕ). Contains xs number) (sym row)
        (joined (called_by whole.funcs) func.items (Do (text.Call label args result)) number (contained func.items i (Do (text.Call label args result)) is) (first_member number [])))

    keeps_call : (b i : ℕ) (label : List ℕ) (args : List NamedExpression) (result : Option (List ℕ × ℕ))
        → slice_get func.items i ≡ Some (Do (text.Call label args result)) → GoesOn program k b (suc b)
        → KeepsEnding program k b (end_by (numbers k func at) (suc b) (Do (text.Call label args result)))
    keeps_call b i label args result is on =
        let item = (none.funcs k func at).items i (Do (text.Call label args result)) is in
        let w = item_is_written k func at i (Do (text.Call label args result)) is in
        let p = item.place in
        let called = item.called in
        let found = stands (λ (f : Function). bytes_eq f.name label) whole.funcs p item.found in
        let name : label ≡ called.name = sym (ap (λ (f : Function). f.name) (same_Some called found.member (sym item.at ∙ found.at)) ∙ same_name found.member.name label found.passed) in
        let to : List ℕ × ℕ → ℕ × ℕ = λ target. ((numbers k func at).frame target.0, target.1) in
        let number : func_number whole.funcs label ≡ p = ap (λ (o : Option ℕ). unwrap_or o 0) item.found in
        subst (λ (f : ℕ). CallKeeps program k b f (map (term k func at) args) (option_map to result) (suc b)) (sym number) (record {
          function = function p called;
          at = there p called item.at;
          args_keep = arguments_fit k func at (Some p) (first_frame whole p) called.args args item.sizes item.sees w.1 (is_written p called item.at).args (args_stand whole p called item.at);
          gives = result_fits p called item.at result to (λ r first. agreed whole none p called item.at k func i label args result at is name item.agrees r first);
          result_keeps = by_option (λ o. IfSome o AddressIsWritable → ((target : List ℕ × ℕ) → o ≡ Some target → IsSeen whole func target.0) → KeepsResult rows k (option_map to o)) result
              (λ e fits seen. tt) (λ target e fits seen. record { sees = sees whole k func at target.0 (seen target refl); offset_fits = fits.offset }) w.2 item.result_sees;
          goes_on = on;
        })

    keeps_end : (b i : ℕ) (last : BodyItem) → slice_get func.items i ≡ Some last
        → (is_ending last ≡ false → GoesOn program k b (suc b))
        → KeepsEnding program k b (end_by (numbers k func at) (suc b) last)
    keeps_end b i (Do (text.Jump label)) is goes = leads label ((none.funcs k func at).items i (Do (text.Jump label)) is)
    keeps_end b i (Do (text.Switch value targets others)) is goes =
        let item = (none.funcs k func at).items i (Do (text.Switch value targets others)) is in
        let w = item_is_written k func at i (Do (text.Switch value targets others)) is in
        record {
          size = item.size;
          value_has = has_size k func at value item.size w.0.parts item.sees item.value_size;
          targets_keep = all_images (TargetKeeps program k item.size) (λ target. (target.0.bits, block_number func.items target.1)) targets (λ target c. record {
            fits = subst (λ (z : ℕ). target.0.bits < 2 ^ z) (item.sizes target c) (All-contains TargetIsWritable targets target w.1 c).num.fits;
            there = leads target.1 (item.leads target c);
          });
          apart = targets_apart (block_number func.items) targets item.differ;
          there = leads others item.leads_else;
        }
    keeps_end b i (Do (text.Call label args result)) is goes = keeps_call b i label args result is (goes refl)
    keeps_end b i (Do (text.Return value)) is goes =
        let g = is_returned whole none k func at i value is in
        record { size = g.size; gives = return_gives k func at i value g.size is g.value_size }
    keeps_end b i last is goes = goes refl

    -- ---- blocks

    keeps_block : (b : ℕ) (block : NumberedBlock) → slice_get (function k func).blocks b ≡ Some block
        → KeepsBlock program k b block
    keeps_block = by_part k func at (KeepsBlock program k) (λ b part last part_at last_at among. record {
      statements = all_joined (KeepsStatement rows k) (statements_by (numbers k func at).frame) part
          (λ item c. let d = in_items func.items part (contained (blocks_of func.items) b part part_at) item c in keeps_statements d.0 item (placed func.items item d));
      ending = keeps_end b among.0 last (placed func.items last among)
          (λ other. record { next_is = refl; there = omega (arith, goes_on func.items (is_written k func at).ends b part last part_at last_at other, count_at k func at) });
    })

    -- ---- calls

    -- what an item with this end calls
    called_end : (next : ℕ) (item : BodyItem) (g : ℕ) → Contains (called_at (end_by (numbers k func at) next item)) g
        → IsCalled whole item g
    called_end next (Do (text.Call label args result)) g c =
        record { label = label; args = args; result = result; is = refl; number = first_or_further (func_number whole.funcs label) [] g c (λ e. e) (no_member g) }
    called_end next item g c = no_member g c

    -- a function that a block calls has a lower rank
    block_falls : (b : ℕ) (block : NumberedBlock) → slice_get (function k func).blocks b ≡ Some block → (g : ℕ)
        → Contains (called_at block.ending) g → slice_index_or ranks g 0 < slice_index_or ranks k 0
    block_falls = by_part k func at (λ b block. (g : ℕ) → Contains (called_at block.ending) g → slice_index_or ranks g 0 < slice_index_or ranks k 0) (λ b part last part_at last_at among g c.
        let call = called_end (suc b) last g c in
        subst (λ (f : ℕ). slice_index_or ranks f 0 < slice_index_or ranks k 0) call.number
        (lower among.0 call.label call.args call.result (placed func.items last among ∙ ap Some call.is)))

    -- ---- functions

    keeps_function : KeepsFunction program k (function k func)
    keeps_function =
        let first = first_frame whole k in
        let n = length func.args + length func.decls in
        let w = is_written k func at in
        record {
          others = range_with_len (first + length func.args) (length func.decls);
          arguments_first = range_parts first (length func.args) (length func.decls);
          owned = all_in_range (IsFrameOf rows (Some k)) first n (λ i low.
              let none : Allocation = record { name = []; bits = 0 } in
              let frame = get_or (own_frames func) i none in
              record {
                row = row_for (Some k) frame;
                at =
                    own_stand whole k func at i frame
                    (slice_get-get_or (own_frames func) i none (omega (arith, length-append func.args func.decls)));
                owned = refl;
              });
          apart = range_apart first n;
          inits = all_images (InitFits rows (Some k)) (numbered_init (first + length func.args) func.decls) func.inits
              (λ init c.
              init_fits rows (Some k) (first + length func.args) func.decls (own_decls_stand whole k func at) init
              ((none.funcs k func at).inits init c) (All-contains InitialIsWritable func.inits init w.inits c));
          some = omega (arith, some_block func.items w.ends, count_blocks (numbers k func at) 0 (blocks_of func.items));
          blocks = keeps_block;
          returns = one_size k func at;
        }

  -- ---- ranks

  count_calls : length (block_calls program) ≡ length (calls_in whole)
  count_calls =
      length-map program.funcs (λ (function : NumberedFunction). called_in function.blocks) ∙ count_functions whole (length whole.decls) whole.funcs
      ∙ sym (length-map whole.funcs (λ (func : Function). flat_map (called_by whole.funcs) func.items))

  call_falls : (f g : ℕ) → Calls (block_calls program) f g → slice_index_or ranks g 0 < slice_index_or ranks f 0
  call_falls f g call =
      let calls = λ (function : NumberedFunction). called_in function.blocks in
      let row = get_or (block_calls program) f [] in
      let at = mapped_at calls program.funcs f row (slice_get-get_or (block_calls program) f [] (caller_low (block_calls program) f g call)) in
      let is = of_function f at.0 at.1 in
      let block = from_joined (λ (x : NumberedBlock). called_at x.ending) at.0.blocks g (subst (λ (xs : List ℕ). Contains xs g) (sym at.2) call) in
      let there = subst (λ (x : NumberedFunction). slice_get x.blocks block.1.0 ≡ Some block.0) (sym is.2) (placed at.0.blocks block.0 block.1) in
      block_falls f is.0 is.1 block.1.0 block.0 there g block.2

  has_ranks : HasRanks (block_calls program)
  has_ranks = record {
    ranks = ranks;
    ranked = record {
      one_each = has.ranked.one_each ∙ sym count_calls;
      within = λ f low. subst (λ (n : ℕ). slice_index ranks f < n) (sym count_calls) (has.ranked.within f (subst (λ (n : ℕ). f < n) count_calls low));
      falls = call_falls;
    };
  }

  -- ---- programs

  has_frame : (f k : ℕ) (row : FrameRow) → slice_get rows f ≡ Some row → row.owner ≡ Some k → HasFrame program k f
  has_frame f k row at owned =
      let is = is_frame whole (Some k) f row at owned in
      let own = is.2 in
      let n = length own.func.args + length own.func.decls in
      let low : own.i < n = omega (arith, slice_get_within (own_frames own.func) own.i (frame_of row) own.own, length-append own.func.args own.func.decls) in
      record { function = function k own.func; at = there k own.func own.at; among = range_has (first_frame whole k) n own.i f low (omega arith) }

  names_differ : (k j : ℕ) (f g : NumberedFunction) → slice_get program.funcs k ≡ Some f
      → slice_get program.funcs j ≡ Some g → f.name ≡ g.name → k ≡ j
  names_differ k j f g at other same =
      let x = of_function k f at in
      let y = of_function j g other in
      let name = λ (z : NumberedFunction). z.name in
      one_place (λ (z : Function). z.name) whole.funcs none.funcs_differ k j x.0 y.0 x.1 y.1 (ap name x.2 ∙ same ∙ ap name (sym y.2))

  within : IsWithinLimits program
  within = record {
    funcs = omega (arith, written.few_functions, count_functions whole (length whole.decls) whole.funcs);
    frames = omega (arith, written.few_frames, count_rows whole);
    bytes = omega (arith, written.few_bytes, same_bytes rows 0 ∙ ap (sum_by frame_bytes) (frames_are whole));
  }

  pub kept : IsBounded program → IsKept program
  kept bounded =
      let count = count_functions whole (length whole.decls) whole.funcs in
      record {
        checked = record { whole = whole; root = root; writable = written; passes = passes; numbers = refl };
        bounded = bounded;
        limits = within;
        frames = record { each = keeps_rows whole written; own = has_frame; names = names_apart whole none };
        functions = λ k f at. let is = of_function k f at in subst (KeepsFunction program k) is.2 (keeps_function k is.0 is.1);
        names = names_differ;
        inits = all_images (InitFits rows None) (numbered_init 0 whole.decls) whole.inits
            (λ init c. init_fits rows None 0 whole.decls (decls_stand whole) init (none.inits init c) (All-contains InitialIsWritable whole.inits init written.inits c));
        exports = all_images (KeepsExport rows) (export_number whole) whole.exports (λ name c. export_keeps whole name (none.exports name c));
        root = by_option (λ o. IsSome o → IfSome o (λ k. k < length whole.funcs) → unwrap_or o 0 < length program.funcs) (function_place whole.funcs root)
            (λ e some low. absurd (false≢true some)) (λ k e some low. omega arith) passes.starts (place_within _ whole.funcs);
        ranked = has_ranks;
      }
