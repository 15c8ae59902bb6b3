-- Places that a switch's expression tells of.
--   cut_sized, cut_covers, cut_only     words cut to a size
--   PlaceFits place size                the place's load has a cell's size, at most the size of the
--       expression
--   PlaceReads rows history place w     where the expression gives the word w, the cell holds the word that
--       it is read from
--   place_fits, place_reads             a place fits, and reads its cell
--   pin_kept, pin_told                  a pin of a place to words that the expression's word is one of
use Rattle.std.specs.Prelude.{slice_index, ◌==◌, ◌&&◌, IsSome, length, ◌-ℤ◌, nat_le, if◌then◌else◌}
use Rattle.std.proofs.Common.{◌≡◌, ℕ, ℤ, pos, Bool, true, false, List, [], ◌∷◌, Option, Some, None, Ok, Err, ◌<◌, ◌≤◌, ◌+◌, ◌-◌, ◌^◌, refl, sym, ap, subst, ◌∙◌, arith}
use Rattle.std.proofs.lemmas.Nat.{pow-add}
use Rattle.std.proofs.lemmas.Option.{none-some, same_Some}
use Rattle.std.proofs.lemmas.Bool.{le-leb, leb-true, and_parts, false≢true}
use Rattle.lists.specs.TestLaws.{by_test}
use Rattle.lists.specs.MemberLaws.{no_member, first_or_further}
use Rattle.whole_numbers.specs.Numbers.{Divides}
use Rattle.whole_numbers.specs.MultipleLaws.{divides_through}
use Rattle.alf_ops.specs.declared.operator.Op.{Op}
use Rattle.alf_ops.specs.declared.operator.Op.TheVariants.{SExt, ZExt, Trunc}
use Rattle.alf_ops.specs.declared.layout.Layout.{Layout}
use Rattle.alf_ops.specs.declared.layout.Layout.TheVariants.{Extension}
use Rattle.alf_ops.specs.declared.history.Value.{Value}
use Rattle.alf_ops.specs.declared.history.Value.TheVariants.{Int, Ptr}
use Rattle.alf_ops.specs.declared.history.RunFault.TheVariants.{Kind}
use Rattle.alf_ops.specs.declared.history.FrameShape.{FrameShape}
use Rattle.alf_ops.specs.declared.history.RunEvent.{RunEvent}
use Rattle.alf_ops.specs.TwosComplement.{word, signed}
use Rattle.alf_ops.specs.Table.{result_size, size_of_result, operand_sizes, layout_of, is_written_so, is_typed, is_size, operands_by_layout, result_by_layout}
use Rattle.alf_ops.specs.Words.{value}
use Rattle.alf_ops.specs.Pointers.{outcome}
use Rattle.alf_ops.specs.Histories.{origin, cell_in}
use Rattle.domain_core.specs.WordSets.{IsWordSize, IsOnly, IsOfSize, IsApplied, AreKept, Gives, GivesOnly, GivesSize}
use Rattle.progressions.specs.Progressions.{full}
use Rattle.strided_rules.specs.Strides.{Stride, IsStride, Covers as CoversWord}
use Rattle.strided_rules.specs.MemberLaws.{some_word}
use Rattle.strided_rules.specs.PlacedLaws.{same_word, from_word, word_itself, word_signed}
use Rattle.strided_rules.specs.Domains.{operand_of, applied, stride_sets}
use Rattle.strided_rules.specs.StrideLaws.{stride_is_sets}
use Rattle.pointer_rules.specs.AbstractValues.{Words, alone}
use Rattle.pointer_rules.specs.Covering.{IsValue}
use Rattle.pointer_rules.specs.RuleLaws.{alone_is, alone_covers, alone_only}
use Rattle.memory_rules.specs.Covers.{IsCellSize as IsCell}
use Rattle.memory_rules.specs.Memories.{Mem, MemSized, IsPlaced}
use Rattle.memory_rules.specs.AbstractSets.{abstract_sets}
use Rattle.memory_rules.specs.AbstractSetLaws.{abstract_is_sets}
use Rattle.memory_rules.specs.MemoryProofLaws.{memory_pin_covers, memory_pin_sharp, memory_pin_sized}
use Rattle.transfer_rules.specs.Refining.{Place, is_extension, cut, for_cell, pinned_to}
use Rattle.transfer_rules.specs.Standing.{Stands}
use Rattle.transfer_rules.specs.StandingLaws.{one_of}
use Rattle.transfer_rules.specs.EvaluatingLaws.{result_has}
use Rattle.transfer_rules.specs.DoingLaws.{Kept}

-- ---- words cut to a size

gives_word : (answer : Option Stride) (v : ℕ) → Gives stride_sets answer v → CoversWord (operand_of answer) v
gives_word None v g = let none : None ≡ Some g.0 = g.1 in cc
gives_word (Some w) v g = subst (λ (d : Stride). CoversWord d v) (sym (same_Some w g.0 g.1)) g.2

gives_only : (answer : Option Stride) (v : ℕ) → GivesOnly stride_sets answer v
    → IsOnly stride_sets (operand_of answer) v
gives_only None v g = let none : None ≡ Some g.0 = g.1 in cc
gives_only (Some w) v g = subst (λ (d : Stride). IsOnly stride_sets d v) (sym (same_Some w g.0 g.1)) g.2

gives_size : (answer : Option Stride) (v s : ℕ) → Gives stride_sets answer v → GivesSize stride_sets answer s
    → IsOfSize stride_sets s (operand_of answer)
gives_size None v s g sized = let none : None ≡ Some g.0 = g.1 in cc
gives_size (Some w) v s g sized = sized w refl

one_kept : (a : Stride) → IsStride a → AreKept stride_sets (a ∷ [])
one_kept a of_a e c = first_or_further a [] e c (λ same. subst IsStride same of_a) (λ none. no_member e none)

cut_typed : (own size : ℕ) → IsWordSize own → IsWordSize size → size ≤ own
    → IsSome (result_size Trunc (own ∷ size ∷ []))
cut_typed own size of_own is most = rw (le-leb 1 own of_own.least, le-leb own 64 of_own.most, le-leb 1 size is.least, le-leb size 64 is.most, le-leb size own most) refl

cut_applied : (x : Stride) (size : ℕ) → IsStride x → IsWordSize size → size ≤ x.size
    → IsApplied stride_sets Trunc (x.size ∷ size ∷ []) (x ∷ []) (applied Trunc (x.size ∷ size ∷ []) (x ∷ []))
cut_applied x size of_x is most = stride_is_sets.applied Trunc (x.size ∷ size ∷ []) (x ∷ []) (cut_typed x.size size of_x.size is most) (refl, tt) (one_kept x of_x)

pub cut_sized : (x : Stride) (size : ℕ) → IsStride x → IsWordSize size → size ≤ x.size
    → IsOfSize stride_sets size (cut size x)
cut_sized x size of_x is most =
    let r = cut_applied x size of_x is most in
    let t = some_word x of_x in
    gives_size (applied Trunc (x.size ∷ size ∷ []) (x ∷ [])).value (value Trunc (x.size ∷ size ∷ []) (t.0 ∷ [])) size (r.covering (t.0 ∷ []) (t.1, tt) (λ z. false≢true z.0)) r.size

pub cut_covers : (x : Stride) (size w : ℕ) → IsStride x → IsWordSize size → size ≤ x.size → CoversWord x w
    → CoversWord (cut size x) (word size (pos w))
cut_covers x size w of_x is most covers =
    gives_word (applied Trunc (x.size ∷ size ∷ []) (x ∷ [])).value (value Trunc (x.size ∷ size ∷ []) (w ∷ [])) ((cut_applied x size of_x is most).covering (w ∷ []) (covers, tt) (λ z. false≢true z.0))

pub cut_only : (x : Stride) (size w : ℕ) → IsStride x → IsWordSize size → size ≤ x.size → IsOnly stride_sets x w
    → IsOnly stride_sets (cut size x) (word size (pos w))
cut_only x size w of_x is most only =
    gives_only (applied Trunc (x.size ∷ size ∷ []) (x ∷ [])).value (value Trunc (x.size ∷ size ∷ []) (w ∷ [])) ((cut_applied x size of_x is most).sharp (w ∷ []) (only, tt) (λ z. false≢true z.0)).0

-- ---- what a place is

-- the place's load has a cell's size, which is that of the expression, or at most that
pub record PlaceFits (place : Place) (size : ℕ) : Type 0 where
  pub cell : IsCell place.size
  pub narrow : place.size ≤ size
  pub same : place.extended ≡ false → place.size ≡ size

-- where the expression gives the word w, the cell holds the word that it is read from
pub record PlaceReads (rows : List FrameShape) (history : List RunEvent) (place : Place) (w : ℕ) : Type 0 where
  pub bits : ℕ
  pub p : IsPlaced rows history place.cell.0 place.cell.1 place.size
  pub gives : cell_in (origin p.row.owner place.cell.0 history) place.cell.1 place.size ≡ Ok (Int place.size bits)
  pub whole : place.extended ≡ false → w ≡ bits
  pub part : place.extended ≡ true → word place.size (pos w) ≡ bits

cell_is_word : (size : ℕ) → IsCell size → IsWordSize size
cell_is_word size is = let some = is.0 in record { least = omega (arith, some); most = is.2 }

-- ---- pins

module _ (place : Place) (size : ℕ) (fits : PlaceFits place size) (words : Stride) (of_words : IsOfSize stride_sets size words) where
  narrow : place.size ≤ words.size
  narrow = let most = fits.narrow in let same = of_words.size in omega (arith, most, same)

  for_cell_sized : IsOfSize stride_sets place.size (for_cell place words)
  for_cell_sized = by_test place.extended
      (λ e. rw e (cut_sized words place.size of_words.kept (cell_is_word place.size fits.cell) narrow))
      (λ e. rw e (record { kept = of_words.kept; size = of_words.size ∙ sym (fits.same e) }))

  for_cell_covers : (rows : List FrameShape) (history : List RunEvent) (w : ℕ) (reads : PlaceReads rows history place w)
      → CoversWord words w → CoversWord (for_cell place words) reads.bits
  for_cell_covers rows history w reads covers = by_test place.extended
      (λ e. rw e (subst (CoversWord (cut place.size words)) (reads.part e) (cut_covers words place.size w of_words.kept (cell_is_word place.size fits.cell) narrow covers)))
      (λ e. rw e (subst (CoversWord words) (reads.whole e) covers))

  for_cell_only : (rows : List FrameShape) (history : List RunEvent) (w : ℕ) (reads : PlaceReads rows history place w)
      → IsOnly stride_sets words w → IsOnly stride_sets (for_cell place words) reads.bits
  for_cell_only rows history w reads only = by_test place.extended
      (λ e. rw e (subst (IsOnly stride_sets (cut place.size words)) (reads.part e) (cut_only words place.size w of_words.kept (cell_is_word place.size fits.cell) narrow only)))
      (λ e. rw e (subst (IsOnly stride_sets words) (reads.whole e) only))

  pinned_value : IsValue place.size (alone (Words (for_cell place words)))
  pinned_value = alone_is place.size (Words (for_cell place words)) for_cell_sized

  -- a pin keeps sizes, and the functions that run
  pub pin_kept : (m : Mem abstract_sets) → MemSized abstract_sets m → Kept m (pinned_to m place words)
  pin_kept m sized = record {
    sized = memory_pin_sized abstract_sets abstract_is_sets m place.cell place.size (alone (Words (for_cell place words))) sized fits.cell pinned_value;
    runs = refl;
  }

  -- and the memory stands for the history
  pub pin_told : (Sharp : Type 0) (rows : List FrameShape) (m : Mem abstract_sets) (history : List RunEvent) (w : ℕ)
      → Stands Sharp rows m history → (reads : PlaceReads rows history place w)
      → CoversWord words w → (Sharp → IsOnly stride_sets words w) → Stands Sharp rows (pinned_to m place words) history
  pin_told Sharp rows m history w stands reads covers only =
      let set = alone (Words (for_cell place words)) in
      let own : Value = Int place.size reads.bits in
      record {
        sound = stands.sound;
        sized = (pin_kept m stands.sized).sized;
        covers =
            memory_pin_covers abstract_sets abstract_is_sets rows m history place.cell.0 place.cell.1 place.size set own stands.sound stands.sized stands.covers fits.cell pinned_value reads.p reads.gives
            (alone_covers (Words (for_cell place words)) own (for_cell_sized.size, for_cell_covers rows history w reads covers));
        sharp = λ sharp.
            memory_pin_sharp abstract_sets abstract_is_sets rows m history place.cell.0 place.cell.1 place.size set own stands.sound stands.sized (stands.sharp sharp) fits.cell pinned_value reads.p reads.gives
            (one_of set own (alone_only (Words (for_cell place words)) own (for_cell_sized.size, for_cell_only rows history w reads (only sharp))));
      }

-- ---- extensions

ext_layout : (op : Op) → is_extension op ≡ true → layout_of op ≡ Extension
ext_layout SExt e = refl
ext_layout ZExt e = refl
ext_layout _ e = absurd (false≢true e)

-- the sizes of an extension
pub record ExtensionSizes (op : Op) (sizes : List ℕ) (size : ℕ) : Type 0 where
  pub operands_are : operand_sizes op sizes ≡ slice_index sizes 0 ∷ []
  pub most : slice_index sizes 0 ≤ size
  pub result_is : size_of_result op sizes ≡ size

some_row : (test : Bool) (found size : ℕ) → (if test then Some found else None) ≡ (let o : Option ℕ = Some size in o)
    → test ≡ true
some_row true found size is = refl
some_row false found size is = let none : None ≡ (let o : Option ℕ = Some size in o) = is in absurd (none-some size none)

pub ext_sizes : (op : Op) (sizes : List ℕ) (size : ℕ) → is_extension op ≡ true → result_size op sizes ≡ Some size
    → ExtensionSizes op sizes size
ext_sizes op sizes size e is =
    let layout = ext_layout op e in
    let result = result_has op sizes size is in
    let written : is_written_so (layout_of op) sizes ≡ true = some_row (is_written_so (layout_of op) sizes) (size_of_result op sizes) size is in
    let as_ext : is_written_so Extension sizes ≡ true = subst (λ (l : Layout). is_written_so l sizes ≡ true) layout written in
    let typed = (and_parts (length sizes == 2) (is_typed Extension (slice_index sizes 0) (slice_index sizes 1) (slice_index sizes 2)) as_ext).1 in
    let last : nat_le (slice_index sizes 0) (slice_index sizes 1) ≡ true = (and_parts (is_size (slice_index sizes 0) && is_size (slice_index sizes 1)) (nat_le (slice_index sizes 0) (slice_index sizes 1)) typed).1 in
    let second : slice_index sizes 1 ≡ size = subst (λ (l : Layout). result_by_layout l (slice_index sizes 0) (slice_index sizes 1) (slice_index sizes 2) ≡ size) layout result in
    record {
      operands_are = ap (λ (l : Layout). operands_by_layout l (slice_index sizes 0) (slice_index sizes 1) (slice_index sizes 2)) layout;
      most = let low = leb-true (slice_index sizes 0) (slice_index sizes 1) last in omega (arith, low, second);
      result_is = result;
    }

lesser_power : (n w : ℕ) → n ≤ w → Divides (full n) (full w)
lesser_power n w most = record { times = pos (2 ^ (w - n)); is = ap pos (ap (λ (k : ℕ). 2 ^ k) (let e : w ≡ w - n + n = omega (arith, most) in e) ∙ pow-add 2 (w - n) n) }

-- a word cut back to a size that it was extended from
word_back : (m n : ℕ) (z : ℤ) → m ≤ n → word m (pos (word n z)) ≡ word m z
word_back m n z most = sym (same_word m z (pos (word n z)) (divides_through (full m) (full n) (z -ℤ pos (word n z)) (lesser_power m n most) (from_word n z)))

pub ext_back : (op : Op) (sizes : List ℕ) (x : ℕ) → is_extension op ≡ true
    → slice_index sizes 0 ≤ size_of_result op sizes → x < 2 ^ slice_index sizes 0
    → word (slice_index sizes 0) (pos (value op sizes (x ∷ 0 ∷ 0 ∷ []))) ≡ x
ext_back SExt sizes x e most small = word_back (slice_index sizes 0) (slice_index sizes 1) (signed (slice_index sizes 0) x) most ∙ word_signed (slice_index sizes 0) x small
ext_back ZExt sizes x e most small = word_back (slice_index sizes 0) (slice_index sizes 1) (pos x) most ∙ word_itself (slice_index sizes 0) x small
ext_back _ sizes x e most small = absurd (false≢true e)

pub ext_outcome : (op : Op) (sizes : List ℕ) (own x : ℕ) → is_extension op ≡ true
    → outcome op sizes (Int own x ∷ []) ≡ Ok (Int (size_of_result op sizes) (value op sizes (x ∷ 0 ∷ 0 ∷ [])))
ext_outcome SExt sizes own x e = refl
ext_outcome ZExt sizes own x e = refl
ext_outcome _ sizes own x e = absurd (false≢true e)

pub ext_pointer : (op : Op) (sizes : List ℕ) (frame offset : ℕ) → is_extension op ≡ true
    → outcome op sizes (Ptr frame offset ∷ []) ≡ Err Kind
ext_pointer SExt sizes frame offset e = refl
ext_pointer ZExt sizes frame offset e = refl
ext_pointer _ sizes frame offset e = absurd (false≢true e)
