-- Words of bytes: their sizes, and a byte below a word.
--   conc_typed     a byte may be put below a word
--   word_sized     the word of so many bytes has their bits
--   one_size       a value and the word of a cell have one size
--   bytes_more     the lowest byte and the others
--   no_word, one_word, word_more   the word of bytes from their lowest and the others
use Rattle.std.specs.Prelude.{IfSome}
use Rattle.std.proofs.Common.{◌≡◌, ◌≢◌, subst, ◌∙◌, ap, ℕ, suc, zero, List, [], ◌∷◌, map, Option, Some, None, IsSome, refl, arith, ◌+◌, ◌-◌, ◌*◌, ◌≤◌}
use Rattle.std.proofs.lemmas.Bool.{le-leb}
use Rattle.alf_ops.specs.declared.operator.Op.TheVariants.{Conc}
use Rattle.alf_ops.specs.Table.{result_size}
use Rattle.alf_ops.specs.Histories.{offsets}
use Rattle.domain_core.specs.WordSets.{IsWordSize, IsOfSize}
use Rattle.strided_rules.specs.Strides.{Stride}
use Rattle.strided_rules.specs.Domains.{stride_sets}
use Rattle.pointer_rules.specs.AbstractValues.{AbstractValue}
use Rattle.pointer_rules.specs.Covering.{IsValue}
use Rattle.memory_rules.specs.AbstractSets.{above_byte, abstract_sets}
use Rattle.memory_rules.specs.AbstractSetLaws.{abstract_is_sets}
use Rattle.memory_rules.specs.Frames.{AbstractByte, FrameMem, values_in, and_values, concatenated}
use Rattle.memory_rules.specs.Covers.{FrameSized}
use Rattle.memory_rules.specs.Gathered.{WordSized}
use Rattle.memory_rules.specs.GatheredLaws.{words_sized}
use Rattle.frame_memory.proofs.ByteLaws.{offsets_more}
use Rattle.frame_memory.specs.LoadedResults.{word_in, words_of, HaveSize}

-- a byte may be put below a word
pub conc_typed : (m n : ℕ) → IsWordSize m → IsWordSize n → m + n ≤ 64 → IsSome (result_size Conc (m ∷ n ∷ []))
conc_typed m n is_m is_n few =
    let some : 1 ≤ m + n = omega (arith, is_m.least) in
    rw (le-leb 1 m is_m.least, le-leb m 64 is_m.most, le-leb 1 n is_n.least, le-leb n 64 is_n.most, le-leb 1 (m + n) some, le-leb (m + n) 64 few) refl

-- the word of so many bytes has their bits
pub word_sized : (m : FrameMem abstract_sets) → FrameSized abstract_sets m → (place count : ℕ) → 1 ≤ count → count ≤ 8
    → IfSome (word_in (values_in (map m.bytes (offsets place count)))) (IsOfSize stride_sets (count * 8))
word_sized m sized place count some few = go (values_in (map m.bytes (offsets place count))) refl
  where
    of_word : (word : Option Stride) → WordSized abstract_sets word (count * 8)
        → IfSome word (IsOfSize stride_sets (count * 8))
    of_word None s = tt
    of_word (Some word) s = s

    go : (words : Option (List Stride)) → values_in (map m.bytes (offsets place count)) ≡ words
        → IfSome (word_in words) (IsOfSize stride_sets (count * 8))
    go None is = tt
    go (Some words) is = of_word (concatenated abstract_sets words) (words_sized abstract_sets abstract_is_sets m sized place count words (omega (arith, few)) is)

-- a value and the word of a cell have one size
pub one_size : (size count : ℕ) (before : Option AbstractValue) (word : Option Stride) → count * 8 ≡ size
    → IfSome before (IsValue size)
    → IfSome word (IsOfSize stride_sets (count * 8)) → HaveSize before (words_of word)
one_size size count before None all sized of_word = record { size = size; first = sized; second = tt }
one_size size count before (Some word) all sized of_word = record {
  size = size;
  first = sized;
  second = abstract_is_sets.of_word_sized word size (subst (λ (n : ℕ). IsOfSize stride_sets n word) all of_word);
}

-- a word with a byte below it, if there is one
abbrev pub below : Option Stride → Stride → Option Stride
below None low = None
below (Some high) low = Some (above_byte high low)

-- some bytes have some words
some_words : (bytes : ℕ → AbstractByte Stride) (place count : ℕ) → count ≢ 0
    → values_in (map bytes (offsets place count)) ≡ Some [] → ⊥
some_words bytes place zero some none = some refl
some_words bytes place (suc count) some none = go (bytes place).value (values_in (map bytes (offsets (suc place) count))) none
  where
    go : (word : Option Stride) (words : Option (List Stride)) → and_values word words ≡ Some [] → ⊥
    go None words e = cc
    go (Some word) None e = cc
    go (Some word) (Some words) e = cc

-- the bytes of a list, the lowest and the others
pub bytes_more : {A : Type 0} (f : List (AbstractByte Stride) → A) (bytes : ℕ → AbstractByte Stride) (place count : ℕ)
    → count ≢ 0
    → f (map bytes (offsets place count)) ≡ f (bytes place ∷ map bytes (offsets (place + 1) (count - 1)))
bytes_more f bytes place count some = ap (λ places. f (map bytes places)) (offsets_more place count some)

-- no word where the lowest byte has none
pub no_word : (bytes : ℕ → AbstractByte Stride) (place count : ℕ) → count ≢ 0 → (bytes place).value ≡ None
    → word_in (values_in (map bytes (offsets place count))) ≡ None
no_word bytes place count some none =
    bytes_more (λ taken. word_in (values_in taken)) bytes place count some
    ∙ ap (λ word. word_in (and_values word (values_in (map bytes (offsets (place + 1) (count - 1)))))) none

-- the word of one byte
pub one_word : (bytes : ℕ → AbstractByte Stride) (place : ℕ) (low : Stride) → (bytes place).value ≡ Some low
    → word_in (values_in (map bytes (offsets place 1))) ≡ Some low
one_word bytes place low is = ap (λ word. word_in (and_values word (Some []))) is

-- the word of the lowest byte and of the others
pub word_more : (bytes : ℕ → AbstractByte Stride) (place count : ℕ) (low : Stride) → count ≢ 0 → count - 1 ≢ 0
    → (bytes place).value ≡ Some low
    → word_in (values_in (map bytes (offsets place count))) ≡ below (word_in (values_in (map bytes (offsets (place + 1) (count - 1))))) low
word_more bytes place count low some others is =
    bytes_more (λ taken. word_in (values_in taken)) bytes place count some
    ∙ (ap (λ word. word_in (and_values word (values_in (map bytes (offsets (place + 1) (count - 1)))))) is
    ∙ go (values_in (map bytes (offsets (place + 1) (count - 1)))) (some_words bytes (place + 1) (count - 1) others))
  where
    go : (words : Option (List Stride)) → (words ≡ Some [] → ⊥)
        → word_in (and_values (Some low) words) ≡ below (word_in words) low
    go None not_none = refl
    go (Some []) not_none = absurd (not_none refl)
    go (Some (word ∷ words)) not_none = refl
