-- Lists of operands.
--   words_taken    the words of their places, as many as there are, are their words
--   words_fit      each word fits the size of its operand
--   operand_past   there is none after the last
--   sized_at       each operand by its place has the size that is wanted
use Rattle.std.proofs.Common.{◌≡◌, ℕ, zero, suc, List, [], ◌∷◌, map, take, length, ◌≤◌, arith, refl}
use Rattle.std.specs.Prelude.{slice_get}
use Rattle.alf_ops.specs.Words.{EachFits}
use Rattle.domain_core.specs.WordSets.{HaveSizes}
use Rattle.flat_domain.specs.OperatorSizeLaws.{word_below}
use Rattle.strided_rules.specs.Strides.{Stride, one_word}
use Rattle.strided_rules.specs.Members.{word_of}
use Rattle.strided_rules.specs.Domains.{operand, stride_sets}
use Rattle.interval_congruence.specs.Operands.{IsSized}

pub words_taken : (args : List Stride) → length args ≤ 3 → take (length args) (word_of (operand args 0) ∷ word_of (operand args 1) ∷ word_of (operand args 2) ∷ []) ≡ map word_of args
words_taken [] small = refl
words_taken (a ∷ []) small = refl
words_taken (a ∷ b ∷ []) small = refl
words_taken (a ∷ b ∷ c ∷ []) small = refl
words_taken (a ∷ b ∷ c ∷ d ∷ args) small = absurd (omega (arith, small))

pub words_fit : (sizes : List ℕ) (args : List Stride) → HaveSizes stride_sets sizes args
    → EachFits sizes (map word_of args)
words_fit [] [] sized = tt
words_fit [] (a ∷ args) sized = absurd sized
words_fit (s ∷ sizes) [] sized = absurd sized
words_fit (s ∷ sizes) (a ∷ args) sized = (rw (← sized.0) (word_below a.size a.numbers.lo), words_fit sizes args sized.1)

pub sized_at : (sizes : List ℕ) (args : List Stride) (i : ℕ) → HaveSizes stride_sets sizes args
    → IsSized (slice_get sizes i) (operand args i)
sized_at [] [] i sized = tt
sized_at [] (a ∷ args) i sized = absurd sized
sized_at (s ∷ sizes) [] i sized = absurd sized
sized_at (s ∷ sizes) (a ∷ args) zero sized = sized.0
sized_at (s ∷ sizes) (a ∷ args) (suc i) sized = sized_at sizes args i sized.1

-- after the last operand
pub operand_past : (args : List Stride) (i : ℕ) → length args ≤ i → operand args i ≡ one_word 1 0
operand_past [] i past = refl
operand_past (a ∷ args) zero past = absurd (omega (arith, past))
operand_past (a ∷ args) (suc i) past = operand_past args i (omega (arith, past))
