-- Operands of words alone.
--   few_values       no operator has more than three operands
--   each_is_words    the words of each operand are those of all
--   words_sized      they have the sizes of the operands
--   words_applied    what the operator gives at the words is what it gives at the values
use Rattle.std.proofs.Common.{◌≡◌, ℕ, List, [], ◌∷◌, map, take, length, refl, ap, ◌∙◌, ◌≤◌, arith}
use Rattle.std.specs.Prelude.{IfSome, slice_get}
use Rattle.std.specs.List.{AllZip}
use Rattle.std.proofs.lemmas.Slice.Zip.{AllZip-long}
use Rattle.alf_ops.specs.declared.operator.Op.{Op}
use Rattle.alf_ops.specs.Table.{operand_sizes}
use Rattle.domain_core.specs.WordSets.{HaveSizes}
use Rattle.flat_domain.specs.OperatorSizeLaws.{few_operands}
use Rattle.strided_rules.specs.Strides.{Stride}
use Rattle.strided_rules.specs.Domains.{stride_sets, applied as applied_words}
use Rattle.pointer_rules.specs.AbstractValues.{AbstractValue, HasSize, Words, alone, alternatives, numbers_of}
use Rattle.pointer_rules.specs.Choices.{choices, at_choice, applied, words_outcome}
use Rattle.pointer_rules.specs.ApplyLaws.{singles, only_choice}
use Rattle.pointer_domain.specs.Parts.{AreWords}

-- no operator has more than three operands
pub few_values : (op : Op) (sizes : List ℕ) (args : List AbstractValue)
    → AllZip (λ size v. HasSize v size) (operand_sizes op sizes) args → length args ≤ 3
few_values op sizes args sized =
    let long : length args ≡ length (operand_sizes op sizes) = AllZip-long (λ size v. HasSize v size) (operand_sizes op sizes) args sized in
    omega (arith, few_operands op sizes, long)

-- the words of each operand are those of all
pub each_is_words : (args : List AbstractValue) (a b c : Stride) → length args ≤ 3
    → IfSome (slice_get args 0) (λ v. v ≡ alone (Words a)) → IfSome (slice_get args 1) (λ v. v ≡ alone (Words b)) → IfSome (slice_get args 2) (λ v. v ≡ alone (Words c))
    → AreWords args (take (length args) (a ∷ b ∷ c ∷ []))
each_is_words [] a b c few first second third = tt
each_is_words (u ∷ []) a b c few first second third = (first, tt)
each_is_words (u ∷ v ∷ []) a b c few first second third = (first, (second, tt))
each_is_words (u ∷ v ∷ w ∷ []) a b c few first second third = (first, (second, (third, tt)))
each_is_words (u ∷ v ∷ w ∷ x ∷ args) a b c few first second third = absurd (omega (arith, few))

-- they have the sizes of the operands
pub words_sized : (sizes : List ℕ) (args : List AbstractValue) (words : List Stride) → AreWords args words
    → AllZip (λ size v. HasSize v size) sizes args → HaveSizes stride_sets sizes words
words_sized [] [] [] are sized = tt
words_sized [] [] (x ∷ words) are sized = absurd are
words_sized sizes (v ∷ args) [] are sized = absurd are
words_sized [] (v ∷ args) (x ∷ words) are sized = absurd sized
words_sized (size ∷ sizes) [] words are sized = absurd sized
words_sized (size ∷ sizes) (v ∷ args) (x ∷ words) are sized = ((rw are.0 at sized.0).words, words_sized sizes args words are.1 sized.1)

-- each has its words as its one alternative
are_singles : (args : List AbstractValue) (words : List Stride) → AreWords args words
    → map alternatives args ≡ singles (map Words words)
are_singles [] [] are = refl
are_singles [] (x ∷ words) are = absurd are
are_singles (v ∷ args) [] are = absurd are
are_singles (v ∷ args) (x ∷ words) are = rw (are.0, are_singles args words are.1) refl

the_numbers : (words : List Stride) → map numbers_of (map Words words) ≡ words
the_numbers [] = refl
the_numbers (x ∷ words) = ap (λ rest. x ∷ rest) (the_numbers words)

no_pointer : (op : Op) (sizes : List ℕ) (words : List Stride)
    → at_choice op sizes (map Words words) ≡ words_outcome (applied_words op sizes words)
no_pointer op sizes [] = refl
no_pointer op sizes (a ∷ []) = refl
no_pointer op sizes (a ∷ b ∷ []) = refl
no_pointer op sizes (a ∷ b ∷ c ∷ words) = ap (λ (rest : List Stride). words_outcome (applied_words op sizes (a ∷ b ∷ c ∷ rest))) (the_numbers words)

-- what the operator gives at the words is what it gives at the values
pub words_applied : (op : Op) (sizes : List ℕ) (args : List AbstractValue) (words : List Stride) → AreWords args words
    → words_outcome (applied_words op sizes words) ≡ applied op sizes args
words_applied op sizes args words are =
    let one : choices (map alternatives args) ≡ map Words words ∷ [] = ap choices (are_singles args words are) ∙ only_choice (map Words words) in
    rw (one, no_pointer op sizes words) refl
