-- The words of operands that are one word each.
use Rattle.std.proofs.Common.{◌≡◌, ℕ, List, [], ◌∷◌, Some, take, length, ◌<◌, ◌≤◌, ◌^◌, arith, refl, true, ◌↔◌, eq-eqb}
use Rattle.std.proofs.lemmas.Bool.{eqb-true, false≢true}
use Rattle.std.proofs.lemmas.Slice.Zip.{AllZip-long}
use Rattle.std.specs.Prelude.{◌==◌, slice_get, IfSome}
use Rattle.alf_ops.specs.declared.operator.Op.{Op}
use Rattle.alf_ops.specs.Table.{operand_sizes}
use Rattle.alf_ops.specs.Words.{EachFits}
use Rattle.domain_core.specs.WordSets.{HaveSizes}
use Rattle.flat_domain.specs.Flats.{FlatSet, sizes_fit, IsFlat, word_at, flat_sets}
use Rattle.flat_domain.specs.FlatLaws.{both}
use Rattle.flat_domain.proofs.FlatLemmas.{one_fits}
use Rattle.flat_domain.specs.OperatorSizeLaws.{few_operands}

pub few : (op : Op) (sizes : List ℕ) (args : List FlatSet) → HaveSizes flat_sets (operand_sizes op sizes) args
    → length args ≤ 3
few op sizes args sized = omega (arith, few_operands op sizes, AllZip-long (λ s d. d.size ≡ s) (operand_sizes op sizes) args sized)

pub sizes_are_tested : (sizes : List ℕ) (args : List FlatSet)
    → (sizes_fit sizes args ≡ true) ↔ HaveSizes flat_sets sizes args
sizes_are_tested [] [] = (λ e. tt, λ h. refl)
sizes_are_tested [] (d ∷ args) = (λ e. absurd (false≢true e), λ h. absurd h)
sizes_are_tested (size ∷ sizes) [] = (λ e. absurd (false≢true e), λ h. absurd h)
sizes_are_tested (size ∷ sizes) (d ∷ args) = (
  λ e. let h = both (d.size == size) (sizes_fit sizes args) e in (eqb-true d.size size h.0, (sizes_are_tested sizes args).0 h.1),
  λ h. rw (eq-eqb d.size size h.0, (sizes_are_tested sizes args).1 h.1) refl,
)

pub taken : (args : List FlatSet) (a b c : ℕ) → length args ≤ 3
    → length args ≡ length (take (length args) (a ∷ b ∷ c ∷ []))
taken [] a b c small = refl
taken (d ∷ []) a b c small = refl
taken (d ∷ i ∷ []) a b c small = refl
taken (d ∷ i ∷ j ∷ []) a b c small = refl
taken (d ∷ i ∷ j ∷ k ∷ args) a b c small = absurd (omega (arith, small))

fits_at : (size word : ℕ) (d : FlatSet) → d.size ≡ size → IsFlat d → d.word ≡ Some word → word < 2 ^ size
fits_at size word d same flat e = rw (← same) (one_fits d word e flat)

-- each operand's word fits its size
pub words_fit : (sizes : List ℕ) (args : List FlatSet) (a b c : ℕ) → length args ≤ 3 → HaveSizes flat_sets sizes args
    → IfSome (slice_get args 0) IsFlat → IfSome (slice_get args 1) IsFlat → IfSome (slice_get args 2) IsFlat
    → word_at args 0 ≡ Some a → word_at args 1 ≡ Some b → word_at args 2 ≡ Some c → EachFits sizes (take (length args) (a ∷ b ∷ c ∷ []))
words_fit [] [] a b c small sized p q r e f g = tt
words_fit (s ∷ sizes) [] a b c small sized p q r e f g = absurd sized
words_fit [] (d ∷ args) a b c small sized p q r e f g = absurd sized
words_fit (s ∷ []) (d ∷ []) a b c small sized p q r e f g = (fits_at s a d sized.0 p e, tt)
words_fit (s ∷ t ∷ sizes) (d ∷ []) a b c small sized p q r e f g = absurd sized.1
words_fit (s ∷ []) (d ∷ i ∷ args) a b c small sized p q r e f g = absurd sized.1
words_fit (s ∷ t ∷ []) (d ∷ i ∷ []) a b c small (first, (second, end)) p q r e f g =
    (fits_at s a d first p e, (fits_at t b i second q f, tt))
words_fit (s ∷ t ∷ u ∷ sizes) (d ∷ i ∷ []) a b c small (first, (second, too_long)) p q r e f g = absurd too_long
words_fit (s ∷ t ∷ []) (d ∷ i ∷ j ∷ args) a b c small (first, (second, too_long)) p q r e f g = absurd too_long
words_fit (s ∷ t ∷ u ∷ []) (d ∷ i ∷ j ∷ []) a b c small (first, (second, (third, end))) p q r e f g =
    (fits_at s a d first p e, (fits_at t b i second q f, (fits_at u c j third r g, tt)))
words_fit (s ∷ t ∷ u ∷ v ∷ sizes) (d ∷ i ∷ j ∷ []) a b c small (first, (second, (third, too_long))) p q r e f g =
    absurd too_long
words_fit sizes (d ∷ i ∷ j ∷ k ∷ args) a b c small sized p q r e f g = absurd (omega (arith, small))
