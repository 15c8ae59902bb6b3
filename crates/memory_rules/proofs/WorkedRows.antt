-- Stores and loads of a frame, by computing.
use Rattle.std.proofs.Common.{◌≡◌, false, pos, Some, None, [], ◌∷◌, refl}
use Rattle.alf_ops.specs.declared.history.RunFault.TheVariants.{Uninit, Mixed}
use Rattle.whole_numbers.specs.Numbers.{gcd_nat}
use Rattle.progressions.specs.Progressions.{from_to, hull}
use Rattle.strided_rules.specs.Strides.{norm, join, one_word}
use Rattle.memory_rules.specs.Addresses.{cells_of}
use Rattle.memory_rules.specs.Worked.{one_frame, four_cells, words_alone, pointer_alone, zeros, told, told_after}

pub means_four : cells_of one_frame (λ function. false) ((0, record { size = 32; numbers = from_to (pos 0) (pos 12) (pos 4) }) ∷ []) 32 ≡ four_cells
means_four = refl

pub means_none : cells_of one_frame (λ function. false) ((0, one_word 32 14) ∷ []) 32 ≡ []
unfolding norm
means_none = refl

pub over_zeros : told zeros 8 32 ≡ (Some (words_alone (record { size = 32; numbers = from_to (pos 0) (pos 7) (pos 7) })), [])
unfolding norm join hull gcd_nat
over_zeros = refl

pub over_nothing : told [] 8 32 ≡ (Some (words_alone (one_word 32 7)), Uninit ∷ [])
unfolding norm join hull gcd_nat
over_nothing = refl

pub of_bytes : told [] 8 16 ≡ (Some (words_alone (one_word 16 7)), Uninit ∷ [])
unfolding norm join hull gcd_nat
of_bytes = refl

pub whole : told_after (words_alone (one_word 32 258)) 0 32 ≡ (Some (words_alone (one_word 32 258)), [])
unfolding norm
whole = refl

pub lowest : told_after (words_alone (one_word 32 258)) 0 8 ≡ (Some (words_alone (one_word 8 2)), [])
unfolding norm
lowest = refl

pub second : told_after (words_alone (one_word 32 258)) 1 8 ≡ (Some (words_alone (one_word 8 1)), [])
unfolding norm
second = refl

pub past : told_after (words_alone (one_word 32 258)) 2 32 ≡ (None, Uninit ∷ [])
unfolding norm
past = refl

pub of_pointer : told_after (pointer_alone (one_word 32 4)) 1 8 ≡ (None, Mixed ∷ [])
unfolding norm
of_pointer = refl
