-- Flags in place.
--   few_set   one of those that count is set
use Rattle.std.specs.Prelude.{slice_set}
use Rattle.std.proofs.Common.{◌≡◌, ◌∙◌, ap, sym, refl, ℕ, zero, suc, Bool, List, [], ◌∷◌, take}
use Rattle.abstract_memory.specs.declared.running.Flags.{Flags}
use Rattle.abstract_memory.specs.declared.running.Flags.TheVariants as forms
use Rattle.abstract_memory.specs.Flags.{flags_of}

take_set : (count : ℕ) (flags : List Bool) (at : ℕ) (on : Bool)
    → take count (slice_set flags at on) ≡ slice_set (take count flags) at on
take_set zero flags at on = refl
take_set (suc count) [] at on = refl
take_set (suc count) (flag ∷ flags) zero on = refl
take_set (suc count) (flag ∷ flags) (suc at) on = ap (λ (rest : List Bool). flag ∷ rest) (take_set count flags at on)

-- one of those that count is set
pub few_set : (flags : Flags) (own : List Bool) (count at : ℕ) (on : Bool) → flags ≡ forms.Few own count
    → take count (slice_set own at on) ≡ slice_set (flags_of flags) at on
few_set flags own count at on is = take_set count own at on ∙ sym (ap (λ (f : Flags). slice_set (flags_of f) at on) is)
