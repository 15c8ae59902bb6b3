-- Laws of distinct.
--   same_labels   two labels are one exactly where their numbers are
use Rattle.std.proofs.Common.{◌≡◌, ◌≢◌, ◌<◌, ℕ, ◌^◌, List, ◌++◌, true, false, codes, decimal, bytes_eq, sym, ap, ◌∙◌, inl, inr, eq-eqb, ne_eqb}
use Rattle.std.specs.Prelude.{◌==◌}
use Rattle.std.proofs.lemmas.Bool.{cases_eq, false_from_ne_true}
use Rattle.std.proofs.lemmas.Fmt.{decimal_injective}
use Rattle.std.proofs.lemmas.Slice.Eq.{bytes_eq-Decides}
use mathlib.Core.List.{append_cancel_left}
use Rattle.c_lowered.specs.Names.{function_name}
use Rattle.c_lowered.specs.Conditions.{Within, label}

same_text_of : (a b : List ℕ) → a ≡ b → bytes_eq a b ≡ true
same_text_of a b same = (bytes_eq-Decides a b).1 same

other_text : (a b : List ℕ) → a ≢ b → bytes_eq a b ≡ false
other_text a b differ = false_from_ne_true (bytes_eq a b) (λ t. differ ((bytes_eq-Decides a b).0 t))

same_number : (within : Within) (n k : ℕ) → n < 2 ^ 64 → k < 2 ^ 64 → label within n ≡ label within k → n ≡ k
same_number within n k few low same =
    decimal_injective n k few low
    (append_cancel_left (codes "L") (decimal n) (decimal k)
    (append_cancel_left (codes "::") (codes "L" ++ decimal n) (codes "L" ++ decimal k)
    (append_cancel_left (function_name within.program within.function) (codes "::" ++ (codes "L" ++ decimal n)) (codes "::" ++ (codes "L" ++ decimal k)) same)))

-- two labels are one exactly where their numbers are
pub same_labels : (within : Within) (n k : ℕ) → n < 2 ^ 64 → k < 2 ^ 64
    → bytes_eq (label within n) (label within k) ≡ (n == k)
same_labels within n k few low =
    elim (cases_eq n k) [
      | inl same ↦ same_text_of (label within n) (label within k) (ap (label within) same) ∙ sym (eq-eqb n k same)
      | inr other ↦ other_text (label within n) (label within k) (λ e. other (same_number within n k few low e)) ∙ sym (ne_eqb n k other)
    ]
