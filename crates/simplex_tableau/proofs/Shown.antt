-- What rows by terms show.
use Rattle.std.specs.Prelude.{slice_set}
use Rattle.std.proofs.Common.{◌≡◌, ℕ, ℤ, zero, suc, ◌<◌, arith, refl, sym, ap, ◌∙◌, List, [], ◌∷◌, length, get_or}
use Rattle.ipet_rows.specs.Sums.{coefficient}
use Rattle.ipet_rows.specs.Programs.{IsWithin}
use Rattle.ipet_rows.specs.Firsts.{entry}
use Rattle.simplex_rules.specs.Lines.{spread}
use Rattle.simplex_rules.specs.Tableaus.{Held, held_at}
use Rattle.simplex_rules.specs.FirstTableauLaws.{spread_is}
use Rattle.simplex_tableau.specs.Sparse.{HeldTerms, terms_at, shown_rows, IsKept}

pub shown_count : (w : ℕ) (rows : List HeldTerms) → length (shown_rows w rows) ≡ length rows
shown_count w [] = refl
shown_count w (h ∷ hs) = ap suc (shown_count w hs)

pub shown_at : (w : ℕ) (rows : List HeldTerms) (k : ℕ) → k < length rows
    → held_at (shown_rows w rows) k ≡ record { basic = (terms_at rows k).basic; line = spread w 0 (terms_at rows k).terms }
shown_at w [] k below = absurd (omega arith)
shown_at w (h ∷ hs) zero below = refl
shown_at w (h ∷ hs) (suc k) below = shown_at w hs k (omega arith)

pub terms_there : (rows : List HeldTerms) (k : ℕ) (d : HeldTerms) → k < length rows → get_or rows k d ≡ terms_at rows k
terms_there [] k d below = absurd (omega arith)
terms_there (r ∷ rs) zero d below = refl
terms_there (r ∷ rs) (suc k) d below = terms_there rs k d (omega arith)

pub set_count : (rows : List HeldTerms) (i : ℕ) (x : HeldTerms) → length (slice_set rows i x) ≡ length rows
set_count [] i x = refl
set_count (r ∷ rs) zero x = refl
set_count (r ∷ rs) (suc i) x = ap suc (set_count rs i x)

pub set_there : (rows : List HeldTerms) (i : ℕ) (x : HeldTerms) → i < length rows → terms_at (slice_set rows i x) i ≡ x
set_there [] i x below = absurd (omega arith)
set_there (r ∷ rs) zero x below = refl
set_there (r ∷ rs) (suc i) x below = set_there rs i x (omega arith)

pub set_other : (rows : List HeldTerms) (i j : ℕ) (x : HeldTerms) → (j ≡ i → ⊥)
    → terms_at (slice_set rows i x) j ≡ terms_at rows j
set_other [] i j x d = refl
set_other (r ∷ rs) zero zero x d = absurd (d refl)
set_other (r ∷ rs) zero (suc j) x d = refl
set_other (r ∷ rs) (suc i) zero x d = refl
set_other (r ∷ rs) (suc i) (suc j) x d = set_other rs i j x (λ e. d (ap suc e))

-- a number of a row, as it is shown
pub number_shown : (w : ℕ) (rows : List HeldTerms) (k j : ℕ) → k < length rows → IsWithin w (terms_at rows k).terms
    → entry (held_at (shown_rows w rows) k).line j ≡ coefficient (terms_at rows k).terms j
number_shown w rows k j below within =
    ap (λ (h : Held). entry h.line j) (shown_at w rows k below) ∙ spread_is w (terms_at rows k).terms j within

pub basic_shown : (w : ℕ) (rows : List HeldTerms) (k : ℕ) → k < length rows
    → (held_at (shown_rows w rows) k).basic ≡ (terms_at rows k).basic
basic_shown w rows k below = ap (λ (h : Held). h.basic) (shown_at w rows k below)

-- a number of a line that is shown
pub number_of_line : (w : ℕ) (f : List ℤ) (ts : List (ℕ × ℤ)) (j : ℕ) → f ≡ spread w 0 ts → IsKept w ts
    → coefficient ts j ≡ entry f j
number_of_line w f ts j shown kept = sym (ap (λ (l : List ℤ). entry l j) shown ∙ spread_is w ts j kept.within)
