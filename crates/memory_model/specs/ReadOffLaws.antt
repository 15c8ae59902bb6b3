-- Lists read off functions, place by place.
--   get_in, get_out   what is found in a list that is read off
--   read_off          a list that is read off a function is the one that the function gives place by place
use Rattle.std.specs.Prelude.{slice_get}
use Rattle.std.proofs.Common.{◌≡◌, ◌∙◌, ap, ℕ, suc, zero, List, [], ◌∷◌, map, Some, None, refl, arith, ◌+◌, ◌<◌, ◌≤◌, length}
use Rattle.alf_ops.specs.Histories.{offsets}

pub get_in : {A : Type 0} (g : ℕ → A) (from count i : ℕ) → i < count
    → slice_get (map g (offsets from count)) i ≡ Some (g (from + i))
get_in g from zero i low = absurd (omega arith)
get_in g from (suc count) zero low =
    let e : from ≡ from + 0 = omega arith in
    ap (λ (n : ℕ). Some (g n)) e
get_in g from (suc count) (suc i) low =
    let e : suc from + i ≡ from + suc i = omega arith in
    get_in g (suc from) count i (omega arith) ∙ ap (λ (n : ℕ). Some (g n)) e

pub get_out : {A : Type 0} (g : ℕ → A) (from count i : ℕ) → count ≤ i → slice_get (map g (offsets from count)) i ≡ None
get_out g from zero i past = refl
get_out g from (suc count) zero past = absurd (omega arith)
get_out g from (suc count) (suc i) past = get_out g (suc from) count i (omega arith)

pub get_past : {A : Type 0} (xs : List A) (i : ℕ) → length xs ≤ i → slice_get xs i ≡ None
get_past [] i past = refl
get_past (x ∷ xs) zero past = absurd (omega arith)
get_past (x ∷ xs) (suc i) past = get_past xs i (omega arith)

pub length_off : {A : Type 0} (g : ℕ → A) (from count : ℕ) → length (map g (offsets from count)) ≡ count
length_off g from zero = refl
length_off g from (suc count) = ap (λ (n : ℕ). suc n) (length_off g (suc from) count)

-- the function gives what a list gives, changed by h, place by place
pub read_off : {A B : Type 0} (g : ℕ → B) (h : A → B) (from : ℕ) (xs : List A)
    → ((i : ℕ) (x : A) → slice_get xs i ≡ Some x → g (from + i) ≡ h x)
    → map g (offsets from (length xs)) ≡ map h xs
read_off g h from [] is = refl
read_off g h from (x ∷ xs) is =
    let first : from ≡ from + 0 = omega arith in
    let head : g from ≡ h x = ap g first ∙ is 0 x refl in
    let tail = read_off g h (suc from) xs (λ i y found.
    let e : suc from + i ≡ from + suc i = omega arith in
    ap g e ∙ is (suc i) y found) in
    ap (λ y. y ∷ map g (offsets (suc from) (length xs))) head ∙ ap (λ ys. h x ∷ ys) tail

pub each_same : {A : Type 0} (xs : List A) → map (λ (x : A). x) xs ≡ xs
each_same [] = refl
each_same (x ∷ xs) = ap (λ ys. x ∷ ys) (each_same xs)
