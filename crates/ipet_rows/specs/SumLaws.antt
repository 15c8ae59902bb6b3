-- Laws of sums over places.
use Rattle.std.proofs.Common.{◌≡◌, ℕ, ℤ, pos, zero, suc, ◌<◌, arith, refl, sym, ap, ◌∙◌, List, [], ◌∷◌, ⊎_elim}
use Rattle.std.specs.Prelude.{◌+ℤ◌, ◌-ℤ◌, ◌*ℤ◌, ◌≤ℤ◌, neg_ℤ, ◌==◌, if◌then◌else◌}
use Rattle.std.proofs.lemmas.Int.{ints}
use Rattle.std.proofs.lemmas.Bool.{cases_eq, ne_eqb, eq-eqb}
use Rattle.whole_numbers.specs.MultipleLaws.{sum_times, difference_times, times_times}
use Rattle.ipet_rows.specs.Sums.{total, coefficient, coefficient_of, value_at}
use Rattle.ipet_rows.specs.Programs.{IsWithin}

-- a factor over a sum, from the left
pub times_sum : (c a b : ℤ) → c *ℤ (a +ℤ b) ≡ (c *ℤ a) +ℤ (c *ℤ b)
times_sum c a b = omega (arith, ints, sum_times a b c)

pub times_difference : (c a b : ℤ) → c *ℤ (a -ℤ b) ≡ (c *ℤ a) -ℤ (c *ℤ b)
times_difference c a b = omega (arith, ints, difference_times a b c)

-- a product with a number turned
pub neg_times : (a b : ℤ) → neg_ℤ a *ℤ b ≡ pos 0 -ℤ (a *ℤ b)
neg_times a b =
    let e : neg_ℤ a ≡ pos 0 -ℤ a = omega (arith, ints) in
    ap (λ (t : ℤ). t *ℤ b) e ∙ (let q : (pos 0 -ℤ a) *ℤ b ≡ pos 0 -ℤ (a *ℤ b) = omega (arith, ints, difference_times (pos 0) a b) in q)

pub times_neg : (a b : ℤ) → a *ℤ neg_ℤ b ≡ pos 0 -ℤ (a *ℤ b)
times_neg a b = (let q : a *ℤ neg_ℤ b ≡ neg_ℤ b *ℤ a = omega (arith, ints) in q) ∙ neg_times b a ∙ (let q : pos 0 -ℤ (b *ℤ a) ≡ pos 0 -ℤ (a *ℤ b) = omega (arith, ints) in q)

-- the first of three factors after the second
pub swap_first : (a b c : ℤ) → a *ℤ (b *ℤ c) ≡ b *ℤ (a *ℤ c)
swap_first a b c = sym (times_times a b c) ∙ ap (λ (t : ℤ). t *ℤ c) (let q : a *ℤ b ≡ b *ℤ a = omega (arith, ints) in q) ∙ times_times b a c

-- equal parts, equal sums
pub total_same : (n : ℕ) (f g : ℕ → ℤ) → ((j : ℕ) → j < n → f j ≡ g j) → total n f ≡ total n g
total_same zero f g same = refl
total_same (suc n) f g same =
    let before : total n f ≡ total n g = total_same n f g (λ j below. same j (omega arith)) in
    let last : f n ≡ g n = same n (omega arith) in
    rw (before, last) refl

pub total_nothing : (n : ℕ) (f : ℕ → ℤ) → ((j : ℕ) → j < n → f j ≡ pos 0) → total n f ≡ pos 0
total_nothing zero f none = refl
total_nothing (suc n) f none =
    let before : total n f ≡ pos 0 = total_nothing n f (λ j below. none j (omega arith)) in
    let last : f n ≡ pos 0 = none n (omega arith) in
    rw (before, last) refl

pub total_plus : (n : ℕ) (f g : ℕ → ℤ) → total n (λ j. f j +ℤ g j) ≡ total n f +ℤ total n g
total_plus zero f g = refl
total_plus (suc n) f g = omega (arith, ints, total_plus n f g)

pub total_minus : (n : ℕ) (f g : ℕ → ℤ) → total n (λ j. f j -ℤ g j) ≡ total n f -ℤ total n g
total_minus zero f g = refl
total_minus (suc n) f g = omega (arith, ints, total_minus n f g)

pub total_times : (n : ℕ) (c : ℤ) (f : ℕ → ℤ) → total n (λ j. c *ℤ f j) ≡ c *ℤ total n f
total_times zero c f = omega (arith, ints)
total_times (suc n) c f = omega (arith, ints, total_times n c f, times_sum c (total n f) (f n))

pub total_most : (n : ℕ) (f g : ℕ → ℤ) → ((j : ℕ) → j < n → f j ≤ℤ g j) → total n f ≤ℤ total n g
total_most zero f g most = omega (arith, ints)
total_most (suc n) f g most =
    omega (arith, ints, total_most n f g (λ j below. most j (omega arith)), most n (omega arith))

-- two sums exchanged
pub total_exchange : (n m : ℕ) (f : ℕ → ℕ → ℤ)
    → total n (λ e. total m (λ k. f e k)) ≡ total m (λ k. total n (λ e. f e k))
total_exchange zero m f = sym (total_nothing m (λ k. pos 0) (λ j below. refl))
total_exchange (suc n) m f =
    rw (total_exchange n m f) (sym (total_plus m (λ k. total n (λ e. f e k)) (f n)))

-- one place alone
pub total_one : (n c : ℕ) (a : ℤ) (x : ℕ → ℤ) → c < n → total n (λ e. coefficient_of (c, a) e *ℤ x e) ≡ a *ℤ x c
total_one zero c a x below = absurd (omega arith)
total_one (suc n) c a x below = ⊎_elim
    (λ (e : c ≡ n).
    let none : total n (λ e. coefficient_of (c, a) e *ℤ x e) ≡ pos 0 =
    total_nothing n (λ e. coefficient_of (c, a) e *ℤ x e) (λ j less. rw (ne_eqb c j (λ (q : c ≡ j). absurd (omega arith))) (omega (arith, ints))) in
    rw (none, eq-eqb c n e, e) (omega (arith, ints)))
    (λ (d : c ≡ n → ⊥).
    rw (ne_eqb c n d, total_one n c a x (omega arith)) (omega (arith, ints)))
    (cases_eq c n)

-- the sum over the columns of coefficient times value is the terms' value
pub total_terms : (n : ℕ) (ts : List (ℕ × ℤ)) (x : ℕ → ℤ) → IsWithin n ts
    → total n (λ e. coefficient ts e *ℤ x e) ≡ value_at ts x
total_terms n [] x within = total_nothing n (λ e. pos 0 *ℤ x e) (λ j below. omega (arith, ints))
total_terms n (t ∷ ts) x within =
    let apart : total n (λ e. (coefficient_of t e +ℤ coefficient ts e) *ℤ x e) ≡ total n (λ e. (coefficient_of t e *ℤ x e) +ℤ (coefficient ts e *ℤ x e)) =
    total_same n (λ e. (coefficient_of t e +ℤ coefficient ts e) *ℤ x e) (λ e. (coefficient_of t e *ℤ x e) +ℤ (coefficient ts e *ℤ x e))
    (λ j below. sum_times (coefficient_of t j) (coefficient ts j) (x j)) in
    apart ∙ total_plus n (λ e. coefficient_of t e *ℤ x e) (λ e. coefficient ts e *ℤ x e)
    ∙ (let one : total n (λ e. coefficient_of t e *ℤ x e) ≡ t.1 *ℤ x t.0 = total_one n t.0 t.1 x within.0 in
    let rest : total n (λ e. coefficient ts e *ℤ x e) ≡ value_at ts x = total_terms n ts x within.1 in
    rw (one, rest) refl)

-- the first part of a sum
pub total_first : (n : ℕ) (f : ℕ → ℤ) → total (suc n) f ≡ f 0 +ℤ total n (λ k. f (suc k))
total_first zero f = omega (arith, ints)
total_first (suc n) f = omega (arith, ints, total_first n f)

-- the place of a term, or another
pub term_here : (c e : ℕ) (a : ℤ) → c ≡ e → coefficient_of (c, a) e ≡ a
term_here c e a same = rw (eq-eqb c e same) refl

pub term_elsewhere : (c e : ℕ) (a : ℤ) → (c ≡ e → ⊥) → coefficient_of (c, a) e ≡ pos 0
term_elsewhere c e a other = rw (ne_eqb c e other) refl

-- one place of the values changed, the others times m
pub total_changed : (n b : ℕ) (m c : ℤ) (f x : ℕ → ℤ) → b < n
    → total n (λ j. f j *ℤ (if j == b then c else (m *ℤ x j))) ≡ (f b *ℤ c) +ℤ ((m *ℤ total n (λ j. f j *ℤ x j)) -ℤ (f b *ℤ (m *ℤ x b)))
total_changed n b m c f x below =
    let a = (f b *ℤ c) -ℤ (f b *ℤ (m *ℤ x b)) in
    let each_place : (j : ℕ) → j < n → f j *ℤ (if j == b then c else (m *ℤ x j)) ≡ (m *ℤ (f j *ℤ x j)) +ℤ (coefficient_of (b, a) j *ℤ pos 1) = λ j less. ⊎_elim
    (λ (q : j ≡ b).
    let t : coefficient_of (b, a) j ≡ a = term_here b j a (sym q) in
    let s : f b *ℤ (m *ℤ x b) ≡ m *ℤ (f b *ℤ x b) = sym (times_times (f b) m (x b)) ∙ ap (λ (z : ℤ). z *ℤ x b) (let z : f b *ℤ m ≡ m *ℤ f b = omega (arith, ints) in z) ∙ times_times m (f b) (x b) in
    rw (eq-eqb j b q, t, q) (omega (arith, ints, s)))
    (λ (d : j ≡ b → ⊥).
    let t : coefficient_of (b, a) j ≡ pos 0 = term_elsewhere b j a (λ (q : b ≡ j). d (sym q)) in
    let s : f j *ℤ (m *ℤ x j) ≡ m *ℤ (f j *ℤ x j) = sym (times_times (f j) m (x j)) ∙ ap (λ (z : ℤ). z *ℤ x j) (let z : f j *ℤ m ≡ m *ℤ f j = omega (arith, ints) in z) ∙ times_times m (f j) (x j) in
    rw (ne_eqb j b d, t) (omega (arith, ints, s)))
    (cases_eq j b) in
    let one : total n (λ e. coefficient_of (b, a) e *ℤ pos 1) ≡ a *ℤ pos 1 = total_one n b a (λ e. pos 1) below in
    let rest : total n (λ j. m *ℤ (f j *ℤ x j)) ≡ m *ℤ total n (λ j. f j *ℤ x j) = total_times n m (λ j. f j *ℤ x j) in
    total_same n (λ j. f j *ℤ (if j == b then c else (m *ℤ x j))) (λ j. (m *ℤ (f j *ℤ x j)) +ℤ (coefficient_of (b, a) j *ℤ pos 1)) each_place
    ∙ total_plus n (λ j. m *ℤ (f j *ℤ x j)) (λ j. coefficient_of (b, a) j *ℤ pos 1)
    ∙ (let all : total n (λ j. m *ℤ (f j *ℤ x j)) +ℤ total n (λ e. coefficient_of (b, a) e *ℤ pos 1) ≡ (f b *ℤ c) +ℤ ((m *ℤ total n (λ j. f j *ℤ x j)) -ℤ (f b *ℤ (m *ℤ x b))) = omega (arith, ints, one, rest) in all)
