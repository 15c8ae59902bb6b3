-- The cells at offsets from one on.
--   no_cells     where no offset is a member that fits, there is none
--   first_cell   else the first is that of the least member, if it fits
use Rattle.std.proofs.Common.{◌≡◌, ◌≢◌, ℕ, zero, suc, true, false, [], ◌∷◌, None, ◌<◌, ◌≤◌, ◌+◌, ◌-◌, ◌*◌, ◌/◌, refl, sym, ap, subst, ◌∙◌, arith}
use Rattle.std.specs.Prelude.{◌==◌, ◌&&◌}
use Rattle.std.proofs.lemmas.Bool.{and_parts, and_from, eqb-true, eqb-false, leb-true, le-leb, false≢true}
use Rattle.lists.specs.TestLaws.{by_test}
use Rattle.alf_ops.specs.Histories.{offsets, fits_in}
use Rattle.strided_rules.specs.Strides.{Stride, IsStride, Covers}
use Rattle.strided_rules.specs.Members.{has}
use Rattle.strided_rules.specs.MemberLaws.{has_tells}
use Rattle.memory_rules.specs.Addresses.{cells_at}
use Rattle.abstract_memory.specs.NextOffsets.{IsLeast, Finds, cells_from}

none_at : (frame bits size : ℕ) (x : Stride) (from n : ℕ)
    → ((t : ℕ) → from ≤ t → has x t ≡ true → fits_in bits t size ≡ true → ⊥)
    → cells_at frame bits size x (offsets from n) ≡ []
none_at frame bits size x from zero none = refl
none_at frame bits size x from (suc n) none = by_test (has x from && fits_in bits from size)
    (λ e. let parts = and_parts (has x from) (fits_in bits from size) e in absurd (none from (omega arith) parts.0 parts.1))
    (λ e. rw e (none_at frame bits size x (suc from) n (λ t above. none t (omega (arith, above)))))

some_at : (frame bits size : ℕ) (x : Stride) (from n t m : ℕ) → from ≤ t → n + from ≡ m + suc t → has x t ≡ true
    → fits_in bits t size ≡ true
    → ((s : ℕ) → from ≤ s → s < t → has x s ≡ true → ⊥) → cells_at frame bits size x (offsets from n) ≡ (frame, t) ∷ cells_at frame bits size x (offsets (suc t) m)
some_at frame bits size x from zero t m above ends member fits least = absurd (omega (arith, ends, above))
some_at frame bits size x from (suc n) t m above ends member fits least = by_test (from == t)
    (λ e.
    let same : from ≡ t = eqb-true from t e in
    let count : n ≡ m = omega (arith, ends, same) in
    let here : (has x from && fits_in bits from size) ≡ true = subst (λ (s : ℕ). (has x s && fits_in bits s size) ≡ true) (sym same) (and_from (has x t) (fits_in bits t size) member fits) in
    rw here (subst (λ (s : ℕ). (frame, from) ∷ cells_at frame bits size x (offsets (suc from) n) ≡ (frame, s) ∷ cells_at frame bits size x (offsets (suc s) m)) same
    (ap (λ (k : ℕ). (frame, from) ∷ cells_at frame bits size x (offsets (suc from) k)) count)))
    (λ e.
    let apart : from ≢ t = eqb-false from t e in
    let rest = some_at frame bits size x (suc from) n t m (omega (arith, above, apart)) (omega (arith, ends)) member fits (λ s low. least s (omega (arith, low))) in
    by_test (has x from && fits_in bits from size)
    (λ both. absurd (least from (omega arith) (omega (arith, above, apart)) (and_parts (has x from) (fits_in bits from size) both).0))
    (λ none. rw none rest))

-- where no offset is a member, there is no cell
pub no_cells : (frame bits size : ℕ) (x : Stride) (from : ℕ) → IsStride x → Finds (Covers x) from None
    → cells_from frame bits size x from ≡ []
no_cells frame bits size x from is none = none_at frame bits size x from (bits / 8 - from) (λ t above member fits. none t ((has_tells x t is).0 member) above)

fits_lower : (bits low high size : ℕ) → low ≤ high → fits_in bits high size ≡ true → fits_in bits low size ≡ true
fits_lower bits low high size order fits = let room = leb-true (high * 8 + size) bits fits in le-leb (low * 8 + size) bits (omega (arith, room, order))

-- nor where the least member does not fit
pub none_fits : (frame bits size : ℕ) (x : Stride) (from t : ℕ) → IsStride x → IsLeast (Covers x) from t
    → fits_in bits t size ≡ false → cells_from frame bits size x from ≡ []
none_fits frame bits size x from t is first past = none_at frame bits size x from (bits / 8 - from)
    (λ s above member fits. false≢true (sym past ∙ fits_lower bits t s size (first.least s ((has_tells x s is).0 member) above) fits))

pub fits_below : (bits t size : ℕ) → 8 ≤ size → fits_in bits t size ≡ true → t < bits / 8
fits_below bits t size some fits = let low : t * 8 + size ≤ bits = leb-true (t * 8 + size) bits fits in omega (arith, some, low)

-- else the first is that of the least member
pub first_cell : (frame bits size : ℕ) (x : Stride) (from t : ℕ) → 8 ≤ size → IsStride x → IsLeast (Covers x) from t
    → fits_in bits t size ≡ true
    → cells_from frame bits size x from ≡ (frame, t) ∷ cells_from frame bits size x (t + 1)
first_cell frame bits size x from t some is first fits =
    let below : t < bits / 8 = fits_below bits t size some fits in
    let above : from ≤ t = first.above in
    let next : suc t ≡ t + 1 = omega arith in
    subst (λ (s : ℕ). cells_from frame bits size x from ≡ (frame, t) ∷ cells_from frame bits size x s) next
    (some_at frame bits size x from (bits / 8 - from) t (bits / 8 - suc t) above (omega (arith, below, above)) ((has_tells x t is).1 first.holds) fits
    (λ s low high member. let least : t ≤ s = first.least s ((has_tells x s is).0 member) low in omega (arith, least, high)))
