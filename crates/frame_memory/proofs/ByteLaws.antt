-- Laws of bytes that follow one another.
--   offsets_more   the first of some offsets, and the others
use Rattle.std.proofs.Common.{◌≡◌, ◌≢◌, ◌∙◌, ap, ℕ, suc, zero, ◌∷◌, refl, arith, ◌+◌, ◌-◌}
use Rattle.alf_ops.specs.Histories.{offsets}

-- the first of some offsets, and the others
pub offsets_more : (place count : ℕ) → count ≢ 0 → offsets place count ≡ place ∷ offsets (place + 1) (count - 1)
offsets_more place zero some = absurd (some refl)
offsets_more place (suc count) some =
    let next : suc place ≡ place + 1 = omega arith in
    let fewer : count ≡ suc count - 1 = omega arith in
    ap (λ (p : ℕ). place ∷ offsets p count) next ∙ ap (λ (n : ℕ). place ∷ offsets (place + 1) n) fewer
