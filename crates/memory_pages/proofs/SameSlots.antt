-- Slots that are all the same.
--   same_alike   two such lists, as long, with the same first member
use Rattle.std.proofs.Common.{◌≡◌, ℕ, suc, List, ◌∷◌, length, replicate, sym, ap, ◌∙◌}
use Rattle.memory_pages.specs.Slots.{HeldSlot}

pub same_alike : (x y : HeldSlot) (xs ys : List HeldSlot)
    → (slot : HeldSlot) × (x ∷ xs ≡ replicate (suc (length xs)) slot)
    → (slot : HeldSlot) × (y ∷ ys ≡ replicate (suc (length ys)) slot)
    → length xs ≡ length ys → x ≡ y → x ∷ xs ≡ y ∷ ys
same_alike x y xs ys (a, is_a) (b, is_b) many same =
    let first : x ≡ a = cc in
    let second : y ≡ b = cc in
    is_a ∙ ap (λ (n : ℕ). replicate (suc n) a) many ∙ ap (λ (z : HeldSlot). replicate (suc (length ys)) z) (sym first ∙ (same ∙ second)) ∙ sym is_b
