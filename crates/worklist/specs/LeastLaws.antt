-- What follows of first least keys.
--   least_unique         there is one
--   next_unique          and one next of the same key
--   tied                 keys of which none is less are the same
use Rattle.std.proofs.Common.{◌≡◌, ℕ, List, inl, inr, refl, ap, sym, ◌∙◌, arith}
use Rattle.std.proofs.lemmas.Bool.{cases_lt}
use Rattle.std.proofs.lemmas.Cmp.{nat_list_cmp_total}
use Rattle.std.proofs.lemmas.Map.Lookups.{exact_bytes}
use Rattle.std.specs.Cmp.{IsTotalOrder}
use Rattle.std.specs.Ordering.{nat_cmp, ordering_reverse}
use Rattle.std.specs.Cmp.Lexicographic.{slice_cmp}
use Rattle.std.specs.declared.cmp.Ordering.{Ordering}
use Rattle.std.specs.declared.cmp.Ordering.TheVariants.{Less, Equal, Greater}
use Rattle.worklist.specs.Least.{Precedes, IsFirstLeast, IsNextSame}

abbrev pub order : IsTotalOrder (slice_cmp nat_cmp)
order = nat_list_cmp_total

pub by_order : {A : Type 0} (o : Ordering) → (o ≡ Less → A) → (o ≡ Equal → A) → (o ≡ Greater → A) → A
by_order Less f g h = f refl
by_order Equal f g h = g refl
by_order Greater f g h = h refl

-- the other way round
pub turned : (a b : List ℕ) (o : Ordering) → slice_cmp nat_cmp a b ≡ o → slice_cmp nat_cmp b a ≡ ordering_reverse o
turned a b o e = order.antisymm b a ∙ ap ordering_reverse e

-- keys of which none is less are the same
pub tied : (a b : List ℕ) → (Precedes a b → ⊥) → (Precedes b a → ⊥) → a ≡ b
tied a b low high =
    by_order (slice_cmp nat_cmp a b) (λ less. absurd (low less)) (λ same. exact_bytes a b same) (λ more. absurd (high (turned a b Greater more)))

-- a key does not precede itself
pub not_itself : (a : List ℕ) → Precedes a a → ⊥
not_itself a below = let back : slice_cmp nat_cmp a a ≡ Greater = turned a a Less below in let bad : Less ≡ Greater = sym below ∙ back in absurd (cc)

-- there is one first least
pub least_unique : (keys : List (List ℕ)) (i j : ℕ) → IsFirstLeast keys i → IsFirstLeast keys j → i ≡ j
least_unique keys i j f g =
    elim (cases_lt i j) [
      | inl below ↦ absurd (f.least j g.within (g.first i below))
      | inr over ↦ elim (cases_lt j i) [
        | inl below ↦ absurd (g.least i f.within (f.first j below))
        | inr other ↦ omega arith
      ]
    ]

-- and one next of the same key
pub next_unique : (keys : List (List ℕ)) (i j k : ℕ) → IsNextSame keys i j → IsNextSame keys i k → j ≡ k
next_unique keys i j k f g =
    elim (cases_lt j k) [
      | inl below ↦ absurd (g.first j f.later below f.same)
      | inr over ↦ elim (cases_lt k j) [
        | inl below ↦ absurd (f.first k g.later below g.same)
        | inr other ↦ omega arith
      ]
    ]
