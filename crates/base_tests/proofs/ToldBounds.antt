-- What is told of all entries, one after the other.
use Rattle.std.proofs.Common.{◌≡◌, ◌≤◌, ◌<◌, ◌+◌, ℕ, List, ◌∷◌, length, get_or, drop, max, refl, sym, ap, ◌∙◌, arith}
use Rattle.std.proofs.lemmas.List.{at_drop_more, at_drop_all}
use Rattle.worst_inputs.specs.declared.bounder.Bounded.{Bounded}
use Rattle.worst_inputs.specs.declared.bounder.Bounded.TheVariants.{At, Left}
use Rattle.base_tests.specs.BoundTables.{with_bound, told_of_all}

with_both : (most bound : ℕ) (told : Bounded)
    → with_bound most (with_bound bound told) ≡ with_bound (max bound most) told
with_both most bound (At other) = ap At (omega arith)
with_both most bound (Left scope) = refl

pub with_none : (told : Bounded) → with_bound 0 told ≡ told
with_none (At bound) = ap At (omega arith)
with_none (Left scope) = refl

module _ (entries : List Bounded) (i : ℕ) (most : ℕ) (d : Bounded) (so_far : with_bound most (told_of_all (drop i entries)) ≡ told_of_all entries) where
  pub at_more : (bound : ℕ) → i < length entries → get_or entries i d ≡ At bound
      → with_bound (max bound most) (told_of_all (drop (i + 1) entries)) ≡ told_of_all entries
  at_more bound low is =
      let here : told_of_all (drop i entries) ≡ with_bound bound (told_of_all (drop (i + 1) entries)) =
      at_drop_more told_of_all entries i d low ∙ ap (λ (e : Bounded). told_of_all (e ∷ drop (i + 1) entries)) is in
      sym (with_both most bound (told_of_all (drop (i + 1) entries))) ∙ ap (with_bound most) (sym here) ∙ so_far

  pub left_here : (scope : ℕ) → i < length entries → get_or entries i d ≡ Left scope → Left scope ≡ told_of_all entries
  left_here scope low is =
      let here : told_of_all (drop i entries) ≡ Left scope = at_drop_more told_of_all entries i d low ∙ ap (λ (e : Bounded). told_of_all (e ∷ drop (i + 1) entries)) is in
      ap (with_bound most) (sym here) ∙ so_far

  pub all_at : length entries ≤ i → At most ≡ told_of_all entries
  all_at over = (let m : max most 0 ≡ most = omega arith in ap At (sym m)) ∙ ap (with_bound most) (sym (at_drop_all told_of_all entries i over)) ∙ so_far
