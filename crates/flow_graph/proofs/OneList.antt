-- Lists in one order, and lists without repeats.
--   one_list   two lists in one order with the same members are one
--   no_longer  a list without repeats is no longer than one that has its members
use Rattle.std.proofs.Common.{◌≡◌, ◌≢◌, ◌≤◌, suc, List, [], ◌∷◌, ◌++◌, length, length-append, Contains, AllPairs, inl, inr, refl, ap, sym, ◌∙◌, subst, arith}
use Rattle.std.proofs.lemmas.List.Elements.{Contains-append_left, Contains-append_right, Contains-append_cases, All-contains}
use Rattle.lists.specs.MemberLaws.{no_member, first_member, further_member, first_or_further}

module _ {X : Type 0} (R : X → X → Type 0) (x : X) (xs : List X) (pairs : AllPairs R (x ∷ xs)) where
  head_pairs : (y : X) → Contains xs y → R x y
  head_pairs y there = All-contains (R x) xs y (λ k d low. pairs 0 (suc k) d (omega arith) (omega arith)) there

  tail_pairs : AllPairs R xs
  tail_pairs i j d before inside = pairs (suc i) (suc j) d (omega arith) (omega arith)

module _ {X : Type 0} (Before : X → X → Type 0) (itself : (x : X) → Before x x → ⊥) (further : (x y z : X) → Before x y → Before y z → Before x z) where
  -- two lists in one order with the same members are one
  pub one_list : (xs ys : List X) → AllPairs Before xs → AllPairs Before ys → ((x : X) → Contains xs x → Contains ys x)
      → ((x : X) → Contains ys x → Contains xs x) → xs ≡ ys
  one_list [] [] one other there back = refl
  one_list [] (y ∷ ys) one other there back = no_member y (back y (first_member y ys))
  one_list (x ∷ xs) [] one other there back = no_member x (there x (first_member x xs))
  one_list (x ∷ xs) (y ∷ ys) one other there back =
      let same : x ≡ y = first_or_further y ys x (there x (first_member x xs)) (λ e. sym e)
      (λ late. first_or_further x xs y (back y (first_member y ys)) (λ e. e)
      (λ later. absurd (itself x (further x y x (head_pairs Before x xs one y later) (head_pairs Before y ys other x late))))) in
      let rest : xs ≡ ys = one_list xs ys (tail_pairs Before x xs one) (tail_pairs Before y ys other)
      (λ z h. first_or_further y ys z (there z (further_member x xs z h)) (λ e. absurd (itself x (subst (λ (w : X). Before x w) (sym (same ∙ e)) (head_pairs Before x xs one z h)))) (λ more. more))
      (λ z h. first_or_further x xs z (back z (further_member y ys z h)) (λ e. absurd (itself y (subst (λ (w : X). Before y w) (sym (sym same ∙ e)) (head_pairs Before y ys other z h)))) (λ more. more)) in
      ap (λ (w : X). w ∷ xs) same ∙ ap (λ (zs : List X). y ∷ zs) rest

-- a member cuts a list in two
cut_at : {X : Type 0} (xs : List X) (x : X) → Contains xs x → (before after : List X) × (xs ≡ before ++ x ∷ after)
cut_at [] x h = no_member x h
cut_at (y ∷ xs) x h = first_or_further y xs x h (λ e. ([], xs, ap (λ z. z ∷ xs) e)) (λ more. let r = cut_at xs x more in (y ∷ r.0, r.1, ap (λ zs. y ∷ zs) r.2))

-- a list without repeats is no longer than one that has its members
pub no_longer : {X : Type 0} (xs ys : List X) → AllPairs (λ (x y : X). x ≢ y) xs
    → ((x : X) → Contains xs x → Contains ys x) → length xs ≤ length ys
no_longer [] ys apart among = omega arith
no_longer {X} (x ∷ xs) ys apart among =
    let cut = cut_at ys x (among x (first_member x xs)) in
    let fewer = no_longer xs (cut.0 ++ cut.1) (tail_pairs (λ (x y : X). x ≢ y) x xs apart) (λ z h.
    elim (Contains-append_cases cut.0 (x ∷ cut.1) z (subst (λ (zs : List X). Contains zs z) cut.2 (among z (further_member x xs z h)))) [
      | inl early ↦ Contains-append_left cut.0 cut.1 z early
      | inr late ↦ first_or_further x cut.1 z late (λ e. absurd (head_pairs (λ (x y : X). x ≢ y) x xs apart z h e)) (λ more. Contains-append_right cut.0 cut.1 z more)
    ]) in
    let long = ap (λ (zs : List X). length zs) cut.2 in
    let whole = length-append cut.0 (x ∷ cut.1) in
    let less = length-append cut.0 cut.1 in
    omega arith
