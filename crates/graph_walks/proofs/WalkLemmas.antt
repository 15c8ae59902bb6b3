-- On the way to the laws of walk.
--   walk_join     a walk after a walk
--   walk_turned   read backwards a walk goes against the edges
--   walk_within   where each edge leads below a bound, each node of a walk from below lies below
--   walk_starts   so it is a list with its first node before others
--   walk_stops    and one with its last node after others
use Rattle.std.proofs.Common.{◌≡◌, ◌<◌, ℕ, List, [], ◌∷◌, ◌++◌, inl, inr, Contains, reverse, refl, ap, sym, subst}
use Rattle.std.proofs.lemmas.List.{append_assoc, reverse-append}
use Rattle.std.proofs.lemmas.List.Elements.{Contains-push_cases}
use Rattle.lists.specs.MemberLaws.{no_member}
use Rattle.graph_walks.specs.Walks.{Walk, stays, goes_on}
use Rattle.graph_walks.specs.ListLaws.{contains_cases}
use Rattle.graph_walks.specs.WalkLaws.{walk_cons}

module _ (Leads : ℕ → ℕ → Type 0) where
  -- a walk after a walk
  pub walk_join : (a b c : ℕ) (front rest : List ℕ) → Walk Leads a b (front ++ b ∷ []) → Walk Leads b c (b ∷ rest)
      → Walk Leads a c (front ++ b ∷ rest)
  walk_join a b c front rest first second = along b c (b ∷ rest) second front first
    where
      along : (d e : ℕ) (path : List ℕ) → Walk Leads d e path → (before : List ℕ) → Walk Leads a d (before ++ d ∷ [])
          → Walk Leads a e (before ++ path)
      along d e path stays before way = way
      along d e path (goes_on {u = u} {v = v} {path = part} rest edge) before way =
          subst (λ (xs : List ℕ). Walk Leads a v xs) (append_assoc before part (v ∷ [])) (goes_on (along d u part rest before way) edge)

  -- so it is a list with its first node before others
  pub walk_starts : (a b : ℕ) (path : List ℕ) → Walk Leads a b path → (rest : List ℕ) × (path ≡ a ∷ rest)
  walk_starts a b path stays = ([], refl)
  walk_starts a b path (goes_on {u = u} {v = v} {path = before} way edge) =
      let r = walk_starts a u before way in (r.0 ++ v ∷ [], ap (λ (xs : List ℕ). xs ++ v ∷ []) r.1)

  -- and one with its last node after others
  pub walk_stops : (a b : ℕ) (path : List ℕ) → Walk Leads a b path → (front : List ℕ) × (path ≡ front ++ b ∷ [])
  walk_stops a b path stays = ([], refl)
  walk_stops a b path (goes_on {u = u} {v = v} {path = before} way edge) = (before, refl)

  -- where each edge leads below a bound, each node of a walk from below lies below
  pub walk_within : (bound : ℕ) → ((u v : ℕ) → Leads u v → v < bound) → (a b : ℕ) (path : List ℕ) → Walk Leads a b path
      → a < bound → (n : ℕ) → Contains path n → n < bound
  walk_within bound within a b path stays low n there =
      elim (contains_cases a [] n there) [ inl e ↦ subst (λ (k : ℕ). k < bound) (sym e) low | inr none ↦ no_member n none ]
  walk_within bound within a b path (goes_on {u = u} {v = v} {path = before} way edge) low n there =
      elim (Contains-push_cases before v n there) [ inl earlier ↦ walk_within bound within a u before way low n earlier | inr e ↦ subst (λ (k : ℕ). k < bound) e (within u v edge) ]

-- read backwards a walk goes against the edges
pub walk_turned : (Leads Other : ℕ → ℕ → Type 0) → ((u v : ℕ) → Leads u v → Other v u) → (a b : ℕ) (path : List ℕ)
    → Walk Leads a b path → Walk Other b a (reverse path)
walk_turned Leads Other to a b path stays = stays
walk_turned Leads Other to a b path (goes_on {u = u} {v = v} {path = before} way edge) =
    subst (λ (xs : List ℕ). Walk Other v a xs) (sym (reverse-append before (v ∷ []))) (walk_cons Other v u a (reverse before) (to u v edge) (walk_turned Leads Other to a u before way))
