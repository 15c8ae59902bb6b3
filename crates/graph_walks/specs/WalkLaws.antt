-- What follows from the definition of a walk.
--   walk_cons     a walk after one edge more
--   walk_begins   a walk has its first node, and walk_ends its last
--   split         a walk is cut in two at one of its nodes
--   walk_same     a walk along edges that another relation has too is one of that relation
use Rattle.std.proofs.Common.{◌≡◌, ℕ, List, [], ◌∷◌, ◌++◌, Contains, length, length-append, ap, sym, ◌∙◌, subst, arith}
use Rattle.std.proofs.lemmas.List.{same_from_push, append_assoc}
use Rattle.std.proofs.lemmas.List.Elements.{Contains-append_left, Contains-push}
use Rattle.lists.specs.MemberLaws.{first_member}
use Rattle.graph_walks.specs.Walks.{Walk, stays, goes_on}
use Rattle.graph_walks.specs.ListLaws.{last_cases}

module _ (Leads : ℕ → ℕ → Type 0) where
  -- a walk after one edge more
  pub walk_cons : (a b c : ℕ) (path : List ℕ) → Leads a b → Walk Leads b c path → Walk Leads a c (a ∷ path)
  walk_cons a b c path first stays = goes_on stays first
  walk_cons a b c path first (goes_on {u = u} {v = v} {path = before} way edge) = goes_on (walk_cons a b u before first way) edge

  -- a walk begins with its first node
  pub walk_begins : (a b : ℕ) (path : List ℕ) → Walk Leads a b path → Contains path a
  walk_begins a b path stays = first_member a []
  walk_begins a b path (goes_on {u = u} {v = v} {path = before} way edge) = Contains-append_left before (v ∷ []) a (walk_begins a u before way)

  -- and ends with its last
  pub walk_ends : (a b : ℕ) (path : List ℕ) → Walk Leads a b path → Contains path b
  walk_ends a b path stays = first_member a []
  walk_ends a b path (goes_on {u = u} {v = v} {path = before} way edge) = Contains-push before v

  -- a walk is cut in two at one of its nodes
  pub split : (a b h : ℕ) (front rest path : List ℕ) → Walk Leads a b path → path ≡ front ++ h ∷ rest
      → Walk Leads a h (front ++ h ∷ []) × Walk Leads h b (h ∷ rest)
  split a b h [] rest path stays e =
      let same : h ≡ a = cc in
      let none : rest ≡ [] = cc in
      subst (λ (n : ℕ). Walk Leads a n (n ∷ []) × Walk Leads n a (n ∷ rest)) (sym same) (stays, subst (λ (xs : List ℕ). Walk Leads a a (a ∷ xs)) (sym none) stays)
  split a b h (x ∷ front) rest path stays e = absurd (let long : 1 ≡ length (x ∷ front ++ h ∷ rest) = ap length e in let more = length-append front (h ∷ rest) in omega arith)
  split a b h front rest path (goes_on {u = u} {v = v} {path = before} way edge) e =
      let r = last_cases h rest in last_one (λ middle same. split a u h front middle before way same) r.0 r.1 r.2
    where
      last_one : ((middle : List ℕ) → before ≡ front ++ h ∷ middle → Walk Leads a h (front ++ h ∷ []) × Walk Leads h u (h ∷ middle))
          → (middle : List ℕ) (last : ℕ) → h ∷ rest ≡ middle ++ last ∷ [] → Walk Leads a h (front ++ h ∷ []) × Walk Leads h v (h ∷ rest)
      last_one again [] last is =
          let one : h ≡ last = cc in
          let none : rest ≡ [] = cc in
          let whole : before ++ v ∷ [] ≡ front ++ h ∷ [] = e ∙ ap (λ (xs : List ℕ). front ++ h ∷ xs) none in
          let same = same_from_push before front v h whole in
          let here : Walk Leads h v (h ∷ []) = subst (λ (n : ℕ). Walk Leads h n (h ∷ [])) (sym same.1) stays in
          (subst (λ (n : ℕ). Walk Leads a n (front ++ h ∷ [])) same.1 (subst (λ (xs : List ℕ). Walk Leads a v xs) whole (goes_on way edge)), subst (λ (xs : List ℕ). Walk Leads h v (h ∷ xs)) (sym none) here)
      last_one again (x ∷ middle) last is =
          let one : h ≡ x = cc in
          let others : rest ≡ middle ++ last ∷ [] = cc in
          let whole : before ++ v ∷ [] ≡ (front ++ h ∷ middle) ++ last ∷ [] = e ∙ ap (λ (xs : List ℕ). front ++ h ∷ xs) others ∙ sym (append_assoc front (h ∷ middle) (last ∷ [])) in
          let same = same_from_push before (front ++ h ∷ middle) v last whole in
          let cut = again middle same.0 in
          let ends : middle ++ v ∷ [] ≡ rest = ap (λ (n : ℕ). middle ++ n ∷ []) same.1 ∙ sym others in
          (cut.0, subst (λ (xs : List ℕ). Walk Leads h v (h ∷ xs)) ends (goes_on cut.1 edge))

-- a walk along edges that another relation has too is one of that relation
pub walk_same : (Leads Other : ℕ → ℕ → Type 0) → ((u v : ℕ) → Leads u v → Other u v) → (a b : ℕ) (path : List ℕ)
    → Walk Leads a b path → Walk Other a b path
walk_same Leads Other to a b path stays = stays
walk_same Leads Other to a b path (goes_on {u = u} {v = v} {path = before} way edge) = goes_on (walk_same Leads Other to a u before way) (to u v edge)
