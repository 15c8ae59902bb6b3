-- The columns that touch a node, as their numbers are put into lists.
use Rattle.std.proofs.Common.{inl, inr, ◌≡◌, ◌≢◌, ◌<◌, ◌+◌, ℕ, zero, suc, Bool, true, false, List, [], ◌∷◌, ◌++◌, get_or, length, refl, ap, sym, ◌∙◌, arith}
use Rattle.std.specs.Prelude.{slice_set}
use Rattle.std.proofs.lemmas.List.{append-nil, append_assoc, get_or-set_same, get_or-set_other, length-set}
use Rattle.std.proofs.lemmas.Bool.{eq-eqb, ne_eqb, cases_eq}
use Rattle.lists.specs.TestLaws.{by_test}
use Rattle.ipet_rows.specs.Columns.{Column}
use Rattle.dual_check.specs.Places.{touches, touching_of, place_if, AreTouching}

-- a list more without a number
pub nothing_more : (lists : List (List ℕ)) (n : ℕ) → ((m : ℕ) → get_or lists m [] ≡ [])
    → get_or (lists ++ [] ∷ []) n [] ≡ []
nothing_more [] zero none = refl
nothing_more [] (suc n) none = refl
nothing_more (l ∷ lists) zero none = none 0
nothing_more (l ∷ lists) (suc n) none = nothing_more lists n (λ m. none (suc m))

-- a number put into one list
put_here : (lists : List (List ℕ)) (k n b : ℕ) → k < length lists → n ≡ k
    → get_or (slice_set lists k (get_or lists k [] ++ b ∷ [])) n [] ≡ get_or lists n [] ++ b ∷ []
put_here lists k n b below is = rw is (get_or-set_same lists k (get_or lists k [] ++ b ∷ []) [] below)

put_other : (lists : List (List ℕ)) (k n b : ℕ) → n ≢ k
    → get_or (slice_set lists k (get_or lists k [] ++ b ∷ [])) n [] ≡ get_or lists n []
put_other lists k n b other = get_or-set_other lists k n (get_or lists k [] ++ b ∷ []) [] other

-- a column whose nodes are one
pub pushed_once : (old new : List (List ℕ)) (c : Column) (b n : ℕ) → c.from < length old → c.from ≡ c.into
    → new ≡ slice_set old c.from (get_or old c.from [] ++ b ∷ [])
    → get_or new n [] ≡ get_or old n [] ++ place_if b (touches n c)
pushed_once old new c b n below one is = elim (cases_eq n c.from) [
  | inl e ↦ ap (λ ls. get_or ls n []) is ∙ put_here old c.from n b below e ∙ ap (λ (v : Bool). get_or old n [] ++ place_if b v) (let t : true ≡ touches n c = rw (eq-eqb n c.from e) refl in t)
  | inr d ↦ ap (λ ls. get_or ls n []) is ∙ put_other old c.from n b d ∙ sym (append-nil (get_or old n [])) ∙ ap (λ (v : Bool). get_or old n [] ++ place_if b v) (let t : false ≡ touches n c = rw (ne_eqb n c.from d, ne_eqb n c.into (λ same. d (same ∙ sym one))) refl in t)
]

-- and one whose nodes are two
pub pushed_twice : (old half new : List (List ℕ)) (c : Column) (b n : ℕ) → c.from < length old → c.into < length old
    → c.from ≢ c.into
    → half ≡ slice_set old c.from (get_or old c.from [] ++ b ∷ []) → new ≡ slice_set half c.into (get_or half c.into [] ++ b ∷ [])
    → get_or new n [] ≡ get_or old n [] ++ place_if b (touches n c)
pushed_twice old half new c b n low within two first is =
    let long : length half ≡ length old = ap length first ∙ length-set old c.from (get_or old c.from [] ++ b ∷ []) in
    elim (cases_eq n c.into) [
      | inl e ↦ ap (λ ls. get_or ls n []) is ∙ put_here half c.into n b (omega (arith, long, within)) e
          ∙ ap (λ xs. xs ++ b ∷ []) (ap (λ ls. get_or ls n []) first ∙ put_other old c.from n b (λ same. two (sym same ∙ e)))
          ∙ ap (λ (v : Bool). get_or old n [] ++ place_if b v) (let t : true ≡ touches n c = rw (ne_eqb n c.from (λ same. two (sym same ∙ e)), eq-eqb n c.into e) refl in t)
      | inr d ↦ ap (λ ls. get_or ls n []) is ∙ put_other half c.into n b d ∙ ap (λ ls. get_or ls n []) first ∙ elim (cases_eq n c.from) [
        | inl e ↦ put_here old c.from n b low e ∙ ap (λ (v : Bool). get_or old n [] ++ place_if b v) (let t : true ≡ touches n c = rw (eq-eqb n c.from e) refl in t)
        | inr f ↦ put_other old c.from n b f ∙ sym (append-nil (get_or old n [])) ∙ ap (λ (v : Bool). get_or old n [] ++ place_if b v) (let t : false ≡ touches n c = rw (ne_eqb n c.from f, ne_eqb n c.into d) refl in t)
      ]
    ]

step : (n b : ℕ) (c : Column) (cs : List Column)
    → place_if b (touches n c) ++ touching_of n (b + 1) cs ≡ touching_of n b (c ∷ cs)
step n b c cs = by_test (touches n c) (λ is. rw is refl) (λ clear. rw clear refl)

-- one column more
pub touched_more : (old new : List (List ℕ)) (c : Column) (cs all : List Column) (b n : ℕ)
    → get_or old n [] ++ touching_of n b (c ∷ cs) ≡ touching_of n 0 all
    → get_or new n [] ≡ get_or old n [] ++ place_if b (touches n c) → get_or new n [] ++ touching_of n (b + 1) cs ≡ touching_of n 0 all
touched_more old new c cs all b n is next =
    ap (λ xs. xs ++ touching_of n (b + 1) cs) next ∙ append_assoc (get_or old n []) (place_if b (touches n c)) (touching_of n (b + 1) cs) ∙ ap (λ xs. get_or old n [] ++ xs) (step n b c cs) ∙ is

-- all columns
pub touched_all : (lists : List (List ℕ)) (all : List Column) (b : ℕ)
    → ((n : ℕ) → get_or lists n [] ++ touching_of n b [] ≡ touching_of n 0 all) → AreTouching all lists
touched_all lists all b is n = sym (append-nil (get_or lists n [])) ∙ is n
