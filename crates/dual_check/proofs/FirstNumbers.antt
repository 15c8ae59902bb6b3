-- The first number of each node, as numbers are noted.
use Rattle.std.proofs.Common.{inl, inr, ◌≡◌, ◌==◌, ◌<◌, ◌≤◌, ◌+◌, ℕ, zero, suc, Bool, true, false, List, [], ◌∷◌, ◌++◌, get_or, length, Option, None, Some, if◌then◌else◌, refl, ap, ◌∙◌, arith}
use Rattle.std.specs.Prelude.{slice_set}
use Rattle.std.proofs.lemmas.List.{get_or-set_same, get_or-set_other}
use Rattle.std.proofs.lemmas.Bool.{eq-eqb, ne_eqb, cases_eq}
use Rattle.ipet_rows.specs.Columns.{Column}
use Rattle.dual_check.specs.declared.constraint.Constraint.{Constraint}
use Rattle.dual_check.specs.Constraints.{is_limit_of}
use Rattle.dual_check.specs.Openings.{or_later, place_of, both_of, opening_of}

-- a node more without a number
pub none_more : (firsts : List (Option ℕ)) (n : ℕ) → ((m : ℕ) → get_or firsts m None ≡ None)
    → get_or (firsts ++ None ∷ []) n None ≡ None
none_more [] zero none = refl
none_more [] (suc n) none = refl
none_more (f ∷ firsts) zero none = none 0
none_more (f ∷ firsts) (suc n) none = none_more firsts n (λ m. none (suc m))

-- nothing is noted
pub same : (a : Option ℕ) → a ≡ or_later a None
same None = refl
same (Some k) = refl

-- a number at a node that has none
pub noted : (old new : List (Option ℕ)) (node number n : ℕ) → node < length old → get_or old node None ≡ None
    → new ≡ slice_set old node (Some number)
    → get_or new n None ≡ or_later (get_or old n None) (if n == node then Some number else None)
noted old new node number n low none is = elim (cases_eq n node) [
  | inl e ↦ ap (λ ls. get_or ls n None) is ∙ rw (e, eq-eqb node node refl, none) (get_or-set_same old node (Some number) None low)
  | inr d ↦ ap (λ ls. get_or ls n None) is ∙ get_or-set_other old node n (Some number) None d ∙ rw (ne_eqb n node d) (same (get_or old n None))
]

-- at a node that has one
pub kept : (old new : List (Option ℕ)) (node number n k : ℕ) → get_or old node None ≡ Some k → new ≡ old
    → get_or new n None ≡ or_later (get_or old n None) (if n == node then Some number else None)
kept old new node number n k there is = elim (cases_eq n node) [
  | inl e ↦ ap (λ ls. get_or ls n None) is ∙ rw (e, there) refl
  | inr d ↦ ap (λ ls. get_or ls n None) is ∙ rw (ne_eqb n node d) (same (get_or old n None))
]

-- and past the last node
pub past : (old new : List (Option ℕ)) (node number n : ℕ) → length old ≤ node → n < length old → new ≡ old
    → get_or new n None ≡ or_later (get_or old n None) (if n == node then Some number else None)
past old new node number n far low is = ap (λ ls. get_or ls n None) is ∙ rw (ne_eqb n node (λ same. omega (arith, same, far, low))) (same (get_or old n None))

-- ---- one more

step : (a later : Option ℕ) (v : Bool) (b : ℕ)
    → or_later (or_later a (if v then Some b else None)) later ≡ or_later a (if v then Some b else later)
step None later true b = refl
step None later false b = refl
step (Some k) later true b = refl
step (Some k) later false b = refl

firsts_more : {A : Type 0} (p : A → Bool) (x : A) (xs all : List A) (old new : Option ℕ) (b : ℕ)
    → or_later old (place_of p b (x ∷ xs)) ≡ place_of p 0 all
    → new ≡ or_later old (if p x then Some b else None) → or_later new (place_of p (b + 1) xs) ≡ place_of p 0 all
firsts_more p x xs all old new b is next = ap (λ a. or_later a (place_of p (b + 1) xs)) next ∙ step old (place_of p (b + 1) xs) (p x) b ∙ is

pub limits_more : (old new : List (Option ℕ)) (k : Constraint) (ks all : List Constraint) (b n : ℕ)
    → or_later (get_or old n None) (place_of (λ j. is_limit_of n j) b (k ∷ ks)) ≡ place_of (λ j. is_limit_of n j) 0 all
    → get_or new n None ≡ or_later (get_or old n None) (if is_limit_of n k then Some b else None)
    → or_later (get_or new n None) (place_of (λ j. is_limit_of n j) (b + 1) ks) ≡ place_of (λ j. is_limit_of n j) 0 all
limits_more old new k ks all b n is next = firsts_more (λ j. is_limit_of n j) k ks all (get_or old n None) (get_or new n None) b is next

pub columns_more : (old new : List (Option ℕ)) (c : Column) (cs all : List Column) (b n : ℕ)
    → or_later (get_or old n None) (place_of (λ (d : Column). n == d.from) b (c ∷ cs)) ≡ place_of (λ (d : Column). n == d.from) 0 all
    → get_or new n None ≡ or_later (get_or old n None) (if n == c.from then Some b else None)
    → or_later (get_or new n None) (place_of (λ (d : Column). n == d.from) (b + 1) cs) ≡ place_of (λ (d : Column). n == d.from) 0 all
columns_more old new c cs all b n is next = firsts_more (λ (d : Column). n == d.from) c cs all (get_or old n None) (get_or new n None) b is next

-- ---- before the first, and after the last

pub limits_begun : (firsts : List (Option ℕ)) (all : List Constraint) (n : ℕ) → ((m : ℕ) → get_or firsts m None ≡ None)
    → or_later (get_or firsts n None) (place_of (λ j. is_limit_of n j) 0 all) ≡ place_of (λ j. is_limit_of n j) 0 all
limits_begun firsts all n none = ap (λ a. or_later a (place_of (λ j. is_limit_of n j) 0 all)) (none n)

pub columns_begun : (firsts : List (Option ℕ)) (all : List Column) (n : ℕ) → ((m : ℕ) → get_or firsts m None ≡ None)
    → or_later (get_or firsts n None) (place_of (λ (d : Column). n == d.from) 0 all) ≡ place_of (λ (d : Column). n == d.from) 0 all
columns_begun firsts all n none = ap (λ a. or_later a (place_of (λ (d : Column). n == d.from) 0 all)) (none n)

pub limits_all : (firsts : List (Option ℕ)) (all : List Constraint) (b n : ℕ)
    → or_later (get_or firsts n None) (place_of (λ j. is_limit_of n j) b []) ≡ place_of (λ j. is_limit_of n j) 0 all
    → get_or firsts n None ≡ place_of (λ j. is_limit_of n j) 0 all
limits_all firsts all b n is = same (get_or firsts n None) ∙ is

pub columns_all : (firsts : List (Option ℕ)) (all : List Column) (b n : ℕ) → or_later (get_or firsts n None) (place_of (λ (d : Column). n == d.from) b []) ≡ place_of (λ (d : Column). n == d.from) 0 all
    → get_or firsts n None ≡ place_of (λ (d : Column). n == d.from) 0 all
columns_all firsts all b n is = same (get_or firsts n None) ∙ is

-- ---- openings

-- the numbers of a node are those of its opening
pub opening_is : (columns : List Column) (ks : List Constraint) (n : ℕ) (row column : Option ℕ)
    → row ≡ place_of (λ k. is_limit_of n k) 0 ks → column ≡ place_of (λ c. n == c.from) 0 columns
    → both_of row column ≡ opening_of columns ks n
opening_is columns ks n row column first second = ap (λ (a : Option ℕ). both_of a column) first ∙ ap (λ (b : Option ℕ). both_of (place_of (λ k. is_limit_of n k) 0 ks) b) second
