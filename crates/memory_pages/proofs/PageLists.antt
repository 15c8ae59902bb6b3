-- Lists of pages, as one list.
--   get_joined       a member of the one list stands on the page of its place
--   joined_set       a member set there
--   set_pages        pages stay pages
--   on_page, in_page the place of a member is on its page
--   made, made_pages, made_joined   pages of the same member
--   page_is          a list at a place that it has
--   map_set, set_same, either_pages   what is set in a list, or not
--   same_on          members on a page that is the same
use Rattle.std.specs.Prelude.{slice_get, slice_set, OnOk, OnErr, Result, Ok, Err}
use Rattle.std.proofs.Common.{◌≡◌, inl, inr, sym, subst, ◌∙◌, ap, ℕ, suc, zero, List, [], ◌∷◌, ◌++◌, None, refl, arith, ◌+◌, ◌-◌, ◌*◌, ◌/◌, ◌%◌, ◌<◌, ◌≤◌, length, length-append, map, get_or, replicate, suc-mul, div-add-mod'}
use Rattle.std.proofs.lemmas.Bool.{cases_lt}
use Rattle.std.proofs.lemmas.Nat.{div-mul-add, mod-mul-add, mod_below}
use Rattle.std.proofs.lemmas.List.{length-replicate}
use Rattle.memory_pages.specs.Pages.{page_at, joined, ArePages}

get_left : {A : Type 0} (xs ys : List A) (i : ℕ) → i < length xs → slice_get (xs ++ ys) i ≡ slice_get xs i
get_left [] ys i low = absurd (omega arith)
get_left (x ∷ xs) ys zero low = refl
get_left (x ∷ xs) ys (suc i) low = get_left xs ys i (omega arith)

get_right : {A : Type 0} (xs ys : List A) (i : ℕ) → slice_get (xs ++ ys) (length xs + i) ≡ slice_get ys i
get_right [] ys i =
    let e : 0 + i ≡ i = omega arith in
    ap (λ (n : ℕ). slice_get ys n) e
get_right (x ∷ xs) ys i =
    let e : length (x ∷ xs) + i ≡ suc (length xs + i) = omega arith in
    ap (λ (n : ℕ). slice_get (x ∷ (xs ++ ys)) n) e ∙ get_right xs ys i

get_past : {A : Type 0} (xs : List A) (i : ℕ) → length xs ≤ i → slice_get xs i ≡ None
get_past [] i past = refl
get_past (x ∷ xs) zero past = absurd (omega arith)
get_past (x ∷ xs) (suc i) past = get_past xs i (omega arith)

set_left : {A : Type 0} (xs ys : List A) (i : ℕ) (y : A) → i < length xs
    → slice_set (xs ++ ys) i y ≡ slice_set xs i y ++ ys
set_left [] ys i y low = absurd (omega arith)
set_left (x ∷ xs) ys zero y low = refl
set_left (x ∷ xs) ys (suc i) y low = ap (λ l. x ∷ l) (set_left xs ys i y (omega arith))

set_right : {A : Type 0} (xs ys : List A) (i : ℕ) (y : A)
    → slice_set (xs ++ ys) (length xs + i) y ≡ xs ++ slice_set ys i y
set_right [] ys i y =
    let e : 0 + i ≡ i = omega arith in
    ap (λ (n : ℕ). slice_set ys n y) e
set_right (x ∷ xs) ys i y =
    let e : length (x ∷ xs) + i ≡ suc (length xs + i) = omega arith in
    ap (λ (n : ℕ). slice_set (x ∷ (xs ++ ys)) n y) e ∙ ap (λ l. x ∷ l) (set_right xs ys i y)

set_past : {A : Type 0} (xs : List A) (i : ℕ) (y : A) → length xs ≤ i → slice_set xs i y ≡ xs
set_past [] i y past = refl
set_past (x ∷ xs) zero y past = absurd (omega arith)
set_past (x ∷ xs) (suc i) y past = ap (λ l. x ∷ l) (set_past xs i y (omega arith))

append_none : {A : Type 0} (xs : List A) → xs ++ [] ≡ xs
append_none [] = refl
append_none (x ∷ xs) = ap (λ l. x ∷ l) (append_none xs)

-- the page and the place of the members of the first page, and of those after it
low_page : (w i : ℕ) → i < w → i / w ≡ 0
low_page w i low =
    let e : i ≡ 0 * w + i = omega arith in
    ap (λ (n : ℕ). n / w) e ∙ div-mul-add 0 w i low

low_place : (w i : ℕ) → i < w → i % w ≡ i
low_place w i low =
    let e : i ≡ 0 * w + i = omega arith in
    ap (λ (n : ℕ). n % w) e ∙ mod-mul-add 0 w i low

next_page : (w i : ℕ) → w ≤ i → i ≡ suc ((i - w) / w) * w + (i - w) % w
next_page w i high = omega (arith, suc-mul ((i - w) / w) w, div-add-mod' (i - w) w)

high_page : (w i : ℕ) → 0 < w → w ≤ i → i / w ≡ suc ((i - w) / w)
high_page w i some high = ap (λ (n : ℕ). n / w) (next_page w i high) ∙ div-mul-add (suc ((i - w) / w)) w ((i - w) % w) (mod_below (i - w) w some)

high_place : (w i : ℕ) → 0 < w → w ≤ i → i % w ≡ (i - w) % w
high_place w i some high = ap (λ (n : ℕ). n % w) (next_page w i high) ∙ mod-mul-add (suc ((i - w) / w)) w ((i - w) % w) (mod_below (i - w) w some)

-- a member of the one list stands on the page of its place
pub get_joined : {A : Type 0} (w : ℕ) (lists : List (List A)) (i : ℕ) → 0 < w → ArePages w lists
    → slice_get (joined lists) i ≡ slice_get (page_at lists (i / w)) (i % w)
get_joined w [] i some are = refl
get_joined w (xs ∷ []) i some are = elim (cases_lt i w) [
  | inl low ↦ rw (low_page w i low, low_place w i low, append_none xs) refl
  | inr high ↦ rw (high_page w i some high, append_none xs) (get_past xs i (omega arith))
]
get_joined w (xs ∷ ys ∷ lists) i some are = elim (cases_lt i w) [
  | inl low ↦
      let short : i < length xs = omega arith in
      rw (low_page w i low, low_place w i low) (get_left xs (joined (ys ∷ lists)) i short)
  | inr high ↦
      let split : i ≡ length xs + (i - w) = omega arith in
      rw (high_page w i some high, high_place w i some high) (ap (λ (n : ℕ). slice_get (xs ++ joined (ys ∷ lists)) n) split ∙ get_right xs (joined (ys ∷ lists)) (i - w)
      ∙ get_joined w (ys ∷ lists) (i - w) some are.1)
]

-- a member set there
pub joined_set : {A : Type 0} (w : ℕ) (lists : List (List A)) (i : ℕ) (y : A) → 0 < w → ArePages w lists
    → joined (slice_set lists (i / w) (slice_set (page_at lists (i / w)) (i % w) y)) ≡ slice_set (joined lists) i y
joined_set w [] i y some are = refl
joined_set w (xs ∷ []) i y some are = elim (cases_lt i w) [
  | inl low ↦ rw (low_page w i low, low_place w i low, append_none xs) (append_none (slice_set xs i y))
  | inr high ↦ rw (high_page w i some high, append_none xs) (sym (set_past xs i y (omega arith)))
]
joined_set w (xs ∷ ys ∷ lists) i y some are = elim (cases_lt i w) [
  | inl low ↦
      let short : i < length xs = omega arith in
      rw (low_page w i low, low_place w i low) (sym (set_left xs (joined (ys ∷ lists)) i y short))
  | inr high ↦
      let split : i ≡ length xs + (i - w) = omega arith in
      rw (high_page w i some high, high_place w i some high) (ap (λ l. xs ++ l) (joined_set w (ys ∷ lists) (i - w) y some are.1)
      ∙ (sym (set_right xs (joined (ys ∷ lists)) (i - w) y) ∙ ap (λ (n : ℕ). slice_set (xs ++ joined (ys ∷ lists)) n y) (sym split)))
]

set_length : {A : Type 0} (xs : List A) (i : ℕ) (y : A) → length (slice_set xs i y) ≡ length xs
set_length [] i y = refl
set_length (x ∷ xs) zero y = refl
set_length (x ∷ xs) (suc i) y = ap (λ (n : ℕ). suc n) (set_length xs i y)

-- pages stay pages where one of the same length is set
pub set_pages : {A : Type 0} (w : ℕ) (lists : List (List A)) (n k : ℕ) (y : A) → ArePages w lists
    → ArePages w (slice_set lists n (slice_set (page_at lists n) k y))
set_pages w [] n k y are = are
set_pages w (xs ∷ []) zero k y are = rw (set_length xs k y) are
set_pages w (xs ∷ []) (suc n) k y are = are
set_pages w (xs ∷ ys ∷ lists) zero k y are = (set_length xs k y ∙ are.0, are.1)
set_pages w (xs ∷ ys ∷ []) (suc zero) k y are = (are.0, set_pages w (ys ∷ []) zero k y are.1)
set_pages w (xs ∷ ys ∷ []) (suc (suc n)) k y are = are
set_pages w (xs ∷ ys ∷ zs ∷ lists) (suc zero) k y are = (are.0, set_pages w (ys ∷ zs ∷ lists) zero k y are.1)
set_pages w (xs ∷ ys ∷ zs ∷ lists) (suc (suc n)) k y are = (are.0, set_pages w (ys ∷ zs ∷ lists) (suc n) k y are.1)

-- the place of a member is on its page
pub on_page : {A : Type 0} (w : ℕ) (lists : List (List A)) (i : ℕ) → 0 < w → ArePages w lists
    → i < length (joined lists) → i / w < length lists
on_page w [] i some are low = absurd (omega arith)
on_page w (xs ∷ []) i some are low =
    let short : i < length xs = subst (λ (n : ℕ). i < n) (ap length (append_none xs)) low in
    let first : i / w ≡ 0 = low_page w i (omega arith) in
    omega arith
on_page w (xs ∷ ys ∷ lists) i some are low = elim (cases_lt i w) [
  | inl small ↦
      let first = low_page w i small in
      omega arith
  | inr high ↦
      let all : length (xs ++ joined (ys ∷ lists)) ≡ length xs + length (joined (ys ∷ lists)) = length-append xs (joined (ys ∷ lists)) in
      let rest : (i - w) / w < length (ys ∷ lists) = on_page w (ys ∷ lists) (i - w) some are.1 (omega arith) in
      let next = high_page w i some high in
      omega arith
]

pub in_page : {A : Type 0} (w : ℕ) (lists : List (List A)) (i : ℕ) → 0 < w → ArePages w lists
    → i < length (joined lists) → i % w < length (page_at lists (i / w))
in_page w lists i some are low =
    elim (cases_lt (i % w) (length (page_at lists (i / w)))) [
      | inl there ↦ there
      | inr past ↦
          let none : slice_get (joined lists) i ≡ None = get_joined w lists i some are ∙ get_past (page_at lists (i / w)) (i % w) past in
          absurd (some_within (joined lists) i low none)
    ]
  where
    some_within : {A : Type 0} (xs : List A) (i : ℕ) → i < length xs → slice_get xs i ≡ None → ⊥
    some_within [] i low none = absurd (omega arith)
    some_within (x ∷ xs) zero low none = cc
    some_within (x ∷ xs) (suc i) low none = some_within xs i (omega arith) none

-- pages of the same member
pub made_pages : {A : Type 0} (w count : ℕ) (y : A) → 0 < w
    → ArePages w (replicate (count / w) (replicate w y) ++ replicate 1 (replicate (count % w) y))
made_pages w count y some = go (count / w) (count % w) (omega (arith, mod_below count w some))
  where
    go : (whole last : ℕ) → last ≤ w → ArePages w (replicate whole (replicate w y) ++ replicate 1 (replicate last y))
    go zero last few = rw (length-replicate last y) few
    go (suc zero) last few = (length-replicate w y, go zero last few)
    go (suc (suc whole)) last few = (length-replicate w y, go (suc whole) last few)

pub made_joined : {A : Type 0} (w count : ℕ) (y : A)
    → joined (replicate (count / w) (replicate w y) ++ replicate 1 (replicate (count % w) y)) ≡ replicate count y
made_joined w count y = go (count / w) (count % w) ∙ ap (λ (n : ℕ). replicate n y) (div-add-mod' count w)
  where
    replicate_sum : (m n : ℕ) → replicate m y ++ replicate n y ≡ replicate (m + n) y
    replicate_sum zero n =
        let e : n ≡ 0 + n = omega arith in
        ap (λ (k : ℕ). replicate k y) e
    replicate_sum (suc m) n =
        let e : suc m + n ≡ suc (m + n) = omega arith in
        ap (λ l. y ∷ l) (replicate_sum m n) ∙ ap (λ (k : ℕ). replicate k y) (sym e)

    go : (whole last : ℕ)
        → joined (replicate whole (replicate w y) ++ replicate 1 (replicate last y)) ≡ replicate (whole * w + last) y
    go zero last =
        let e : last ≡ 0 * w + last = omega arith in
        append_none (replicate last y) ∙ ap (λ (k : ℕ). replicate k y) e
    go (suc whole) last =
        let e : w + (whole * w + last) ≡ suc whole * w + last = omega (arith, suc-mul whole w) in
        ap (λ l. replicate w y ++ l) (go whole last) ∙ (replicate_sum w (whole * w + last) ∙ ap (λ (k : ℕ). replicate k y) e)

-- what is made of a last member
map_last : {A B : Type 0} (f : A → B) (xs : List A) (x : A) → map f (xs ++ x ∷ []) ≡ map f xs ++ f x ∷ []
map_last f [] x = refl
map_last f (y ∷ ys) x = ap (λ l. f y ∷ l) (map_last f ys x)

-- pages that were added, and the last
pub made : {P A : Type 0} (slots : P → List A) (none whole list : List P) (full last : P) (w count : ℕ) (y : A)
    → none ≡ []
    → map slots whole ≡ map slots none ++ replicate (count / w) (slots full) → list ≡ whole ++ last ∷ [] → slots full ≡ replicate w y → slots last ≡ replicate (count % w) y
    → map slots list ≡ replicate (count / w) (replicate w y) ++ replicate 1 (replicate (count % w) y)
made slots none whole list full last w count y start added is_list is_full is_last =
    let so : map slots whole ≡ replicate (count / w) (replicate w y) =
    added ∙ (ap (λ p. map slots p ++ replicate (count / w) (slots full)) start ∙ ap (λ f. replicate (count / w) f) is_full) in
    ap (map slots) is_list
    ∙ (map_last slots whole last
    ∙ (ap (λ p. p ++ slots last ∷ []) so ∙ ap (λ l. replicate (count / w) (replicate w y) ++ l ∷ []) is_last))

-- a list at a place that it has
pub page_is : {A B : Type 0} (f : A → List B) (xs : List A) (n : ℕ) (x : A) → n < length xs
    → page_at (map f xs) n ≡ f (get_or xs n x)
page_is f [] n x low = absurd (omega arith)
page_is f (y ∷ ys) zero x low = refl
page_is f (y ∷ ys) (suc n) x low = page_is f ys n x (omega arith)

-- what is set in a list, of each member
pub map_set : {A B : Type 0} (f : A → B) (xs : List A) (n : ℕ) (x : A)
    → map f (slice_set xs n x) ≡ slice_set (map f xs) n (f x)
map_set f [] n x = refl
map_set f (y ∷ ys) zero x = refl
map_set f (y ∷ ys) (suc n) x = ap (λ l. f y ∷ l) (map_set f ys n x)

pub set_same : {A B : Type 0} (f : A → B) (xs : List A) (n : ℕ) (x y : A) → n < length xs → f x ≡ f (get_or xs n y)
    → map f (slice_set xs n x) ≡ map f xs
set_same f [] n x y low same = refl
set_same f (z ∷ zs) zero x y low same = ap (λ a. a ∷ map f zs) same
set_same f (z ∷ zs) (suc n) x y low same = ap (λ l. f z ∷ l) (set_same f zs n x y (omega arith) same)

-- pages after a slot is put, or not
pub either_pages : {A T E : Type 0} (w : ℕ) (r : Result T E) (old new : List (List A)) (n k : ℕ) (y : A)
    → OnOk r (new ≡ slice_set old n (slice_set (page_at old n) k y)) → OnErr r (new ≡ old) → ArePages w old → ArePages w new
either_pages w (Ok done) old new n k y put refused are = subst (ArePages w) (sym put) (set_pages w old n k y are)
either_pages w (Err fault) old new n k y put refused are = subst (ArePages w) (sym refused) are

-- members on a page that is the same are the same
pub same_on : {A : Type 0} (w : ℕ) (lists others : List (List A)) (from place : ℕ) → 0 < w → ArePages w lists
    → ArePages w others → from % w ≡ 0
    → page_at lists (from / w) ≡ page_at others (from / w) → from ≤ place → place < from + w
    → slice_get (joined lists) place ≡ slice_get (joined others) place
same_on w lists others from place some are_first are_second begins same low high =
    let start : from ≡ from / w * w = omega (arith, div-add-mod' from w) in
    let there : place ≡ from / w * w + (place - from) = omega arith in
    let page : place / w ≡ from / w = ap (λ (n : ℕ). n / w) there ∙ div-mul-add (from / w) w (place - from) (omega arith) in
    get_joined w lists place some are_first
    ∙ (ap (λ (n : ℕ). slice_get (page_at lists n) (place % w)) page
    ∙ (ap (λ slots. slice_get slots (place % w)) same
    ∙ (ap (λ (n : ℕ). slice_get (page_at others n) (place % w)) (sym page)
    ∙ sym (get_joined w others place some are_second))))
