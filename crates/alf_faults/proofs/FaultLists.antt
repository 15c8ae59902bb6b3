-- Lists of faults that are empty, and the first member that passes a test.
use Rattle.std.proofs.Common.{◌≡◌, ◌≢◌, ◌<◌, ◌+◌, ℕ, zero, suc, Bool, true, false, not, ◌||◌, List, [], ◌∷◌, ◌++◌, get_or, slice_get, Contains, AllPairs, flat_map, Option, Some, None, is_some, option_map, add-zero, refl, ap, sym, ◌∙◌, subst, eqb-true, eq-eqb, arith}
use Rattle.std.specs.Str.{bytes_eq}
use Rattle.std.proofs.lemmas.Bool.{false≢true}
use Rattle.std.proofs.lemmas.Option.{none-some, same_Some, slice_get-get_or, slice_get_within, get_or_from_slice_get}
use Rattle.std.proofs.lemmas.Slice.Eq.{bytes_eq-Decides}
use Rattle.lists.specs.TestLaws.{by_test}
use Rattle.lists.specs.MemberLaws.{no_member, first_member, further_member, first_or_further, contained}
use Rattle.lists.specs.ImageLaws.{some_image}
use Rattle.alf_faults.specs.Places.{place_of}
use Rattle.alf_faults.specs.Fault.{Fault, when, each_from, is_exactly}

-- ---- lists of faults

-- where two lists have no fault, they have none together, and the other way
pub no_parts : {A : Type 0} (xs ys : List A) → xs ++ ys ≡ [] → (xs ≡ []) × (ys ≡ [])
no_parts [] ys e = (refl, e)
no_parts (x ∷ xs) ys e = cc

pub both_none : {A : Type 0} (xs ys : List A) → xs ≡ [] → ys ≡ [] → xs ++ ys ≡ []
both_none xs ys e f = rw (e, f) refl

-- a fault that a test rules out
pub when_not : (test : Bool) (fault : Fault) → when (not test) fault ≡ [] → test ≡ true
when_not true fault e = refl
when_not false fault e = cc

pub not_when : (test : Bool) (fault : Fault) → test ≡ true → when (not test) fault ≡ []
not_when test fault e = rw e refl

-- one that either of two tests lets in
pub when_either : (a b : Bool) (fault : Fault) → when (a || b) fault ≡ [] → (a ≡ false) × (b ≡ false)
when_either true b fault e = cc
when_either false true fault e = cc
when_either false false fault e = (refl, refl)

-- a test turned
pub not_false : (test : Bool) → not test ≡ false → test ≡ true
not_false true e = refl
not_false false e = cc

-- what members give, by their places
pub none_each : {A : Type 0} (gives : ℕ → A → List Fault) (n : ℕ) (xs : List A) (k m : ℕ) (x : A) → m ≡ n + k
    → each_from gives n xs ≡ [] → slice_get xs k ≡ Some x → gives m x ≡ []
none_each gives n [] k m x is none at = absurd (none-some x at)
none_each gives n (y ∷ xs) zero m x is none at =
    let here = (no_parts (gives n y) (each_from gives (n + 1) xs) none).0 in let same = same_Some y x at in let e : m ≡ n = omega arith in cc
none_each gives n (y ∷ xs) (suc k) m x is none at = none_each gives (n + 1) xs k m x (omega arith) (no_parts (gives n y) (each_from gives (n + 1) xs) none).1 at

pub each_none : {A : Type 0} (gives : ℕ → A → List Fault) (n : ℕ) (xs : List A)
    → ((k : ℕ) (x : A) → slice_get xs k ≡ Some x → gives (n + k) x ≡ []) → each_from gives n xs ≡ []
each_none gives n [] each = refl
each_none gives n (x ∷ xs) each =
    both_none (gives n x) (each_from gives (n + 1) xs) (subst (λ (m : ℕ). gives m x ≡ []) (add-zero n) (each 0 x refl))
    (each_none gives (n + 1) xs (λ k y at. let same : n + suc k ≡ n + 1 + k = omega arith in subst (λ (m : ℕ). gives m y ≡ []) same (each (suc k) y at)))

-- what members give
pub none_joined : {A : Type 0} (gives : A → List Fault) (xs : List A) → flat_map gives xs ≡ [] → (x : A) → Contains xs x
    → gives x ≡ []
none_joined gives [] none x c = no_member x c
none_joined gives (y ∷ xs) none x c =
    let parts = no_parts (gives y) (flat_map gives xs) none in
    first_or_further y xs x c (λ same. subst (λ z. gives z ≡ []) same parts.0) (none_joined gives xs parts.1 x)

pub joined_none : {A : Type 0} (gives : A → List Fault) (xs : List A) → ((x : A) → Contains xs x → gives x ≡ [])
    → flat_map gives xs ≡ []
joined_none gives [] each = refl
joined_none gives (x ∷ xs) each =
    both_none (gives x) (flat_map gives xs) (each x (first_member x xs)) (joined_none gives xs (λ y c. each y (further_member x xs y c)))

-- ---- the first member that passes

-- something was found, and it is n
pub exactly : (n : ℕ) (found : Option ℕ) → is_exactly n found ≡ true → found ≡ Some n
exactly n None e = absurd (false≢true e)
exactly n (Some m) e = ap Some (eqb-true m n e)

pub exact_is : (n : ℕ) (found : Option ℕ) → found ≡ Some n → is_exactly n found ≡ true
exact_is n found e = rw e (eq-eqb n n refl)

-- a place was found or not
pub by_place : {B : Type 0} (found : Option ℕ) → (found ≡ None → B) → ((n : ℕ) → found ≡ Some n → B) → B
by_place None none some = none refl
by_place (Some n) none some = some n refl

module _ {A : Type 0} (passes : A → Bool) where
  -- the first place is that of the first member, where it passes
  first_here : (x : A) (xs : List A) → passes x ≡ true → place_of passes (x ∷ xs) ≡ Some 0
  first_here x xs e = rw e refl

  -- else it is further on
  first_further : (x : A) (xs : List A) → passes x ≡ false
      → place_of passes (x ∷ xs) ≡ option_map (λ k. k + 1) (place_of passes xs)
  first_further x xs e = rw e refl

  -- what stands at the place passes, and none before it does
  pub stands_first : (xs : List A) (n : ℕ) → place_of passes xs ≡ Some n
      → ((x : A) × (slice_get xs n ≡ Some x) × (passes x ≡ true)) × ((j : ℕ) (y : A) → j < n → slice_get xs j ≡ Some y → passes y ≡ false)
  stands_first [] n e = absurd (none-some n e)
  stands_first (x ∷ xs) n e = by_test (passes x) (λ t. here (same_Some 0 n (sym (first_here x xs t) ∙ e)) t)
      (λ t. let m = some_image (λ (k : ℕ). k + 1) (place_of passes xs) n (sym (first_further x xs t) ∙ e) in further t m.0 (m.2) (stands_first xs m.0 m.1))
    where
      here : 0 ≡ n → passes x ≡ true
          → ((z : A) × (slice_get (x ∷ xs) n ≡ Some z) × (passes z ≡ true))
          × ((j : ℕ) (y : A) → j < n → slice_get (x ∷ xs) j ≡ Some y → passes y ≡ false)
      here is t = ((x, ap (λ (k : ℕ). slice_get (x ∷ xs) k) (sym is), t), λ j y low at. absurd (omega arith))

      further : passes x ≡ false → (m : ℕ) → m + 1 ≡ n
          → ((z : A) × (slice_get xs m ≡ Some z) × (passes z ≡ true)) × ((j : ℕ) (y : A) → j < m → slice_get xs j ≡ Some y → passes y ≡ false)
          → ((z : A) × (slice_get (x ∷ xs) n ≡ Some z) × (passes z ≡ true)) × ((j : ℕ) (y : A) → j < n → slice_get (x ∷ xs) j ≡ Some y → passes y ≡ false)
      further t m is r = let place : suc m ≡ n = omega arith in
          ((r.0.0, subst (λ (k : ℕ). slice_get (x ∷ xs) k ≡ Some r.0.0) place r.0.1, r.0.2), none)
        where
          none : (j : ℕ) (y : A) → j < n → slice_get (x ∷ xs) j ≡ Some y → passes y ≡ false
          none zero y low at = subst (λ (z : A). passes z ≡ false) (same_Some x y at) t
          none (suc j) y low at = r.1 j y (omega arith) at

  -- a member that passes, where none before it does, is the first
  pub is_first : (xs : List A) (n : ℕ) (x : A) → slice_get xs n ≡ Some x → passes x ≡ true
      → ((j : ℕ) (y : A) → j < n → slice_get xs j ≡ Some y → passes y ≡ false) → place_of passes xs ≡ Some n
  is_first [] n x at t before = absurd (none-some x at)
  is_first (y ∷ xs) zero x at t before = first_here y xs (subst (λ (z : A). passes z ≡ true) (sym (same_Some y x at)) t)
  is_first (y ∷ xs) (suc n) x at t before =
      first_further y xs (before 0 y (omega arith) refl) ∙ ap (option_map (λ k. k + 1)) (is_first xs n x at t (λ j z low is. before (suc j) z (omega arith) is)) ∙ ap Some (omega arith)

  -- where a member passes, a place is found
  pub some_place : (xs : List A) (x : A) → Contains xs x → passes x ≡ true → is_some (place_of passes xs) ≡ true
  some_place [] x c e = no_member x c
  some_place (y ∷ xs) x c e =
      by_test (passes y) (λ t. rw t refl)
      (λ t. rw t (first_or_further y xs x c (λ same. absurd (false≢true (sym t ∙ ap passes same ∙ e))) (λ rest. back (place_of passes xs) (some_place xs x rest e))))
    where
      back : (o : Option ℕ) → is_some o ≡ true → is_some (option_map (λ k. k + 1) o) ≡ true
      back None e = e
      back (Some k) e = e

  -- where a place is found, a member passes
  pub place_some : (xs : List A) → is_some (place_of passes xs) ≡ true → (x : A) × Contains xs x × (passes x ≡ true)
  place_some xs some = by_place (place_of passes xs) (λ none. absurd (false≢true (sym (ap is_some none) ∙ some)))
      (λ n e. let first = stands_first xs n e in (first.0.0, contained xs n first.0.0 first.0.1, first.0.2))

  -- and none where none does
  pub place_none : (xs : List A) → ((x : A) → Contains xs x → passes x ≡ false) → is_some (place_of passes xs) ≡ false
  place_none xs none = by_test (is_some (place_of passes xs)) (λ some. let there = place_some xs some in absurd (false≢true (sym (none there.0 there.1) ∙ there.2))) (λ e. e)

-- ---- names

-- names that are the same pass the test, and others do not
pub same_name : (a b : List ℕ) → a ≡ b → bytes_eq a b ≡ true
same_name a b = (bytes_eq-Decides a b).1

pub is_name : (a b : List ℕ) → bytes_eq a b ≡ true → a ≡ b
is_name a b = (bytes_eq-Decides a b).0

pub other_name : (a b : List ℕ) → a ≢ b → bytes_eq a b ≡ false
other_name a b other = by_test (bytes_eq a b) (λ t. absurd (other (is_name a b t))) (λ t. t)

module _ {A : Type 0} (name : A → List ℕ) where
  -- where each is the first of its name, no two have one name
  pub names_differ : (xs : List A)
      → ((k : ℕ) (x : A) → slice_get xs k ≡ Some x → place_of (λ y. bytes_eq (name y) (name x)) xs ≡ Some k)
      → AllPairs (λ x y. name x ≢ name y) xs
  names_differ xs first i j d before inside = λ e.
      let x = get_or xs i d in
      let y = get_or xs j d in
      let none = (stands_first (λ z. bytes_eq (name z) (name y)) xs j (first j y (slice_get-get_or xs j d inside))).1 i x before (slice_get-get_or xs i d (omega arith)) in
      absurd (false≢true (sym none ∙ same_name (name x) (name y) e))

  -- and the other way
  pub first_named : (xs : List A) → AllPairs (λ x y. name x ≢ name y) xs → (k : ℕ) (x : A) → slice_get xs k ≡ Some x
      → place_of (λ y. bytes_eq (name y) (name x)) xs ≡ Some k
  first_named xs differ k x at =
      is_first (λ y. bytes_eq (name y) (name x)) xs k x at (same_name (name x) (name x) refl) (λ j y low is.
      let inside = slice_get_within xs k x at in
      let apart = differ j k x low inside in
      other_name (name y) (name x) (λ e. apart (ap name (get_or_from_slice_get xs j y x is) ∙ e ∙ ap name (sym (get_or_from_slice_get xs k x x at)))))
