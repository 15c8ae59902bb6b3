-- Members of images of lists, by std's `map` and `flat_map`.
--   mapped, image          the members of `map f xs`
--   joined, from_joined    the members of `flat_map f xs`
--   all_images, all_joined   what holds of each image
use Rattle.std.proofs.Common.{◌≡◌, ℕ, List, [], ◌∷◌, map, slice_get, All, Contains, flat_map, Option, Some, None, option_map, refl, ap, sym, ◌∙◌, subst, ⊎_elim}
use Rattle.std.proofs.lemmas.Option.{none-some, same_Some, slice_get-map}
use Rattle.std.proofs.lemmas.List.Elements.{All-nil, All-append, Contains-append_left, Contains-append_right, Contains-append_cases}
use Rattle.lists.specs.MemberLaws.{contained, placed, no_member, first_member, further_member, first_or_further, all_members}

-- what a function makes of an option, undone
pub some_image : {A B : Type 0} (f : A → B) (o : Option A) (y : B) → option_map f o ≡ Some y
    → (x : A) × (o ≡ Some x) × (f x ≡ y)
some_image f None y e = absurd (none-some y e)
some_image f (Some x) y e = (x, refl, same_Some (f x) y e)

-- what stands at a place of the images is the image of what stands there
pub mapped_at : {A B : Type 0} (f : A → B) (xs : List A) (k : ℕ) (y : B) → slice_get (map f xs) k ≡ Some y
    → (x : A) × (slice_get xs k ≡ Some x) × (f x ≡ y)
mapped_at f xs k y e = some_image f (slice_get xs k) y (sym (slice_get-map f xs k) ∙ e)

-- a member of the images is the image of a member
pub mapped : {A B : Type 0} (f : A → B) (xs : List A) (y : B) → Contains (map f xs) y
    → (x : A) × Contains xs x × (f x ≡ y)
mapped f xs y c = let m = mapped_at f xs c.0 y (placed (map f xs) y c) in (m.0, contained xs c.0 m.0 m.1, m.2)

-- the image of a member is a member of the images
pub image : {A B : Type 0} (f : A → B) (xs : List A) (x : A) → Contains xs x → Contains (map f xs) (f x)
image f xs x c = contained (map f xs) c.0 (f x) (slice_get-map f xs c.0 ∙ ap (option_map f) (placed xs x c))

-- it holds of all images if of the image of each member
pub all_images : {A B : Type 0} (P : B → Type 0) (f : A → B) (xs : List A) → ((x : A) → Contains xs x → P (f x))
    → All P (map f xs)
all_images P f xs each = all_members P (map f xs) (λ y c. let m = mapped f xs y c in subst P m.2 (each m.0 m.1))

-- it holds of all that is made of members if of what is made of each
pub all_joined : {A B : Type 0} (P : B → Type 0) (f : A → List B) (xs : List A)
    → ((x : A) → Contains xs x → All P (f x)) → All P (flat_map f xs)
all_joined P f [] each = All-nil P
all_joined P f (x ∷ xs) each = All-append P (f x) (flat_map f xs) (each x (first_member x xs)) (all_joined P f xs (λ y c. each y (further_member x xs y c)))

-- what is made of a member is among all that is made
pub joined : {A B : Type 0} (f : A → List B) (xs : List A) (x : A) (y : B) → Contains xs x → Contains (f x) y
    → Contains (flat_map f xs) y
joined f [] x y c d = no_member x c
joined f (first ∷ xs) x y c d =
    first_or_further first xs x c (λ e. Contains-append_left (f first) (flat_map f xs) y (subst (λ z. Contains (f z) y) (sym e) d))
    (λ rest. Contains-append_right (f first) (flat_map f xs) y (joined f xs x y rest d))

-- what is among all that is made is made of a member
pub from_joined : {A B : Type 0} (f : A → List B) (xs : List A) (y : B) → Contains (flat_map f xs) y
    → (x : A) × Contains xs x × Contains (f x) y
from_joined f [] y c = no_member y c
from_joined f (x ∷ xs) y c = ⊎_elim
    (λ (here : Contains (f x) y). (x, first_member x xs, here))
    (λ (there : Contains (flat_map f xs) y). let m = from_joined f xs y there in (m.0, further_member x xs m.0 m.1, m.2))
    (Contains-append_cases (f x) (flat_map f xs) y c)
