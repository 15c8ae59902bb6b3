-- Laws of finding.
--   find_of_map          the first of the images is the image of the first
--   found             what is found passes, and is a member
--   found_where       where a member passes, one is found
use Rattle.std.proofs.Common.{◌≡◌, Bool, true, List, [], ◌∷◌, map, Contains, Some, option_map, refl, ap, sym, ◌∙◌, subst}
use Rattle.std.specs.Prelude.{find}
use Rattle.std.proofs.lemmas.Bool.{false≢true}
use Rattle.std.proofs.lemmas.Option.{none-some, same_Some}
use Rattle.lists.specs.MemberLaws.{no_member, first_member, further_member, first_or_further}
use Rattle.lists.specs.TestLaws.{by_test}
use Rattle.lists.specs.FindingLaws.{find_first, find_further}

-- the first of the images that passes is the image of the first whose image passes
pub find_of_map : {A B : Type 0} (passes : B → Bool) (f : A → B) (xs : List A)
    → find passes (map f xs) ≡ option_map f (find (λ x. passes (f x)) xs)
find_of_map passes f [] = refl
find_of_map passes f (x ∷ xs) = by_test (passes (f x)) (λ e. rw e refl) (λ e. rw e (find_of_map passes f xs))

-- what is found passes, and is a member
pub found : {A : Type 0} (passes : A → Bool) (xs : List A) (x : A) → find passes xs ≡ Some x
    → (passes x ≡ true) × Contains xs x
found passes [] x e = absurd (none-some x e)
found passes (y ∷ xs) x e = by_test (passes y)
    (λ t. let same : y ≡ x = same_Some y x (sym (find_first passes y xs t) ∙ e) in subst (λ z. (passes z ≡ true) × Contains (y ∷ xs) z) same (t, first_member y xs))
    (λ t. let more = found passes xs x (sym (find_further passes y xs t) ∙ e) in (more.0, further_member y xs x more.1))

-- where a member passes, one is found
pub found_where : {A : Type 0} (passes : A → Bool) (xs : List A) (x : A) → Contains xs x → passes x ≡ true
    → (y : A) × (find passes xs ≡ Some y)
found_where passes [] x c e = no_member x c
found_where passes (y ∷ xs) x c e = by_test (passes y)
    (λ t. (y, find_first passes y xs t))
    (λ t. first_or_further y xs x c
    (λ same. absurd (false≢true (sym t ∙ ap passes same ∙ e)))
    (λ rest. let more = found_where passes xs x rest e in (more.0, find_further passes y xs t ∙ more.1)))
