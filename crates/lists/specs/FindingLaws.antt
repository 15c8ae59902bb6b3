-- Laws of finding.
--   find_none         nothing is found exactly where no element passes
--   find_first     a first element that passes is found
--   find_further   one that does not is passed over
use Rattle.std.proofs.Common.{◌≡◌, ◌↔◌, Bool, true, false, List, [], ◌∷◌, All, IsNone, Some, refl, sym, ◌∙◌}
use Rattle.std.specs.Prelude.{find}
use Rattle.std.proofs.lemmas.Bool.{false≢true}
use Rattle.std.proofs.lemmas.List.Elements.{All-nil, All-cons, All-head, All-tail}
use Rattle.lists.specs.TestLaws.{by_test}

-- a first element that passes is found
pub find_first : {A : Type 0} (passes : A → Bool) (x : A) (xs : List A) → passes x ≡ true
    → find passes (x ∷ xs) ≡ Some x
find_first passes x xs e = rw e refl

-- one that does not is passed over
pub find_further : {A : Type 0} (passes : A → Bool) (x : A) (xs : List A) → passes x ≡ false
    → find passes (x ∷ xs) ≡ find passes xs
find_further passes x xs e = rw e refl

-- nothing is found exactly where no element passes
pub find_none : {A : Type 0} (passes : A → Bool) (xs : List A)
    → IsNone (find passes xs) ↔ All (λ x. passes x ≡ false) xs
find_none passes [] = (λ none. All-nil (λ x. passes x ≡ false), λ all. refl)
find_none passes (x ∷ xs) = by_test (passes x)
    (λ t. rw (find_first passes x xs t) (λ none. absurd (false≢true (sym none)), λ all. absurd (false≢true (sym (All-head (λ y. passes y ≡ false) x xs all) ∙ t))))
    (λ t. rw (find_further passes x xs t) (
      λ none. All-cons (λ y. passes y ≡ false) x xs t ((find_none passes xs).0 none),
      λ all. (find_none passes xs).1 (All-tail (λ y. passes y ≡ false) x xs all),
    ))
