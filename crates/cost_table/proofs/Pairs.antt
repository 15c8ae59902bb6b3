-- Pairs of elements of two lists.
--   pairs_append   what holds of the pairs of each, and of each element of the one with each of the other
use Rattle.std.proofs.Common.{◌++◌, suc, List, [], ◌∷◌, All, arith}
use Rattle.std.specs.List.{AllPairs}
use Rattle.std.proofs.lemmas.List.Elements.{All-append, All-head, All-tail}
use Rattle.std.proofs.lemmas.List.Kept.{AllPairs-cons}

-- the first with each of the others
pairs_head : {X : Type 0} (R : X → X → Type 0) (x : X) (xs : List X) → AllPairs R (x ∷ xs) → All (R x) xs
pairs_head R x xs p = λ k d low. p 0 (suc k) d (omega arith) (omega arith)

-- the others
pairs_tail : {X : Type 0} (R : X → X → Type 0) (x : X) (xs : List X) → AllPairs R (x ∷ xs) → AllPairs R xs
pairs_tail R x xs p = λ i j d less low. p (suc i) (suc j) d (omega arith) (omega arith)

-- the pairs of both lists
pub pairs_append : {X : Type 0} (R : X → X → Type 0) (xs ys : List X) → AllPairs R xs → AllPairs R ys
    → All (λ a. All (R a) ys) xs → AllPairs R (xs ++ ys)
pairs_append R [] ys p q cross = q
pairs_append R (x ∷ xs) ys p q cross = AllPairs-cons R x (xs ++ ys)
    (All-append (R x) xs ys (pairs_head R x xs p) (All-head (λ a. All (R a) ys) x xs cross))
    (pairs_append R xs ys (pairs_tail R x xs p) q (All-tail (λ a. All (R a) ys) x xs cross))
