-- Rows of calls.
--   rows_next   those of what stands at file level here, and then of the rest
--   noted       one more is gone through
use Rattle.std.proofs.Common.{◌≡◌, ◌+◌, ◌<◌, ℕ, zero, suc, List, [], ◌∷◌, ◌++◌, map, length, drop, get_or, slice_index_or, Contains, refl, ap, sym, ◌∙◌, subst}
use Rattle.std.proofs.lemmas.List.{at_drop_more, append_assoc}
use Rattle.lists.specs.MemberLaws.{no_member}
use Rattle.graph_walks.specs.Calls.{CallsWithin}
use Rattle.c_unit.specs.declared.external.External.{External}
use Rattle.c_unit.specs.Tree.{ExternalTree, Declaration, Definition, statements_of, external_of}
use Rattle.c_unit.specs.Units.{Word}
use Rattle.c_rules.specs.Units.{definitions}
use Rattle.c_rules.specs.Recursion.{called_in, rows_of}
use Rattle.c_check.proofs.Numbering.{numbers_within}

pub rows_next : (words : List Word) (names : List ℕ) (x : ExternalTree) (xs : List ExternalTree)
    → rows_of words names (x ∷ xs) ≡ rows_of words names (x ∷ []) ++ rows_of words names xs
rows_next words names (Declaration first o ds) xs = refl
rows_next words names (Definition first o name params body) xs = refl

pub noted : (words : List Word) (names : List ℕ) (rows : List (List ℕ)) (xs : List External) (i : ℕ) (x : External)
    → i < length xs → x ≡ get_or xs i x
    → (rows ++ rows_of words names (external_of x ∷ [])) ++ rows_of words names (map external_of (drop (i + 1) xs)) ≡ rows ++ rows_of words names (map external_of (drop i xs))
noted words names rows xs i x low is =
    sym (at_drop_more (λ (ys : List External). rows ++ rows_of words names (map external_of ys)) xs i x low
    ∙ rw (← is) (ap (λ (more : List (List ℕ)). rows ++ more) (rows_next words names (external_of x) (map external_of (drop (i + 1) xs)))
    ∙ sym (append_assoc rows (rows_of words names (external_of x ∷ [])) (rows_of words names (map external_of (drop (i + 1) xs))))))

-- there is a row for each definition
pub row_count : (words : List Word) (names : List ℕ) (xs : List ExternalTree)
    → length (rows_of words names xs) ≡ length (definitions xs)
row_count words names [] = refl
row_count words names (Declaration first o ds ∷ xs) = row_count words names xs
row_count words names (Definition first o name params body ∷ xs) = ap suc (row_count words names xs)

-- each number in a row is one of a function
pub row_within : (words : List Word) (names : List ℕ) (xs : List ExternalTree) (u v : ℕ)
    → Contains (slice_index_or (rows_of words names xs) u []) v → v < length names
row_within words names [] zero v c = no_member v c
row_within words names [] (suc u) v c = no_member v c
row_within words names (Declaration first o ds ∷ xs) u v c = row_within words names xs u v c
row_within words names (Definition first o name params body ∷ xs) zero v c = numbers_within words names (called_in (statements_of body)) v c
row_within words names (Definition first o name params body ∷ xs) (suc u) v c = row_within words names xs u v c

pub calls_within : (words : List Word) (names : List ℕ) (xs : List ExternalTree) → names ≡ definitions xs
    → CallsWithin (rows_of words names xs)
calls_within words names xs all = λ u v edge. subst (λ (n : ℕ). v < n) (ap length all ∙ sym (row_count words names xs)) (row_within words names xs u v edge)
