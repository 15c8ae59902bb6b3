-- Objects in the order in which names count them.
--   turned_more    of one object more the newest comes first
use Rattle.std.proofs.Common.{◌≡◌, ◌+◌, ◌<◌, ℕ, List, [], ◌∷◌, ◌++◌, map, length, take, reverse, get_or, ap, sym, ◌∙◌}
use Rattle.std.proofs.lemmas.List.{take_more, reverse-append, map-append}
use Rattle.object_layout.specs.declared.object.Object as objects
use Rattle.object_layout.specs.Views.{object_of}

pub turned_more : (xs : List objects.Object) (i : ℕ) (x : objects.Object) → i < length xs → x ≡ get_or xs i x
    → reverse (map object_of (take (i + 1) xs)) ≡ object_of x ∷ reverse (map object_of (take i xs))
turned_more xs i x low is =
    ap (λ (ys : List objects.Object). reverse (map object_of ys)) (take_more xs i x low ∙ ap (λ (y : objects.Object). take i xs ++ y ∷ []) (sym is))
    ∙ ap reverse (map-append object_of (take i xs) (x ∷ [])) ∙ reverse-append (map object_of (take i xs)) (object_of x ∷ [])
