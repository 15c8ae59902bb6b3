-- One element more of a list.
--   taken_more   a list that is the first elements, with the next one behind them, is one element more
use Rattle.std.proofs.Common.{◌≡◌, List, ◌∷◌, [], ◌++◌, ◌+◌, ℕ, Some, sym, ap, ◌∙◌, take}
use Rattle.std.specs.Prelude.{slice_get}
use Rattle.std.proofs.lemmas.Option.{get_or_from_slice_get, slice_get_within}
use Rattle.std.proofs.lemmas.List.{take_more}

-- a list that is the first elements, with the next one behind them, is one element more
pub taken_more : {A : Type 0} (xs taken more : List A) (i : ℕ) (x : A) → more ≡ taken ++ x ∷ [] → taken ≡ take i xs
    → slice_get xs i ≡ Some x → more ≡ take (i + 1) xs
taken_more {A} xs taken more i x is so_far at =
    is ∙ ap (λ (ys : List A). ys ++ x ∷ []) so_far
    ∙ sym (take_more xs i x (slice_get_within xs i x at) ∙ ap (λ (y : A). take i xs ++ y ∷ []) (get_or_from_slice_get xs i x x at))
