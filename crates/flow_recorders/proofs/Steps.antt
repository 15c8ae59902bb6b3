-- Turns of the loops over spans.
use Rattle.std.proofs.Common.{◌≡◌, ℕ, ◌+◌, List, [], ◌∷◌, ◌++◌, get_or, sym, ap, ◌∙◌, add-one}
use Rattle.recorder_rules.specs.Generated.{generated}
use Rattle.recorder_rules.specs.GeneratedLaws.{generated-suc}
use Rattle.recorder_rules.specs.Spans.{span_of}

-- the spans around those of both, one more
pub spans_more : (found a b : List (ℕ × ℕ)) (i : ℕ)
    → found ≡ generated i (λ j. span_of (get_or a j (0, 0)) (get_or b j (0, 0)))
    → found ++ span_of (get_or a i (0, 0)) (get_or b i (0, 0)) ∷ [] ≡ generated (i + 1) (λ j. span_of (get_or a j (0, 0)) (get_or b j (0, 0)))
spans_more found a b i so_far =
    ap (λ (xs : List (ℕ × ℕ)). xs ++ span_of (get_or a i (0, 0)) (get_or b i (0, 0)) ∷ []) so_far
    ∙ sym (generated-suc i (λ j. span_of (get_or a j (0, 0)) (get_or b j (0, 0))))
    ∙ ap (λ (n : ℕ). generated n (λ j. span_of (get_or a j (0, 0)) (get_or b j (0, 0)))) (sym (add-one i))

-- one element more
pub generated_more : {A : Type 0} (found : List A) (n : ℕ) (f : ℕ → A) (x : A) → x ≡ f n → found ≡ generated n f
    → found ++ x ∷ [] ≡ generated (n + 1) f
generated_more {A} found n f x is so_far =
    ap (λ (xs : List A). xs ++ x ∷ []) so_far
    ∙ ap (λ (y : A). generated n f ++ y ∷ []) is
    ∙ sym (generated-suc n f)
    ∙ ap (λ (k : ℕ). generated k f) (sym (add-one n))
