-- What is left to show of `with_next`.
use Rattle.std.proofs.Common.{◌≡◌, ◌+◌, ◌++◌, ◌∷◌, [], ℕ, List, ap, sym, ◌∙◌}
use Rattle.std.proofs.lemmas.List.{append_assoc, same_from_push}
use Rattle.abstract_exec.proofs.Beside.{popped}
use Rattle.abstract_exec.proofs.position.with_next.Goals as goal

pub returns : goal.returns
returns c =
    λ front number two is.
    let first : c.pop.new.self.items ≡ front ++ number ∷ [] = popped (front ++ number ∷ []) c.args.position.items c.pop.new.self.items two (is ∙ sym (append_assoc front (number ∷ []) (two ∷ []))) c.pop.ensures.rest in
    let both = same_from_push c.pop-2.new.self.items front c.in-Some.number number (sym c.in-Some.ensures.items ∙ first) in
    c.in_ok-push-2.ensures.ok
    ∙ ap (λ (xs : List ℕ). xs ++ c.args.rank ∷ []) (c.in_ok-push.ensures.ok ∙ ap (λ (xs : List ℕ). xs ++ (c.in-Some.number + 1) ∷ []) both.0 ∙ ap (λ (k : ℕ). front ++ (k + 1) ∷ []) both.1)
    ∙ append_assoc front ((number + 1) ∷ []) (c.args.rank ∷ [])
