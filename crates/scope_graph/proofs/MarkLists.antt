-- Marks that are made one after the other.
use Rattle.std.proofs.Common.{◌≡◌, ◌<◌, ◌+◌, ◌||◌, ℕ, Bool, true, false, List, [], ◌∷◌, ◌++◌, inl, inr, get_or, refl, sym, ◌∙◌, subst, arith}
use Rattle.std.proofs.lemmas.Bool.{cases_lt, false≢true}
use Rattle.std.proofs.lemmas.List.{get_or_append_left, get_or_push, length_push}
use Rattle.domain_core.specs.Scopes.{Plan}
use Rattle.scope_graph.specs.Members.{MarksExactly, IsCalled, IsTaken, Tells}
use Rattle.graph_walks.specs.MarkedNodes.{IsMarked}
use Rattle.lists.specs.TestLaws.{by_test}
use Rattle.graph_walks.specs.MarkedNodeLaws.{marked_low}

-- one more
pub marks_more : (P : ℕ → Type 0) (count : ℕ) (marks : List Bool) (v : Bool) → MarksExactly count P marks
    → (v ≡ true → P count) → (v ≡ false → P count → ⊥) → MarksExactly (count + 1) P (marks ++ v ∷ [])
marks_more P count marks v m if_true if_false = record {
  long = (let l = m.long in let more = length_push marks v in omega arith);
  yes = λ n is. elim (cases_lt n count) [
    | inl old ↦ m.yes n (sym (before n old) ∙ is)
    | inr new ↦
        let low = marked_low (marks ++ v ∷ []) n is in
        let long = m.long in let more = length_push marks v in
        let same : n ≡ count = omega arith in
        subst (λ (k : ℕ). P k) (sym same) (if_true (sym (at_end n same) ∙ is))
  ];
  all = λ n low p. elim (cases_lt n count) [
    | inl old ↦ before n old ∙ m.all n old p
    | inr new ↦ let same : n ≡ count = omega arith in by_test v (λ e. at_end n same ∙ e) (λ e. absurd (if_false e (subst (λ (k : ℕ). P k) same p)))
  ];
}
  where
    before : (n : ℕ) → n < count → get_or (marks ++ v ∷ []) n false ≡ get_or marks n false
    before n low = get_or_append_left marks (v ∷ []) false n (let long = m.long in omega arith)

    at_end : (n : ℕ) → n ≡ count → get_or (marks ++ v ∷ []) n false ≡ v
    at_end n e = get_or_push marks v false n (m.long ∙ sym e)

-- a node is taken where it is marked or called
pub taken_tells : (plan : Plan) (body : List Bool) (n : ℕ) (mark called : Bool) → get_or body n false ≡ mark
    → Tells called (IsCalled plan body n) → Tells (mark || called) (IsTaken plan body n)
taken_tells plan body n true called at tells = (λ e. (n, at, inl refl), λ e. absurd (false≢true (sym e)))
taken_tells plan body n false called at tells = (
  λ e. let far = tells.0 e in (far.0, far.1, inr far.2),
  λ e taken. elim taken.2 [
    | inl same ↦ absurd (false≢true (sym at ∙ subst (λ (k : ℕ). IsMarked body k) (sym same) taken.1))
    | inr from ↦ tells.1 e (taken.0, taken.1, from)
  ],
)
