-- On the way to the laws of execution.
--   trace_walk          a trace is a walk from node 0, read backwards
--   execution_starts    an execution starts at the header
--   turns_mean          the iteration number of a scope is the number of its headers in the open execution
use Rattle.std.proofs.Common.{◌≡◌, ℕ, zero, suc, ◌+◌, ◌<◌, cond, List, [], ◌∷◌, ◌++◌, length, get_or, reverse, refl, sym, ap, ◌∙◌, subst, arith, inl, inr}
use Rattle.std.proofs.lemmas.Bool.{cases_Bool}
use Rattle.std.proofs.lemmas.List.{get_or-replicate, append_assoc, reverse-append}
use Rattle.std.proofs.lemmas.List.Elements.{Contains-push}
use Rattle.graph_walks.specs.Walks.{Walk, stays, goes_on}
use Rattle.domain_core.specs.Reducible.{IsEdge}
use Rattle.domain_core.specs.Outlines.{Shape, Holds, is_held, header_of, IsOutline}
use Rattle.domain_core.specs.OutlineLaws.{holder_low}
use Rattle.domain_core.specs.Stretches.{IsStretch, FirstIsNot}
use Rattle.domain_core.specs.Traces.{IsTrace}
use Rattle.domain_core.specs.Executions.{open_execution, header_count, turn_after, turns_after, turns_of}
use Rattle.domain_core.specs.ExecutionLaws.{length-turns_of}

-- ---- traces

-- what is older in a trace is a trace
trace_rest : (o : Shape) (xs : List ℕ) (n : ℕ) (ys : List ℕ) → IsTrace o (xs ++ n ∷ ys) → IsTrace o (n ∷ ys)
trace_rest o [] n ys tr = tr
trace_rest o (x ∷ []) n ys tr = tr.2
trace_rest o (x ∷ y ∷ xs) n ys tr = trace_rest o (y ∷ xs) n ys tr.2

-- a trace is a walk from node 0, read backwards
pub trace_walk : (o : Shape) (n : ℕ) (past : List ℕ) → IsTrace o (n ∷ past)
    → Walk (IsEdge o.edges) 0 n (reverse (n ∷ past))
trace_walk o n [] e = subst (λ (k : ℕ). Walk (IsEdge o.edges) 0 k (k ∷ [])) (sym e) stays
trace_walk o n (m ∷ past) tr = subst (λ (xs : List ℕ). Walk (IsEdge o.edges) 0 n xs) (sym (reverse-append (n ∷ []) (m ∷ past))) (goes_on (trace_walk o m past tr.2) tr.0)

-- an execution starts at the header: here it is written newest first
pub execution_starts : (o : Shape) → IsOutline o → (t : ℕ) (past front : List ℕ) (h : ℕ) → IsTrace o past
    → IsStretch (λ n. Holds o t n) past (front ++ h ∷ []) → h ≡ header_of o.scopes t
execution_starts o ok t past front h tr s =
    let whole : past ≡ (s.earlier ++ front) ++ h ∷ s.later =
    s.is ∙ ap (λ (xs : List ℕ). s.earlier ++ xs) (append_assoc front (h ∷ []) s.later) ∙ sym (append_assoc s.earlier front (h ∷ s.later)) in
    by_later s.later s.ends (trace_rest o (s.earlier ++ front) h s.later (subst (λ (xs : List ℕ). IsTrace o xs) whole tr))
  where
    held : Holds o t h
    held = s.all h (Contains-push front h)

    by_later : (later : List ℕ) → FirstIsNot (λ n. Holds o t n) later → IsTrace o (h ∷ later) → h ≡ header_of o.scopes t
    by_later [] ends e =
        let alone : t ≡ 0 = ok.first_alone t (subst (λ (n : ℕ). Holds o t n) e held) in
        e ∙ sym (ap (λ (s : ℕ). header_of o.scopes s) alone ∙ ok.first_scope.0)
    by_later (m ∷ rest) ends step =
        elim (ok.entered m h t step.0 step.1 (holder_low o ok t h step.1 held) held) [ inl e ↦ e | inr inner ↦ absurd (ends m rest refl inner) ]

-- ---- iteration numbers

turns_after-at : (o : Shape) (n s k m : ℕ) (turns : List ℕ) → m ≡ s + k → k < length turns
    → get_or (turns_after o n s turns) k 0 ≡ turn_after o n m (get_or turns k 0)
turns_after-at o n s k m [] at within = absurd (omega arith)
turns_after-at o n s zero m (turn ∷ turns) at within = let same : m ≡ s = omega arith in rw same refl
turns_after-at o n s (suc k) m (turn ∷ turns) at within = turns_after-at o n (s + 1) k m turns (omega arith) (omega arith)

one_more : (o : Shape) (t n turn : ℕ) (rest : List ℕ) → turn ≡ header_count o t rest
    → turn_after o n t turn ≡ header_count o t (cond (is_held o t n) (n ∷ rest) [])
one_more o t n turn rest same =
    elim (cases_Bool (is_held o t n)) [
      | inl held ↦ rw (held, same) refl
      | inr out ↦ rw out refl
    ]

-- the iteration number of a scope is the number of its headers in the open execution
pub turns_mean : (o : Shape) (t : ℕ) (trace : List ℕ) → t < length o.scopes
    → get_or (turns_of o trace) t 0 ≡ header_count o t (open_execution o t trace)
turns_mean o t [] within = get_or-replicate (length o.scopes) t 0 0 within
turns_mean o t (n ∷ past) within =
    turns_after-at o n 0 t t (turns_of o past) (omega arith) (let len = length-turns_of o past in omega arith) ∙ one_more o t n _ (open_execution o t past) (turns_mean o t past within)
