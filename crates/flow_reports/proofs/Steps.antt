-- Turns of the loops over scopes and nodes.
--   lines_more   one line more
--   sum_part     a part of a sum
--   begun        before the first turn nothing is told
--   told_more    one turn more
--   told_all     after the last one
--   nothing_at   a book has nothing at a place where its look-up answers so
--   no_line      where no span was collected, no line is told
use Rattle.std.proofs.Common.{◌≡◌, ◌<◌, ◌≤◌, ℕ, zero, suc, ◌+◌, List, [], ◌∷◌, ◌++◌, map, take, Bool, true, false, cond, Option, Some, None, inl, inr, refl, sym, ap, ◌∙◌, subst, arith, add-one}
use Rattle.std.specs.Prelude.{slice_get}
use Rattle.std.proofs.lemmas.Option.{get_or_from_slice_get, slice_get_within}
use Rattle.std.proofs.lemmas.List.{append-nil, append_assoc, map-append, take_more}
use Rattle.graph_walks.specs.ListLaws.{same_or_not}
use Rattle.domain_core.specs.declared.outline.NodeRow.{NodeRow}
use Rattle.flow_facts.specs.declared.report.NodeLine.{NodeLine}
use Rattle.flow_facts.specs.Reports.{NamedNode, node_of}
use Rattle.recorder_rules.specs.TotalRules.{spread_at}
use Rattle.flow_facts.specs.declared.fact.Fact.{Fact}
use Rattle.report_soundness.specs.ReportTold.{below, sum_below, span_lines}
use Rattle.flow_reports.specs.Naming.{named_node}
use Rattle.flow_gathering.specs.TakeLaws.{taken_more}

-- before the first turn nothing is told
pub begun : (old : List Fact) (f : ℕ → List Fact) → old ≡ old ++ below f 0
begun old f = sym (append-nil old)

-- one turn more
pub told_more : (old facts more : List Fact) (f : ℕ → List Fact) (n : ℕ) → more ≡ facts ++ f n
    → facts ≡ old ++ below f n → more ≡ old ++ below f (n + 1)
told_more old facts more f n is so_far =
    is ∙ ap (λ (xs : List Fact). xs ++ f n) so_far ∙ append_assoc old (below f n) (f n) ∙ ap (λ (k : ℕ). old ++ below f k) (sym (add-one n))

-- after the last one
pub told_all : (old facts : List Fact) (f : ℕ → List Fact) (n k : ℕ) → n ≡ k → facts ≡ old ++ below f n
    → facts ≡ old ++ below f k
told_all old facts f n k same so_far = so_far ∙ ap (λ (m : ℕ). old ++ below f m) same

-- where no span was collected, no line is told
pub no_line : (old : List Fact) (line : ℕ → ℕ → Fact) (v : Bool) (spread : Option (ℕ × ℕ)) → spread ≡ None
    → old ≡ old ++ cond v (span_lines line spread) []
no_line old line false spread none = sym (append-nil old)
no_line old line true spread none = sym (append-nil old) ∙ ap (λ (t : Option (ℕ × ℕ)). old ++ span_lines line t) (sym none)

-- a book has nothing at a place where its look-up answers so
pub nothing_at : (spreads : List (Option (ℕ × ℕ))) (place : ℕ) (answer : Option (ℕ × ℕ))
    → slice_get spreads place ≡ Some answer → answer ≡ None → spread_at spreads place ≡ None
nothing_at spreads place answer told none = get_or_from_slice_get spreads place answer None told ∙ none

-- one line more
pub lines_more : (rows : List NodeRow) (lines more : List NodeLine) (i : ℕ) (row : NodeRow) (line : NodeLine)
    → more ≡ lines ++ line ∷ [] → map node_of lines ≡ map named_node (take i rows)
    → node_of line ≡ named_node row → slice_get rows i ≡ Some row → map node_of more ≡ map named_node (take (i + 1) rows)
lines_more rows lines more i row line is so_far same at =
    ap (λ (xs : List NodeLine). map node_of xs) is
    ∙ map-append node_of lines (line ∷ [])
    ∙ ap (λ (xs : List NamedNode). xs ++ node_of line ∷ []) so_far
    ∙ ap (λ (x : NamedNode). map named_node (take i rows) ++ x ∷ []) same
    ∙ sym (map-append named_node (take i rows) (row ∷ []))
    ∙ ap (λ (xs : List NodeRow). map named_node xs) (taken_more rows (take i rows) (take i rows ++ row ∷ []) i row refl refl at)

-- a part of a sum
pub sum_part : (f : ℕ → ℕ) (n k : ℕ) → n < k → sum_below f n + f n ≤ sum_below f k
sum_part f n zero low = absurd (omega arith)
sum_part f n (suc k) low =
    elim (same_or_not n k) [
      | inl same ↦ subst (λ (m : ℕ). sum_below f m + f m ≤ sum_below f k + f k) (sym same) (omega arith)
      | inr other ↦ let before = sum_part f n k (omega arith) in omega (arith, before)
    ]
