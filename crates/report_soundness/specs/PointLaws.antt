-- A run that passes through a trace, as a run of moments.
--   points        its points, in order
--   as_run        the point of each moment, and None once it is over
--   is_run        that is a run
--   trace_is      its nodes up to a moment, the newest first
--   ends_so       it also passes with each other way to end at its last point
use Rattle.std.proofs.Common.{◌≡◌, ℕ, zero, suc, List, [], ◌∷◌, ◌++◌, map, length, reverse, Option, Some, None, slice_get, ◌⊎◌, inl, inr, refl, sym, ap, ◌∙◌, subst}
use Rattle.std.proofs.lemmas.Option.{none-some, same_Some}
use Rattle.std.proofs.lemmas.List.{reverse-append, reverse-reverse}
use Rattle.alf_ops.specs.declared.history.RunFault.{RunFault}
use Rattle.domain_core.specs.Machines.{System}
use Rattle.domain_core.specs.SystemRuns.{GoesOn, IsRun, trace_to, with_node}
use Rattle.worklist_rules.specs.EndedRuns.{EndsWith, Passes, stops, moves}

module _ {C : Type 0} (system : System C) where
  -- its points, in order
  abbrev pub points : {n : ℕ} {c : C} {trace : List ℕ} {fault : Option RunFault} → Passes system n c trace fault
      → List (ℕ × C)
  points {n} {c} (stops way) = (n, c) ∷ []
  points {n} {c} (moves step rest) = (n, c) ∷ points rest

  -- its nodes are those of the trace
  pub nodes_are : {n : ℕ} {c : C} {trace : List ℕ} {fault : Option RunFault} (passes : Passes system n c trace fault)
      → map (λ (p : ℕ × C). p.0) (points passes) ≡ trace
  nodes_are (stops way) = refl
  nodes_are {n} (moves step rest) = ap (λ (nodes : List ℕ). n ∷ nodes) (nodes_are rest)

  -- its first point
  first_is : {n : ℕ} {c : C} {trace : List ℕ} {fault : Option RunFault} (passes : Passes system n c trace fault)
      → slice_get (points passes) 0 ≡ Some (n, c)
  first_is (stops way) = refl
  first_is (moves step rest) = refl

  way_of : (n : ℕ) (c : C) (fault : Option RunFault) → EndsWith system n c fault
      → system.ends n c ⊎ ((kind : RunFault) × system.fails n c kind)
  way_of n c None way = inl way
  way_of n c (Some kind) way = inr (kind, way)

  -- from each moment it goes on
  on_at : {n : ℕ} {c : C} {trace : List ℕ} {fault : Option RunFault} (passes : Passes system n c trace fault) (k m : ℕ) (d : C) → slice_get (points passes) k ≡ Some (m, d) → GoesOn system (λ i. slice_get (points passes) i) k m d
  on_at {n} {c} (stops {fault = fault} way) zero m d at =
      subst (λ (p : ℕ × C). GoesOn system (λ i. slice_get ((n, c) ∷ []) i) 0 p.0 p.1) (same_Some (n, c) (m, d) at) (inr (way_of n c fault way, refl))
  on_at {n} {c} (stops way) (suc k) m d at = absurd (none-some (m, d) at)
  on_at {n} {c} (moves {k = j} {d = e} step rest) zero m d at =
      subst (λ (p : ℕ × C). GoesOn system (λ i. slice_get ((n, c) ∷ points rest) i) 0 p.0 p.1) (same_Some (n, c) (m, d) at) (inl (j, e, step, first_is rest))
  on_at (moves step rest) (suc k) m d at = on_at rest k m d at

  -- that is a run
  pub is_run : {c : C} {trace : List ℕ} {fault : Option RunFault} (passes : Passes system 0 c trace fault)
      → system.starts c → IsRun system (λ i. slice_get (points passes) i)
  is_run {c} passes starts = record { first = (c, first_is passes, starts); on = λ k m d at. on_at passes k m d at }

  -- it also passes with each other way to end at its last point
  pub ends_so : {n : ℕ} {c : C} {trace : List ℕ} {fault : Option RunFault} (passes : Passes system n c trace fault) (k m : ℕ) (d : C) (other : Option RunFault) → slice_get (points passes) k ≡ Some (m, d)
      → slice_get (points passes) (suc k) ≡ None → EndsWith system m d other → Passes system n c trace other
  ends_so {n} {c} (stops way) zero m d other at over ends = stops (subst (λ (p : ℕ × C). EndsWith system p.0 p.1 other) (sym (same_Some (n, c) (m, d) at)) ends)
  ends_so (stops way) (suc k) m d other at over ends = absurd (none-some (m, d) at)
  ends_so {n} {c} (moves {k = j} {d = e} step rest) zero m d other at over ends = absurd (none-some (j, e) (sym over ∙ first_is rest))
  ends_so (moves step rest) (suc k) m d other at over ends = moves step (ends_so rest k m d other at over ends)

-- ---- the nodes of a run of moments

module _ {C : Type 0} where
  with_append : (point : Option (ℕ × C)) (xs ys : List ℕ) → with_node point (xs ++ ys) ≡ with_node point xs ++ ys
  with_append None xs ys = refl
  with_append (Some p) xs ys = refl

  -- with one point more before the others
  shifted : (p : ℕ × C) (ps : List (ℕ × C)) (k : ℕ)
      → trace_to (λ i. slice_get (p ∷ ps) i) (suc k) ≡ trace_to (λ i. slice_get ps i) k ++ p.0 ∷ []
  shifted p ps zero = refl
  shifted p ps (suc k) =
      ap (λ (xs : List ℕ). with_node (slice_get ps k) xs) (shifted p ps k) ∙ with_append (slice_get ps k) (trace_to (λ i. slice_get ps i) k) (p.0 ∷ [])

  all_nodes : (ps : List (ℕ × C)) → trace_to (λ i. slice_get ps i) (length ps) ≡ reverse (map (λ (p : ℕ × C). p.0) ps)
  all_nodes [] = refl
  all_nodes (p ∷ ps) =
      shifted p ps (length ps) ∙ ap (λ (xs : List ℕ). xs ++ p.0 ∷ []) (all_nodes ps) ∙ sym (reverse-append (p.0 ∷ []) (map (λ (q : ℕ × C). q.0) ps))

  last_length : (ps : List (ℕ × C)) (k : ℕ) (p : ℕ × C) → slice_get ps k ≡ Some p → slice_get ps (suc k) ≡ None
      → length ps ≡ suc k
  last_length [] k p at over = absurd (none-some p at)
  last_length (q ∷ []) zero p at over = refl
  last_length (q ∷ r ∷ ps) zero p at over = absurd (none-some r (sym over))
  last_length (q ∷ ps) (suc k) p at over = ap suc (last_length ps k p at over)

-- its nodes up to the last moment, the newest first
pub trace_is : {C : Type 0} (system : System C) {n : ℕ} {c : C} {trace : List ℕ} {fault : Option RunFault} (passes : Passes system n c trace fault) (k m : ℕ) (d : C) → slice_get (points system passes) k ≡ Some (m, d)
    → slice_get (points system passes) (suc k) ≡ None → reverse (m ∷ trace_to (λ i. slice_get (points system passes) i) k) ≡ trace
trace_is {C} system {trace = trace} passes k m d at over =
    let ps = points system passes in
    let long : length ps ≡ suc k = last_length ps k (m, d) at over in
    let newest : with_node (slice_get ps k) (trace_to (λ i. slice_get ps i) k) ≡ m ∷ trace_to (λ i. slice_get ps i) k = ap (λ (point : Option (ℕ × C)). with_node point (trace_to (λ i. slice_get ps i) k)) at in
    let whole : trace_to (λ i. slice_get ps i) (suc k) ≡ reverse (map (λ (p : ℕ × C). p.0) ps) = ap (λ (j : ℕ). trace_to (λ i. slice_get ps i) j) (sym long) ∙ all_nodes ps in
    ap (λ (xs : List ℕ). reverse xs) (sym newest ∙ whole) ∙ reverse-reverse (map (λ (p : ℕ × C). p.0) ps) ∙ nodes_are system passes
