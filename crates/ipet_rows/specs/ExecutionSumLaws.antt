-- Laws of execution sums.
--   all_places           a node of the scope stands in executions alone
--   begun                a run begins an execution where it enters the scope
--   between_sums         where each has the node low to high times
--   places_turned   a list and its reverse have a node as often
use Rattle.std.proofs.Common.{◌≡◌, ◌≢◌, ◌<◌, ◌+◌, ◌==◌, ◌&&◌, ℕ, ℤ, pos, Bool, true, false, List, [], ◌∷◌, inl, inr, cond, length, reverse, Contains, refl, ap, sym, ◌∙◌, subst, arith}
use Rattle.std.specs.Prelude.{◌+ℤ◌, ◌-ℤ◌, ◌*ℤ◌, ◌≤ℤ◌}
use Rattle.std.proofs.lemmas.Bool.{eq-eqb, ne_eqb, both_ways, false_from_ne_true}
use Rattle.std.proofs.lemmas.Int.{ints}
use Rattle.std.proofs.lemmas.List.{reverse-append}
use Rattle.std.proofs.lemmas.List.Sums.{sum_by-cons, sum_by-append}
use Rattle.lists.specs.MemberLaws.{first_member, further_member}
use Rattle.lists.specs.TestLaws.{by_test}
use Rattle.whole_numbers.specs.MultipleLaws.{sum_times}
use Rattle.domain_core.specs.Outlines.{Shape, IsOutline, Holds, is_held, header_of}
use Rattle.domain_core.specs.OutlineLaws.{held_is, is_holder}
use Rattle.domain_core.specs.Traces.{IsTrace}
use Rattle.domain_core.specs.Stretches.{open_stretch, closed_stretches, with_closed}
use Rattle.domain_core.specs.Executions.{IsExecution, executions, open_execution, closed_executions}
use Rattle.domain_core.specs.ExecutionLaws.{found_execution}
use Rattle.flow_facts.specs.Facts.{places, IsBetween}
use Rattle.flow_facts.specs.Walking.{is_some_part}
use Rattle.ipet_rows.specs.Columns.{edge_column}
use Rattle.ipet_rows.specs.Weights.{one_if, begins, leaves}
use Rattle.ipet_rows.specs.Uses.{edges_used, steps_of}
use Rattle.ipet_rows.specs.UseLaws.{weigh}
use Rattle.ipet_rows.specs.FlowLaws.{place_more, left, weigh_minus, weigh_times}
use Rattle.ipet_rows.specs.ColumnLaws.{newest_low}
use Rattle.ipet_rows.specs.ExecutionSums.{number_of, places_in}

-- ---- a node of the scope stands in executions alone

pub places_closed : (n : ℕ) (part : List ℕ) (others : List (List ℕ))
    → places_in n (with_closed part others) ≡ pos (places n part) +ℤ places_in n others
places_closed n [] others = omega (arith, ints)
places_closed n (m ∷ part) others = refl

pub all_places : (inside : ℕ → Bool) (n : ℕ) (past : List ℕ) → inside n ≡ true
    → pos (places n (open_stretch inside past)) +ℤ places_in n (closed_stretches inside past) ≡ pos (places n past)
all_places inside n [] held = refl
all_places inside n (m ∷ past) held =
    let rest = all_places inside n past held in
    let more = place_more n m past in
    by_test (inside m)
    (λ is. let opened = place_more n m (open_stretch inside past) in rw is (omega (arith, ints, rest, more, opened)))
    (λ clear.
    let other : (n == m) ≡ false = ne_eqb n m (λ e. both_ways (inside m) clear (ap inside (sym e) ∙ held)) in
    let same : pos (places n (m ∷ past)) ≡ pos (places n past) = more ∙ rw other (omega (arith, ints)) in
    let closed = places_closed n (open_stretch inside past) (closed_stretches inside past) in
    rw clear (omega (arith, ints, rest, closed, same)))

-- ---- a run begins an execution where it enters the scope

pub number_closed : (part : List ℕ) (others : List (List ℕ))
    → number_of (with_closed part others) ≡ one_if (is_some_part part) +ℤ number_of others
number_closed [] others = omega (arith, ints)
number_closed (m ∷ part) others = refl

module _ (o : Shape) (ok : IsOutline o) (s : ℕ) (low : s < length o.scopes) (inner : s ≢ 0) where
  first_outside : is_held o s 0 ≡ false
  first_outside = false_from_ne_true (is_held o s 0) (λ is. inner (ok.first_alone s (held_is o ok s 0 is)))

  some_inside : (k : ℕ) (past : List ℕ) → is_held o s k ≡ true → is_some_part (open_execution o s (k ∷ past)) ≡ true
  some_inside k past is = rw is refl

  none_outside : (k : ℕ) (past : List ℕ) → is_held o s k ≡ false → is_some_part (open_execution o s (k ∷ past)) ≡ false
  none_outside k past clear = rw clear refl

  closed_inside : (k : ℕ) (past : List ℕ) → is_held o s k ≡ true
      → closed_executions o s (k ∷ past) ≡ closed_executions o s past
  closed_inside k past is = rw is refl

  closed_outside : (k : ℕ) (past : List ℕ) → is_held o s k ≡ false
      → closed_executions o s (k ∷ past) ≡ with_closed (open_execution o s past) (closed_executions o s past)
  closed_outside k past clear = rw clear refl

  none_both : (v : Bool) → one_if (v && false) ≡ pos 0
  none_both true = refl
  none_both false = refl

  edges_begin : (k : ℕ) (past : List ℕ) → IsTrace o (k ∷ past)
      → one_if (is_some_part (open_execution o s (k ∷ past))) +ℤ number_of (closed_executions o s (k ∷ past)) ≡ weigh (λ c. begins o s c) (edges_used (k ∷ past))
  edges_begin k [] first = rw (ap (λ (n : ℕ). is_held o s n) first ∙ first_outside) refl
  edges_begin k (m ∷ past) trace =
      let rest = edges_begin m past trace.2 in
      by_test (is_held o s k) (λ is. inside_k rest is) (λ clear. outside_k rest clear)
    where
      Rest : Type 0
      Rest = one_if (is_some_part (open_execution o s (m ∷ past))) +ℤ number_of (closed_executions o s (m ∷ past)) ≡ weigh (λ c. begins o s c) (edges_used (m ∷ past))

      inside_k : Rest → is_held o s k ≡ true
          → one_if (is_some_part (open_execution o s (k ∷ m ∷ past))) +ℤ number_of (closed_executions o s (k ∷ m ∷ past)) ≡ weigh (λ c. begins o s c) (edges_used (k ∷ m ∷ past))
      inside_k rest is =
          let opened = ap one_if (some_inside k (m ∷ past) is) in
          let closed = ap number_of (closed_inside k (m ∷ past) is) in
          by_test (is_held o s m)
          (λ before.
          let some = ap one_if (some_inside m past before) in
          let none : begins o s (edge_column (m, k)) ≡ pos 0 = rw before (none_both (header_of o.scopes s == k)) in
          omega (arith, ints, rest, opened, closed, some, none))
          (λ outside.
          let some = ap one_if (none_outside m past outside) in
          let at_header : k ≡ header_of o.scopes s =
          elim (ok.entered m k s trace.0 (newest_low o ok k (m ∷ past) trace) low (held_is o ok s k is)) [ inl e ↦ e | inr held ↦ absurd (both_ways (is_held o s m) outside (is_holder o ok s m held)) ] in
          let one : begins o s (edge_column (m, k)) ≡ pos 1 = rw (outside, eq-eqb (header_of o.scopes s) k (sym at_header)) refl in
          omega (arith, ints, rest, opened, closed, some, one))

      outside_k : Rest → is_held o s k ≡ false
          → one_if (is_some_part (open_execution o s (k ∷ m ∷ past))) +ℤ number_of (closed_executions o s (k ∷ m ∷ past)) ≡ weigh (λ c. begins o s c) (edges_used (k ∷ m ∷ past))
      outside_k rest clear =
          let opened = ap one_if (none_outside k (m ∷ past) clear) in
          let closed = ap number_of (closed_outside k (m ∷ past) clear) in
          let counted = number_closed (open_execution o s (m ∷ past)) (closed_executions o s (m ∷ past)) in
          let other : (header_of o.scopes s == k) ≡ false =
          ne_eqb (header_of o.scopes s) k (λ e. both_ways (is_held o s k) clear (is_holder o ok s k (subst (λ (n : ℕ). Holds o s n) e (ok.headers_held s low)))) in
          let none : begins o s (edge_column (m, k)) ≡ pos 0 = rw other refl in
          omega (arith, ints, rest, opened, closed, counted, none)

  -- the last step leads to the end, which is no header
  last_begins : (fault : Bool) (k : ℕ) → begins o s (record { from = k; into = length o.own; fault = fault }) ≡ pos 0
  last_begins fault k =
      let within = ok.headers_within s low in
      let other : (header_of o.scopes s == length o.own) ≡ false = ne_eqb (header_of o.scopes s) (length o.own) (λ e. omega arith) in
      rw other refl

  -- a run begins an execution of the scope where it enters it
  pub begun : (fault : Bool) (k : ℕ) (past : List ℕ) → IsTrace o (k ∷ past)
      → weigh (λ c. begins o s c) (steps_of o fault (k ∷ past)) ≡ number_of (executions o s (k ∷ past))
  begun fault k past trace =
      let edges = edges_begin k past trace in
      let last = last_begins fault k in
      let counted = number_closed (open_execution o s (k ∷ past)) (closed_executions o s (k ∷ past)) in
      omega (arith, ints, edges, last, counted)

-- ---- where each execution has the node low to high times

pub between_sums : (n low high : ℕ) (es : List (List ℕ))
    → ((e : List ℕ) → Contains es e → IsBetween low high (places n e))
    → ((pos low *ℤ number_of es) ≤ℤ places_in n es) × (places_in n es ≤ℤ (pos high *ℤ number_of es))
between_sums n low high [] each = (omega (arith, ints), omega (arith, ints))
between_sums n low high (e ∷ es) each =
    let rest = between_sums n low high es (λ d there. each d (further_member e es d there)) in
    let here = each e (first_member e es) in
    let lows : pos low *ℤ (pos 1 +ℤ number_of es) ≡ pos low +ℤ (pos low *ℤ number_of es) = omega (arith, ints, sum_times (pos 1) (number_of es) (pos low)) in
    let highs : pos high *ℤ (pos 1 +ℤ number_of es) ≡ pos high +ℤ (pos high *ℤ number_of es) = omega (arith, ints, sum_times (pos 1) (number_of es) (pos high)) in
    (omega (arith, ints, rest, here, lows), omega (arith, ints, rest, here, highs))

-- a list and its reverse have a node as often
pub places_turned : (n : ℕ) (nodes : List ℕ) → places n (reverse nodes) ≡ places n nodes
places_turned n [] = refl
places_turned n (m ∷ nodes) =
    let rest = places_turned n nodes in
    let one : places n (m ∷ nodes) ≡ cond (n == m) 1 0 + places n nodes = sum_by-cons (λ k. cond (n == k) 1 0) m nodes in
    let last : places n (m ∷ []) ≡ cond (n == m) 1 0 + places n [] = sum_by-cons (λ k. cond (n == k) 1 0) m [] in
    let none : places n [] ≡ 0 = refl in
    ap (λ (xs : List ℕ). places n xs) (reverse-append (m ∷ []) nodes)
    ∙ sum_by-append (λ k. cond (n == k) 1 0) (reverse nodes) (m ∷ [])
    ∙ omega (arith, rest, one, last, none)

-- ---- what a run weighs of a scope

module _ (o : Shape) (ok : IsOutline o) (s n low high : ℕ) (within : s < length o.scopes) (inner : s ≢ 0) (held : Holds o s n) (fault : Bool) (k : ℕ) (past : List ℕ) (trace : IsTrace o (k ∷ past))
    (each : (execution : List ℕ) → IsExecution o s (reverse (k ∷ past)) execution → IsBetween low high (places n execution)) where
  sums : ((pos low *ℤ number_of (executions o s (k ∷ past))) ≤ℤ places_in n (executions o s (k ∷ past)))
      × (places_in n (executions o s (k ∷ past)) ≤ℤ (pos high *ℤ number_of (executions o s (k ∷ past))))
  sums = between_sums n low high (executions o s (k ∷ past)) (λ e there. subst (λ (j : ℕ). IsBetween low high j) (places_turned n e) (each (reverse e) (found_execution o ok s (k ∷ past) e there)))

  all_in : places_in n (executions o s (k ∷ past)) ≡ pos (places n (k ∷ past))
  all_in = places_closed n (open_execution o s (k ∷ past)) (closed_executions o s (k ∷ past)) ∙ all_places (λ m. is_held o s m) n (k ∷ past) (is_holder o ok s n held)

  pub most_met : weigh (λ c. leaves n c -ℤ (pos high *ℤ begins o s c)) (steps_of o fault (k ∷ past)) ≤ℤ pos 0
  most_met =
      let apart = weigh_minus (λ c. leaves n c) (λ c. pos high *ℤ begins o s c) (steps_of o fault (k ∷ past)) in
      let times = weigh_times (pos high) (λ c. begins o s c) (steps_of o fault (k ∷ past)) in
      let out = left o fault n k past in
      let count : pos high *ℤ weigh (λ c. begins o s c) (steps_of o fault (k ∷ past)) ≡ pos high *ℤ number_of (executions o s (k ∷ past)) = ap (λ (z : ℤ). pos high *ℤ z) (begun o ok s within inner fault k past trace) in
      omega (arith, ints, apart, times, out, count, sums, all_in)

  pub least_met : weigh (λ c. (pos low *ℤ begins o s c) -ℤ leaves n c) (steps_of o fault (k ∷ past)) ≤ℤ pos 0
  least_met =
      let apart = weigh_minus (λ c. pos low *ℤ begins o s c) (λ c. leaves n c) (steps_of o fault (k ∷ past)) in
      let times = weigh_times (pos low) (λ c. begins o s c) (steps_of o fault (k ∷ past)) in
      let out = left o fault n k past in
      let count : pos low *ℤ weigh (λ c. begins o s c) (steps_of o fault (k ∷ past)) ≡ pos low *ℤ number_of (executions o s (k ∷ past)) = ap (λ (z : ℤ). pos low *ℤ z) (begun o ok s within inner fault k past trace) in
      omega (arith, ints, apart, times, out, count, sums, all_in)
